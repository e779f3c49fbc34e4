-- Lines one after another keep what a setup has to be.
use Rattle.service_config.proofs.Common.{◌≡◌, ℕ, ◌≤◌, Bool, true, false, cond, List, [], ◌∷◌, ◌++◌, length, Option, Some, None, is_some, refl, ap, sym, subst, ◌∙◌, arith, append_assoc, append-nil, option_map, option_and_then, and_parts, cond_some, same_Some, found_map, found_then}
use Rattle.service_config.proofs.Common.{◌==◌, ◌&&◌, ◌||◌, HasParts, Line, SetupLine, RingLine, RealmLine, ExpiresLine, LargeLine, StrangersLine, TrustLine, GatewayLine, LocationLine, CommentLine, is_from_domain, is_whole, kind_of, may_follow, place_of}
use Rattle.std.specs.Prelude.{nat_le}
use Rattle.fork_rank.specs.Field.{most_q}
use Rattle.sip_uri.specs.Host.{is_host}
use Rattle.sip_uri.specs.Reading.{read_uri}
use Rattle.sip_uri.specs.Uri.{Uri}
use Rattle.proxy_config.proofs.laws.Lines.{keeps_more, may_is}
use Rattle.proxy_config.specs.Line as setup
use Rattle.proxy_config.specs.Parts as parts
use Rattle.proxy_config.specs.Setup.{IsKeptWith, KeepsRulesWith, Location, Setup}
use Rattle.service_config.specs.Configuration.{Draft, no_draft, of_kind, with_draft}
use Rattle.service_config.specs.Settings.{Gateway, Settings, in_settings, longest_of, with_gateway, with_line}
use Rattle.service_config.specs.declared.kind.LineKind.{LineKind}
use Rattle.service_config.specs.declared.kind.LineKind.TheVariants as kind
use Rattle.service_config.specs.inner.LineReading.{read_line}
use Rattle.service_config.specs.inner.Reading.{IsSound, with_text}
use Rattle.service_config.proofs.LineLaws.{line_found}

-- ---- the order

or_true : (a b : Bool) → (a || b) ≡ true → b ≡ false → a ≡ true
or_true true b e f = refl
or_true false b e f = let wrong : true ≡ false = sym e ∙ f in absurd cc

-- what is no own address stands behind it
begun : (last : Option LineKind) (k : LineKind) → may_follow last k ≡ true → (place_of k == 0) ≡ false → is_some last ≡ true
begun None k h other = let wrong : true ≡ false = sym h ∙ other in absurd cc
begun (Some earlier) k h other = refl

-- what stands behind the domain has it before it
passed : (last : Option LineKind) (k : LineKind) → may_follow last k ≡ true → nat_le (place_of k) 2 ≡ false → (place_of k == 0) ≡ false → is_whole last ≡ true
passed None k h behind other = let wrong : true ≡ false = sym h ∙ other in absurd cc
passed (Some earlier) k h behind other =
    or_true (is_from_domain earlier) (nat_le (place_of k) 2) (and_parts _ (is_from_domain earlier || nat_le (place_of k) 2) h).1 behind

-- ---- what lines leave as it was

record Same (s t : Setup) : Type 0 where
  port : s.own.port ≡ t.own.port
  domain : s.domain ≡ t.domain
  locations : KeepsRulesWith s.streams s.locations → KeepsRulesWith t.streams t.locations

-- a line behind the domain
behind_domain : (draft : Draft) (k : LineKind) (t : Settings) → IsSound draft → may_follow draft.last k ≡ true → nat_le (place_of k) 2 ≡ false → (place_of k == 0) ≡ false
    → Same draft.settings.setup t.setup → IsSound (of_kind k t)
behind_domain draft k t h follows behind other same = record {
  port = λ _. subst (λ (n : ℕ). 1 ≤ n) same.port (h.port (begun draft.last k follows other));
  domain = λ _. subst (λ (host : List ℕ). is_host host ≡ true) same.domain (h.domain (passed draft.last k follows behind other));
  locations = same.locations h.locations;
}

abbrev all_same : (s : Setup) → Same s s
all_same s = record { port = refl; domain = refl; locations = λ kept. kept }

-- ---- locations

location_keeps : (streams : Bool) (locations : List Location) (user : List ℕ) (q : ℕ) (text : List ℕ) (longest : ℕ) (more : List Location) → q ≤ most_q
    → parts.with_location streams locations user q text longest ≡ Some more → KeepsRulesWith streams locations → KeepsRulesWith streams more
location_keeps streams locations user q text longest more within e kept =
    found_then (λ uri. parts.added streams locations (parts.as_read user q longest uri)) (parts.uri_if (read_uri text)) more (KeepsRulesWith streams more)
    (λ uri at is.
    let location : Location = parts.as_read user q longest uri in
    let g = cond_some (parts.may_follow streams locations location) (locations ++ location ∷ []) more is in
    subst (λ (ls : List Location). KeepsRulesWith streams ls) g.1 (keeps_more streams [] locations location kept (may_is streams locations location within g.0)))
    e

-- ---- each line

abbrev Takes : Draft → LineKind → Line → Settings → Type 0
Takes draft k line t = (may_follow draft.last k ≡ true) × (with_line draft.settings line ≡ Some t)

setup_sound : (draft : Draft) (line : setup.Line) (t : Settings) → IsSound draft → HasParts (SetupLine line) → (k : LineKind) → kind_of (SetupLine line) ≡ Some k → Takes draft k (SetupLine line) t
    → IsSound (of_kind k t)
setup_sound draft (setup.OwnLine own) t h p k is takes =
    let same : kind.Own ≡ k = same_Some _ _ is in
    subst (λ (j : LineKind). IsSound (of_kind j t)) same
    (subst (λ (u : Settings). IsSound (of_kind kind.Own u)) (same_Some _ _ takes.1) (record { port = λ _. p.0.port; domain = λ w. absurd cc; locations = h.locations }))
setup_sound draft (setup.InstanceLine n) t h p k is takes =
    let same : kind.Instance ≡ k = same_Some _ _ is in
    let follows : may_follow draft.last kind.Instance ≡ true = subst (λ (j : LineKind). may_follow draft.last j ≡ true) (sym same) takes.0 in
    subst (λ (j : LineKind). IsSound (of_kind j t)) same
    (subst (λ (u : Settings). IsSound (of_kind kind.Instance u)) (same_Some _ _ takes.1) (record { port = λ _. h.port (begun draft.last kind.Instance follows refl); domain = λ w. absurd cc; locations = h.locations }))
setup_sound draft (setup.DomainLine host) t h p k is takes =
    let same : kind.Domain ≡ k = same_Some _ _ is in
    let follows : may_follow draft.last kind.Domain ≡ true = subst (λ (j : LineKind). may_follow draft.last j ≡ true) (sym same) takes.0 in
    subst (λ (j : LineKind). IsSound (of_kind j t)) same
    (subst (λ (u : Settings). IsSound (of_kind kind.Domain u)) (same_Some _ _ takes.1) (record { port = λ _. h.port (begun draft.last kind.Domain follows refl); domain = λ w. p.0; locations = h.locations }))
setup_sound draft (setup.PreferLine statuses) t h p k is takes =
    let same : kind.Prefer ≡ k = same_Some _ _ is in
    let follows : may_follow draft.last kind.Prefer ≡ true = subst (λ (j : LineKind). may_follow draft.last j ≡ true) (sym same) takes.0 in
    subst (λ (j : LineKind). IsSound (of_kind j t)) same
    (behind_domain draft kind.Prefer t h follows refl refl (subst (λ (u : Settings). Same draft.settings.setup u.setup) (same_Some _ _ takes.1) (record { port = refl; domain = refl; locations = λ kept. kept })))
setup_sound draft (setup.DepthLine depth) t h p k is takes =
    let same : kind.Depth ≡ k = same_Some _ _ is in
    let follows : may_follow draft.last kind.Depth ≡ true = subst (λ (j : LineKind). may_follow draft.last j ≡ true) (sym same) takes.0 in
    subst (λ (j : LineKind). IsSound (of_kind j t)) same
    (behind_domain draft kind.Depth t h follows refl refl (subst (λ (u : Settings). Same draft.settings.setup u.setup) (same_Some _ _ takes.1) (record { port = refl; domain = refl; locations = λ kept. kept })))
setup_sound draft (setup.LocationLine user q uri) t h p k is takes = let wrong : true ≡ false = p.1 in absurd cc

-- a line of this kind, which leaves the setup as it is
plain_sound : (draft : Draft) (k : LineKind) (t made : Settings) → IsSound draft → nat_le (place_of k) 2 ≡ false → (place_of k == 0) ≡ false → Same draft.settings.setup made.setup
    → may_follow draft.last k ≡ true → Some made ≡ Some t → IsSound (of_kind k t)
plain_sound draft k t made h behind other same follows e =
    subst (λ (u : Settings). IsSound (of_kind k u)) (same_Some _ _ e) (behind_domain draft k made h follows behind other same)

kind_sound : (draft next : Draft) (k : LineKind) (line : Line) → ((t : Settings) → may_follow draft.last k ≡ true → with_line draft.settings line ≡ Some t → IsSound (of_kind k t))
    → (b : Bool) → may_follow draft.last k ≡ b → cond b (option_map (of_kind k) (with_line draft.settings line)) None ≡ Some next → IsSound next
kind_sound draft next k line each false follows e = absurd cc
kind_sound draft next k line each true follows e = found_map (of_kind k) (with_line draft.settings line) next IsSound (λ t at. each t follows at) e

pub sound_next : (draft next : Draft) (line : Line) → IsSound draft → HasParts line → with_draft draft line ≡ Some next → IsSound next
sound_next draft next (SetupLine (setup.OwnLine own)) h p e =
    kind_sound draft next kind.Own (SetupLine (setup.OwnLine own)) (λ t follows at. setup_sound draft (setup.OwnLine own) t h p kind.Own refl (follows, at)) _ refl e
sound_next draft next (SetupLine (setup.InstanceLine n)) h p e =
    kind_sound draft next kind.Instance (SetupLine (setup.InstanceLine n)) (λ t follows at. setup_sound draft (setup.InstanceLine n) t h p kind.Instance refl (follows, at)) _ refl e
sound_next draft next (SetupLine (setup.DomainLine host)) h p e =
    kind_sound draft next kind.Domain (SetupLine (setup.DomainLine host)) (λ t follows at. setup_sound draft (setup.DomainLine host) t h p kind.Domain refl (follows, at)) _ refl e
sound_next draft next (SetupLine (setup.PreferLine statuses)) h p e =
    kind_sound draft next kind.Prefer (SetupLine (setup.PreferLine statuses)) (λ t follows at. setup_sound draft (setup.PreferLine statuses) t h p kind.Prefer refl (follows, at)) _ refl e
sound_next draft next (SetupLine (setup.DepthLine depth)) h p e =
    kind_sound draft next kind.Depth (SetupLine (setup.DepthLine depth)) (λ t follows at. setup_sound draft (setup.DepthLine depth) t h p kind.Depth refl (follows, at)) _ refl e
sound_next draft next (SetupLine (setup.LocationLine user q uri)) h p e = let wrong : true ≡ false = p.1 in absurd cc
sound_next draft next (RingLine seconds) h p e =
    kind_sound draft next kind.Ring (RingLine seconds) (λ t follows at. plain_sound draft kind.Ring t _ h refl refl (record { port = refl; domain = refl; locations = λ kept. kept }) follows at) _ refl e
sound_next draft next LargeLine h p e =
    kind_sound draft next kind.Large LargeLine (λ t follows at. plain_sound draft kind.Large t _ h refl refl (record { port = refl; domain = refl; locations = λ kept. kept }) follows at) _ refl e
sound_next draft next (RealmLine realm algorithms) h p e =
    kind_sound draft next kind.Realm (RealmLine realm algorithms) (λ t follows at. plain_sound draft kind.Realm t _ h refl refl (all_same draft.settings.setup) follows at) _ refl e
sound_next draft next (ExpiresLine times) h p e =
    kind_sound draft next kind.Expires (ExpiresLine times) (λ t follows at. plain_sound draft kind.Expires t _ h refl refl (all_same draft.settings.setup) follows at) _ refl e
sound_next draft next StrangersLine h p e =
    kind_sound draft next kind.Strangers StrangersLine (λ t follows at. plain_sound draft kind.Strangers t _ h refl refl (all_same draft.settings.setup) follows at) _ refl e
sound_next draft next (TrustLine net) h p e =
    kind_sound draft next kind.Trust (TrustLine net) (λ t follows at. plain_sound draft kind.Trust t _ h refl refl (all_same draft.settings.setup) follows at) _ refl e
sound_next draft next (GatewayLine q uri) h p e =
    kind_sound draft next kind.Gateway (GatewayLine q uri)
    (λ t follows at.
    found_map (λ gateways. record draft.settings { gateways = gateways }) (with_gateway draft.settings.setup.streams draft.settings.gateways q uri) t (λ u. IsSound (of_kind kind.Gateway u))
    (λ gateways made. behind_domain draft kind.Gateway (record draft.settings { gateways = gateways }) h follows refl refl (all_same draft.settings.setup)) at)
    _ refl e
sound_next draft next (LocationLine user q uri seconds) h p e =
    let s = draft.settings in
    let longest = longest_of s.setup.ring seconds in
    kind_sound draft next kind.Location (LocationLine user q uri seconds)
    (λ t follows at.
    found_map (λ made. record s { setup = made }) (option_map (λ locations. record s.setup { locations = locations }) (parts.with_location s.setup.streams s.setup.locations user q uri longest)) t
    (λ u. IsSound (of_kind kind.Location u))
    (λ made at2.
    behind_domain draft kind.Location (record s { setup = made }) h follows refl refl
    (found_map (λ locations. record s.setup { locations = locations }) (parts.with_location s.setup.streams s.setup.locations user q uri longest) made (λ (m : Setup). Same s.setup m)
    (λ locations at3. record { port = refl; domain = refl; locations = λ kept. location_keeps s.setup.streams s.setup.locations user q uri longest locations p.q_within at3 kept })
    at2)) at)
    _ refl e
sound_next draft next (CommentLine text) h p e = subst IsSound (same_Some _ _ e) h

-- ---- from the first line on

pub none_sound : (number : ℕ) (streams : Bool) → IsSound (no_draft number streams)
none_sound number streams = record { port = λ w. absurd cc; domain = λ w. absurd cc; locations = tt }

pub text_sound : (draft next : Draft) (text : List ℕ) → IsSound draft → with_text draft text ≡ Some next → IsSound next
text_sound draft next text h e =
    found_then (with_draft draft) (read_line text) next (IsSound next)
    (λ line at is. sound_next draft next line h (line_found text line at).1.parts is) e

-- so a whole draft makes a setup
pub kept : (draft : Draft) → IsSound draft → is_whole draft.last ≡ true → IsKeptWith draft.settings.setup.streams draft.settings.setup.own draft.settings.setup.domain draft.settings.setup.locations
kept draft h whole = record { port = h.port (some draft.last whole); domain_is = h.domain whole; locations_keep = h.locations }
  where
    some : (last : Option LineKind) → is_whole last ≡ true → is_some last ≡ true
    some None w = absurd cc
    some (Some k) w = refl
