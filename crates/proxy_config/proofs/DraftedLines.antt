-- Lines one after another: how far they lead, and what they set.
use Rattle.proxy_config.proofs.Common.{◌≡◌, ℕ, ◌≤◌, Bool, true, false, not, cond, List, [], ◌∷◌, ◌++◌, map, length, Option, Some, None, Result, Ok, Err, refl, sym, ap, subst, ◌∙◌, arith, append_assoc, append-nil, option_and_then, codes}
use Rattle.proxy_config.proofs.Common.{is_reached_by, option_map, list_any, AllByRecursion, and_parts, and_from, cond_some, same_Some, Lacks, Lacks-pass, most_targets, most_q, found_map, found_then, all_append, preferred_found, next_hop, is_host}
use Rattle.proxy_config.proofs.Common.{Own, Location, Setup, MayFollow, KeepsFrom, is_same, locations_of, Line, OwnLine, InstanceLine, DomainLine, PreferLine, DepthLine, LocationLine, IsOwn, most_instance, IsLine, lines_of, read_line, Draft}
use Rattle.proxy_config.proofs.Common.{no_draft, drafted_line, drafted, is_whole}
use Rattle.std.specs.Prelude.{◌&&◌, nat_lt}
use Rattle.std.proofs.lemmas.Bool.{lt-ltb, ltb-true}
use Rattle.fork_model.specs.Table.{Rules}
use Rattle.fork_rank.specs.Preferred.{IsPreferredList, usual_preferred}
use Rattle.fork_rank.specs.LineByLine as texts
use Rattle.fork_rank.specs.RuleLines.{usual_rules}
use Rattle.fork_rank.proofs.laws.Lines.{all_back, drafted_append}
use Rattle.sip_uri.specs.Grammar.{IsUri, is_uri_byte}
use Rattle.sip_uri.specs.Reading.{read_uri}
use Rattle.sip_uri.specs.Uri.{Uri, spelling}
use Rattle.sip_uri.specs.declared.fault.UriFault.{UriFault}
use Rattle.sip_uri.specs.declared.hop.Hop.{Hop}
use Rattle.sip_uri.specs.declared.hop.Transport.TheVariants.{Udp}
use Rattle.sip_uri.proofs.laws.Found.{found}
use Rattle.sip_uri.proofs.laws.Only.{read_again}
use Rattle.proxy_config.specs.declared.draft.SetupPhase.{SetupPhase}
use Rattle.proxy_config.specs.declared.draft.SetupPhase.TheVariants.{AtOwn, AtInstance, AtDomain, AtPrefer, AtDepth, AtLocations}
use Rattle.proxy_config.specs.declared.dialog_token.DialogToken.{DialogToken}
use Rattle.proxy_config.specs.Setup.{IsKeptWith, Way, usual_longest}
use Rattle.proxy_config.specs.Configuration.{Shown, line_if, location_line, AreRules, IsLocation, IsSetup, Begins}
use Rattle.proxy_config.specs.inner.Reading.{IsSound, phase_after, in_phase}
use Rattle.proxy_config.specs.Parts.{as_read, uri_if, may_follow, added, with_location, with_line}
use Rattle.proxy_config.proofs.LineLaws.{line_found}
use Rattle.proxy_config.proofs.SpelledLines.{UriLacks}

-- the draft behind these lines, where each may come
abbrev pub drafted_lines : Draft → List Line → Option Draft
drafted_lines = texts.drafted_lines drafted_line

-- ---- the lines of a setup may come

passes : (streams : Bool) (earlier : List Location) (location : Location) → MayFollow streams earlier location → may_follow streams earlier location ≡ true
passes streams earlier location h = and_from _ _ (and_from _ _ h.hop (ap not h.apart)) (lt-ltb _ _ h.few)

location_added : (streams : Bool) (earlier : List Location) (location : Location) → MayFollow streams earlier location → IsLocation location
    → with_location streams earlier location.user location.q (spelling location.uri) usual_longest ≡ Some (earlier ++ location ∷ [])
location_added streams earlier location may h =
    ap (λ (r : Result Uri UriFault). option_and_then (λ uri. added streams earlier (as_read location.user location.q usual_longest uri)) (uri_if r)) (read_again location.uri h.uri)
    ∙ ap (λ (o : Option Hop). added streams earlier (record location { hop = o; longest = usual_longest })) (sym h.no_hop)
    ∙ ap (λ (n : ℕ). added streams earlier (record location { longest = n })) (sym h.longest)
    ∙ ap (λ t. cond t (Some (earlier ++ location ∷ [])) None) (passes streams earlier location may)

abbrev TakesLocations : SetupPhase → Type 0
TakesLocations phase = (user : List ℕ) (q : ℕ) (uri : List ℕ) → phase_after phase (LocationLine user q uri) ≡ Some AtLocations

abbrev with_one : Setup → Location → Setup
with_one setup location = record setup { locations = setup.locations ++ location ∷ [] }

location_drafted : (phase : SetupPhase) (setup : Setup) (location : Location) → TakesLocations phase → MayFollow setup.streams setup.locations location → IsLocation location
    → drafted_line (in_phase setup phase) (location_line location) ≡ Some (in_phase (with_one setup location) AtLocations)
location_drafted phase setup location takes may h =
    ap (option_and_then (λ p. option_map (λ s. in_phase s p) (with_line setup (location_line location)))) (takes location.user location.q (spelling location.uri))
    ∙ ap (λ (o : Option (List Location)). option_map (λ s. in_phase s AtLocations) (option_map (λ ls. record setup { locations = ls }) o)) (location_added setup.streams setup.locations location may h)

-- these lines lead to the whole setup
pub record Reached (draft : Draft) (lines : List Line) (setup : Setup) : Type 0 where
  pub phase : SetupPhase
  pub due : drafted_lines draft lines ≡ Some (in_phase setup phase)
  pub whole : is_whole phase ≡ true

locations_drafted : (phase : SetupPhase) (setup : Setup) (locations : List Location) → TakesLocations phase → is_whole phase ≡ true → KeepsFrom setup.streams setup.locations locations → AllByRecursion IsLocation locations
    → Reached (in_phase setup phase) (map location_line locations) (record setup { locations = setup.locations ++ locations })
locations_drafted phase setup [] takes whole kept all = record {
  phase = phase;
  due = ap (λ (ls : List Location). Some (in_phase (record setup { locations = ls }) phase)) (sym (append-nil setup.locations));
  whole = whole;
}
locations_drafted phase setup (location ∷ locations) takes whole kept all =
    let more = locations_drafted AtLocations (with_one setup location) locations (λ user q uri. refl) refl kept.1 all.1 in
    record {
      phase = more.phase;
      due = ap (option_and_then (λ d. drafted_lines d (map location_line locations))) (location_drafted phase setup location takes kept.0 all.0)
          ∙ more.due
          ∙ ap (λ (ls : List Location). Some (in_phase (record setup { locations = ls }) more.phase)) (append_assoc setup.locations (location ∷ []) locations);
      whole = more.whole;
    }

-- before its first location
abbrev head : Own → ℕ → List ℕ → Rules → Setup
head own instance domain rules = record { own = own; instance = instance; domain = domain; rules = rules; locations = []; by_port = false; for_service = false; ring = usual_longest; records = false; stamps = false; reasons = false; streams = false; large = false; ways = []; realm = None; token = None; route = None }

-- as lines spell it: none says the others
abbrev spelled_as : Setup → Setup
spelled_as s = record s { by_port = false; for_service = false; ring = usual_longest; records = false; stamps = false; reasons = false; streams = false; large = false; ways = []; realm = None; token = None; route = None }

spelled_same : (shown : Shown) (s : Setup) → IsSetup shown s → spelled_as s ≡ s
spelled_same shown s h =
    ap (λ (b : Bool). record s { by_port = b; for_service = false; ring = usual_longest; records = false; stamps = false; reasons = false; streams = false; large = false; ways = []; realm = None; token = None; route = None }) (sym h.by_port)
    ∙ ap (λ (b : Bool). record s { for_service = b; ring = usual_longest; records = false; stamps = false; reasons = false; streams = false; large = false; ways = []; realm = None; token = None; route = None }) (sym h.for_service)
    ∙ ap (λ (n : ℕ). record s { ring = n; records = false; stamps = false; reasons = false; streams = false; large = false; ways = []; realm = None; token = None; route = None }) (sym h.ring)
    ∙ ap (λ (b : Bool). record s { records = b; stamps = false; reasons = false; streams = false; large = false; ways = []; realm = None; token = None; route = None }) (sym h.records)
    ∙ ap (λ (b : Bool). record s { stamps = b; reasons = false; streams = false; large = false; ways = []; realm = None; token = None; route = None }) (sym h.stamps)
    ∙ ap (λ (b : Bool). record s { reasons = b; streams = false; large = false; ways = []; realm = None; token = None; route = None }) (sym h.reasons)
    ∙ ap (λ (b : Bool). record s { streams = b; large = false; ways = []; realm = None; token = None; route = None }) (sym h.streams)
    ∙ ap (λ (b : Bool). record s { large = b; ways = []; realm = None; token = None; route = None }) (sym h.large)
    ∙ ap (λ (ws : List Way). record s { ways = ws; realm = None; token = None; route = None }) (sym h.ways)
    ∙ ap (λ (r : Option (List ℕ)). record s { realm = r; token = None; route = None }) (sym h.realm)
    ∙ ap (λ (t : Option DialogToken). record s { token = t; route = None }) (sym h.token)
    ∙ ap (λ (r : Option Own). record s { route = r }) (sym h.route)

setup_drafted_as : (prefer depth : Bool) (s : Setup) → IsSetup (record { prefer = prefer; depth = depth }) s → Reached no_draft (lines_of (record { prefer = prefer; depth = depth }) s) (spelled_as s)
setup_drafted_as true true s h =
    let r = locations_drafted AtLocations (head s.own s.instance s.domain s.rules) s.locations (λ user q uri. refl) refl h.kept h.locations in
    record { phase = r.phase; due = r.due; whole = r.whole }
setup_drafted_as true false s h =
    let r = locations_drafted AtDepth (head s.own s.instance s.domain (record { preferred = s.rules.preferred; depth = most_targets })) s.locations (λ user q uri. refl) refl h.kept h.locations in
    record {
      phase = r.phase;
      due = r.due ∙ ap (λ (n : ℕ). Some (in_phase (record (spelled_as s) { rules = record { preferred = s.rules.preferred; depth = n } }) r.phase)) (sym (h.rules.usual_depth refl));
      whole = r.whole;
    }
setup_drafted_as false true s h =
    let r = locations_drafted AtLocations (head s.own s.instance s.domain (record { preferred = usual_preferred; depth = s.rules.depth })) s.locations (λ user q uri. refl) refl h.kept h.locations in
    record {
      phase = r.phase;
      due = r.due ∙ ap (λ (ns : List ℕ). Some (in_phase (record (spelled_as s) { rules = record { preferred = ns; depth = s.rules.depth } }) r.phase)) (sym (h.rules.usual_preferred refl));
      whole = r.whole;
    }
setup_drafted_as false false s h =
    let r = locations_drafted AtPrefer (head s.own s.instance s.domain usual_rules) s.locations (λ user q uri. refl) refl h.kept h.locations in
    record {
      phase = r.phase;
      due = r.due
          ∙ ap (λ (ns : List ℕ). Some (in_phase (record (spelled_as s) { rules = record { preferred = ns; depth = most_targets } }) r.phase)) (sym (h.rules.usual_preferred refl))
          ∙ ap (λ (n : ℕ). Some (in_phase (record (spelled_as s) { rules = record { preferred = s.rules.preferred; depth = n } }) r.phase)) (sym (h.rules.usual_depth refl));
      whole = r.whole;
    }

pub setup_drafted : (shown : Shown) (s : Setup) → IsSetup shown s → Reached no_draft (lines_of shown s) s
setup_drafted shown s h = subst (λ (t : Setup). Reached no_draft (lines_of shown s) t) (spelled_same shown s h) (setup_drafted_as shown.prefer shown.depth s h)

-- ---- what may stand in the lines of a setup

abbrev pub Fits : Line → Type 0
Fits line = IsLine line × UriLacks line

locations_fit : (earlier locations : List Location) → KeepsFrom false earlier locations → AllByRecursion IsLocation locations → AllByRecursion Fits (map location_line locations)
locations_fit earlier [] kept all = tt
locations_fit earlier (location ∷ locations) kept all =
    let bytes : Lacks 10 (spelling location.uri) = Lacks-pass is_uri_byte 10 (spelling location.uri) refl all.0.uri.bytes in
    (((all.0.user, kept.0.q), bytes), locations_fit (earlier ++ location ∷ []) locations kept.1 all.1)

line_fits : (b : Bool) (line : Line) → Fits line → AllByRecursion Fits (line_if b line)
line_fits true line h = (h, tt)
line_fits false line h = tt

pub setup_fits : (shown : Shown) (s : Setup) → IsSetup shown s → AllByRecursion Fits (lines_of shown s)
setup_fits shown s h = (
  (h.own, tt),
  (
    (h.instance, tt),
    (
      (h.domain, tt),
      all_append Fits (line_if shown.prefer (PreferLine s.rules.preferred)) _ (line_fits shown.prefer (PreferLine s.rules.preferred) (h.rules.preferred, tt))
          (all_append Fits (line_if shown.depth (DepthLine s.rules.depth)) _ (line_fits shown.depth (DepthLine s.rules.depth) (h.rules.depth, tt))
          (locations_fit [] s.locations h.kept h.locations)),
    ),
  ),
)

-- ---- lines that come from the first to the last are those of a setup

record BehindRules (s : Setup) (lines : List Line) (next : Draft) : Type 0 where
  more : List Location
  spelled : map location_line more ≡ lines
  kept : KeepsFrom s.streams s.locations more
  right : AllByRecursion IsLocation more
  same : record s { locations = s.locations ++ more } ≡ next.setup

none_behind : (phase : SetupPhase) (s : Setup) (next : Draft) → drafted_lines (in_phase s phase) [] ≡ Some next → BehindRules s [] next
none_behind phase s next due = record {
  more = [];
  spelled = refl;
  kept = tt;
  right = tt;
  same = ap (λ (ls : List Location). record s { locations = ls }) (append-nil s.locations) ∙ ap (λ (d : Draft). d.setup) (same_Some _ _ due);
}

uri_found : (text : List ℕ) (uri : Uri) → uri_if (read_uri text) ≡ Some uri → IsUri uri × (text ≡ spelling uri)
uri_found text uri e = go (read_uri text) refl e
  where
    go : (r : Result Uri UriFault) → read_uri text ≡ r → uri_if r ≡ Some uri → IsUri uri × (text ≡ spelling uri)
    go (Ok other) is e = found text uri (is ∙ ap Ok (same_Some _ _ e))
    go (Err fault) is e = absurd cc

pub may_is : (streams : Bool) (earlier : List Location) (location : Location) → location.q ≤ most_q → may_follow streams earlier location ≡ true
    → MayFollow streams earlier location
may_is streams earlier location within h =
    let all = and_parts (is_reached_by streams (next_hop location) && not (list_any (is_same location) earlier)) (nat_lt (length (locations_of location.user earlier)) most_targets) h in
    let two = and_parts (is_reached_by streams (next_hop location)) (not (list_any (is_same location) earlier)) all.0 in
    record { hop = two.0; q = within; apart = is_not (list_any (is_same location) earlier) two.1; few = ltb-true _ _ all.1 }
  where
    is_not : (b : Bool) → not b ≡ true → b ≡ false
    is_not true e = absurd cc
    is_not false e = refl

-- one more may follow them all
pub keeps_more : (streams : Bool) (earlier locations : List Location) (location : Location) → KeepsFrom streams earlier locations → MayFollow streams (earlier ++ locations) location
    → KeepsFrom streams earlier (locations ++ location ∷ [])
keeps_more streams earlier [] location kept may = (subst (λ (ls : List Location). MayFollow streams ls location) (append-nil earlier) may, tt)
keeps_more streams earlier (l ∷ locations) location kept may = (
  kept.0,
  keeps_more streams (earlier ++ l ∷ []) locations location kept.1 (subst (λ (ls : List Location). MayFollow streams ls location) (sym (append_assoc earlier (l ∷ []) locations)) may),
)

record Stepped (s : Setup) (user : List ℕ) (q : ℕ) (uri : List ℕ) (next : Draft) : Type 0 where
  location : Location
  line : location_line location ≡ LocationLine user q uri
  may : MayFollow s.streams s.locations location
  is : IsLocation location
  same : in_phase (with_one s location) AtLocations ≡ next

location_step : (s : Setup) (user : List ℕ) (q : ℕ) (uri : List ℕ) (next : Draft) → IsLine (LocationLine user q uri)
    → option_map (λ t. in_phase t AtLocations) (with_line s (LocationLine user q uri)) ≡ Some next → Stepped s user q uri next
location_step s user q uri next h e =
    found_map (λ t. in_phase t AtLocations) (with_line s (LocationLine user q uri)) next (Stepped s user q uri)
    (λ t at1. found_map (λ ls. record s { locations = ls }) (with_location s.streams s.locations user q uri usual_longest) t (λ t. Stepped s user q uri (in_phase t AtLocations))
    (λ ls at2. found_then (λ u. added s.streams s.locations (as_read user q usual_longest u)) (uri_if (read_uri uri)) ls (Stepped s user q uri (in_phase (record s { locations = ls }) AtLocations))
    (λ u at3 is.
    let location : Location = as_read user q usual_longest u in
    let g = cond_some (may_follow s.streams s.locations location) (s.locations ++ location ∷ []) ls is in
    let f = uri_found uri u at3 in
    record {
      location = location;
      line = ap (λ (t : List ℕ). LocationLine user q t) (sym f.1);
      may = may_is s.streams s.locations location h.1 g.0;
      is = record { user = h.0; uri = f.0; no_hop = refl; longest = refl };
      same = ap (λ (xs : List Location). in_phase (record s { locations = xs }) AtLocations) g.1;
    }) at2) at1)
    e

one_behind : (s : Setup) (user : List ℕ) (q : ℕ) (uri : List ℕ) (lines : List Line) (next : Draft) → IsLine (LocationLine user q uri)
    → option_and_then (λ d. drafted_lines d lines) (option_map (λ t. in_phase t AtLocations) (with_line s (LocationLine user q uri))) ≡ Some next
    → ((t : Setup) → drafted_lines (in_phase t AtLocations) lines ≡ Some next → BehindRules t lines next)
    → BehindRules s (LocationLine user q uri ∷ lines) next
one_behind s user q uri lines next h due again =
    found_then (λ d. drafted_lines d lines) (option_map (λ t. in_phase t AtLocations) (with_line s (LocationLine user q uri))) next (BehindRules s (LocationLine user q uri ∷ lines) next)
    (λ d at rest.
    let step = location_step s user q uri d h at in
    let more = again (with_one s step.location) (ap (λ (e : Draft). drafted_lines e lines) step.same ∙ rest) in
    record {
      more = step.location ∷ more.more;
      spelled = ap (λ (l : Line). l ∷ map location_line more.more) step.line ∙ ap (λ (ls : List Line). LocationLine user q uri ∷ ls) more.spelled;
      kept = (step.may, more.kept);
      right = (step.is, more.right);
      same = ap (λ (xs : List Location). record s { locations = xs }) (sym (append_assoc s.locations (step.location ∷ []) more.more)) ∙ more.same;
    })
    due

at_locations : (s : Setup) (lines : List Line) (next : Draft) → AllByRecursion IsLine lines → drafted_lines (in_phase s AtLocations) lines ≡ Some next → BehindRules s lines next
at_locations s [] next right due = none_behind AtLocations s next due
at_locations s (LocationLine user q uri ∷ lines) next right due = one_behind s user q uri lines next right.0 due (λ t rest. at_locations t lines next right.1 rest)
at_locations s (OwnLine own ∷ lines) next right due = absurd cc
at_locations s (InstanceLine n ∷ lines) next right due = absurd cc
at_locations s (DomainLine host ∷ lines) next right due = absurd cc
at_locations s (PreferLine statuses ∷ lines) next right due = absurd cc
at_locations s (DepthLine depth ∷ lines) next right due = absurd cc

pub record LinesFound (lines : List Line) (setup : Setup) : Type 0 where
  pub shown : Shown
  pub is : IsSetup shown setup
  pub spelled : lines_of shown setup ≡ lines

record IsHead (own : Own) (instance : ℕ) (domain : List ℕ) : Type 0 where
  own_is : IsOwn own
  within : instance ≤ most_instance
  host : is_host domain ≡ true

abbrev head_lines : Own → ℕ → List ℕ → List Line → List Line
head_lines own instance domain lines = OwnLine own ∷ InstanceLine instance ∷ DomainLine domain ∷ lines

close : (shown : Shown) (own : Own) (instance : ℕ) (domain : List ℕ) (rules : Rules) (lines : List Line) (next : Draft) → IsHead own instance domain → AreRules shown rules
    → BehindRules (head own instance domain rules) lines next
    → LinesFound (head_lines own instance domain (line_if shown.prefer (PreferLine rules.preferred) ++ (line_if shown.depth (DepthLine rules.depth) ++ lines))) next.setup
close shown own instance domain rules lines next h are b =
    let P : Setup → Type 0 = LinesFound (head_lines own instance domain (line_if shown.prefer (PreferLine rules.preferred) ++ (line_if shown.depth (DepthLine rules.depth) ++ lines))) in
    subst P b.same (record {
      shown = shown;
      is = record { own = h.own_is; instance = h.within; domain = h.host; rules = are; locations = b.right; kept = b.kept; by_port = refl; for_service = refl; ring = refl; records = refl; stamps = refl; reasons = refl; streams = refl; large = refl; ways = refl; realm = refl; token = refl; route = refl };
      spelled = ap (λ (ls : List Line). head_lines own instance domain (line_if shown.prefer (PreferLine rules.preferred) ++ (line_if shown.depth (DepthLine rules.depth) ++ ls))) b.spelled;
    })

usual_list : IsPreferredList usual_preferred
usual_list = (preferred_found (codes "401,407,415,420,484") usual_preferred refl).1

at_depth : (own : Own) (instance : ℕ) (domain : List ℕ) (statuses : List ℕ) (lines : List Line) (next : Draft) → IsHead own instance domain → IsPreferredList statuses → AllByRecursion IsLine lines
    → drafted_lines (in_phase (head own instance domain (record { preferred = statuses; depth = most_targets })) AtDepth) lines ≡ Some next
    → LinesFound (head_lines own instance domain (PreferLine statuses ∷ lines)) next.setup
at_depth own instance domain statuses [] next h list right due =
    let rules : Rules = record { preferred = statuses; depth = most_targets } in
    close (record { prefer = true; depth = false }) own instance domain rules [] next h
    (record { preferred = list; depth = omega arith; usual_preferred = λ e. absurd cc; usual_depth = λ e. refl }) (none_behind AtDepth (head own instance domain rules) next due)
at_depth own instance domain statuses (DepthLine depth ∷ lines) next h list right due =
    let rules : Rules = record { preferred = statuses; depth = depth } in
    close (record { prefer = true; depth = true }) own instance domain rules lines next h
    (record { preferred = list; depth = right.0; usual_preferred = λ e. absurd cc; usual_depth = λ e. absurd cc }) (at_locations (head own instance domain rules) lines next right.1 due)
at_depth own instance domain statuses (LocationLine user q uri ∷ lines) next h list right due =
    let rules : Rules = record { preferred = statuses; depth = most_targets } in
    close (record { prefer = true; depth = false }) own instance domain rules (LocationLine user q uri ∷ lines) next h
    (record { preferred = list; depth = omega arith; usual_preferred = λ e. absurd cc; usual_depth = λ e. refl })
    (one_behind (head own instance domain rules) user q uri lines next right.0 due (λ t rest. at_locations t lines next right.1 rest))
at_depth own instance domain statuses (OwnLine other ∷ lines) next h list right due = absurd cc
at_depth own instance domain statuses (InstanceLine n ∷ lines) next h list right due = absurd cc
at_depth own instance domain statuses (DomainLine host ∷ lines) next h list right due = absurd cc
at_depth own instance domain statuses (PreferLine others ∷ lines) next h list right due = absurd cc

at_prefer : (own : Own) (instance : ℕ) (domain : List ℕ) (lines : List Line) (next : Draft) → IsHead own instance domain → AllByRecursion IsLine lines
    → drafted_lines (in_phase (head own instance domain usual_rules) AtPrefer) lines ≡ Some next
    → LinesFound (head_lines own instance domain lines) next.setup
at_prefer own instance domain [] next h right due =
    close (record { prefer = false; depth = false }) own instance domain usual_rules [] next h
    (record { preferred = usual_list; depth = omega arith; usual_preferred = λ e. refl; usual_depth = λ e. refl }) (none_behind AtPrefer (head own instance domain usual_rules) next due)
at_prefer own instance domain (PreferLine statuses ∷ lines) next h right due = at_depth own instance domain statuses lines next h right.0 right.1 due
at_prefer own instance domain (DepthLine depth ∷ lines) next h right due =
    let rules : Rules = record { preferred = usual_preferred; depth = depth } in
    close (record { prefer = false; depth = true }) own instance domain rules lines next h
    (record { preferred = usual_list; depth = right.0; usual_preferred = λ e. refl; usual_depth = λ e. absurd cc }) (at_locations (head own instance domain rules) lines next right.1 due)
at_prefer own instance domain (LocationLine user q uri ∷ lines) next h right due =
    close (record { prefer = false; depth = false }) own instance domain usual_rules (LocationLine user q uri ∷ lines) next h
    (record { preferred = usual_list; depth = omega arith; usual_preferred = λ e. refl; usual_depth = λ e. refl })
    (one_behind (head own instance domain usual_rules) user q uri lines next right.0 due (λ t rest. at_locations t lines next right.1 rest))
at_prefer own instance domain (OwnLine other ∷ lines) next h right due = absurd cc
at_prefer own instance domain (InstanceLine n ∷ lines) next h right due = absurd cc
at_prefer own instance domain (DomainLine host ∷ lines) next h right due = absurd cc

-- where a line is missing, the lines are not whole
not_whole : (draft next : Draft) → is_whole draft.phase ≡ false → Some draft ≡ Some next → is_whole next.phase ≡ true → ⊥
not_whole draft next none due whole =
    let wrong : false ≡ true = sym none ∙ ap (λ (d : Draft). is_whole d.phase) (same_Some _ _ due) ∙ whole in
    absurd cc

at_domain : (own : Own) (instance : ℕ) (lines : List Line) (next : Draft) → IsOwn own → instance ≤ most_instance → AllByRecursion IsLine lines
    → drafted_lines (in_phase (head own instance [] usual_rules) AtDomain) lines ≡ Some next → is_whole next.phase ≡ true
    → LinesFound (OwnLine own ∷ InstanceLine instance ∷ lines) next.setup
at_domain own instance [] next o n right due whole = absurd (not_whole (in_phase (head own instance [] usual_rules) AtDomain) next refl due whole)
at_domain own instance (DomainLine host ∷ lines) next o n right due whole =
    at_prefer own instance host lines next (record { own_is = o; within = n; host = right.0 }) right.1 due
at_domain own instance (OwnLine other ∷ lines) next o n right due whole = absurd cc
at_domain own instance (InstanceLine m ∷ lines) next o n right due whole = absurd cc
at_domain own instance (PreferLine statuses ∷ lines) next o n right due whole = absurd cc
at_domain own instance (DepthLine depth ∷ lines) next o n right due whole = absurd cc
at_domain own instance (LocationLine user q uri ∷ lines) next o n right due whole = absurd cc

at_instance : (own : Own) (lines : List Line) (next : Draft) → IsOwn own → AllByRecursion IsLine lines
    → drafted_lines (in_phase (head own 0 [] usual_rules) AtInstance) lines ≡ Some next → is_whole next.phase ≡ true
    → LinesFound (OwnLine own ∷ lines) next.setup
at_instance own [] next o right due whole = absurd (not_whole (in_phase (head own 0 [] usual_rules) AtInstance) next refl due whole)
at_instance own (InstanceLine n ∷ lines) next o right due whole = at_domain own n lines next o right.0 right.1 due whole
at_instance own (OwnLine other ∷ lines) next o right due whole = absurd cc
at_instance own (DomainLine host ∷ lines) next o right due whole = absurd cc
at_instance own (PreferLine statuses ∷ lines) next o right due whole = absurd cc
at_instance own (DepthLine depth ∷ lines) next o right due whole = absurd cc
at_instance own (LocationLine user q uri ∷ lines) next o right due whole = absurd cc

pub whole_found : (lines : List Line) (next : Draft) → AllByRecursion IsLine lines → drafted_lines no_draft lines ≡ Some next → is_whole next.phase ≡ true → LinesFound lines next.setup
whole_found [] next right due whole = absurd (not_whole no_draft next refl due whole)
whole_found (OwnLine own ∷ lines) next right due whole = at_instance own lines next right.0 right.1 due whole
whole_found (InstanceLine n ∷ lines) next right due whole = absurd cc
whole_found (DomainLine host ∷ lines) next right due whole = absurd cc
whole_found (PreferLine statuses ∷ lines) next right due whole = absurd cc
whole_found (DepthLine depth ∷ lines) next right due whole = absurd cc
whole_found (LocationLine user q uri ∷ lines) next right due whole = absurd cc

-- ---- lines that come are the first of some configuration

record Completed (draft : Draft) : Type 0 where
  more : List Line
  right : AllByRecursion IsLine more
  next : Draft
  due : drafted_lines draft more ≡ Some next
  whole : is_whole next.phase ≡ true

abbrev any_own : Own
any_own = record { addr = 0 ∷ 0 ∷ 0 ∷ 1 ∷ []; port = 1; transport = Udp }

own_is_any : IsOwn any_own
own_is_any = record { four = refl; bytes = (omega arith, (omega arith, (omega arith, (omega arith, tt)))); host = refl; port = omega arith; port_within = omega arith; transport = refl }

completed : (phase : SetupPhase) (s : Setup) → Completed (in_phase s phase)
completed AtOwn s = record {
  more = OwnLine any_own ∷ InstanceLine 0 ∷ DomainLine (97 ∷ []) ∷ [];
  right = (own_is_any, (omega arith, (refl, tt)));
  next = in_phase (record s { own = any_own; instance = 0; domain = 97 ∷ [] }) AtPrefer;
  due = refl;
  whole = refl;
}
completed AtInstance s = record {
  more = InstanceLine 0 ∷ DomainLine (97 ∷ []) ∷ [];
  right = (omega arith, (refl, tt));
  next = in_phase (record s { instance = 0; domain = 97 ∷ [] }) AtPrefer;
  due = refl;
  whole = refl;
}
completed AtDomain s = record {
  more = DomainLine (97 ∷ []) ∷ [];
  right = (refl, tt);
  next = in_phase (record s { domain = 97 ∷ [] }) AtPrefer;
  due = refl;
  whole = refl;
}
completed AtPrefer s = record { more = []; right = tt; next = in_phase s AtPrefer; due = refl; whole = refl }
completed AtDepth s = record { more = []; right = tt; next = in_phase s AtDepth; due = refl; whole = refl }
completed AtLocations s = record { more = []; right = tt; next = in_phase s AtLocations; due = refl; whole = refl }

pub begins : (lines : List Line) (draft : Draft) → AllByRecursion IsLine lines → drafted_lines no_draft lines ≡ Some draft → Begins lines
begins lines draft right due =
    let c = completed draft.phase draft.setup in
    let whole = whole_found (lines ++ c.more) c.next (all_append IsLine lines c.more right c.right) (drafted_append drafted_line no_draft lines c.more draft due ∙ c.due) c.whole in
    record { shown = whole.shown; setup = c.next.setup; more = c.more; is = whole.is; whole = whole.spelled }

-- so a line behind them that no draft takes begins none
pub record NextDue (draft : Draft) (line : Line) : Type 0 where
  pub fits : Fits line
  pub next : Draft
  pub due : drafted_line draft line ≡ Some next

pub next_due : (lines : List Line) (line : Line) (draft : Draft) → drafted_lines no_draft lines ≡ Some draft → Begins (lines ++ line ∷ []) → NextDue draft line
next_due lines line draft due b =
    let r = setup_drafted b.shown b.setup b.is in
    let whole : lines_of b.shown b.setup ≡ lines ++ line ∷ b.more = b.whole ∙ append_assoc lines (line ∷ []) b.more in
    let end : drafted_lines draft (line ∷ b.more) ≡ Some (in_phase b.setup r.phase) =
    sym (drafted_append drafted_line no_draft lines (line ∷ b.more) draft due) ∙ sym (ap (drafted_lines no_draft) whole) ∙ r.due in
    let P : List Line → Type 0 = AllByRecursion Fits in
    let fit : AllByRecursion Fits (line ∷ b.more) = all_back Fits lines (line ∷ b.more) (subst P whole (setup_fits b.shown b.setup b.is)) in
    found_then (λ d. drafted_lines d b.more) (drafted_line draft line) (in_phase b.setup r.phase) (NextDue draft line)
    (λ next at rest. record { fits = fit.0; next = next; due = at })
    end

-- ---- a draft that some lines lead to

pub record IsDrafted (draft : Draft) : Type 0 where
  pub lines : List Line
  pub right : AllByRecursion IsLine lines
  pub due : drafted_lines no_draft lines ≡ Some draft

pub drafted_next : (draft next : Draft) (text : List ℕ) → IsDrafted draft → drafted draft text ≡ Some next → IsDrafted next
drafted_next draft next text w e =
    found_then (drafted_line draft) (read_line text) next (IsDrafted next)
    (λ line at is. record {
      lines = w.lines ++ line ∷ [];
      right = all_append IsLine w.lines (line ∷ []) w.right ((line_found text line at).1, tt);
      due = drafted_append drafted_line no_draft w.lines (line ∷ []) draft w.due ∙ ap (option_and_then (λ (d : Draft). Some d)) is;
    })
    e

pub drafted_sound : (draft : Draft) → IsDrafted draft → IsSound draft
drafted_sound draft w whole =
    let f = whole_found w.lines draft w.right w.due whole in
    let P : Bool → Type 0 = λ streams. IsKeptWith streams draft.setup.own draft.setup.domain draft.setup.locations in
    subst P (sym f.is.streams) (record { port = f.is.own.port; domain_is = f.is.domain; locations_keep = f.is.kept })
