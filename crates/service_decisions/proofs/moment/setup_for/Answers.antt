use Rattle.std.proofs.Common.{◌≡◌, ◌∙◌, ◌&&◌, ℕ, Bool, true, false, List, [], ◌∷◌, Option, ap, map, refl, sym}
use Rattle.std.specs.Prelude.{if◌then◌else◌}
use Rattle.std.proofs.lemmas.Bool.{false≢true}
use Rattle.std.proofs.lemmas.Result.{IfOk-weaker}
use Rattle.sip_text.specs.Text.{MessageText}
use Rattle.proxy_config.specs.declared.dialog_token.DialogToken.{DialogToken}
use Rattle.proxy_config.specs.Moment.{BoundContact}
use Rattle.proxy_config.specs.Setup.{Setup, locations_of}
use Rattle.service_config.specs.Settings.{Gateway}
use Rattle.proxy_dispatch.specs.Admitting.{Opens}
use Rattle.service_decisions.specs.SeenPlace.{seen_place}
use Rattle.service_decisions.specs.Targets.{OfUser, Place, contacts_or_gateways, gateway_contact, is_none_of, reached_at, setup_for, setup_with, token_for}
use Rattle.service_decisions.proofs.moment.setup_for.Goals as goal

-- whether there is nothing but the gateways
abbrev is_by : Setup → (by : Bool) → (user : List ℕ) → List BoundContact → Bool
is_by setup by user contacts = is_none_of contacts && (by && is_none_of (locations_of user setup.locations))

gateways_alone : (setup : Setup) (gateways : List Gateway) (by : Bool) (user : List ℕ) (contacts : List BoundContact) → is_by setup by user contacts ≡ true
    → map (gateway_contact user) gateways ≡ contacts_or_gateways setup gateways by user contacts
gateways_alone setup gateways by user [] is = ap (λ (b : Bool). if b then map (gateway_contact user) gateways else []) (sym is)
gateways_alone setup gateways by user (contact ∷ contacts) is = absurd (false≢true is)

contacts_alone : (setup : Setup) (gateways : List Gateway) (by : Bool) (user : List ℕ) (contacts : List BoundContact) → is_by setup by user contacts ≡ false
    → contacts ≡ contacts_or_gateways setup gateways by user contacts
contacts_alone setup gateways by user [] is = ap (λ (b : Bool). if b then map (gateway_contact user) gateways else []) (sym is)
contacts_alone setup gateways by user (contact ∷ contacts) is = refl

-- those who are reached are all that counts
reached_so : (setup : Setup) (gateways : List Gateway) (by : Bool) (place : Place) (user : List ℕ) (contacts reached : List BoundContact) (given made : Option DialogToken) (m : MessageText)
    → place ≡ OfUser user → reached ≡ contacts_or_gateways setup gateways by user contacts → made ≡ token_for given m
    → setup_with setup place reached made ≡ setup_for setup gateways by place contacts given m
reached_so setup gateways by place user contacts reached given made m p r t =
    ap (λ (x : Option DialogToken). setup_with setup place reached x) t
    ∙ ap (λ (cs : List BoundContact). setup_with setup place cs (token_for given m)) (r ∙ ap (λ (x : Place). reached_at setup gateways by x contacts) (sym p))

-- whether it is so for a text that is the user's
is_so : (setup : Setup) (by : Bool) (user text : List ℕ) (contacts : List BoundContact) (found value : Bool) → text ≡ user → found ≡ is_by setup by text contacts → found ≡ value
    → is_by setup by user contacts ≡ value
is_so setup by user text contacts found value same is so = ap (λ (u : List ℕ). is_by setup by u contacts) (sym same) ∙ sym is ∙ so

pub returns-then-is_by_gateways : goal.returns-then-is_by_gateways
returns-then-is_by_gateways g c =
    let user : List ℕ = c.in-OfUser.user.items in
    let is = is_so c.args.setup.now c.args.by_gateways user c.deref.result.now c.args.contacts.now c.is_by_gateways.result true c.deref.ensures.value c.is_by_gateways.ensures c.if-is_by_gateways.true in
    let reached = ap (λ (u : List ℕ). map (gateway_contact u) c.args.gateways.now) c.deref-then-is_by_gateways.ensures.value
    ∙ gateways_alone c.args.setup.now c.args.gateways.now c.args.by_gateways user c.args.contacts.now is in
    IfOk-weaker c.setup_by_gateways.result _ _
    (λ decision made. made ∙ ap Opens (reached_so c.args.setup.now c.args.gateways.now c.args.by_gateways (seen_place c.args.place.now) user c.args.contacts.now _ c.args.token c.token_for-token.result c.args.request.now
    (ap seen_place c.in-OfUser.is) reached c.token_for-token.ensures))
    c.setup_by_gateways.ensures

pub returns-else-is_by_gateways : goal.returns-else-is_by_gateways
returns-else-is_by_gateways g c =
    let user : List ℕ = c.in-OfUser.user.items in
    let is = is_so c.args.setup.now c.args.by_gateways user c.deref.result.now c.args.contacts.now c.is_by_gateways.result false c.deref.ensures.value c.is_by_gateways.ensures c.if-is_by_gateways.false in
    let reached = contacts_alone c.args.setup.now c.args.gateways.now c.args.by_gateways user c.args.contacts.now is in
    IfOk-weaker c.setup_with.result _ _
    (λ decision made. made ∙ ap Opens (reached_so c.args.setup.now c.args.gateways.now c.args.by_gateways (seen_place c.args.place.now) user c.args.contacts.now _ c.args.token c.token_for-token.result c.args.request.now
    (ap seen_place c.in-OfUser.is) reached c.token_for-token.ensures))
    c.setup_with.ensures
