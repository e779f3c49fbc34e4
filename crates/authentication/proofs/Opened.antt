-- Who may open a call, by the way in which it was decided.
use Rattle.std.proofs.Common.{◌≡◌, ℕ, Bool, true, false, cond, List, Option, Some, None, inl, inr, subst, sym, refl}
use Rattle.std.specs.Prelude.{◌&&◌, ◌⊎◌, codes}
use Rattle.std.proofs.lemmas.Bool.{and_parts}
use Rattle.sip_text.specs.Text.{MessageText}
use Rattle.sip_uri.specs.Uri.{Uri}
use Rattle.sip_via.specs.Address.{address_text}
use Rattle.sip_build.specs.declared.responses.OwnStatus.{OwnStatus}
use Rattle.sip_build.specs.declared.responses.OwnStatus.TheVariants.{Forbidden}
use Rattle.authentication.specs.declared.challenge.Challenger.TheVariants.{Proxy}
use Rattle.authentication.specs.Answer.{plain}
use Rattle.authentication.specs.Party.{uri_in}
use Rattle.authentication.specs.Standing.{Standing, Stands, Unasked, Anonymous, Unusable, Stale, Wrong, Right, arrival_of}
use Rattle.authentication.specs.declared.decision.Arrival.{Arrival}
use Rattle.authentication.specs.declared.decision.Rule.{Rule}
use Rattle.authentication.specs.declared.decision.Rule.TheVariants as rules
use Rattle.authentication.specs.Sender.{claims_domain, is_from}
use Rattle.authentication.specs.Decision.{Admission, Decision, IsDecision, IsOfChecked, IsOfRequest, IsOfSender, IsOfSource, IsOfUntrusted, MayOpen, Opens, Registers, Turned, claimed, is_for_domain, is_for_registrar, other, plain_turned, proved, unproved}

by_password : (b : Bool) (name : List ℕ) (d : Decision) (rule : Rule) → d ≡ cond b (Opens rules.Password) (Turned (plain Forbidden) (Some name)) → d ≡ Opens rule
    → (b ≡ true) × (rules.Password ≡ rule)
by_password true name d rule h e = (refl, cc)
by_password false name d rule h e = absurd cc

by_stranger : (b : Bool) (d : Decision) (rule : Rule) → d ≡ cond b (Opens rules.Stranger) (plain_turned Forbidden) → d ≡ Opens rule → (b ≡ true) × (rules.Stranger ≡ rule)
by_stranger true d rule h e = (refl, cc)
by_stranger false d rule h e = absurd cc

module _ (a : Admission) (r : Arrival) (m : MessageText) (d : Decision) (rule : Rule) (opens : d ≡ Opens rule) where
  abbrev May : Rule → Type 0
  May rule = MayOpen a r m rule

  of_standing : (standing : Standing) → Stands true Proxy a.realm m (arrival_of m (address_text r.source.addr) r.second) standing
      → d ≡ claimed a r (uri_in (codes "from") m) standing → May rule
  of_standing Unasked stands h = absurd cc
  of_standing Anonymous stands h = absurd cc
  of_standing Unusable stands h = absurd cc
  of_standing Stale stands h = absurd cc
  of_standing (Wrong name) stands h = absurd cc
  of_standing (Right name) stands h =
      let both = by_password (is_from name (uri_in (codes "from") m)) name d rule h opens in
      subst May both.1 (name, stands, both.0)

  of_sender : (claims : Bool) → IsOfSender claims a r m d → May rule
  of_sender true (standing, stands, h) = of_standing standing stands h
  of_sender false h =
      let both = by_stranger (is_for_domain a.domain m && (a.serves_strangers && r.has_place)) d rule h opens in
      let first = and_parts (is_for_domain a.domain m) (a.serves_strangers && r.has_place) both.0 in
      let second = and_parts a.serves_strangers r.has_place first.1 in
      subst May both.1 (first.0, second.0, second.1)

  of_untrusted : IsOfUntrusted a r m d → May rule
  of_untrusted (inl p) =
      let same : rules.InDialog ≡ rule = cc in
      subst May same p.0
  of_untrusted (inr p) = of_sender (claims_domain a.domain (uri_in (codes "from") m)) p.1

  of_source : (trusted : Bool) → trusted ≡ false → IsOfSource trusted a r m d → May rule
  of_source true t h = absurd cc
  of_source false t h = of_untrusted h

  of_checked : (refusal : Option OwnStatus) → r.trusted ≡ false → IsOfChecked refusal a r m d → May rule
  of_checked (Some status) t h = absurd cc
  of_checked None t h = of_source r.trusted t h

  of_request : (registers : Bool) → r.trusted ≡ false → IsOfRequest registers a r m d → May rule
  of_request true t h = absurd cc
  of_request false t h = of_checked r.refusal t h

  pub may_open : IsDecision a r m d → r.trusted ≡ false → May rule
  may_open h t = of_request (is_for_registrar a.domain m) t h
