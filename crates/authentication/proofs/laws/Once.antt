-- A sender stands in one way alone.
use Rattle.std.proofs.Common.{◌≡◌, ℕ, Bool, true, false, List, [], ◌∷◌, Option, Some, None, inl, inr, refl, sym, ap, ◌∙◌}
use Rattle.std.specs.Prelude.{is_some}
use Rattle.sip_text.specs.Name.{values_of}
use Rattle.sip_text.specs.Text.{MessageText}
use Rattle.sip_digest.specs.Credentials.{Credentials, credentials_in}
use Rattle.sip_digest.specs.inner.Reading.{read_credentials}
use Rattle.sip_digest.proofs.Readings.{of_realm_read}
use Rattle.authentication.specs.declared.challenge.Challenger.{Challenger}
use Rattle.authentication.specs.Challenge.{credentials_name}
use Rattle.authentication.specs.Given.{IsGiven, IsSaid}
use Rattle.authentication.specs.Realm.{Realm}
use Rattle.authentication.specs.Standing.{Arrival, IsJudged, IsJudgedOf, Standing, Stands, StandsFor, Unasked, Anonymous, Unusable, Stale, Wrong, Right}

said_once : (value realm : List ℕ) (x y : Option Credentials) → IsSaid value realm (Some x) → IsSaid value realm (Some y) → x ≡ y
said_once value realm x y h k =
    let one : read_credentials value realm ≡ Some x = of_realm_read value realm h.0 h.1 h.2 ∙ ap Some h.3 in
    let other : read_credentials value realm ≡ Some y = of_realm_read value realm k.0 k.1 k.2 ∙ ap Some k.3 in
    cc

given_once : (values : List (List ℕ)) (realm : List ℕ) (a b : Option (Option Credentials)) → IsGiven values realm a → IsGiven values realm b → a ≡ b
given_once [] realm a b h k = h ∙ sym k
given_once (value ∷ values) realm a b (inl h) (inl k) = given_once values realm a b h.1 k.1
given_once (value ∷ values) realm a None (inl h) (inr k) = absurd cc
given_once (value ∷ values) realm a (Some y) (inl h) (inr k) = absurd (h.0 k.1.0 k.1.1 k.1.2)
given_once (value ∷ values) realm None b (inr h) (inl k) = absurd cc
given_once (value ∷ values) realm (Some x) b (inr h) (inl k) = absurd (k.0 h.1.0 h.1.1 h.1.2)
given_once (value ∷ values) realm None b (inr h) (inr k) = absurd cc
given_once (value ∷ values) realm (Some x) None (inr h) (inr k) = absurd cc
given_once (value ∷ values) realm (Some x) (Some y) (inr h) (inr k) = ap Some (said_once value realm x y h.1 k.1)

module _ (realm : Realm) (arrival : Arrival) (c : Credentials) where
  judged_of_once : (s t : Standing) → IsJudgedOf realm arrival c s → IsJudgedOf realm arrival c t → s ≡ t
  judged_of_once Unasked t h k = absurd h
  judged_of_once Anonymous t h k = absurd h
  judged_of_once Unusable Unasked h k = absurd k
  judged_of_once Unusable Anonymous h k = absurd k
  judged_of_once Unusable Unusable h k = refl
  judged_of_once Unusable Stale h k = absurd (h k.0)
  judged_of_once Unusable (Wrong m) h k = absurd (h k.1)
  judged_of_once Unusable (Right m) h k = absurd (h k.1)
  judged_of_once Stale Unasked h k = absurd k
  judged_of_once Stale Anonymous h k = absurd k
  judged_of_once Stale Unusable h k = absurd (k h.0)
  judged_of_once Stale Stale h k = refl
  judged_of_once Stale (Wrong m) h k = absurd (k.2.0 h.1)
  judged_of_once Stale (Right m) h k = absurd (h.1 k.2.nonce)
  judged_of_once (Wrong n) Unasked h k = absurd k
  judged_of_once (Wrong n) Anonymous h k = absurd k
  judged_of_once (Wrong n) Unusable h k = absurd (k h.1)
  judged_of_once (Wrong n) Stale h k = absurd (h.2.0 k.1)
  judged_of_once (Wrong n) (Wrong m) h k = ap Wrong (h.0 ∙ sym k.0)
  judged_of_once (Wrong n) (Right m) h k = absurd (h.2.1 k.2)
  judged_of_once (Right n) Unasked h k = absurd k
  judged_of_once (Right n) Anonymous h k = absurd k
  judged_of_once (Right n) Unusable h k = absurd (k h.1)
  judged_of_once (Right n) Stale h k = absurd (k.1 h.2.nonce)
  judged_of_once (Right n) (Wrong m) h k = absurd (k.2.1 h.2)
  judged_of_once (Right n) (Right m) h k = ap Right (h.0 ∙ sym k.0)

judged_once : (realm : Realm) (arrival : Arrival) (given : Option (Option Credentials)) (s t : Standing) → IsJudged realm arrival given s → IsJudged realm arrival given t → s ≡ t
judged_once realm arrival None s t h k = h ∙ sym k
judged_once realm arrival (Some None) s t h k = h ∙ sym k
judged_once realm arrival (Some (Some c)) s t h k = judged_of_once realm arrival c s t h k

stands_for_once : (challenger : Challenger) (realm : Realm) (m : MessageText) (arrival : Arrival) (s t : Standing)
    → StandsFor challenger realm m arrival s → StandsFor challenger realm m arrival t → s ≡ t
stands_for_once challenger realm m arrival s t (given, is, h) (other, are, k) =
    let same : given ≡ other = given_once (values_of (credentials_name challenger) m.headers) realm.name given other is are in
    let there : IsJudged realm arrival given t = rw same k in
    judged_once realm arrival given s t h there

pub stands_once : (wanted : Bool) (challenger : Challenger) (realm : Option Realm) (m : MessageText) (arrival : Arrival) (s t : Standing)
    → Stands wanted challenger realm m arrival s → Stands wanted challenger realm m arrival t → s ≡ t
stands_once false challenger realm m arrival s t h k = h ∙ sym k
stands_once true challenger None m arrival s t h k = h ∙ sym k
stands_once true challenger (Some realm) m arrival s t h k = stands_for_once challenger realm m arrival s t h k
