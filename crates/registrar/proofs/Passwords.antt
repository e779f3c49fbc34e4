-- Who may ask for something.
use Rattle.std.proofs.Common.{◌≡◌, ℕ, Bool, true, false, not, cond, List, Option, Some, None, refl, sym, ap, subst, ◌∙◌}
use Rattle.std.specs.Prelude.{◌||◌}
use Rattle.std.proofs.lemmas.Slice.Eq.{bytes_eq-Decides}
use Rattle.sip_text.specs.Text.{MessageText}
use Rattle.sip_via.specs.Address.{address_text}
use Rattle.authentication.specs.declared.challenge.Challenger.TheVariants.{Server}
use Rattle.authentication.specs.declared.domain.Domain.{Domain}
use Rattle.authentication.specs.Answer.{Answer}
use Rattle.authentication.specs.Realm.{Realm}
use Rattle.authentication.specs.Standing.{Arrival, Standing, Stands, Unasked, Anonymous, Unusable, Stale, Wrong, Right, arrival_of}
use Rattle.registrar.specs.declared.expirations.AskedExpirations.{AskedExpirations}
use Rattle.registrar.specs.declared.source.Source.{Source}
use Rattle.registrar.specs.Asking.{IsAsking, IsAskingFor, IsAskingIf, Registers, Registration, Turned, asks_extension, is_users, registration_of, user_of}

by_cond : (b : Bool) (made r : Registration) (answer : Answer) (noted : Option (List ℕ)) → Registers r ≡ cond b (Registers made) (Turned answer noted) → (b ≡ true) × (r ≡ made)
by_cond true made r answer noted h = (refl, cc)
by_cond false made r answer noted h = absurd cc

-- the user's own
users_own : (user : List ℕ) (s : Standing) → is_users user s ≡ true → s ≡ Right user
users_own user Unasked h = absurd cc
users_own user Anonymous h = absurd cc
users_own user Unusable h = absurd cc
users_own user Stale h = absurd cc
users_own user (Wrong name) h = absurd cc
users_own user (Right name) h = ap Right ((bytes_eq-Decides name user).0 h)

module _ (domain : Domain) (realm : Option Realm) (expirations : AskedExpirations) (source : Source) (m : MessageText) (r : Registration) (outside : source.inside ≡ false) where
  abbrev arrival : Arrival
  arrival = arrival_of m (address_text source.hop.addr) source.second

  abbrev Needed : Type 0
  Needed = Stands true Server realm m arrival (Right r.user)

  for_user : (user : Option (List ℕ)) → IsAskingFor domain realm expirations source m user (Registers r) → Needed
  for_user None h = absurd cc
  for_user (Some user) (standing, stands, h) =
      let both = by_cond (source.inside || is_users user standing) (registration_of domain expirations source m user) r _ _ h in
      let own : is_users user standing ≡ true = sym (ap (λ (b : Bool). b || is_users user standing) outside) ∙ both.0 in
      let wanted : not source.inside ≡ true = ap not outside in
      let known : Stands true Server realm m arrival standing = subst (λ (b : Bool). Stands b Server realm m arrival standing) wanted stands in
      let is_user : standing ≡ Right r.user = users_own user standing own ∙ ap (λ (x : Registration). Right x.user) (sym both.1) in
      subst (λ (s : Standing). Stands true Server realm m arrival s) is_user known

  if_extension : (extension : Bool) → IsAskingIf extension domain realm expirations source m (Registers r) → Needed
  if_extension true h = absurd cc
  if_extension false h = for_user (user_of domain m) h

  pub needed : IsAsking domain realm expirations source m (Registers r) → Needed
  needed h = if_extension (asks_extension m) h
