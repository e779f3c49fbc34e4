-- Users by their names, where one more comes.
use Rattle.sip_digest.proofs.UsersCommon.{◌≡◌, ◌≢◌, ℕ, Bool, true, false, cond, List, [], ◌∷◌, ◌++◌, Option, Some, None, refl, sym, ap, subst, ◌∙◌, is_some, option_and_then, option_map, list_any, bytes_eq-Decides, Algorithms, Secrets, Comment, Line, User, UserLine, is_named, read_line, secrets_named}
use Rattle.sip_digest.proofs.UsersCommon.{user_in, with_line}
use Rattle.std.proofs.Common.{Ordering, Vec}
use Rattle.std.specs.BTreeMap.{get_by, is_at}
use Rattle.std.specs.Cmp.Lexicographic.{slice_cmp}
use Rattle.std.specs.Map.{IsKeyTest, AreApart, KeepsOthers}
use Rattle.std.specs.Ordering.{nat_cmp, is_eq, eq_by_cmp}
use Rattle.std.proofs.lemmas.Map.Text.{is_eq-slice_cmp}
use Rattle.sip_digest.specs.declared.users.UserList.{UserList}
use Rattle.sip_digest.specs.UserView.{Has}
use Rattle.sip_digest.specs.inner.Added.{IsAdded, IsWith, IsWithText, IsWithUser}
use Rattle.sip_digest.specs.UserIndex.{secrets_at}
use Rattle.sip_digest.proofs.Named.{any_named, named_apart, named_new}

-- ---- a map in which the value of one name changes

-- texts that differ do not compare equal, and those that do are one
not_equal : (xs ys : List ℕ) → xs ≢ ys → is_eq (slice_cmp nat_cmp xs ys) ≡ false
not_equal xs ys apart = is_eq-slice_cmp xs ys ∙ told _ (λ e. apart ((bytes_eq-Decides xs ys).0 e))
  where
    told : (b : Bool) → (b ≡ true → ⊥) → b ≡ false
    told true never = absurd (never refl)
    told false never = refl

equal : (xs ys : List ℕ) → is_eq (slice_cmp nat_cmp xs ys) ≡ true → xs ≡ ys
equal xs ys e = (bytes_eq-Decides xs ys).0 (sym (is_eq-slice_cmp xs ys) ∙ e)

true_false : true ≡ false → ⊥
true_false e = absurd cc

false_true : false ≡ true → ⊥
false_true e = absurd cc

is_none : (o : Option Secrets) → is_some o ≡ false → o ≡ None
is_none None e = refl
is_none (Some secrets) e = absurd cc

module _ {A : Type 0} where
  abbrev order : Vec ℕ A → Vec ℕ A → Ordering
  order x y = slice_cmp nat_cmp x.items y.items

  abbrev pub at : List ℕ → Vec ℕ A → Ordering
  at name other = slice_cmp nat_cmp name other.items

  is_test : (other : List ℕ) → IsKeyTest (eq_by_cmp order) (is_at (at other))
  is_test other x y e = ap (λ (text : List ℕ). is_eq (slice_cmp nat_cmp text y.items)) (equal other x.items e)

  are_apart : (name other : List ℕ) → other ≢ name → AreApart (is_at (at name)) (is_at (at other))
  are_apart name other apart key e = not_equal other key.items (λ same. apart (same ∙ sym (equal name key.items e)))

  pub user_added : (old new : UserList A) (user : User) → get_by (at user.name) new.users ≡ Some user.secrets → KeepsOthers (eq_by_cmp order) (is_at (at user.name)) old.users.entries new.users.entries → IsAdded user old new
  unfolding KeepsOthers
  user_added old new user is keeps = (is, λ other apart. keeps (is_at (at other)) (is_test other) (are_apart user.name other apart))

  -- ---- the users so far

  has_added : (old new : UserList A) (users : List User) (user : User) → Has old users → is_some (secrets_at old user.name) ≡ false → IsAdded user old new → Has new (users ++ user ∷ [])
  has_added old new users user has fresh added name = one (is_named name user) refl
    where
      one : (b : Bool) → is_named name user ≡ b → secrets_at new name ≡ secrets_named name (users ++ user ∷ [])
      one true e =
          let same : user.name ≡ name = (bytes_eq-Decides user.name name).0 e in
          let none : secrets_named name users ≡ None = sym (has name) ∙ ap (secrets_at old) (sym same) ∙ is_none (secrets_at old user.name) fresh in
          ap (secrets_at new) (sym same) ∙ added.0 ∙ sym (named_new name users user e none)
      one false e =
          added.1 name (λ same. true_false (sym ((bytes_eq-Decides user.name name).1 (sym same)) ∙ e))
          ∙ has name
          ∙ sym (named_apart name users user e)

  pub user_refused : (list : UserList A) (users : List User) (user : User) → Has list users → is_some (secrets_at list user.name) ≡ true → IsWithUser users user false list
  user_refused list users user has there =
      let any : list_any (is_named user.name) users ≡ true = any_named user.name users ∙ ap is_some (sym (has user.name)) ∙ there in
      subst (λ (b : Bool). IsWith (cond b None (Some (users ++ user ∷ []))) false list) (sym any) refl

  pub user_taken : (old new : UserList A) (users : List User) (user : User) → Has old users → is_some (secrets_at old user.name) ≡ false → IsAdded user old new → IsWithUser users user true new
  user_taken old new users user has fresh added =
      let any : list_any (is_named user.name) users ≡ false = any_named user.name users ∙ ap is_some (sym (has user.name)) ∙ fresh in
      subst (λ (b : Bool). IsWith (cond b None (Some (users ++ user ∷ []))) true new) (sym any) (refl, has_added old new users user has fresh added)

  -- ---- a line

  pub line_refused : (list : UserList A) (algorithms : Algorithms) (users : List User) (text : List ℕ) → None ≡ option_map user_in (read_line algorithms text) → IsWithText algorithms users text false list
  line_refused list algorithms users text e = one (read_line algorithms text) e
    where
      one : (o : Option Line) → None ≡ option_map user_in o → IsWith (option_and_then (with_line users) o) false list
      one None h = refl
      one (Some line) h = absurd cc

  pub comment_taken : (list : UserList A) (algorithms : Algorithms) (users : List User) (text : List ℕ) → Has list users → Some None ≡ option_map user_in (read_line algorithms text) → IsWithText algorithms users text true list
  comment_taken list algorithms users text has e = one (read_line algorithms text) e
    where
      one : (o : Option Line) → Some None ≡ option_map user_in o → IsWith (option_and_then (with_line users) o) true list
      one None h = absurd cc
      one (Some (Comment t)) h = (refl, has)
      one (Some (UserLine user)) h = absurd cc

  pub user_line : (list : UserList A) (algorithms : Algorithms) (users : List User) (text : List ℕ) (user : User) (done : Bool) → Some (Some user) ≡ option_map user_in (read_line algorithms text) → IsWithUser users user done list → IsWithText algorithms users text done list
  user_line list algorithms users text user done e h = one (read_line algorithms text) e
    where
      one : (o : Option Line) → Some (Some user) ≡ option_map user_in o → IsWith (option_and_then (with_line users) o) done list
      one None is = absurd cc
      one (Some (Comment t)) is = absurd cc
      one (Some (UserLine other)) is =
          let same : user ≡ other = cc in
          subst (λ (u : User). IsWithUser users u done list) same h

  -- ---- what adding answers

  pub not_with : (o : Option (List User)) (list : UserList A) → IsWith o false list → o ≡ None
  not_with None list h = refl
  not_with (Some users) list h = absurd (false_true h.0)

  pub record IsNext (o : Option (List User)) (list : UserList A) : Type 0 where
    pub users : List User
    pub are : o ≡ Some users
    pub has : Has list users

  pub is_with : (o : Option (List User)) (list : UserList A) → IsWith o true list → IsNext o list
  is_with None list h = absurd (true_false h)
  is_with (Some users) list h = record { users = users; are = refl; has = h.1 }
