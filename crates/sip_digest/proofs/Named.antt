-- What the first user of a name has, where one more user comes.
use Rattle.sip_digest.proofs.UsersCommon.{◌≡◌, ℕ, Bool, true, false, cond, List, [], ◌∷◌, ◌++◌, Option, Some, None, refl, ap, is_some, list_any, ◌||◌, Secrets, User, is_named, secrets_named}

-- a name is among the users where one has it
pub any_named : (name : List ℕ) (users : List User) → list_any (is_named name) users ≡ is_some (secrets_named name users)
any_named name [] = refl
any_named name (user ∷ users) = one (is_named name user) (any_named name users)
  where
    one : (b : Bool) → list_any (is_named name) users ≡ is_some (secrets_named name users) → (b || list_any (is_named name) users) ≡ is_some (cond b (Some user.secrets) (secrets_named name users))
    one true rest = refl
    one false rest = rest

-- another name
pub named_apart : (name : List ℕ) (users : List User) (user : User) → is_named name user ≡ false → secrets_named name (users ++ user ∷ []) ≡ secrets_named name users
named_apart name [] user other = ap (λ b. cond b (Some user.secrets) None) other
named_apart name (u ∷ users) user other = ap (λ (o : Option Secrets). cond (is_named name u) (Some u.secrets) o) (named_apart name users user other)

-- a new name
pub named_new : (name : List ℕ) (users : List User) (user : User) → is_named name user ≡ true → secrets_named name users ≡ None → secrets_named name (users ++ user ∷ []) ≡ Some user.secrets
named_new name [] user same none = ap (λ b. cond b (Some user.secrets) None) same
named_new name (u ∷ users) user same none = one (is_named name u) none (named_new name users user same)
  where
    one : (b : Bool) → cond b (Some u.secrets) (secrets_named name users) ≡ None → (secrets_named name users ≡ None → secrets_named name (users ++ user ∷ []) ≡ Some user.secrets)
        → cond b (Some u.secrets) (secrets_named name (users ++ user ∷ [])) ≡ Some user.secrets
    one true there again = absurd cc
    one false there again = again there
