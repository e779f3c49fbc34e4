-- A line that says nothing.
use Rattle.sip_digest.proofs.UsersCommon.{◌≡◌, ℕ, Bool, true, false, not, List, [], ◌∷◌, ◌++◌, refl, ap, and_parts, and_from, list_all, ◌||◌, ◌&&◌, Lacks, begins_with_hash, is_comment, is_empty, is_name, is_no_lf}
use Rattle.std.proofs.lemmas.Bool.{ne_eqb}

no_lf : (text : List ℕ) → Lacks 10 text → list_all is_no_lf text ≡ true
no_lf [] h = refl
no_lf (b ∷ bs) h = and_from (is_no_lf b) (list_all is_no_lf bs) (ap not (ne_eqb b 10 h.0)) (no_lf bs h.1)

and_true : (a b : Bool) → b ≡ true → (a && b) ≡ a
and_true true b e = e
and_true false b e = refl

-- within a line the front alone tells
pub comment_is : (text : List ℕ) → Lacks 10 text → is_comment text ≡ (is_empty text || begins_with_hash text)
comment_is text h = and_true (is_empty text || begins_with_hash text) (list_all is_no_lf text) (no_lf text h)

-- no user's line is one
pub named_is_none : (name behind : List ℕ) → is_name name ≡ true → is_comment (name ++ behind) ≡ false
named_is_none [] behind h = absurd cc
named_is_none (b ∷ bs) behind h =
    let parts = and_parts _ (not (begins_with_hash (b ∷ bs))) h in
    ap (λ t. t && list_all is_no_lf (b ∷ (bs ++ behind))) (hash (begins_with_hash (b ∷ bs)) parts.1)
  where
    hash : (t : Bool) → not t ≡ true → t ≡ false
    hash true e = absurd cc
    hash false e = refl
