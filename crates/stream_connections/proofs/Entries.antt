-- Entries by numbers, to which one is added that was not there, or of which one is taken away.
use Rattle.std.proofs.Common.{◌≡◌, ◌≢◌, ◌∙◌, ℕ, ◌+◌, Bool, true, false, cond, List, [], ◌∷◌, length, Option, Some, None, unwrap_or, refl, ap, sym, arith}
use Rattle.std.specs.BTreeMap.{insert_entry, is_at}
use Rattle.std.specs.Cmp.{nat_cmp_is}
use Rattle.std.specs.List.{count_by}
use Rattle.std.specs.Map.{lookup, remove_entry, values_of}
use Rattle.std.specs.Option.{option_map}
use Rattle.std.specs.Ordering.{is_eq, match_ordering, nat_cmp}
use Rattle.std.specs.declared.cmp.Ordering.{Ordering}
use Rattle.std.specs.declared.cmp.Ordering.TheVariants.{Less, Equal, Greater}
use Rattle.std.proofs.lemmas.Map.Lookups.{exact_unsigned}
use Rattle.std.proofs.lemmas.List.Sums.{sum_by-cons}
use Rattle.std.proofs.lemmas.Map.Entries.{sum_by-remove_entry}

pub same_key : (k : ℕ) → is_eq (nat_cmp k k) ≡ true
same_key k = ap is_eq (sym (nat_cmp_is k k Equal refl))

pub other_key : (k q : ℕ) → q ≢ k → is_eq (nat_cmp k q) ≡ false
other_key k q apart = go (nat_cmp k q) refl
  where
    go : (o : Ordering) → nat_cmp k q ≡ o → is_eq o ≡ false
    go Less e = refl
    go Equal e = absurd (apart (sym (exact_unsigned k q e)))
    go Greater e = refl

turned : (a b c : ℕ) → c ≡ a + b → c ≡ b + a
turned a b c is = omega (arith, is)

added_behind : (l x i s r one : ℕ) → l ≡ x + i → i ≡ s + one → r ≡ x + s → l ≡ r + one
added_behind l x i s r one first later last = omega (arith, first, later, last)

true_false : true ≡ false → ⊥
true_false same = cc

module _ {X : Type 0} where
  abbrev pub at : ℕ → List (ℕ × X) → Option X
  at q es = lookup (is_at (nat_cmp q)) es

  first_here : (q k : ℕ) (v : X) (es : List (ℕ × X)) → is_eq (nat_cmp q k) ≡ true → at q ((k, v) ∷ es) ≡ Some v
  first_here q k v es e = ap (λ (b : Bool). cond b (Some v) (at q es)) e

  first_past : (q k : ℕ) (v : X) (es : List (ℕ × X)) → is_eq (nat_cmp q k) ≡ false → at q ((k, v) ∷ es) ≡ at q es
  first_past q k v es e = ap (λ (b : Bool). cond b (Some v) (at q es)) e

  pub insert_here : (k : ℕ) (v : X) (es : List (ℕ × X)) → at k (insert_entry nat_cmp es k v) ≡ Some v
  insert_here k v [] = first_here k k v [] (same_key k)
  insert_here k v (e ∷ es) = go (nat_cmp k e.0) refl (insert_here k v es)
    where
      go : (o : Ordering) → nat_cmp k e.0 ≡ o → at k (insert_entry nat_cmp es k v) ≡ Some v
          → at k (match_ordering o ((k, v) ∷ e ∷ es) ((e.0, v) ∷ es) (e ∷ insert_entry nat_cmp es k v)) ≡ Some v
      go Less is later = first_here k k v (e ∷ es) (same_key k)
      go Equal is later = first_here k e.0 v es (ap is_eq is)
      go Greater is later = first_past k e.0 e.1 (insert_entry nat_cmp es k v) (ap is_eq is) ∙ later

  -- behind the same first entry the same is found
  same_behind : (q : ℕ) (e : ℕ × X) (xs ys : List (ℕ × X)) → at q xs ≡ at q ys → at q (e ∷ xs) ≡ at q (e ∷ ys)
  same_behind q e xs ys same = ap (λ (o : Option X). cond (is_eq (nat_cmp q e.0)) (Some e.1) o) same

  pub insert_else : (k q : ℕ) (v : X) (es : List (ℕ × X)) → q ≢ k → at q (insert_entry nat_cmp es k v) ≡ at q es
  insert_else k q v [] apart = first_past q k v [] (other_key q k (λ e. apart (sym e)))
  insert_else k q v (e ∷ es) apart = go (nat_cmp k e.0) refl (insert_else k q v es apart)
    where
      differs : (key : ℕ) → k ≡ key → is_eq (nat_cmp q key) ≡ false
      differs key same = other_key q key (λ here. apart (sym (same ∙ here)))

      go : (o : Ordering) → nat_cmp k e.0 ≡ o → at q (insert_entry nat_cmp es k v) ≡ at q es
          → at q (match_ordering o ((k, v) ∷ e ∷ es) ((e.0, v) ∷ es) (e ∷ insert_entry nat_cmp es k v)) ≡ at q (e ∷ es)
      go Less is later = first_past q k v (e ∷ es) (differs k refl)
      go Equal is later =
          first_past q e.0 v es (differs e.0 (exact_unsigned k e.0 is)) ∙ sym (first_past q e.0 e.1 es (differs e.0 (exact_unsigned k e.0 is)))
      go Greater is later = same_behind q e (insert_entry nat_cmp es k v) es later

  some_none : (x : X) → Some x ≡ None → ⊥
  some_none x same = cc

  -- what is not there at first is not at the others
  absent_first : (k : ℕ) (e : ℕ × X) (es : List (ℕ × X)) → at k (e ∷ es) ≡ None → is_eq (nat_cmp k e.0) ≡ false
  absent_first k e es none = go (is_eq (nat_cmp k e.0)) refl
    where
      go : (b : Bool) → is_eq (nat_cmp k e.0) ≡ b → b ≡ false
      go true is = absurd (some_none e.1 (sym (first_here k e.0 e.1 es is) ∙ none))
      go false is = refl

  absent_rest : (k : ℕ) (e : ℕ × X) (es : List (ℕ × X)) → at k (e ∷ es) ≡ None → at k es ≡ None
  absent_rest k e es none = sym (first_past k e.0 e.1 es (absent_first k e es none)) ∙ none

  not_equal : (k : ℕ) (e : ℕ × X) (es : List (ℕ × X)) → at k (e ∷ es) ≡ None → nat_cmp k e.0 ≡ Equal → ⊥
  not_equal k e es none is = true_false (sym (ap is_eq is) ∙ absent_first k e es none)

  -- taken away again, the entries are what they were
  pub remove_inserted : (k : ℕ) (v : X) (es : List (ℕ × X)) → at k es ≡ None → remove_entry (is_at (nat_cmp k)) (insert_entry nat_cmp es k v) ≡ es
  remove_inserted k v [] none = ap (λ (b : Bool). cond b [] ((k, v) ∷ [])) (same_key k)
  remove_inserted k v (e ∷ es) none = go (nat_cmp k e.0) refl (remove_inserted k v es (absent_rest k e es none))
    where
      go : (o : Ordering) → nat_cmp k e.0 ≡ o → remove_entry (is_at (nat_cmp k)) (insert_entry nat_cmp es k v) ≡ es
          → remove_entry (is_at (nat_cmp k)) (match_ordering o ((k, v) ∷ e ∷ es) ((e.0, v) ∷ es) (e ∷ insert_entry nat_cmp es k v)) ≡ e ∷ es
      go Less is later = ap (λ (b : Bool). cond b (e ∷ es) ((k, v) ∷ remove_entry (is_at (nat_cmp k)) (e ∷ es))) (same_key k)
      go Equal is later = absurd (not_equal k e es none is)
      go Greater is later =
          ap (λ (b : Bool). cond b (insert_entry nat_cmp es k v) (e ∷ remove_entry (is_at (nat_cmp k)) (insert_entry nat_cmp es k v))) (ap is_eq is)
          ∙ ap (λ (xs : List (ℕ × X)). e ∷ xs) later

  pub length_inserted : (k : ℕ) (v : X) (es : List (ℕ × X)) → at k es ≡ None → length (insert_entry nat_cmp es k v) ≡ length es + 1
  length_inserted k v [] none = omega arith
  length_inserted k v (e ∷ es) none = go (nat_cmp k e.0) refl (length_inserted k v es (absent_rest k e es none))
    where
      go : (o : Ordering) → nat_cmp k e.0 ≡ o → length (insert_entry nat_cmp es k v) ≡ length es + 1
          → length (match_ordering o ((k, v) ∷ e ∷ es) ((e.0, v) ∷ es) (e ∷ insert_entry nat_cmp es k v)) ≡ length (e ∷ es) + 1
      go Less is later = omega arith
      go Equal is later = absurd (not_equal k e es none is)
      go Greater is later = omega (arith, later)

  counted_first : (p : X → Bool) (e : ℕ × X) (es : List (ℕ × X)) → count_by p (values_of (e ∷ es)) ≡ cond (p e.1) 1 0 + count_by p (values_of es)
  counted_first p e es = sum_by-cons (λ x. cond (p x) 1 0) e.1 (values_of es)

  -- one more counts where it does
  pub counted_inserted : (p : X → Bool) (k : ℕ) (v : X) (es : List (ℕ × X)) → at k es ≡ None
      → count_by p (values_of (insert_entry nat_cmp es k v)) ≡ count_by p (values_of es) + cond (p v) 1 0
  counted_inserted p k v [] none = turned (cond (p v) 1 0) 0 _ (counted_first p (k, v) [])
  counted_inserted p k v (e ∷ es) none = go (nat_cmp k e.0) refl (counted_inserted p k v es (absent_rest k e es none))
    where
      go : (o : Ordering) → nat_cmp k e.0 ≡ o → count_by p (values_of (insert_entry nat_cmp es k v)) ≡ count_by p (values_of es) + cond (p v) 1 0
          → count_by p (values_of (match_ordering o ((k, v) ∷ e ∷ es) ((e.0, v) ∷ es) (e ∷ insert_entry nat_cmp es k v))) ≡ count_by p (values_of (e ∷ es)) + cond (p v) 1 0
      go Less is later = turned (cond (p v) 1 0) (count_by p (values_of (e ∷ es))) _ (counted_first p (k, v) (e ∷ es))
      go Equal is later = absurd (not_equal k e es none is)
      go Greater is later =
          added_behind _ (cond (p e.1) 1 0) (count_by p (values_of (insert_entry nat_cmp es k v))) (count_by p (values_of es)) _ (cond (p v) 1 0)
          (counted_first p e (insert_entry nat_cmp es k v)) later (counted_first p e es)

  -- one less where it did
  pub counted_removed : (p : X → Bool) (k : ℕ) (v : X) (es : List (ℕ × X)) → at k es ≡ Some v
      → count_by p (values_of (remove_entry (is_at (nat_cmp k)) es)) + cond (p v) 1 0 ≡ count_by p (values_of es)
  counted_removed p k v es there =
      ap (λ (o : Option X). count_by p (values_of (remove_entry (is_at (nat_cmp k)) es)) + unwrap_or (option_map (λ x. cond (p x) 1 0) o) 0) (sym there)
      ∙ sum_by-remove_entry (λ x. cond (p x) 1 0) (is_at (nat_cmp k)) es
