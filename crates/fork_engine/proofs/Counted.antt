-- What an interleaving has of its scripts: each event, as often as they.
use Rattle.std.proofs.Common.{◌≡◌, ℕ, ◌+◌, ◌<◌, ◌≤◌, ◌==◌, ◌⊎◌, inl, inr, Bool, true, false, cond, nat_le, All, List, [], ◌∷◌, ◌++◌, length, refl, ap, arith, ◌∙◌, sym, subst}
use Rattle.std.proofs.lemmas.Bool.Decides.{nat_tests}
use Rattle.fork_model.specs.Event.{Event}
use Rattle.fork_model.specs.Log.{Posted, events_of}
use Rattle.fork_engine.specs.Interleaving.{part_of, ArePartsFrom, IsInterleaving}
use Rattle.fork_engine.specs.Plain.{all_of, count_of}
use Rattle.fork_engine.proofs.Plainly.{all_head, all_tail, all_cons, all_nil}

all_append : {X : Type 0} → (P : X → Type 0) (xs ys : List X) → All P xs → All P ys → All P (xs ++ ys)
all_append P [] ys h k = k
all_append P (x ∷ xs) ys h k = all_cons P x (xs ++ ys) (all_head P x xs h) (all_append P xs ys (all_tail P x xs h) k)

all_left : {X : Type 0} → (P : X → Type 0) (xs ys : List X) → All P (xs ++ ys) → All P xs
all_left P [] ys h = all_nil P
all_left P (x ∷ xs) ys h = all_cons P x xs (all_head P x (xs ++ ys) h) (all_left P xs ys (all_tail P x (xs ++ ys) h))

all_right : {X : Type 0} → (P : X → Type 0) (xs ys : List X) → All P (xs ++ ys) → All P ys
all_right P [] ys h = h
all_right P (x ∷ xs) ys h = all_right P xs ys (all_tail P x (xs ++ ys) h)

-- ---- from the history to the scripts

module _ (P : Event → Type 0) where
  all_part : (tag : ℕ) (history : List Posted) → All P (events_of history) → All P (part_of tag history)
  all_part tag [] h = all_nil P
  all_part tag (post ∷ history) h = go (post.tag == tag) (all_part tag history (all_tail P post.event (events_of history) h))
    where
      go : (b : Bool) → All P (part_of tag history) → All P (cond b (post.event ∷ part_of tag history) (part_of tag history))
      go true rest = all_cons P post.event (part_of tag history) (all_head P post.event (events_of history) h) rest
      go false rest = rest

  pub all_scripts : (tag : ℕ) (scripts : List (List Event)) (history : List Posted) → ArePartsFrom tag scripts history → All P (events_of history) → All P (all_of scripts)
  all_scripts tag [] history parts h = all_nil P
  all_scripts tag (script ∷ scripts) history parts h =
      all_append P script (all_of scripts) (subst (All P) parts.0 (all_part tag history h)) (all_scripts (tag + 1) scripts history parts.1 h)

  -- ---- and back

  all_of_parts : (tag : ℕ) (scripts : List (List Event)) (history : List Posted) → ArePartsFrom tag scripts history → All P (all_of scripts)
      → (w : ℕ) → tag ≤ w → w < tag + length scripts → All P (part_of w history)
  all_of_parts tag [] history parts h w le lt = absurd (omega arith)
  all_of_parts tag (script ∷ scripts) history parts h w le lt =
      go (split tag w le) (λ more. all_of_parts (tag + 1) scripts history parts.1 (all_right P script (all_of scripts) h) w more (omega arith))
    where
      split : (tag w : ℕ) → tag ≤ w → (tag ≡ w) ⊎ (tag + 1 ≤ w)
      split tag w le = grind arith

      go : (tag ≡ w) ⊎ (tag + 1 ≤ w) → (tag + 1 ≤ w → All P (part_of w history)) → All P (part_of w history)
      go (inl e) later =
          let Q : ℕ → Type 0 = λ n. All P (part_of n history) in
          subst Q e (subst (All P) (sym parts.0) (all_left P script (all_of scripts) h))
      go (inr more) later = later more

  all_together : (n : ℕ) (history : List Posted) → All (λ (post : Posted). post.tag < n) history → ((w : ℕ) → w < n → All P (part_of w history)) → All P (events_of history)
  all_together n [] tags parts = all_nil P
  all_together n (post ∷ history) tags parts =
      let first : All P (part_of post.tag (post ∷ history)) = parts post.tag (all_head (λ (p : Posted). p.tag < n) post history tags) in
      let same : (post.tag == post.tag) ≡ true = grind (arith, nat_tests) in
      let Q : Bool → Type 0 = λ b. All P (cond b (post.event ∷ part_of post.tag history) (part_of post.tag history)) in
      let whole : All P (post.event ∷ part_of post.tag history) = subst Q same first in
      all_cons P post.event (events_of history) (all_head P post.event (part_of post.tag history) whole)
      (all_together n history (all_tail (λ (p : Posted). p.tag < n) post history tags) (λ w lt. rest w (post.tag == w) (parts w lt)))
    where
      rest : (w : ℕ) (b : Bool) → All P (cond b (post.event ∷ part_of w history) (part_of w history)) → All P (part_of w history)
      rest w true h = all_tail P post.event (part_of w history) h
      rest w false h = h

  pub all_history : (scripts : List (List Event)) (history : List Posted) → IsInterleaving scripts history → All P (all_of scripts) → All P (events_of history)
  all_history scripts history mixed h =
      all_together (length scripts) history mixed.0 (λ w lt. all_of_parts 0 scripts history mixed.1 h w (omega arith) (omega arith))

-- ---- how often

module _ (test : Event → Bool) where
  abbrev once : Event → ℕ
  once event = cond (test event) 1 0

  count_from : ℕ → List Posted → ℕ
  count_from tag [] = 0
  count_from tag (post ∷ history) = cond (nat_le tag post.tag) (once post.event) 0 + count_from tag history

  count_append : (xs ys : List Event) → count_of test (xs ++ ys) ≡ count_of test xs + count_of test ys
  count_append [] ys = omega arith
  count_append (x ∷ xs) ys = let h : count_of test (xs ++ ys) ≡ count_of test xs + count_of test ys = count_append xs ys in omega (arith, h)

  count_none : (tag : ℕ) (history : List Posted) → All (λ (post : Posted). post.tag < tag) history → count_from tag history ≡ 0
  unfolding count_from
  count_none tag [] tags = refl
  count_none tag (post ∷ history) tags =
      let less : post.tag < tag = all_head (λ (p : Posted). p.tag < tag) post history tags in
      let no : nat_le tag post.tag ≡ false = grind (arith, nat_tests) in
      let rest : count_from tag history ≡ 0 = count_none tag history (all_tail (λ (p : Posted). p.tag < tag) post history tags) in
      let here : cond (nat_le tag post.tag) (once post.event) 0 ≡ 0 = ap (λ b. cond b (once post.event) 0) no in
      omega (arith, rest, here)

  count_split : (tag : ℕ) (history : List Posted) → count_of test (part_of tag history) + count_from (tag + 1) history ≡ count_from tag history
  unfolding count_from
  count_split tag [] = refl
  count_split tag (post ∷ history) = go (post.tag == tag) (nat_le (tag + 1) post.tag) (nat_le tag post.tag) (count_split tag history) refl refl refl
    where
      go : (same above from : Bool) → count_of test (part_of tag history) + count_from (tag + 1) history ≡ count_from tag history → (post.tag == tag) ≡ same → nat_le (tag + 1) post.tag ≡ above → nat_le tag post.tag ≡ from
          → count_of test (cond same (post.event ∷ part_of tag history) (part_of tag history)) + (cond above (once post.event) 0 + count_from (tag + 1) history)
          ≡ cond from (once post.event) 0 + count_from tag history
      go true true from rest a b c = absurd (grind (arith, nat_tests))
      go true false true rest a b c = omega (arith, rest)
      go true false false rest a b c = absurd (grind (arith, nat_tests))
      go false true true rest a b c = omega (arith, rest)
      go false true false rest a b c = absurd (grind (arith, nat_tests))
      go false false true rest a b c = absurd (grind (arith, nat_tests))
      go false false false rest a b c = omega (arith, rest)

  count_parts : (tag : ℕ) (scripts : List (List Event)) (history : List Posted) → ArePartsFrom tag scripts history
      → All (λ (post : Posted). post.tag < tag + length scripts) history → count_of test (all_of scripts) ≡ count_from tag history
  count_parts tag [] history parts tags =
      let same : tag + 0 ≡ tag = omega arith in
      let Q : ℕ → Type 0 = λ n. All (λ (post : Posted). post.tag < n) history in
      sym (count_none tag history (subst Q same tags))
  count_parts tag (script ∷ scripts) history parts tags =
      let same : tag + length (script ∷ scripts) ≡ (tag + 1) + length scripts = omega arith in
      let Q : ℕ → Type 0 = λ n. All (λ (post : Posted). post.tag < n) history in
      let rest : count_of test (all_of scripts) ≡ count_from (tag + 1) history = count_parts (tag + 1) scripts history parts.1 (subst Q same tags) in
      let first : count_of test script ≡ count_of test (part_of tag history) = ap (count_of test) (sym parts.0) in
      let whole : count_of test (script ++ all_of scripts) ≡ count_of test script + count_of test (all_of scripts) = count_append script (all_of scripts) in
      let cut : count_of test (part_of tag history) + count_from (tag + 1) history ≡ count_from tag history = count_split tag history in
      omega (arith, rest, first, whole, cut)

  count_all : (history : List Posted) → count_from 0 history ≡ count_of test (events_of history)
  unfolding count_from
  count_all [] = refl
  count_all (post ∷ history) =
      let yes : nat_le 0 post.tag ≡ true = grind (arith, nat_tests) in
      let rest : count_from 0 history ≡ count_of test (events_of history) = count_all history in
      ap (λ b. cond b (once post.event) 0 + count_from 0 history) yes ∙ ap (λ (n : ℕ). once post.event + n) rest

  pub count_mixed : (scripts : List (List Event)) (history : List Posted) → IsInterleaving scripts history → count_of test (all_of scripts) ≡ count_of test (events_of history)
  count_mixed scripts history mixed =
      let same : length scripts ≡ 0 + length scripts = omega arith in
      let Q : ℕ → Type 0 = λ n. All (λ (post : Posted). post.tag < n) history in
      count_parts 0 scripts history mixed.1 (subst Q same mixed.0) ∙ count_all history
