-- Parameters appended one by one, and what a growing text begins with.
use Rattle.sip_uri.proofs.Common.{◌≡◌, ℕ, ◌+◌, ◌≤◌, List, [], ◌∷◌, ◌++◌, length, take, Option, refl, arith, cut, is, pieces, pieces_behind, pieces-cut, params_text, without_methods, common_steps}

abbrev Cut : Type 0
Cut = List ℕ × Option (List ℕ)

abbrev pub kept_text : List (List ℕ) → List ℕ
kept_text params = params_text (without_methods params)

-- one step of the loop
pub next_text : (old mid all text param : List ℕ) (after : Option (List ℕ)) → (param, after) ≡ cut (is 59) text → mid ≡ old ++ kept_text (param ∷ []) → old ++ kept_text (pieces 59 text) ≡ all → mid ++ kept_text (pieces_behind 59 after) ≡ all
next_text old mid all text param after e added h = grind (arith, common_steps, pieces-cut)

-- and what it adds is no longer than what is still to come
pub next_fits : (old all text param : List ℕ) (after : Option (List ℕ)) → (param, after) ≡ cut (is 59) text → old ++ kept_text (pieces 59 text) ≡ all → length old + length (kept_text (param ∷ [])) ≤ length all
next_fits old all text param after e h =
    let mid = old ++ kept_text (param ∷ []) in
    grind (arith, common_steps, next_text old mid all text param after e refl h)

-- a text that grew still begins so
pub begins_still : (n : ℕ) (old mid new more : List ℕ) → length old ≡ n → take n mid ≡ old → new ≡ mid ++ more → take n new ≡ old
begins_still n old mid new more len h e = grind (arith, common_steps)
