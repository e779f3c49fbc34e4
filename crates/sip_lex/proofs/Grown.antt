-- What has no room while parts are appended has none for all of them.
use Rattle.sip_lex.proofs.Common.{◌≡◌, ℕ, ◌+◌, ◌<◌, ◌≤◌, List, ◌++◌, length, take, get_or, arith, flat_map, common_steps}
use Rattle.std.proofs.Common.{OnErr, Result}
use Rattle.std.proofs.lemmas.List.Folds.{length-flat_map-take}

pub of_err : {T E P : Type 0} (r : Result T E) → P → OnErr r P
of_err r p = grind arith

-- out has grown by the texts of the first i parts; that of part i has no room
pub none_for_part : {X : Type 0} (text : X → List ℕ) (old out : List ℕ) (xs : List X) (i : ℕ) (d : X) (old_len len old_room room : ℕ) → i < length xs → old_len ≡ length old → len ≡ length out → out ≡ old ++ flat_map text (take i xs) → old_room ≤ room → room < len + length (text (get_or xs i d)) → old_room < old_len + length (flat_map text xs)
none_for_part text old out xs i d old_len len old_room room below before now grown kept full = grind (arith, common_steps, length-flat_map-take)
