-- What a table says of its groups it says of its rows without extras.
use Rattle.fork_context.proofs.Common.{◌≡◌, ℕ, zero, suc, List, ◌∷◌, length, map, Option, Some, None, refl, ap, ◌∙◌, not, ◌||◌, option_map, slice_get-map, length-map, Bool, State, End, Ended, Row, is_idle, is_ended, is_row, parent_ended, may_start}
use Rattle.fork_context.proofs.Common.{plain_state, shown, plain_row, common_steps, arith}
use Rattle.std.specs.List.{list_all}
use Rattle.std.proofs.lemmas.List.Folds.{list_all-map}
use Rattle.fork_context.proofs.PlainContacts.{list_any-map}
use Rattle.fork_model.specs.Waiting.{parent_row, line_from, same_group, goes_before}

plain_test : (test : State → Bool) → ((a b : End) → test (Ended a) ≡ test (Ended b)) → (state : State) → test (plain_state (shown state)) ≡ test state
plain_test test same state = grind arith

pub parent_row-plain_row : (rows : List Row) (p : Option ℕ) → parent_row (map plain_row rows) p ≡ option_map plain_row (parent_row rows p)
parent_row-plain_row rows p = grind (arith, common_steps, slice_get-map)

pub line-plain_row : (steps : ℕ) (rows : List Row) (o : Option Row) → line_from steps (map plain_row rows) (option_map plain_row o) ≡ map plain_row (line_from steps rows o)
line-plain_row steps rows None = refl
line-plain_row zero rows (Some row) = refl
line-plain_row (suc k) rows (Some row) =
    ap (λ (rest : List Row). plain_row row ∷ rest)
    (ap (line_from k (map plain_row rows)) (parent_row-plain_row rows row.parent) ∙ line-plain_row k rows (parent_row rows row.parent))

pub goes_before-plain_row : (rows : List Row) (a b : Row) → goes_before (map plain_row rows) (plain_row a) (plain_row b) ≡ goes_before rows a b
goes_before-plain_row rows a b = grind (arith, common_steps, length-map rows plain_row, line-plain_row (length rows) rows (Some a), list_any-map)

members-plain_row : (rows members : List Row) (row : Row)
    → list_all (λ member. not (same_group member (plain_row row)) || is_idle member.state) (map plain_row members)
    ≡ list_all (λ member. not (same_group member row) || is_idle member.state) members
members-plain_row rows members row = grind (arith, common_steps, list_all-map, plain_test)

before-plain_row : (rows others : List Row) (row : Row)
    → list_all (λ other. not (goes_before (map plain_row rows) other (plain_row row)) || is_ended other.state) (map plain_row others)
    ≡ list_all (λ other. not (goes_before rows other row) || is_ended other.state) others
before-plain_row rows others row = grind (arith, common_steps, list_all-map, goes_before-plain_row, plain_test)

is_row_ended-plain_row : (o : Option Row) → is_row is_ended (option_map plain_row o) ≡ is_row is_ended o
is_row_ended-plain_row o = grind arith

parent_ended-plain_row : (rows : List Row) (p : Option ℕ) → parent_ended (map plain_row rows) p ≡ parent_ended rows p
parent_ended-plain_row rows p = grind (arith, common_steps, slice_get-map, is_row_ended-plain_row)

pub may_start-plain_row : (rows : List Row) (row : Row) → may_start (map plain_row rows) (plain_row row) ≡ may_start rows row
may_start-plain_row rows row = grind (arith, common_steps, plain_test, members-plain_row, parent_ended-plain_row, before-plain_row)
