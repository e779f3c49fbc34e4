-- Which rows stand below which, and when a group that waits may start (RFC 3261 section 16.6: the groups of
-- one target set in series, those of a redirected branch before the next group goes on).
use Rattle.std.specs.Prelude.{ℕ, zero, suc, ◌==◌, ◌&&◌, ◌||◌, nat_lt, nat_eq, Bool, true, not, List, [], ◌∷◌, length, Option, Some, None, slice_get}
use Rattle.std.specs.Option.{option_eq}
use Rattle.std.specs.List.{list_any, list_all}
use Rattle.fork_model.specs.Table.{Row, is_idle, is_ended, is_row}

abbrev pub parent_row : List Row → Option ℕ → Option Row
parent_row rows None = None
parent_row rows (Some n) = slice_get rows n

-- a row and those above it, the nearest first; the number bounds the steps
abbrev pub line_from : ℕ → List Row → Option Row → List Row
line_from steps rows None = []
line_from zero rows (Some row) = []
line_from (suc steps) rows (Some row) = row ∷ line_from steps rows (parent_row rows row.parent)

-- no line has more rows than the table
abbrev pub line_of : List Row → Row → List Row
line_of rows row = line_from (length rows) rows (Some row)

abbrev pub rows_above : List Row → Row → List Row
rows_above rows row = line_from (length rows) rows (parent_row rows row.parent)

-- 0 for an initial row, of another its parent's and one
abbrev pub depth_of : List Row → Row → ℕ
depth_of rows row = length (rows_above rows row)

abbrev pub same_group : Row → Row → Bool
same_group a b = option_eq nat_eq a.parent b.parent && a.group == b.group

abbrev pub in_earlier_group : Row → Row → Bool
in_earlier_group a b = option_eq nat_eq a.parent b.parent && nat_lt a.group b.group

-- the row stands in an earlier group than the other under the same parent, or below such a row
abbrev pub goes_before : List Row → Row → Row → Bool
goes_before rows row other = list_any (λ above. in_earlier_group above other) (line_of rows row)

abbrev pub parent_ended : List Row → Option ℕ → Bool
parent_ended rows None = true
parent_ended rows (Some n) = is_row is_ended (slice_get rows n)

-- the group of the row may start: its rows wait, its parent has ended, and so has all that goes before it
abbrev pub may_start : List Row → Row → Bool
may_start rows row =
    is_idle row.state
    && list_all (λ member. not (same_group member row) || is_idle member.state) rows
    && parent_ended rows row.parent
    && list_all (λ other. not (goes_before rows other row) || is_ended other.state) rows
