-- The initial targets all wait; settling starts their first group, and that is the opening table.
use Rattle.fork_context.proofs.Common.{◌≡◌, ℕ, suc, ◌<◌, Bool, true, false, List, [], ◌∷◌, map, Option, Some, refl, ap, arith, ◌∙◌, sym, inl, inr, slice_get, ◌==◌, nat_lt, option_map, list_any, slice_get-map, Kind, Rules, Row, Idle, is_idle}
use Rattle.fork_context.proofs.Common.{is_ended, in_earlier_group, parent_ended, may_start, settled, settled_row, Target, opening, idled, waiting_rows, waiting_table, OneGroup, may_start_facts, eqb-true, common_steps, rules}
use Rattle.std.proofs.Math.Bool.{and-false}
use Rattle.fork_context.proofs.Replies.{differ}
use Rattle.fork_model.specs.Waiting.{line_of}
use Rattle.fork_model.specs.History.{opening_rows}
use Rattle.fork_model.proofs.laws.OpeningSeries.{opening_row, HasFirst, has_first}
use Rattle.fork_model.proofs.laws.WaitingLemmas.{MayStart, may_start_of, is_earlier, goes_by_group, has_rows, one_group}

found_in : (o : Option Row) (row : Row) → option_map idled o ≡ Some row → (r : Row) × (o ≡ Some r) × (idled r ≡ row)
found_in o row e = grind arith

waits_from : (targets : List Target) (m : ℕ) (row : Row) → slice_get (waiting_rows targets) m ≡ Some row
    → (r : Row) × (slice_get (opening_rows targets) m ≡ Some r) × (idled r ≡ row)
waits_from targets m row is = found_in (slice_get (opening_rows targets) m) row (sym (slice_get-map idled (opening_rows targets) m) ∙ is)

waits_at : (targets : List Target) (m : ℕ) (row : Row) → slice_get (opening_rows targets) m ≡ Some row → slice_get (waiting_rows targets) m ≡ Some (idled row)
waits_at targets m row is = slice_get-map idled (opening_rows targets) m ∙ ap (option_map idled) is

not_less : (n : ℕ) → nat_lt n 0 ≡ false
not_less n = grind arith

-- no row goes before one of group 0
none_earlier : (line : List Row) (a : Row) → a.group ≡ 0 → list_any (λ above. in_earlier_group above a) line ≡ false
none_earlier [] a e = refl
none_earlier (x ∷ line) a e = grind (arith, common_steps, not_less, and-false, none_earlier line a e)

is_later : (n : ℕ) → (n == 0) ≡ false → 0 < n
is_later n e = grind arith

first_may : (targets : List Target) (m : ℕ) (row : Row) → slice_get (opening_rows targets) m ≡ Some row → row.group ≡ 0
    → may_start (waiting_rows targets) (idled row) ≡ true
first_may targets m row is zeroth = may_start_of (waiting_rows targets) (idled row) (record {
  idle = refl;
  members = λ k member at same. let r = waits_from targets k member at in sym (ap (λ (x : Row). is_idle x.state) r.2);
  parent = ap (parent_ended (waiting_rows targets)) (opening_row targets m row is).parent;
  before = λ k other at goes. absurd (differ goes (none_earlier (line_of (waiting_rows targets) other) (idled row) zeroth));
})

later_waits : (targets : List Target) (m : ℕ) (row : Row) → slice_get (opening_rows targets) m ≡ Some row → 0 < row.group
    → may_start (waiting_rows targets) (idled row) ≡ false
later_waits targets m row is later = go (has_first targets) (may_start (waiting_rows targets) (idled row)) refl
  where
    waits : (head : Row) (rest : List Row) → opening_rows targets ≡ head ∷ rest → head.group ≡ 0 → MayStart (waiting_rows targets) (idled row) → ⊥
    waits head rest made first may =
        let at : slice_get (opening_rows targets) 0 ≡ Some head = ap (λ (rows : List Row). slice_get rows 0) made in
        let earlier : in_earlier_group (idled head) (idled row) ≡ true =
        is_earlier (idled head) (idled row) ((opening_row targets 0 head at).parent ∙ sym (opening_row targets m row is).parent) (omega arith) in
        let len = has_rows (waiting_rows targets) m (idled row) (waits_at targets m row is) in
        let ended : is_ended Idle ≡ true =
        may.before 0 (idled head) (waits_at targets 0 head at) (goes_by_group (waiting_rows targets) len.0 (idled head) (idled row) len.1 earlier) in
        cc

    go : HasFirst (opening_rows targets) → (b : Bool) → may_start (waiting_rows targets) (idled row) ≡ b → may_start (waiting_rows targets) (idled row) ≡ false
    go h false e = e
    go (inl none) true e = absurd (let there : slice_get {X = Row} [] m ≡ Some row = ap (λ (rows : List Row). slice_get rows m) (sym none) ∙ is in cc)
    go (inr h) true e = absurd (waits h.0 h.1 h.2 h.3 (may_start_facts (waiting_rows targets) (idled row) e))

map_back : (f : Row → Row) (rows : List Row) → ((k : ℕ) (row : Row) → slice_get rows k ≡ Some row → f (idled row) ≡ row) → map f (map idled rows) ≡ rows
map_back f [] h = refl
map_back f (row ∷ rows) h =
    let rest : map f (map idled rows) ≡ rows = map_back f rows (λ k r is. h (suc k) r is) in
    let here : f (idled row) ≡ row = h 0 row refl in
    (λ i. here i ∷ rest i)

settled_back : (kind : Kind) (rules : Rules) (targets : List Target) (k : ℕ) (row : Row) → slice_get (opening_rows targets) k ≡ Some row
    → settled_row (waiting_table kind rules targets) (idled row) ≡ row
settled_back kind rules targets k row is = grind (arith, common_steps, opening_row targets k row is, first_may, eqb-true, later_waits, is_later)

-- settling starts the first group, and that is the opening table
pub opening_settled : (kind : Kind) (rules : Rules) (targets : List Target) → settled (waiting_table kind rules targets) ≡ opening kind rules targets
opening_settled kind rules targets = grind (arith, common_steps, map_back (settled_row (waiting_table kind rules targets)) (opening_rows targets) (settled_back kind rules targets), settled_back)

-- and it is one group
pub opening_one_group : (targets : List Target) → OneGroup (waiting_rows targets)
opening_one_group targets i j a b is also f g = grind (arith, common_steps, waits_from, opening_row, one_group)
