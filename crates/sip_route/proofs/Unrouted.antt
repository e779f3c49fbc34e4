-- Header lines of which none says how a request is routed, by how long their names are.
use Rattle.sip_route.proofs.Common.{◌≡◌, ◌∙◌, ℕ, Bool, false, List, [], ◌∷◌, length, refl, sym, ap, arith, false≢true, same_name, HeaderText, MessageText, ◌==◌, codes, eq-eqb, common_steps}
use Rattle.std.specs.Prelude.{◌≢◌, ◌||◌, if◌then◌else◌}
use Rattle.std.specs.List.{list_any}
use Rattle.sip_text.specs.Name.{full_name, values_of}
use Rattle.sip_route.specs.Loop.{field_lines, routing_fields}
use Rattle.sip_route.specs.inner.Loop.{may_route}

-- ---- names of other lengths

full_of : (text : List ℕ) → length text ≢ 1 → full_name text ≡ text
unfolding full_name
full_of text other = grind arith

other_length : (name text : List ℕ) → full_name name ≡ name → length text ≢ 1 → length text ≢ length name → same_name name text ≡ false
other_length name text full one other = grind (arith, common_steps, full_of)

route_full : full_name (codes "route") ≡ codes "route"
unfolding full_name
route_full = refl

require_full : full_name (codes "proxy-require") ≡ codes "proxy-require"
unfolding full_name
require_full = refl

authorization_full : full_name (codes "proxy-authorization") ≡ codes "proxy-authorization"
unfolding full_name
authorization_full = refl

differs : (m n : ℕ) → (m == n) ≡ false → m ≢ n
differs m n e same = false≢true (sym e ∙ eq-eqb m n same)

none_of : (a b : Bool) → (a || b) ≡ false → (a ≡ false) × (b ≡ false)
none_of a b e = grind arith

-- ---- a header line

pub record Unrouted (h : HeaderText) : Type 0 where
  pub route : same_name (codes "route") h.name ≡ false
  pub require : same_name (codes "proxy-require") h.name ≡ false
  pub authorization : same_name (codes "proxy-authorization") h.name ≡ false

unrouted_at : (h : HeaderText) (b : Bool) → (length h.name == 5) ≡ b
    → (if b then same_name (codes "route") h.name else (length h.name == 1 || length h.name == 13 || length h.name == 19)) ≡ false → Unrouted h
unrouted_at h b five e = grind (arith, common_steps, other_length, require_full, authorization_full, route_full)

unrouted : (h : HeaderText) → may_route h ≡ false → Unrouted h
unrouted h e = unrouted_at h (length h.name == 5) refl e

-- ---- the header lines of a message

pub record AreUnrouted (hs : List HeaderText) : Type 0 where
  pub route : values_of (codes "route") hs ≡ []
  pub require : values_of (codes "proxy-require") hs ≡ []
  pub authorization : values_of (codes "proxy-authorization") hs ≡ []

passed_over : (name : List ℕ) (h : HeaderText) (hs : List HeaderText) → same_name name h.name ≡ false → values_of name hs ≡ [] → values_of name (h ∷ hs) ≡ []
unfolding values_of
passed_over name h hs other rest = ap (λ (b : Bool). if b then h.value ∷ values_of name hs else values_of name hs) other ∙ rest

nothing : (name : List ℕ) → values_of name [] ≡ []
unfolding values_of
nothing name = refl

pub are_unrouted : (hs : List HeaderText) → list_any may_route hs ≡ false → AreUnrouted hs
are_unrouted [] e = record { route = nothing (codes "route"); require = nothing (codes "proxy-require"); authorization = nothing (codes "proxy-authorization") }
are_unrouted (h ∷ hs) e =
    let parts = none_of (may_route h) (list_any may_route hs) e in
    let first = unrouted h parts.0 in
    let rest = are_unrouted hs parts.1 in
    grind (arith, passed_over)

pub empty_fields : (m : MessageText) → list_any may_route m.headers ≡ false → codes "\n\n\n" ≡ field_lines (routing_fields m)
empty_fields m e = grind (arith, are_unrouted)
