-- The Via values of a response that goes upstream.
use Rattle.sip_builders.proofs.Common.{◌≡◌, ℕ, true, List, [], ◌∷◌, drop, map, Option, Some, refl, codes, option_map, flat_map, Quotes, trim, pieces_outside_behind, pieces_outside-cut, first_of, HeaderText, MessageText, replaced, has_second, values_in}
use Rattle.sip_builders.proofs.Common.{via_values, others_of, upward_headers, upward_of, without_top, arith}
use Rattle.fork_model.specs.Table as table
use Rattle.sip_text.specs.Name.{full_name, values_of}
use Rattle.sip_builders.proofs.UpwardGood.{challenges-same, contacts-same, values-dropped}
use Rattle.sip_builders.proofs.TrimmedVias.{values-trimmed}

abbrev Values : Type 0
Values = List (List ℕ)

abbrev first-changed : List ℕ → Values → Values
first-changed v [] = []
first-changed v (x ∷ xs) = v ∷ xs

-- the first line of the name has another value
values-changed : (name v : List ℕ) (hs : List HeaderText) → values_of name (replaced name (Some v) hs) ≡ first-changed v (values_of name hs)
unfolding values_of
values-changed name v [] = refl
values-changed name v (h ∷ hs) = grind (arith, values-changed name v hs)

-- the values of the first line but its first one, and of the others
abbrev Cut : Type 0
Cut = List ℕ × Option (List ℕ)

lost : (c : Cut) (hs : List HeaderText) (v : List ℕ) (vs : Values) → values_of (codes "via") hs ≡ v ∷ vs → values_in v ≡ trim c.0 ∷ map trim (pieces_outside_behind Quotes 44 c.1) → flat_map values_in (values_of (codes "via") (replaced (codes "via") (option_map trim c.1) hs)) ≡ drop 1 (flat_map values_in (v ∷ vs))
lost c hs v vs e k = grind (arith, values-dropped, values-changed, values-trimmed)

top-lost : (hs : List HeaderText) (vs : Values) → values_of (codes "via") hs ≡ vs → has_second (flat_map values_in vs) ≡ true → flat_map values_in (values_of (codes "via") (replaced (codes "via") (others_of (first_of vs)) hs)) ≡ drop 1 (flat_map values_in vs)
top-lost hs vs e second = grind (arith, lost, pieces_outside-cut)

line-same : (hs : List HeaderText) (kept : Option Values) (cs : List table.Challenge) → values_of (codes "via") (upward_headers hs kept cs) ≡ values_of (codes "via") (without_top hs)
unfolding full_name
line-same hs kept cs = grind (arith, challenges-same, contacts-same)

pub vias-upward : (m : MessageText) (kept : Option Values) (cs : List table.Challenge) → has_second (via_values m) ≡ true → via_values (upward_of m kept cs) ≡ drop 1 (via_values m)
vias-upward m kept cs second = grind (arith, line-same, top-lost)
