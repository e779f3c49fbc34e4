-- The items of a value, by its pieces.
use Rattle.sip_uri.proofs.Common.{◌≡◌, ℕ, true, List, [], ◌∷◌, map, Option, Some, refl, sym, ap, ◌∙◌, ◌≢◌, ◌&&◌, OnSome, onto_first, AllByRecursion, and_from, and_parts, QuotesAndAngles, ShelterState, Plain, trim, pieces_from, pieces_outside, LacksOutside}
use Rattle.sip_uri.proofs.Common.{end_place, is_closed, place_after, pieces_outside-cut, cut_outside_again, joined, joined-behind, are_items, items_behind, AreItems, ltb, length, common_steps, arith}
use Rattle.std.specs.List.{flat_map}
use Rattle.sip_lex.specs.Outside.{pieces_outside_behind}
use Rattle.sip_lex.proofs.laws.OutsideSplits.{pieces_from_join, pieces_outside_lack}
use Rattle.sip_lex.proofs.laws.Shelters.{plain_is}
use Rattle.sip_lex.proofs.laws.Splits.{marked}
use Rattle.sip_uri.proofs.laws.Hosts.{full, full-ltb}

abbrev Cut : Type 0
Cut = List ℕ × Option (List ℕ)

-- each quote and bracket that opens is closed
abbrev Closed : List ℕ → Type 0
Closed piece = end_place QuotesAndAngles Plain piece ≡ Plain

-- ---- the pieces of a closed text are closed

-- the first piece from this place on, the others from plain text on
abbrev EndFrom : ShelterState → List (List ℕ) → Type 0
EndFrom place [] = place ≡ Plain
EndFrom place (part ∷ parts) = (end_place QuotesAndAngles place part ≡ Plain) × AllByRecursion Closed parts

all_closed : (parts : List (List ℕ)) → EndFrom Plain parts → AllByRecursion Closed parts
all_closed parts h = grind arith

onto_ends : (place : ShelterState) (b : ℕ) (parts : List (List ℕ)) → EndFrom (place_after QuotesAndAngles place b) parts → EndFrom place (onto_first b parts)
onto_ends place b parts h = grind arith

pieces_end : (place : ShelterState) (bs : List ℕ) → end_place QuotesAndAngles place bs ≡ Plain → EndFrom place (pieces_from QuotesAndAngles 44 place bs)
pieces_end place [] h = (h, tt)
pieces_end place (b ∷ bs) h =
    let later = place_after QuotesAndAngles place b in
    grind (arith, onto_ends place b (pieces_from QuotesAndAngles 44 later bs) (pieces_end later bs h))

-- ---- and the text of closed pieces is closed

joined_closed : (parts : List (List ℕ)) → AllByRecursion Closed parts → Closed (flat_map (marked 44) parts)
joined_closed [] h = refl
joined_closed (part ∷ parts) h = grind (arith, common_steps, joined_closed parts h.1)

-- ---- the pieces are found again

on_some : (o : Option (List ℕ)) (P : Type 0) → P → OnSome o P
on_some o P h = grind arith

abbrev of_cut : Cut → List (List ℕ)
of_cut c = c.0 ∷ pieces_outside_behind QuotesAndAngles 44 c.1

pieces_again : (parts : List (List ℕ)) → AllByRecursion (λ piece. LacksOutside QuotesAndAngles 44 Plain piece) parts → AllByRecursion Closed parts → pieces_outside_behind QuotesAndAngles 44 (joined 44 parts) ≡ parts
pieces_again [] apart closed = refl
pieces_again (part ∷ parts) apart closed = grind (arith, pieces_outside-cut, joined-behind, cut_outside_again, pieces_again parts apart.1 closed.1)

value_joined : (value : List ℕ) (parts : List (List ℕ)) → 44 ∷ value ≡ flat_map (marked 44) parts → pieces_outside_behind QuotesAndAngles 44 (Some value) ≡ pieces_outside_behind QuotesAndAngles 44 (joined 44 parts)
value_joined value parts e = grind arith

-- ---- items that are there

items_full : (items : List (List ℕ)) → are_items items ≡ true → AllByRecursion (λ item. item ≢ []) items
items_full [] h = tt
items_full (item ∷ items) h =
    let both = and_parts (ltb 0 (length item)) (are_items items) h in
    (full item both.0, items_full items both.1)

full_items : (items : List (List ℕ)) → AllByRecursion (λ item. item ≢ []) items → are_items items ≡ true
full_items [] h = refl
full_items (item ∷ items) h = and_from (ltb 0 (length item)) (are_items items) (full-ltb item h.0) (full_items items h.1)

-- ---- both ways

pub items_are : (value : List ℕ) → is_closed QuotesAndAngles value ≡ true → are_items (items_behind (Some value)) ≡ true → AreItems value (items_behind (Some value))
items_are value closed items =
    let pieces = pieces_outside QuotesAndAngles 44 value in
    record {
      pieces = pieces;
      spelled = sym (pieces_from_join QuotesAndAngles 44 Plain value);
      apart = pieces_outside_lack QuotesAndAngles 44 value;
      closed = all_closed pieces (pieces_end Plain value (plain_is (end_place QuotesAndAngles Plain value) closed));
      trimmed = refl;
      full = items_full (items_behind (Some value)) items;
    }

pub items_again : (value : List ℕ) (items : List (List ℕ)) → AreItems value items → items_behind (Some value) ≡ items
items_again value items h = ap (map trim) (value_joined value h.pieces h.spelled ∙ pieces_again h.pieces h.apart h.closed) ∙ sym h.trimmed

pub items_pass : (value : List ℕ) (items : List (List ℕ)) → AreItems value items → (is_closed QuotesAndAngles value && are_items (items_behind (Some value))) ≡ true
items_pass value items h = grind (arith, items_again value items h, full_items items h.full, joined_closed)
