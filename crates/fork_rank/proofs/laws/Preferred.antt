-- A list of preferred statuses is read exactly where it is spelled.
use Rattle.fork_rank.proofs.TextCommon.{◌≡◌, ℕ, ◌<◌, ◌≤◌, Bool, true, false, cond, List, [], ◌∷◌, ◌++◌, Option, Some, None, refl, sym, ap, subst, ◌∙◌, arith, append_assoc, bytes_eq, codes, option_and_then, slice_split, flat_map, join_with_byte, decimal}
use Rattle.fork_rank.proofs.TextCommon.{cond_some, same_Some, bytes_eq-Decides, is, Lacks, plain_number_within, cut_again, number_read, number_spelled, decimal_lacks, numbers_onto, preferred_if, read_preferred, All, IfSome, IsPreferredList}
use Rattle.fork_rank.proofs.TextCommon.{is_preferred_list}
use Rattle.std.proofs.Common.{map, append-nil}
use Rattle.std.proofs.lemmas.Bool.{eqb-false}
use Rattle.std.proofs.lemmas.List.Elements.{All-head, All-tail}
use Rattle.std.proofs.lemmas.List.Splits.{join_with_byte-slice_split}
use Rattle.sip_lex.proofs.laws.Cuts.{Lacks-append}
use Rattle.fork_rank.specs.PreferredText.{list_text}
use Rattle.fork_rank.proofs.PreferredLists.{preferred_passes, preferred_is}
use Rattle.fork_rank.proofs.laws.Pieces.{pieces-cut}
use Rattle.fork_rank.proofs.laws.Field.{found_then, no_dash}

-- a list of statuses
abbrev AreSmall : List ℕ → Type 0
AreSmall ns = All (λ n. (400 ≤ n) × (n < 500)) ns

split_list : (n : ℕ) (ns : List ℕ) → AreSmall (n ∷ ns) → slice_split (is 44) (list_text (n ∷ ns)) ≡ map decimal (n ∷ ns)
split_list n [] small =
    let h = All-head (λ m. (400 ≤ m) × (m < 500)) n [] small in
    pieces-cut 44 (list_text (n ∷ [])) (decimal n, None) (sym (cut_again 44 (decimal n) None (decimal_lacks 44 n refl (omega arith))))
split_list n (m ∷ ns) small =
    let h = All-head (λ k. (400 ≤ k) × (k < 500)) n (m ∷ ns) small in
    pieces-cut 44 (list_text (n ∷ m ∷ ns)) (decimal n, Some (list_text (m ∷ ns))) (sym (cut_again 44 (decimal n) (Some (list_text (m ∷ ns))) (decimal_lacks 44 n refl (omega arith))))
    ∙ ap (λ (ps : List (List ℕ)). decimal n ∷ ps) (split_list m ns (All-tail (λ k. (400 ≤ k) × (k < 500)) n (m ∷ ns) small))

numbers_read : (before ns : List ℕ) → AreSmall ns → numbers_onto before (map decimal ns) ≡ Some (before ++ ns)
numbers_read before [] small = ap Some (sym (append-nil before))
numbers_read before (n ∷ ns) small =
    let h = All-head (λ k. (400 ≤ k) × (k < 500)) n ns small in
    ap (option_and_then (λ m. numbers_onto (before ++ m ∷ []) (map decimal ns))) (number_read 499 n (omega arith) (omega arith))
    ∙ numbers_read (before ++ n ∷ []) ns (All-tail (λ k. (400 ≤ k) × (k < 500)) n ns small)
    ∙ ap Some (append_assoc before (n ∷ []) ns)

pub preferred_read : (statuses : List ℕ) → IsPreferredList statuses → read_preferred (list_text statuses) ≡ Some statuses
preferred_read [] h = refl
preferred_read (n ∷ ns) h =
    let first = All-head (λ k. (400 ≤ k) × (k < 500)) n ns h.client_errors in
    let read : numbers_onto [] (slice_split (is 44) (list_text (n ∷ ns))) ≡ Some (n ∷ ns) = ap (numbers_onto []) (split_list n ns h.client_errors) ∙ numbers_read [] (n ∷ ns) h.client_errors in
    grind (arith, preferred_passes (n ∷ ns) h, no_dash)

-- the numbers between the commas are spelled there, one a piece
record Pieces (before : List ℕ) (pieces : List (List ℕ)) (out : List ℕ) : Type 0 where
  more : List ℕ
  all : out ≡ before ++ more
  spelled : pieces ≡ map decimal more

pieces_found : (before : List ℕ) (pieces : List (List ℕ)) (out : List ℕ) → numbers_onto before pieces ≡ Some out → Pieces before pieces out
pieces_found before [] out e = record { more = []; all = sym (same_Some _ _ e) ∙ sym (append-nil before); spelled = refl }
pieces_found before (piece ∷ pieces) out e =
    found_then (λ n. numbers_onto (before ++ n ∷ []) pieces) (plain_number_within 499 piece) out (Pieces before (piece ∷ pieces) out)
    (λ n at is.
    let h = number_spelled 499 piece n (omega arith) at in
    let rest = pieces_found (before ++ n ∷ []) pieces out is in
    record {
      more = n ∷ rest.more;
      all = rest.all ∙ append_assoc before (n ∷ []) rest.more;
      spelled = ap (λ (p : List ℕ). p ∷ pieces) h.spelled ∙ ap (λ (ps : List (List ℕ)). decimal n ∷ ps) rest.spelled;
    })
    e

joined : (n : ℕ) (ns : List ℕ) → join_with_byte 44 (map decimal (n ∷ ns)) ≡ list_text (n ∷ ns)
joined n [] = sym (append-nil (decimal n))
joined n (m ∷ ns) = ap (λ (text : List ℕ). decimal n ++ 44 ∷ text) (joined m ns)

list_found : (text out : List ℕ) → numbers_onto [] (slice_split (is 44) text) ≡ Some out → text ≡ list_text out
list_found text out e = grind (arith, pieces_found [] (slice_split (is 44) text) out e, join_with_byte-slice_split 44 text, joined)

pub preferred_found : (text statuses : List ℕ) → read_preferred text ≡ Some statuses → (text ≡ list_text statuses) × IsPreferredList statuses
preferred_found text statuses e = by_dash (bytes_eq text (codes "-")) (bytes_eq-Decides text (codes "-")).0 e
  where
    by_dash : (b : Bool) → (b ≡ true → text ≡ codes "-") → cond b (Some []) (option_and_then preferred_if (numbers_onto [] (slice_split (is 44) text))) ≡ Some statuses → (text ≡ list_text statuses) × IsPreferredList statuses
    by_dash true dash e =
        let P : List ℕ → Type 0 = λ out. (text ≡ list_text out) × IsPreferredList out in
        subst P (same_Some _ _ e) (dash refl, preferred_is [] refl)
    by_dash false dash e =
        found_then preferred_if (numbers_onto [] (slice_split (is 44) text)) statuses ((text ≡ list_text statuses) × IsPreferredList statuses)
        (λ out at is.
        let g = cond_some (is_preferred_list out) out statuses is in
        let P : List ℕ → Type 0 = λ xs. (text ≡ list_text xs) × IsPreferredList xs in
        subst P g.1 (list_found text out at, preferred_is out g.0))
        e

-- no LF stands in it
pub list_lacks : (statuses : List ℕ) → AreSmall statuses → Lacks 10 (list_text statuses)
list_lacks [] small = (eqb-false 45 10 refl, tt)
list_lacks (n ∷ ns) small =
    let h = All-head (λ k. (400 ≤ k) × (k < 500)) n ns small in
    Lacks-append 10 (decimal n) (flat_map (λ m. 44 ∷ decimal m) ns) (decimal_lacks 10 n refl (omega arith))
    (more ns (All-tail (λ k. (400 ≤ k) × (k < 500)) n ns small))
  where
    more : (ms : List ℕ) → AreSmall ms → Lacks 10 (flat_map (λ m. 44 ∷ decimal m) ms)
    more [] small = tt
    more (m ∷ ms) small =
        let h = All-head (λ k. (400 ≤ k) × (k < 500)) m ms small in
        (eqb-false 44 10 refl, Lacks-append 10 (decimal m) (flat_map (λ k. 44 ∷ decimal k) ms) (decimal_lacks 10 m refl (omega arith)) (more ms (All-tail (λ k. (400 ≤ k) × (k < 500)) m ms small)))

-- so what is read of such a text is that list, and a list is read of such texts alone
pub reads_only : (r : Option (List ℕ)) (text : List ℕ) → r ≡ read_preferred text → (statuses : List ℕ) → IsPreferredList statuses → text ≡ list_text statuses → r ≡ Some statuses
reads_only r text exact statuses is spelled = exact ∙ ap read_preferred spelled ∙ preferred_read statuses is

pub reads_found : (r : Option (List ℕ)) (text : List ℕ) → r ≡ read_preferred text → IfSome r (λ statuses. text ≡ list_text statuses)
reads_found r text exact = grind (arith, preferred_found)
