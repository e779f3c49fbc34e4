-- What is spelled in a line is read, and what is read is spelled so: the parts of a line.
use Rattle.fork_listing.proofs.Common.{◌≡◌, ℕ, ◌<◌, ◌≤◌, Bool, true, false, cond, eqb, List, ◌∷◌, ◌++◌, Option, Some, None, refl, sym, ap, subst, ◌∙◌, arith, append-nil, bytes_eq, codes, option_and_then, option_map, decimal, bytes_eq-Decides, is}
use Rattle.fork_listing.proofs.Common.{Lacks, plain_number_within, found_then, before_read, before_found, Version, End, Stored, Taken, Silent, Never, version_text, number_text, how_text, end_text, most_arrival, most_listed, before, read_status}
use Rattle.fork_listing.proofs.Common.{read_parent, read_version, read_count, read_end, IsStatus, IsHow, IsEnd, IsNumberOrNone, number_read, number_spelled, decimal_lacks, common_steps}
use Rattle.std.proofs.Common.{◌^◌}
use Rattle.fork_tree.specs.declared.row.End.TheVariants as tree
use Rattle.std.specs.Char.{is_ascii_digit}
use Rattle.sip_lex.specs.Cut.{cut, behind}
use Rattle.sip_lex.proofs.laws.Cuts.{cut_joins}
use Rattle.fork_rank.proofs.laws.Field.{number_from_read, number_from_found}
use Rattle.std.proofs.lemmas.Option.{cond_some}
use Rattle.fork_listing.specs.Reading.{stored_as, read_stored, read_end_cut}

pub status_read : (n : ℕ) → IsStatus n → read_status (decimal n) ≡ Some n
status_read n h = number_from_read 300 699 n h.0 (omega arith) (omega arith)

pub status_found : (digits : List ℕ) (n : ℕ) → read_status digits ≡ Some n → (digits ≡ decimal n) × IsStatus n
status_found digits n e = let h = number_from_found 300 699 digits n (omega arith) e in (h.0, (h.1, omega (arith, h.2)))

pub count_read : (version : Version) (n : ℕ) → (1 ≤ n) × (n ≤ most_listed version) → n < 2 ^ 64 → read_count version (decimal n) ≡ Some n
count_read version n h small = number_from_read 1 (most_listed version) n h.0 h.1 small

pub most_listed_small : (version : Version) → most_listed version ≤ 256
most_listed_small version = grind arith

pub count_found : (version : Version) (digits : List ℕ) (n : ℕ) → read_count version digits ≡ Some n → (digits ≡ decimal n) × ((1 ≤ n) × (n ≤ most_listed version))
count_found version digits n e = grind (arith, number_from_found)

pub parent_read : (parent : Option ℕ) → IsNumberOrNone parent → read_parent (number_text parent) ≡ Some parent
parent_read None h = refl
parent_read (Some n) h = grind (arith, number_read)

pub parent_found : (text : List ℕ) (parent : Option ℕ) → read_parent text ≡ Some parent → (text ≡ number_text parent) × IsNumberOrNone parent
parent_found text parent e = grind (arith, common_steps, number_spelled)

pub parent_lacks : (mark : ℕ) (parent : Option ℕ) → eqb 45 mark ≡ false → is_ascii_digit mark ≡ false → IsNumberOrNone parent → Lacks mark (number_text parent)
parent_lacks mark parent dash no_digit h = grind (arith, decimal_lacks)

pub version_found : (text : List ℕ) (version : Version) → read_version text ≡ Some version → text ≡ version_text version
version_found text version e = grind (arith, bytes_eq-Decides)

how_read : (status arrival : ℕ) (received : Bool) → IsHow received status → stored_as status arrival (how_text received) ≡ Some (Stored status arrival received)
how_read status arrival received h = grind arith

-- the end, stored with this status and at this arrival
record IsStoredAs (status arrival : ℕ) (how : List ℕ) (end : End) : Type 0 where
  received : Bool
  same : end ≡ Stored status arrival received
  spelled : how ≡ how_text received
  right : IsHow received status

how_found : (status arrival : ℕ) (how : List ℕ) (end : End) → stored_as status arrival how ≡ Some end → IsStoredAs status arrival how end
how_found status arrival how end e = grind (arith, bytes_eq-Decides)

pub end_read : (end : End) → IsEnd end → read_end (end_text end) ≡ Some end
end_read (Stored status arrival received) h =
    let how : List ℕ = how_text received in
    ap (option_and_then (λ s. option_and_then (λ a. stored_as s.0 a.0 a.1) (before (plain_number_within most_arrival) s.1)))
    (before_read read_status (decimal status) (decimal arrival ++ 32 ∷ how) status (decimal_lacks 32 status refl (omega arith)) (status_read status h.0))
    ∙ ap (option_and_then (λ a. stored_as status a.0 a.1))
    (before_read (plain_number_within most_arrival) (decimal arrival) how arrival (decimal_lacks 32 arrival refl (omega arith)) (number_read most_arrival arrival h.1 (omega arith)))
    ∙ how_read status arrival received h.2
end_read (Taken arrival) h = ap (option_map Taken) (number_read most_arrival arrival h (omega arith))
end_read (Silent arrival) h = ap (option_map Silent) (number_read most_arrival arrival h (omega arith))
end_read Never h = refl
end_read (tree.Accepted arrival) h = absurd h

abbrev IsEndText : List ℕ → End → Type 0
IsEndText text end = (text ≡ end_text end) × IsEnd end

stored_found : (rest : List ℕ) (end : End) → read_stored rest ≡ Some end → IsEndText (codes "stored" ++ 32 ∷ rest) end
stored_found rest end e =
    found_then (λ s. option_and_then (λ a. stored_as s.0 a.0 a.1) (before (plain_number_within most_arrival) s.1)) (before read_status rest) end (IsEndText (codes "stored" ++ 32 ∷ rest) end)
    (λ s at is. found_then (λ a. stored_as s.0 a.0 a.1) (before (plain_number_within most_arrival) s.1) end (IsEndText (codes "stored" ++ 32 ∷ rest) end)
    (λ a here by.
    let f = before_found read_status rest s at in
    let g = before_found (plain_number_within most_arrival) s.1 a here in
    let status = status_found f.0 s.0 f.2 in
    let arrival = number_spelled most_arrival g.0 a.0 (omega arith) g.2 in
    let how = how_found s.0 a.0 a.1 end by in
    let inner : s.1 ≡ decimal a.0 ++ 32 ∷ how_text how.received = g.1 ∙ ap (λ (ds : List ℕ). ds ++ 32 ∷ a.1) arrival.spelled ∙ ap (λ (t : List ℕ). decimal a.0 ++ 32 ∷ t) how.spelled in
    let whole : rest ≡ decimal s.0 ++ 32 ∷ (decimal a.0 ++ 32 ∷ how_text how.received) = f.1 ∙ ap (λ (ds : List ℕ). ds ++ 32 ∷ s.1) status.0 ∙ ap (λ (t : List ℕ). decimal s.0 ++ 32 ∷ t) inner in
    let P : End → Type 0 = IsEndText (codes "stored" ++ 32 ∷ rest) in
    subst P (sym how.same) (ap (λ (t : List ℕ). codes "stored " ++ t) whole, (status.1, arrival.within, how.right)))
    is)
    e

taken_found : (rest : List ℕ) (end : End) → option_map Taken (plain_number_within most_arrival rest) ≡ Some end → IsEndText (codes "taken" ++ 32 ∷ rest) end
taken_found rest end e = grind (arith, number_spelled)

silent_found : (rest : List ℕ) (end : End) → option_map Silent (plain_number_within most_arrival rest) ≡ Some end → IsEndText (codes "silent" ++ 32 ∷ rest) end
silent_found rest end e = grind (arith, number_spelled)

-- one of the words, by a test
choose : (b : Bool) (x y : Option End) (end : End) (P : Type 0) → (b ≡ true → x ≡ Some end → P) → (y ≡ Some end → P) → cond b x y ≡ Some end → P
choose b x y end P same others e = grind arith

pub end_found : (text : List ℕ) (end : End) → read_end text ≡ Some end → IsEndText text end
end_found text end e = parts (cut (is 32) text) (cut_joins 32 text) e
  where
    parts : (c : List ℕ × Option (List ℕ)) → text ≡ c.0 ++ behind 32 c.1 → read_end_cut c ≡ Some end → IsEndText text end
    parts (word, None) whole e =
        let g = cond_some (bytes_eq word (codes "never")) Never end e in
        let same : text ≡ codes "never" = whole ∙ append-nil word ∙ (bytes_eq-Decides word (codes "never")).0 g.0 in
        let P : End → Type 0 = IsEndText text in
        subst P g.1 (same, tt)
    parts (word, Some rest) whole e =
        choose (bytes_eq word (codes "stored")) _ _ end (IsEndText text end)
        (λ t is. told (codes "stored") ((bytes_eq-Decides word (codes "stored")).0 t) (stored_found rest end is))
        (choose (bytes_eq word (codes "taken")) _ _ end (IsEndText text end)
        (λ t is. told (codes "taken") ((bytes_eq-Decides word (codes "taken")).0 t) (taken_found rest end is))
        (choose (bytes_eq word (codes "silent")) _ None end (IsEndText text end)
        (λ t is. told (codes "silent") ((bytes_eq-Decides word (codes "silent")).0 t) (silent_found rest end is))
        (λ none. absurd cc)))
        e
      where
        told : (name : List ℕ) → word ≡ name → IsEndText (name ++ 32 ∷ rest) end → IsEndText text end
        told name same h = (whole ∙ ap (λ (w : List ℕ). w ++ 32 ∷ rest) same ∙ h.0, h.1)
