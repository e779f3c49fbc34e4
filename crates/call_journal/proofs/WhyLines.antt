-- The words that say why an answer went up end no line.
use Rattle.std.proofs.Common.{ℕ, ◌-◌, ◌<◌, ◌≤◌, ◌^◌, suc, Bool, true, false, List, [], ◌∷◌, ◌++◌, Option, None, Some, codes, length, take, slice_get, refl, arith}
use Rattle.std.specs.Prelude.{◌==◌, nat_le, if◌then◌else◌}
use Rattle.std.specs.Fmt.{decimal}
use Rattle.std.specs.List.{cons_option}
use Rattle.sip_lex.specs.Cut.{Lacks}
use Rattle.fork_model.specs.Table.{Row, Rules, Table}
use Rattle.fork_model.specs.Rank.{is_preferred}
use Rattle.fork_model.specs.Choice.{Choice, Best, Only503, NoAnswer408, status_at}
use Rattle.call_journal.specs.Head.{shown}
use Rattle.call_journal.specs.Why.{answer_text, arrival_words, class_words, is_assumed, others_text, part_words, ranked_alike, reason, same_class, several_text, source_text, source_words, stored_status, stored_statuses, target_at, why_text}
use Rattle.call_journal.proofs.HeadLines.{plain, shown_lacks, decimal_lacks, joined}

either : (v : Bool) (xs ys : List ℕ) → Lacks 10 xs → Lacks 10 ys → Lacks 10 (if v then xs else ys)
either true xs ys h k = h
either false xs ys h k = k

class_lacks : (s : ℕ) → Lacks 10 (class_words s)
class_lacks s =
    either (nat_le 600 s) (codes "6xx before all others") (codes "lowest class") (plain (codes "6xx before all others") refl) (plain (codes "lowest class") refl)

part_lacks : (s : ℕ) → Lacks 10 (part_words s)
part_lacks s =
    either (nat_le 500 s) (codes "before 503 among 5xx") (codes "preferred among 4xx") (plain (codes "before 503 among 5xx") refl) (plain (codes "preferred among 4xx") refl)

arrival_lacks : (rules : Rules) (s : ℕ) → Lacks 10 (arrival_words rules s)
arrival_lacks rules s =
    either (nat_le 600 s) (codes "earliest among 6xx")
    (if nat_le 500 s then (if s == 503 then codes "earliest among 503" else codes "earliest among 5xx other than 503")
    else (if nat_le 400 s then (if is_preferred rules s then codes "earliest among preferred 4xx" else codes "earliest among 4xx")
    else codes "earliest among 3xx"))
    (plain (codes "earliest among 6xx") refl)
    (either (nat_le 500 s) (if s == 503 then codes "earliest among 503" else codes "earliest among 5xx other than 503")
    (if nat_le 400 s then (if is_preferred rules s then codes "earliest among preferred 4xx" else codes "earliest among 4xx") else codes "earliest among 3xx")
    (either (s == 503) (codes "earliest among 503") (codes "earliest among 5xx other than 503") (plain (codes "earliest among 503") refl) (plain (codes "earliest among 5xx other than 503") refl))
    (either (nat_le 400 s) (if is_preferred rules s then codes "earliest among preferred 4xx" else codes "earliest among 4xx") (codes "earliest among 3xx")
    (either (is_preferred rules s) (codes "earliest among preferred 4xx") (codes "earliest among 4xx") (plain (codes "earliest among preferred 4xx") refl) (plain (codes "earliest among 4xx") refl))
    (plain (codes "earliest among 3xx") refl)))

reason_lacks : (rules : Rules) (statuses : List ℕ) (s : ℕ) → Lacks 10 (reason rules statuses s)
reason_lacks rules statuses s =
    either (nat_le (length statuses) 1) (codes "the only answer")
    (if nat_le (same_class statuses s) 1 then class_words s else (if nat_le (ranked_alike rules statuses s) 1 then part_words s else arrival_words rules s))
    (plain (codes "the only answer") refl)
    (either (nat_le (same_class statuses s) 1) (class_words s) (if nat_le (ranked_alike rules statuses s) 1 then part_words s else arrival_words rules s)
    (class_lacks s)
    (either (nat_le (ranked_alike rules statuses s) 1) (part_words s) (arrival_words rules s) (part_lacks s) (arrival_lacks rules s)))

source_lacks : (rows : List Row) (n : ℕ) → Lacks 10 (source_text rows n)
source_lacks rows n =
    joined (source_words (is_assumed (slice_get rows n))) (shown (target_at rows n))
    (either (is_assumed (slice_get rows n)) (codes " assumed for sip:") (codes " from sip:") (plain (codes " assumed for sip:") refl) (plain (codes " from sip:") refl))
    (shown_lacks (take 256 (target_at rows n)))

several_lacks : (n : ℕ) → n < 2 ^ 64 → Lacks 10 (several_text n)
several_lacks n small =
    joined (codes ", ") (decimal n ++ codes " others stored") (plain (codes ", ") refl)
    (joined (decimal n) (codes " others stored") (decimal_lacks n small) (plain (codes " others stored") refl))

others_lacks : (n : ℕ) → n < 2 ^ 64 → Lacks 10 (others_text n)
others_lacks n small =
    either (nat_le n 1) [] (if n == 2 then codes ", 1 other stored" else several_text (n - 1)) tt
    (either (n == 2) (codes ", 1 other stored") (several_text (n - 1)) (plain (codes ", 1 other stored") refl) (several_lacks (n - 1) (omega arith)))

one_more : (o : Option ℕ) (xs : List ℕ) (n : ℕ) → length xs ≤ n → length (cons_option o xs) ≤ suc n
one_more None xs n few = omega arith
one_more (Some x) xs n few = omega arith

stored_few : (rows : List Row) → length (stored_statuses rows) ≤ length rows
stored_few [] = omega arith
stored_few (row ∷ rows) = one_more (stored_status row) (stored_statuses rows) (length rows) (stored_few rows)

answer_lacks : (t : Table) (n : ℕ) → length t.rows ≤ 256 → Lacks 10 (answer_text t n)
answer_lacks t n few =
    let stored = length (stored_statuses t.rows) in
    let why = reason t.rules (stored_statuses t.rows) (status_at (slice_get t.rows n)) in
    let count : stored < 2 ^ 64 = omega (arith, stored_few t.rows) in
    joined (source_text t.rows n) (codes ", " ++ (why ++ others_text stored)) (source_lacks t.rows n)
    (joined (codes ", ") (why ++ others_text stored) (plain (codes ", ") refl)
    (joined why (others_text stored) (reason_lacks t.rules (stored_statuses t.rows) (status_at (slice_get t.rows n))) (others_lacks stored count)))

pub why_lacks : (t : Table) (choice : Choice) → length t.rows ≤ 256 → Lacks 10 (why_text t choice)
why_lacks t (Best n) few = answer_lacks t n few
why_lacks t (Only503 n) few = joined (codes " in place of 503") (answer_text t n) (plain (codes " in place of 503") refl) (answer_lacks t n few)
why_lacks t NoAnswer408 few = plain (codes ", no answer stored") refl
