-- The line of a call has no end of a line in it.
use Rattle.std.proofs.Common.{◌≡◌, ◌≢◌, ℕ, ◌<◌, ◌^◌, Bool, true, not, eqb, List, [], ◌∷◌, ◌++◌, map, take, codes, refl, arith}
use Rattle.std.specs.Fmt.{decimal}
use Rattle.std.specs.List.{list_all}
use Rattle.std.specs.Char.{is_ascii_digit}
use Rattle.std.proofs.lemmas.Fmt.{digits_decimal}
use Rattle.sip_lex.specs.Cut.{Lacks}
use Rattle.sip_lex.proofs.laws.Cuts.{Lacks-append, Lacks-pass}
use Rattle.sip_lex.proofs.laws.Numbers.{own}
use Rattle.call_journal.specs.declared.head.CallRecord.{CallRecord}
use Rattle.call_journal.specs.Head.{asked_text, caller_text, front_text, head_text, shown, shown_byte}

abbrev pub is_other : ℕ → Bool
is_other b = not (eqb b 10)

pub plain : (bs : List ℕ) → list_all is_other bs ≡ true → Lacks 10 bs
plain bs h = Lacks-pass is_other 10 bs refl h

shown_other : (b : ℕ) → shown_byte b ≢ 10
shown_other b e = grind arith

pub shown_lacks : (text : List ℕ) → Lacks 10 (map shown_byte text)
shown_lacks [] = tt
shown_lacks (b ∷ bs) = (shown_other b, shown_lacks bs)

pub decimal_lacks : (n : ℕ) → n < 2 ^ 64 → Lacks 10 (decimal n)
decimal_lacks n small = Lacks-pass is_ascii_digit 10 (decimal n) refl (digits_decimal own n small)

pub joined : (xs ys : List ℕ) → Lacks 10 xs → Lacks 10 ys → Lacks 10 (xs ++ ys)
joined xs ys h k = Lacks-append 10 xs ys h k

space : Lacks 10 (codes " ")
space = plain (codes " ") refl

front_lacks : (h : CallRecord) → h.time < 2 ^ 64 → h.number < 2 ^ 64 → Lacks 10 (front_text h)
front_lacks h time number =
    joined (codes "call ") (decimal h.time ++ (codes " " ++ (decimal h.number ++ codes " "))) (plain (codes "call ") refl)
    (joined (decimal h.time) (codes " " ++ (decimal h.number ++ codes " ")) (decimal_lacks h.time time)
    (joined (codes " ") (decimal h.number ++ codes " ") space
    (joined (decimal h.number) (codes " ") (decimal_lacks h.number number) space)))

asked_lacks : (h : CallRecord) → Lacks 10 (asked_text h)
asked_lacks h =
    joined (shown h.method.now) (codes " " ++ shown h.uri.now) (shown_lacks (take 256 h.method.now))
    (joined (codes " ") (shown h.uri.now) space (shown_lacks (take 256 h.uri.now)))

caller_lacks : (h : CallRecord) → Lacks 10 (caller_text h)
caller_lacks h =
    joined (codes " from ") (shown h.caller.now ++ (codes " call-id " ++ shown h.call_id.now)) (plain (codes " from ") refl)
    (joined (shown h.caller.now) (codes " call-id " ++ shown h.call_id.now) (shown_lacks (take 256 h.caller.now))
    (joined (codes " call-id ") (shown h.call_id.now) (plain (codes " call-id ") refl) (shown_lacks (take 256 h.call_id.now))))

pub head_lacks : (h : CallRecord) → h.time < 2 ^ 64 → h.number < 2 ^ 64 → Lacks 10 (head_text h)
head_lacks h time number =
    joined (front_text h) (asked_text h ++ caller_text h) (front_lacks h time number) (joined (asked_text h) (caller_text h) (asked_lacks h) (caller_lacks h))
