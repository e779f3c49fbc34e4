use Rattle.sip_lex.proofs.Common.{◌≡◌, ◌<◌, ◌^◌, take, list_all, number, true}
use Rattle.std.specs.Char.{is_ascii_digit}
use Rattle.sip_lex.proofs.number.number_of.Given as goal

abbrev pub invariant-loop-digit : goal.invariant-loop-digit
invariant-loop-digit l =
    (l.n ≡ number (take l.digit-index l.digits)) × (l.n < 2 ^ 64) × (list_all is_ascii_digit (take l.digit-index l.digits) ≡ true)
