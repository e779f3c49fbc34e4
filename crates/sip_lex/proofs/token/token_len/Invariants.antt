use Rattle.sip_lex.proofs.Common.{◌≡◌, ◌+◌, drop}
use Rattle.std.specs.List.{prefix_len}
use Rattle.sip_lex.specs.Bytes.{is_token_byte}
use Rattle.sip_lex.proofs.token.token_len.Given as goal

abbrev pub invariant-loop-i : goal.invariant-loop-i
invariant-loop-i l = prefix_len is_token_byte l.text ≡ l.i + prefix_len is_token_byte (drop l.i l.text)
