use Rattle.sip_lex.proofs.Common.{arith, common_steps}
use Rattle.std.proofs.lemmas.List.Sums.{prefix_len-le-length}
use Rattle.sip_lex.specs.Bytes.{is_token_byte}
use Rattle.sip_lex.proofs.TokenFront.{front_passes, the_rest, the_token}
use Rattle.sip_lex.proofs.token.cut_token.Goals.{in_default-via-then-rest-lt1, in_default-via-in-len1-up+then-first-mark+else-not-is_empty, in_default-via-in-len1-up+else-first-mark}
use Rattle.sip_lex.proofs.token.cut_token.Goals as goal

pub split_at-requires : goal.split_at-requires
split_at-requires c = grind (arith, common_steps, prefix_len-le-length is_token_byte c.args.text.now)

pub returns-in-len1-up-clause-token : goal.returns-in-len1-up-clause-token
returns-in-len1-up-clause-token c = grind (arith, common_steps, front_passes c.args.text.now)

pub returns-in_default-clause-none : goal.returns-in_default-clause-none
returns-in_default-clause-none c token behind is other whole =
    let text = c.args.text.now in
    let front = the_token text token behind c.args.mark is other whole in
    let rest = the_rest text token behind c.args.mark is other whole in
    elim c.in_default.branch [
      | in_default-via-then-rest-lt1 w ↦ grind (arith, common_steps, front, rest)
      | in_default-via-in-len1-up+then-first-mark+else-not-is_empty w ↦ grind (arith, common_steps, front, rest)
      | in_default-via-in-len1-up+else-first-mark w ↦ grind (arith, common_steps, front, rest)
    ]
