use Rattle.sip_branch.proofs.Common.{sym, ap, arith, drop, drop_all, take, take_all, with_key, common_steps}
use Rattle.std.proofs.lemmas.List.{length-drop}
use Rattle.sip_branch.proofs.branch.split_parts.Goals as goal

pub returns-then-text-lt32 : goal.returns-then-text-lt32
returns-then-text-lt32 c =
    let text = c.args.text.now in
    let short = c.if-text-lt32.true in
    sym (ap (with_key (take 32 text)) (drop_all 32 text (omega (arith, short))))

pub returns : goal.returns
returns c =
    let text = c.args.text.now in
    let rest = drop 32 text in
    grind (arith, common_steps, length-drop 32 text, take_all)
