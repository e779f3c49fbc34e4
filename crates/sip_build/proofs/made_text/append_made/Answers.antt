use Rattle.sip_build.proofs.Common.{ended, start_line, start_of, tail_text}
use Rattle.sip_build.proofs.Grown.{of_err}
use Rattle.sip_build.proofs.HeaderRunTexts.{spelling_made, two-full}
use Rattle.sip_build.proofs.made_text.append_made.Goals as goal

pub returns-in_err-reserve-clause-full : goal.returns-in_err-reserve-clause-full
returns-in_err-reserve-clause-full g c =
    of_err _ (two-full _ _ _ _ _ (ended (start_line (start_of c.args.front))) (tail_text c.args.runs.now c.args.body.now) _ c.front_len.ensures c.tail_len-tail.ensures c.saturating_add.ensures c.in_err-reserve.ensures.full (spelling_made c.args.front c.args.runs.now c.args.body.now))
