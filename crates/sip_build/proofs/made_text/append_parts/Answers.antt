use Rattle.sip_build.proofs.Common.{sym, ended, start_line, start_of, tail_text, common_steps, arith}
use Rattle.sip_build.proofs.Grown.{on_ok}
use Rattle.sip_build.proofs.HeaderRunTexts.{spelling_made}
use Rattle.sip_build.proofs.Pieces.{joined}
use Rattle.sip_build.proofs.made_text.append_parts.Goals as goal

pub returns-clause-ok : goal.returns-clause-ok
returns-clause-ok g c =
    on_ok c.append_tail.result (λ end. joined c.args.out.now.items c.append_front.new.out.items c.append_tail.new.out.items (ended (start_line (start_of c.args.front))) (tail_text c.args.runs.now c.args.body.now) _ c.in_ok-append_front.ensures.ok end (sym (spelling_made c.args.front c.args.runs.now c.args.body.now))) c.append_tail.ensures.ok

pub returns-clause-full : goal.returns-clause-full
returns-clause-full g c = grind (arith, common_steps, spelling_made)
