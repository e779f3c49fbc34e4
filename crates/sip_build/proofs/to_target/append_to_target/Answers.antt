use Rattle.sip_build.proofs.Common.{arith, codes, ended, Request, header_text, start_line, request_uri, line, own_via, tail_text, common_steps}
use Rattle.sip_build.proofs.HeaderRunTexts.{request_text, tail-fits}
use Rattle.sip_build.proofs.to_target.append_to_target.Goals as goal

pub returns-in_err-ask_for_lines-clause-room : goal.returns-in_err-ask_for_lines-clause-room
returns-in_err-ask_for_lines-clause-room g c =
    let first = ended (start_line (Request c.args.method.now (request_uri c.args.target.now))) in
    let via = header_text (line (codes "Via") (own_via c.args.own c.args.branch.now)) in
    let tail = tail_text c.args.runs.now c.args.body.now in
    let whole = request_text c.args.method.now c.args.target.now c.args.own c.args.branch.now c.args.runs.now c.args.body.now in
    grind (arith, common_steps, tail-fits, whole)
