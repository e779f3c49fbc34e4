use Rattle.sip_build.proofs.Common.{append_assoc, arith, sym, codes, ended, Request, header_text, start_line, request_uri, line, own_via, tail_text, common_steps}
use Rattle.sip_build.proofs.Grown.{on_err, on_ok}
use Rattle.sip_build.proofs.HeaderRunTexts.{behind-full, request_text, room-as}
use Rattle.sip_build.proofs.Pieces.{joined, three}
use Rattle.sip_build.proofs.to_target.append_parts.Goals as goal

pub returns-clause-ok : goal.returns-clause-ok
returns-clause-ok g c =
    let first = ended (start_line (Request c.args.method.now (request_uri c.args.target.now))) in
    let via = header_text (line (codes "Via") (own_via c.args.own c.args.branch.now)) in
    let tail = tail_text c.args.runs.now c.args.body.now in
    let whole = request_text c.args.method.now c.args.target.now c.args.own c.args.branch.now c.args.runs.now c.args.body.now in
    on_ok c.append_tail.result (λ end. three c.args.out.now.items c.append_request_line.new.out.items c.append_own_via.new.out.items c.append_tail.new.out.items first via tail _ c.in_ok-append_request_line.ensures.ok c.in_ok-append_own_via.ensures.ok end (sym whole)) c.append_tail.ensures.ok

pub returns-clause-room : goal.returns-clause-room
returns-clause-room g c =
    let first = ended (start_line (Request c.args.method.now (request_uri c.args.target.now))) in
    let via = header_text (line (codes "Via") (own_via c.args.own c.args.branch.now)) in
    let tail = tail_text c.args.runs.now c.args.body.now in
    let whole = request_text c.args.method.now c.args.target.now c.args.own c.args.branch.now c.args.runs.now c.args.body.now in
    grind (arith, common_steps, append_assoc first via tail, joined, room-as, on_err, behind-full)
