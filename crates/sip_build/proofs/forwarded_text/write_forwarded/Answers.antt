use Rattle.sip_build.proofs.Common.{◌∙◌, ◌∷◌, ◌++◌, List, ap, sym, codes, option_copied, first_value, HeaderText, line, own_via, hops_name, forwarded, hops_lowered, record_route_lines, arith}
use Rattle.sip_build.proofs.HeaderRunTexts.{ok-as, request-as, room-under}
use Rattle.sip_build.proofs.forwarded_text.write_forwarded.Goals as goal

pub hops_left-requires : goal.hops_left-requires
hops_left-requires g c = grind arith

pub returns-clause-ok : goal.returns-clause-ok
returns-clause-ok g c =
    let recorded = option_copied c.args.recorded in
    let made = forwarded c.args.message.now c.args.target.now c.args.own c.args.branch.now recorded in
    let lines = c.lowered_runs-runs.ensures ∙ ap (λ (hs : List HeaderText). record_route_lines recorded ++ hops_lowered hs (first_value hops_name hs)) c.headers-headers.ensures in
    ok-as c.append_to_target.result _ _ _ _ c.append_to_target.ensures.ok (request-as c.method_of-method.result.now c.args.target.now c.args.own c.args.branch.now c.lowered_runs-runs.result c.body.result.now made (sym (c.method_of-method.ensures c.args.target.now)) (ap (λ (hs : List HeaderText). line (codes "Via") (own_via c.args.own c.args.branch.now) ∷ hs) lines) c.body.ensures)

pub returns-clause-room : goal.returns-clause-room
returns-clause-room g c =
    let recorded = option_copied c.args.recorded in
    let made = forwarded c.args.message.now c.args.target.now c.args.own c.args.branch.now recorded in
    let lines = c.lowered_runs-runs.ensures ∙ ap (λ (hs : List HeaderText). record_route_lines recorded ++ hops_lowered hs (first_value hops_name hs)) c.headers-headers.ensures in
    room-under c.append_to_target.result _ _ _ _ c.append_to_target.ensures.room (request-as c.method_of-method.result.now c.args.target.now c.args.own c.args.branch.now c.lowered_runs-runs.result c.body.result.now made (sym (c.method_of-method.ensures c.args.target.now)) (ap (λ (hs : List HeaderText). line (codes "Via") (own_via c.args.own c.args.branch.now) ∷ hs) lines) c.body.ensures)
