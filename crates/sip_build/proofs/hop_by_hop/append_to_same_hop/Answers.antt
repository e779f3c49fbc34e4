use Rattle.sip_build.proofs.Common.{[], refl, along_to, view_lines}
use Rattle.sip_build.proofs.HeaderRunTexts.{ok-as, request-as, room-under}
use Rattle.sip_build.proofs.hop_by_hop.append_to_same_hop.Goals as goal

pub returns-clause-ok : goal.returns-clause-ok
returns-clause-ok g c =
    let made = along_to c.args.method.now c.args.message.now c.args.target.now c.args.own c.args.branch.now c.args.to.now (view_lines c.args.more.now) in
    ok-as c.append_to_target.result _ _ _ _ c.append_to_target.ensures.ok (request-as c.args.method.now c.args.target.now c.args.own c.args.branch.now c.runs_behind_via-runs.result [] made refl (c.runs_behind_via-runs.ensures c.args.target.now c.args.own c.args.branch.now) refl)

pub returns-clause-room : goal.returns-clause-room
returns-clause-room g c =
    let made = along_to c.args.method.now c.args.message.now c.args.target.now c.args.own c.args.branch.now c.args.to.now (view_lines c.args.more.now) in
    room-under c.append_to_target.result _ _ _ _ c.append_to_target.ensures.room (request-as c.args.method.now c.args.target.now c.args.own c.args.branch.now c.runs_behind_via-runs.result [] made refl (c.runs_behind_via-runs.ensures c.args.target.now c.args.own c.args.branch.now) refl)
