use Rattle.sip_build.proofs.Common.{seen_kept, upward_of, ◌∙◌}
use Rattle.sip_build.proofs.HeaderRunTexts.{ok-as, room-as, spelled-as}
use Rattle.sip_build.proofs.upward_text.append_upward.Goals as goal

pub returns-clause-ok : goal.returns-clause-ok
returns-clause-ok g c =
    ok-as c.append_made.result _ _ _ _ c.append_made.ensures.ok (spelled-as c.front_of-front.result c.upward_runs-runs.result c.body.result.now (upward_of c.args.message.now (seen_kept c.args.kept) c.args.challenges.now) (c.front_of-front.ensures.start ∙ c.start.ensures) c.upward_runs-runs.ensures c.body.ensures)

pub returns-clause-room : goal.returns-clause-room
returns-clause-room g c =
    room-as c.append_made.result _ _ _ _ c.append_made.ensures.full (spelled-as c.front_of-front.result c.upward_runs-runs.result c.body.result.now (upward_of c.args.message.now (seen_kept c.args.kept) c.args.challenges.now) (c.front_of-front.ensures.start ∙ c.start.ensures) c.upward_runs-runs.ensures c.body.ensures)
