use Rattle.sip_build.proofs.Common.{refl, Response, view_lines, generated_of}
use Rattle.sip_build.specs.declared.made_text.Front.TheVariants as fronts
use Rattle.sip_build.proofs.HeaderRunTexts.{ok-as, room-as, spelled-as}
use Rattle.sip_build.proofs.generated_text.write_own_response.Goals as goal

pub returns-clause-ok : goal.returns-clause-ok
returns-clause-ok g c =
    ok-as c.append_made.result _ _ _ _ c.append_made.ensures.ok (spelled-as (fronts.Response c.code.result c.reason.result) c.generated_runs-runs.result _ (generated_of c.args.message.now c.args.status (view_lines c.args.further.now)) (λ i. Response (c.code.ensures i) (c.reason.ensures i)) c.generated_runs-runs.ensures refl)

pub returns-clause-room : goal.returns-clause-room
returns-clause-room g c =
    room-as c.append_made.result _ _ _ _ c.append_made.ensures.full (spelled-as (fronts.Response c.code.result c.reason.result) c.generated_runs-runs.result _ (generated_of c.args.message.now c.args.status (view_lines c.args.further.now)) (λ i. Response (c.code.ensures i) (c.reason.ensures i)) c.generated_runs-runs.ensures refl)
