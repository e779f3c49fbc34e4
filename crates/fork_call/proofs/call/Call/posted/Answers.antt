use Rattle.fork_call.proofs.Common.{◌≡◌, length, subst, Log, Call}
use Rattle.fork_call.proofs.Stepping.{replied_each}
use Rattle.fork_call.proofs.call.Call.posted.Goals as goal

pub returns-clause-replied : goal.returns-clause-replied
returns-clause-replied g c =
    let P : Call → Type 0 = λ x. length x.log.replies ≡ length x.log.history in
    let L : Log → Type 0 = λ l. length l.replies ≡ length l.history in
    subst P c.self.view_is (subst L c.book.ensures (replied_each c.book.result.now c.context.ensures.log))
