use Rattle.std.proofs.Common.{rules}
use Rattle.proxy_service.specs.Noting.{noted_at}
use Rattle.proxy_service.proofs.Noted.{noted_more}
use Rattle.proxy_service.proofs.notes.add_notes.Goals as goal

pub loop-posted-preserved : goal.loop-posted-preserved
loop-posted-preserved g c =
    noted_more (noted_at c.args.at) c.args.events.now c.loop-posted.posted-index _ c.args.notes.now.items _ _ (search rules) c.posted-item.is c.loop-posted.invariant c.in_ok-add_note.ensures
