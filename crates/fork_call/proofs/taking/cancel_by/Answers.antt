use Rattle.fork_call.proofs.Common.{◌∙◌, sym}
use Rattle.fork_call.proofs.Marking.{keyed_is_marked}
use Rattle.fork_call.proofs.taking.cancel_by.Goals as goal

pub unreachable-requires : goal.unreachable-requires
unreachable-requires g c =
    keyed_is_marked c.args.message c.args.source c.requires.keyed (c.readable_is_marked.ensures.marked c.args.message c.args.source)
    (sym c.in-Err.ensures.refused ∙ c.in-BadVia.is)
