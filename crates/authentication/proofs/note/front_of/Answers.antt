use Rattle.std.proofs.Common.{arith}
use Rattle.authentication.proofs.Fronts.{long, whole}
use Rattle.authentication.proofs.note.front_of.Goals as goal

pub slice_bounds-result-end : goal.slice_bounds-result-end
slice_bounds-result-end c = long c.args.text.now (omega arith)

pub returns-else-text-gt-MOST_BYTES : goal.returns-else-text-gt-MOST_BYTES
returns-else-text-gt-MOST_BYTES c = whole c.args.text.now (omega arith)
