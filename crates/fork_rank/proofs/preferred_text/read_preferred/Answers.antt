use Rattle.fork_rank.proofs.laws.Preferred.{reads_only, reads_found}
use Rattle.fork_rank.proofs.preferred_text.read_preferred.Goals as goal

pub returns-clause-found : goal.returns-clause-found
returns-clause-found c = reads_found c.preferred_in.result c.args.text.now c.preferred_in.ensures

pub returns-clause-only : goal.returns-clause-only
returns-clause-only c = reads_only c.preferred_in.result c.args.text.now c.preferred_in.ensures
