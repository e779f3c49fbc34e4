use Rattle.fork_program.proofs.OneReplay.{one_replay}
use Rattle.fork_program.proofs.law.a_script_has_one_replay.Goals as goal

pub returns : goal.returns
returns c = one_replay
