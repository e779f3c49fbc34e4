use Rattle.fork_call.proofs.Answering.{opened_success}
use Rattle.fork_call.proofs.law.each_success_goes_up.Goals as goal

pub returns : goal.returns
returns c setup number m source call before stage later answer opens invited given leads posts =
    opened_success c.each_success_goes_up.ensures setup number m source call before stage later answer opens invited given leads posts
