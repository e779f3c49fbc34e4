use Rattle.fork_call.proofs.Answering.{opened_datagrams}
use Rattle.fork_call.proofs.law.each_datagram_is_right.Goals as goal

pub returns : goal.returns
returns c setup number m source call before stage later d opens given leads sends =
    opened_datagrams c.each_datagram_is_right.ensures c.datagrams_go_back_to_the_request.ensures.targets setup number m source call before stage later d opens given leads sends
