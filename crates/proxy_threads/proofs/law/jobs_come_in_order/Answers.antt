use Rattle.proxy_threads.proofs.InOrder.{in_order}
use Rattle.proxy_threads.proofs.law.jobs_come_in_order.Goals as goal

pub returns : goal.returns
returns g c = in_order
