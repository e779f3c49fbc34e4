use Rattle.sip_uri.proofs.Common.{common_steps, arith}
use Rattle.sip_uri.proofs.Params.{params_read}
use Rattle.sip_uri.proofs.checks.are_params.Goals as goal

pub returns : goal.returns
returns c = grind (arith, common_steps, params_read)
