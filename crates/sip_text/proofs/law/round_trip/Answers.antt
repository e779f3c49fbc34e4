use Rattle.sip_text.proofs.Spelled.{read_again}
use Rattle.sip_text.proofs.law.round_trip.Goals as goal

pub returns : goal.returns
returns c = read_again
