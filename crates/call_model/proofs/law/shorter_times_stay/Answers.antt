use Rattle.call_model.proofs.Parts.{shorter_stay, usual_start, usual_start_again}
use Rattle.call_model.proofs.law.shorter_times_stay.Goals as goal

pub returns-clause-usual : goal.returns-clause-usual
returns-clause-usual c kind now = usual_start kind now

pub returns-clause-again : goal.returns-clause-again
returns-clause-again c now status at = usual_start_again now status at

pub returns-clause-stay : goal.returns-clause-stay
returns-clause-stay c turn call new n destination branch goes short there step = shorter_stay turn call new n destination branch goes short there step
