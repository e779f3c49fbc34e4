use Rattle.call_laws.proofs.Running.{pays_in_order}
use Rattle.call_laws.proofs.law.calls_pay_in_order.Goals as goal

pub returns : goal.returns
returns c opened rules targets destinations stages some given leads =
    pays_in_order c.exactly_one_final.ensures.exactly_one c.exactly_one_final.ensures.none_before c.exactly_one_final.ensures.none_beside_success
    c.calls_stay_sound.ensures.kept c.calls_send_right.ensures.kept c.calls_stay_sound.ensures.begun c.calls_send_right.ensures.begun
    opened rules targets destinations some stages given leads
