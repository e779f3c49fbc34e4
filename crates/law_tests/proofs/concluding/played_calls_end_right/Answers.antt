use Rattle.law_tests.proofs.Concluded.{concluded}
use Rattle.law_tests.proofs.concluding.played_calls_end_right.Goals as goal

pub returns : goal.returns
returns c =
    concluded c.calls_have_stages.ensures c.opened_calls_pay_in_order.ensures c.one_final_answer_goes_up.ensures c.each_success_goes_up.ensures
    c.each_datagram_is_right.ensures
