use Rattle.call_laws.proofs.EachDatagram.{each_right}
use Rattle.call_laws.proofs.law.each_datagram_is_right.Goals as goal

pub returns : goal.returns
returns c opened rules targets destinations before stage later d some given leads out =
    each_right c.exactly_one_final.ensures.exactly_one c.exactly_one_final.ensures.none_before c.exactly_one_final.ensures.none_beside_success
    c.calls_stay_sound.ensures.kept c.calls_send_right.ensures.kept c.calls_stay_sound.ensures.begun c.calls_send_right.ensures.begun
    c.calls_know_what_closed_them.ensures.begun c.branches_keep_what_they_send.ensures.begun c.calls_know_what_closed_them.ensures.kept c.calls_know_what_closed_them.ensures.by
    c.repeats_are_the_same.ensures.branches c.repeats_are_the_same.ensures.caller c.parts_go_on.ensures.kept c.parts_go_on.ensures.fired
    c.rows_keep_their_numbers.ensures.by_event c.branches_go_on.ensures.by_event c.what_is_sent_is_right.ensures
    opened rules targets destinations before stage later d some given leads out
