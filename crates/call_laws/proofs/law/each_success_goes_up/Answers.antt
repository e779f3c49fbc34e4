use Rattle.call_laws.proofs.Standing.{none_accepted}
use Rattle.call_laws.proofs.Successes.{goes_up}
use Rattle.std.proofs.Common.{◌++◌, ◌∷◌}
use Rattle.call_laws.specs.Answers.{Begins}
use Rattle.call_laws.proofs.law.each_success_goes_up.Goals as goal

pub returns : goal.returns
returns c opened rules targets destinations before stage later m some invited given leads posts =
    goes_up c.calls_stay_sound.ensures.kept c.branches_go_on.ensures.by_event (Begins opened rules targets destinations) before stage later m
    (record {
      sound = c.calls_stay_sound.ensures.begun opened rules targets destinations;
      accepted = none_accepted opened rules targets destinations;
      invited = invited;
    })
    given leads posts (c.calls_pay_in_order.ensures opened rules targets destinations (before ++ stage ∷ later) some given leads)
