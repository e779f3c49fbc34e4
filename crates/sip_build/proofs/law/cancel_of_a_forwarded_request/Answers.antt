use Rattle.sip_build.proofs.Common.{ℕ, List, ◌∙◌, ap, codes, forwarded, along_to, to_value}
use Rattle.sip_build.proofs.laws.ViasForwarded.{along-forwarded, to-forwarded}
use Rattle.sip_build.proofs.law.cancel_of_a_forwarded_request.Goals as goal

pub returns : goal.returns
returns c m target proxy branch recorded reasons request is named =
    along-forwarded (codes "CANCEL") m target proxy branch recorded (to_value (forwarded m target proxy branch recorded)) reasons request is named
    ∙ ap (λ (to : List ℕ). along_to (codes "CANCEL") m target proxy branch to reasons) (to-forwarded m target proxy branch recorded)
