use Rattle.authentication.specs.SeenStanding.{seen_standing}
use Rattle.registrar.proofs.asking.asked_for_user.Goals as goal

pub returns : goal.returns
returns g c = (seen_standing c.in_ok-standing.standing, c.in_ok-standing.ensures, c.in_ok-asked.ensures)
