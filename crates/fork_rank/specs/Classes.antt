-- The classes of statuses (RFC 3261 section 7.2), by the first digit.
use Rattle.std.specs.Prelude.{ℕ, ◌<◌, ◌≤◌}
use Rattle.fork_rank.specs.declared.status_class.StatusClass.{StatusClass}
use Rattle.fork_rank.specs.declared.status_class.StatusClass.TheVariants.{Provisional, Success, Redirection, ClientError, ServerError, GlobalFailure}

abbrev pub IsOfClass : StatusClass → ℕ → Type 0
IsOfClass Provisional status = status < 200
IsOfClass Success status = (200 ≤ status) × (status < 300)
IsOfClass Redirection status = (300 ≤ status) × (status < 400)
IsOfClass ClientError status = (400 ≤ status) × (status < 500)
IsOfClass ServerError status = (500 ≤ status) × (status < 600)
IsOfClass GlobalFailure status = 600 ≤ status
