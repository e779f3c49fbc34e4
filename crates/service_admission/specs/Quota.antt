-- How many calls a service keeps.
use Rattle.std.specs.Prelude.{ℕ}
use Rattle.service_admission.specs.Places.{most_within_dialog}
use Rattle.proxy_dispatch.specs.declared.admission.Opener.{Opener}
use Rattle.proxy_dispatch.specs.declared.admission.Opener.TheVariants as opener

-- for how many calls there is room where the next one is opened by such a request
abbrev pub limit : Opener → ℕ → ℕ
limit opener.OutsideDialog most = most
limit opener.WithinDialog most = most_within_dialog most
-- one that opens none is answered however many calls there are; as many as can be counted
limit opener.Registering most = 18446744073709551615
