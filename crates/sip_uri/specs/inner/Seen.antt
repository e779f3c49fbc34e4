-- What lies in memory, as lists.
use Rattle.std.specs.Prelude.{ℕ, List, map, Vec}
use Rattle.std.specs.BTreeSet.{BTreeSet}
use Rattle.std.specs.Option.{option_copied}
use Rattle.sip_uri.specs.declared.cut.UriParts.{UriParts}
use Rattle.sip_uri.specs.Reading.{Parts}

abbrev pub parts : UriParts → Parts
parts c = record { user = option_copied c.user; host = c.host.now; port = option_copied c.port; params = option_copied c.params; headers = option_copied c.headers }

-- the keys of a set of texts
abbrev pub key_lists : {A : Type 0} → BTreeSet (Vec ℕ A) → List (List ℕ)
key_lists s = map (λ v. v.items) s.keys
