-- A message that waits to be written.
use Rattle.std.specs.Prelude.{ℕ, List}
use Rattle.sip_uri.specs.declared.hop.Hop.{Hop}

pub record Queued : Type 0 where
  pub bytes : List ℕ
  -- where it is to go
  pub to : Hop
