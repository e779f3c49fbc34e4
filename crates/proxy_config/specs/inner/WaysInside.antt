-- The ways of a setup, which takes no memory where it has none.
use Rattle.std.specs.Prelude.{List, [], Option, Some, None, Vec}
use Rattle.proxy_config.specs.Setup.{Way}

abbrev pub ways_in : {A : Type 0} → Option (Vec Way A) → List Way
ways_in None = []
ways_in (Some ways) = ways.items
