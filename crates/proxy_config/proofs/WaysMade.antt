-- A setup with the ways to contacts alone.
use Rattle.proxy_config.proofs.Common.{◌≡◌, ◌∙◌, List, [], ap, sym, Setup}
use Rattle.std.specs.Prelude.{map}
use Rattle.proxy_config.specs.Moment.{BoundContact, way_of, with_ways}
use Rattle.proxy_config.specs.Setup.{Location, Way}

pub with_ways_made : (setup new : Setup) (contacts : List BoundContact) (none : List Location) (ways : List Way) → none ≡ [] → ways ≡ map way_of contacts
    → new ≡ record setup { locations = none; ways = ways } → new ≡ with_ways contacts setup
with_ways_made setup new contacts none ways empty made is =
    is ∙ ap (λ (ls : List Location). record setup { locations = ls; ways = ways }) empty ∙ ap (λ (ws : List Way). record setup { locations = []; ways = ws }) made
