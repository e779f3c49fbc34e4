-- By which hop a target outside of the domain is reached (RFC 3261 section 16.6 step 7).
use Rattle.std.specs.Prelude.{ℕ, List, Option, Some, None, bytes_eq, fold, if◌then◌else◌}
use Rattle.sip_uri.specs.declared.hop.Hop.{Hop}
use Rattle.sip_uri.specs.Key.{key_of}
use Rattle.sip_uri.specs.Uri.{Uri}
use Rattle.proxy_config.specs.Setup.{Way}

-- the hop of this way where it leads to a target with that key, and else the one before
abbrev pub later_way : (key : List ℕ) → Option Hop → Way → Option Hop
later_way key before way = if bytes_eq way.key key then Some way.hop else before

-- the hop of the last of the ways that lead to a URI
abbrev pub way_to : List Way → Uri → Option Hop
way_to ways uri = fold (later_way (key_of uri)) None ways
