-- Reading a URI, want of memory aside.
use Rattle.std.specs.Prelude.{Option, Some, None, Result, Ok, Err}
use Rattle.sip_uri.specs.Uri.{Uri}
use Rattle.sip_uri.specs.declared.fault.UriFault.{UriFault}

-- the URI that a text spells, if it does
abbrev pub uri_if : Result Uri UriFault → Option Uri
uri_if (Ok uri) = Some uri
uri_if (Err fault) = None
