-- The key of a target that has one of its own (RFC 3261 section 16.5).
use Rattle.std.specs.Prelude.{ℕ, List, Option, Some, None, Vec}
use Rattle.sip_uri.specs.Key.{key_of}
use Rattle.sip_uri.specs.Uri.{Uri}

-- or else that of its URI
abbrev pub key_or : {A : Type 0} → Option (Vec ℕ A) → Uri → List ℕ
key_or None uri = key_of uri
key_or (Some key) uri = key.items
