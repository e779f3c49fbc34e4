-- What a URI keeps: its text, and its key.
use Rattle.std.specs.Prelude.{◌≡◌, ◌≤◌, ℕ, List, length, Ok}
use Rattle.sip_uri.specs.Key.{key_of}
use Rattle.sip_uri.specs.Reading.{read_uri, uri_of}

pub record IsKept (text key : List ℕ) : Type 0 where
  pub long : 4 ≤ length text
  pub read : read_uri text ≡ Ok (uri_of text)
  pub keyed : key ≡ key_of (uri_of text)
