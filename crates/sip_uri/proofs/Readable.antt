-- A text that is read as some URI is read as the one of its parts.
use Rattle.sip_uri.proofs.Common.{◌≡◌, ◌≤◌, ℕ, List, Result, Ok, Err, length, refl, sym, ap, ◌∙◌, UriFault, Uri, uri_of}
use Rattle.std.proofs.Common.{IsOk, arith}
use Rattle.sip_uri.specs.Reading.{read_uri}
use Rattle.sip_uri.proofs.Readings.{long_enough}
use Rattle.sip_uri.proofs.laws.Found.{read_parts}

read_as : (text : List ℕ) (r : Result Uri UriFault) → read_uri text ≡ r → IsOk r → read_uri text ≡ Ok (uri_of text)
read_as text (Ok u) e ok = e ∙ ap (λ (v : Uri). Ok v) (read_parts text u e).value
read_as text (Err f) e ok = grind arith

pub readable : (text : List ℕ) → IsOk (read_uri text) → read_uri text ≡ Ok (uri_of text)
readable text ok = read_as text (read_uri text) refl ok

pub readable_long : (text : List ℕ) → IsOk (read_uri text) → 4 ≤ length text
readable_long text ok = long_enough text (read_parts text (uri_of text) (readable text ok)).sip
