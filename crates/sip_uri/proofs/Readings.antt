-- The tests that a text passes which is read.
use Rattle.sip_uri.proofs.Common.{◌≡◌, ℕ, ◌≤◌, true, List, length, map, take, drop, None, Ok, sym, ap, arith, length-take, list_all, length-map, codes, to_ascii_lowercase, is_uri_byte, is_sip, parts_of, uri_of}
use Rattle.std.specs.Cmp.Lexicographic.{same_text}
use Rattle.sip_uri.specs.Reading.{fault_of, read_uri}

-- the scheme of a text that passes
pub scheme_is : (text : List ℕ) → is_sip text ≡ true → map to_ascii_lowercase (take 4 text) ≡ codes "sip:"
scheme_is text h = same_text (map to_ascii_lowercase (take 4 text)) (codes "sip:") (sym h)

pub long_enough : (text : List ℕ) → is_sip text ≡ true → 4 ≤ length text
long_enough text h = omega (arith, ap length (scheme_is text h), length-map (take 4 text) to_ascii_lowercase, length-take 4 text)

pub read_ok : (text : List ℕ) → is_sip text ≡ true → list_all is_uri_byte text ≡ true → fault_of (parts_of (drop 4 text)) ≡ None → read_uri text ≡ Ok (uri_of text)
unfolding read_uri
read_ok text sip bytes parts = grind arith
