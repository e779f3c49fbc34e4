-- Hosts, ports and IPv4 addresses (RFC 3261 section 25.1: hostport).
-- Here: what no public contract reaches.
use Rattle.std.specs.Prelude.{ℕ, List, Option, Some, None}
use Rattle.sip_lex.specs.Cut.{cut, is}
use Rattle.sip_uri.specs.Host.{octet_of, four_of}

-- ---- the same by cuts, as it is read

abbrev pub address_of_octets : List ℕ → List ℕ → List ℕ → List ℕ → Option (List ℕ)
address_of_octets a b c d = four_of (octet_of a) (octet_of b) (octet_of c) (octet_of d)

abbrev pub address_of_last : List ℕ → List ℕ → List ℕ → List ℕ × Option (List ℕ) → Option (List ℕ)
address_of_last a b c (d, None) = address_of_octets a b c d
address_of_last a b c (d, Some rest) = None

abbrev pub address_of_third : List ℕ → List ℕ → List ℕ × Option (List ℕ) → Option (List ℕ)
address_of_third a b (c, None) = None
address_of_third a b (c, Some rest) = address_of_last a b c (cut (is 46) rest)

abbrev pub address_of_second : List ℕ → List ℕ × Option (List ℕ) → Option (List ℕ)
address_of_second a (b, None) = None
address_of_second a (b, Some rest) = address_of_third a b (cut (is 46) rest)

abbrev pub address_of_first : List ℕ × Option (List ℕ) → Option (List ℕ)
address_of_first (a, None) = None
address_of_first (a, Some rest) = address_of_second a (cut (is 46) rest)
