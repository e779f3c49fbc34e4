-- Reading one line: the word before its first space says which line it is.
use Rattle.std.specs.Prelude.{ℕ, bytes_eq, List, [], ◌∷◌, codes, Option, Some, None, option_and_then, if◌then◌else◌}
use Rattle.std.specs.Option.{option_map}
use Rattle.sip_lex.specs.Cut.{cut, is}
use Rattle.sip_lex.specs.Number.{plain_number_within}
use Rattle.fork_model.specs.Table.{most_targets}
use Rattle.fork_rank.specs.Field.{most_q, number_before, number_from}
use Rattle.fork_rank.specs.PreferredText.{read_preferred}
use Rattle.sip_uri.specs.Host.{is_host}
use Rattle.sip_uri.specs.declared.hop.Transport.TheVariants.{Udp}
use Rattle.sip_via.specs.declared.own.Own.{Own}
use Rattle.proxy_config.specs.declared.line.SetupWord.{SetupWord}
use Rattle.proxy_config.specs.declared.line.SetupWord.TheVariants as word
use Rattle.proxy_config.specs.Line.{Line, OwnLine, InstanceLine, DomainLine, PreferLine, DepthLine, LocationLine, is_user, most_port, most_instance, no_host}

-- ---- the own address

-- a number of an address, and what stands behind the dot after it
abbrev pub octet_cut : List ℕ × Option (List ℕ) → Option (ℕ × List ℕ)
octet_cut (digits, None) = None
octet_cut (digits, Some rest) = option_map (λ n. (n, rest)) (plain_number_within 255 digits)

abbrev pub octet_before : List ℕ → Option (ℕ × List ℕ)
octet_before text = octet_cut (cut (is 46) text)

abbrev pub fourth : ℕ → ℕ → ℕ × List ℕ → Option (List ℕ)
fourth a b (c, rest) = option_map (λ d. a ∷ b ∷ c ∷ d ∷ []) (plain_number_within 255 rest)

abbrev pub third : ℕ → ℕ × List ℕ → Option (List ℕ)
third a (b, rest) = option_and_then (fourth a b) (octet_before rest)

abbrev pub second : ℕ × List ℕ → Option (List ℕ)
second (a, rest) = option_and_then (third a) (octet_before rest)

abbrev pub read_octets : List ℕ → Option (List ℕ)
read_octets text = option_and_then second (octet_before text)

abbrev pub own_at : List ℕ → List ℕ → Option Own
own_at digits addr = if bytes_eq addr no_host then None else option_map (λ port. record { addr = addr; port = port; transport = Udp }) (number_from 1 most_port digits)

abbrev pub own_cut : List ℕ × Option (List ℕ) → Option Own
own_cut (addr, None) = None
own_cut (addr, Some digits) = option_and_then (own_at digits) (read_octets addr)

abbrev pub read_own : List ℕ → Option Own
read_own text = own_cut (cut (is 32) text)

-- ---- the others

abbrev pub read_host : List ℕ → Option (List ℕ)
read_host text = if is_host text then Some text else None

abbrev pub location_of : List ℕ → ℕ × List ℕ → Line
location_of user (q, uri) = LocationLine user q uri

abbrev pub location_cut : List ℕ × Option (List ℕ) → Option Line
location_cut (user, None) = None
location_cut (user, Some rest) = if is_user user then option_map (location_of user) (number_before most_q rest) else None

abbrev pub read_location : List ℕ → Option Line
read_location text = location_cut (cut (is 32) text)

abbrev pub word_of : List ℕ → Option SetupWord
word_of text =
    if bytes_eq text (codes "own") then Some word.Own
    else (if bytes_eq text (codes "instance") then Some word.Instance
    else (if bytes_eq text (codes "domain") then Some word.Domain
    else (if bytes_eq text (codes "prefer") then Some word.Prefer
    else (if bytes_eq text (codes "depth") then Some word.Depth
    else (if bytes_eq text (codes "location") then Some word.Location
    else None)))))

-- what stands behind the word and its space
abbrev pub read_rest : SetupWord → List ℕ → Option Line
read_rest word.Own rest = option_map OwnLine (read_own rest)
read_rest word.Instance rest = option_map InstanceLine (plain_number_within most_instance rest)
read_rest word.Domain rest = option_map DomainLine (read_host rest)
read_rest word.Prefer rest = option_map PreferLine (read_preferred rest)
read_rest word.Depth rest = option_map DepthLine (plain_number_within most_targets rest)
read_rest word.Location rest = read_location rest

abbrev pub read_cut : List ℕ × Option (List ℕ) → Option Line
read_cut (word, None) = None
read_cut (word, Some rest) = option_and_then (λ w. read_rest w rest) (word_of word)

abbrev pub read_line : List ℕ → Option Line
read_line line = read_cut (cut (is 32) line)
