-- Reading one line: the word before its first space says which line it is.
use Rattle.std.specs.Prelude.{ℕ, ◌%◌, ◌==◌, bytes_eq, List, codes, Option, Some, None, option_and_then, if◌then◌else◌}
use Rattle.std.specs.List.{list_all}
use Rattle.std.specs.Option.{option_map}
use Rattle.sip_lex.specs.Cut.{cut, is}
use Rattle.sip_lex.specs.Number.{plain_number_within}
use Rattle.fork_rank.specs.Field.{most_q, number_before, number_from}
use Rattle.sip_digest.specs.Algorithm.{algorithms_named}
use Rattle.proxy_config.specs.Line as setup
use Rattle.proxy_config.specs.LineReading as setup_line
use Rattle.service_config.specs.Line.{Line, SetupLine, RingLine, RealmLine, ExpiresLine, LargeLine, StrangersLine, TrustLine, GatewayLine, LocationLine, CommentLine, are_expirations, is_no_lf, is_realm, most_expiration, most_ring, says_nothing}
use Rattle.service_config.specs.Net.{address_number, block}
use Rattle.service_config.specs.declared.expirations.Expirations.{Expirations}
use Rattle.service_config.specs.declared.line.SettingsWord.{SettingsWord}
use Rattle.service_config.specs.declared.line.SettingsWord.TheVariants as word
use Rattle.service_config.specs.declared.net.Net.{Net}

-- ---- realm

abbrev pub realm_cut : List ℕ × Option (List ℕ) → Option Line
realm_cut (realm, None) = if is_realm realm then Some (RealmLine realm None) else None
realm_cut (realm, Some names) = if is_realm realm then option_map (λ them. RealmLine realm (Some them)) (algorithms_named names) else None

-- ---- expires

abbrev pub expirations_if : ℕ → ℕ → ℕ → Option Expirations
expirations_if least usual most = if are_expirations least usual most then Some (record { least = least; usual = usual; most = most }) else None

abbrev pub third_expiration : ℕ → ℕ × List ℕ → Option Expirations
third_expiration least (usual, rest) = option_and_then (expirations_if least usual) (plain_number_within most_expiration rest)

abbrev pub second_expiration : ℕ × List ℕ → Option Expirations
second_expiration (least, rest) = option_and_then (third_expiration least) (number_before most_expiration rest)

abbrev pub read_expirations : List ℕ → Option Expirations
read_expirations text = option_and_then second_expiration (number_before most_expiration text)

-- ---- trust

abbrev pub net_if : List ℕ → ℕ → Option Net
net_if addr bits = if address_number addr % block bits == 0 then Some (record { addr = addr; bits = bits }) else None

abbrev pub net_at : List ℕ → List ℕ → Option Net
net_at digits addr = option_and_then (net_if addr) (plain_number_within 32 digits)

abbrev pub net_cut : List ℕ × Option (List ℕ) → Option Net
net_cut (addr, None) = None
net_cut (addr, Some digits) = option_and_then (net_at digits) (setup_line.read_octets addr)

abbrev pub read_net : List ℕ → Option Net
read_net text = net_cut (cut (is 47) text)

-- ---- gateway

abbrev pub gateway_of : ℕ × List ℕ → Line
gateway_of (q, uri) = GatewayLine q uri

-- ---- those of a setup

abbrev pub location_cut : List ℕ → ℕ → List ℕ × Option (List ℕ) → Option Line
location_cut user q (uri, None) = Some (LocationLine user q uri None)
location_cut user q (uri, Some digits) = option_map (λ seconds. LocationLine user q uri (Some seconds)) (number_from 1 most_ring digits)

abbrev pub of_setup : setup.Line → Option Line
of_setup (setup.OwnLine own) = Some (SetupLine (setup.OwnLine own))
of_setup (setup.InstanceLine instance) = Some (SetupLine (setup.InstanceLine instance))
of_setup (setup.DomainLine host) = Some (SetupLine (setup.DomainLine host))
of_setup (setup.PreferLine statuses) = Some (SetupLine (setup.PreferLine statuses))
of_setup (setup.DepthLine depth) = Some (SetupLine (setup.DepthLine depth))
of_setup (setup.LocationLine user q rest) = location_cut user q (cut (is 32) rest)

-- the user, the q and what stands behind them
abbrev pub location_in : setup.Line → Option (List ℕ × ℕ × List ℕ)
location_in (setup.LocationLine user q rest) = Some (user, q, rest)
location_in _ = None

-- ---- a line

abbrev pub word_of : List ℕ → SettingsWord
word_of text =
    if bytes_eq text (codes "ring") then word.Ring
    else (if bytes_eq text (codes "realm") then word.Realm
    else (if bytes_eq text (codes "expires") then word.Expires
    else (if bytes_eq text (codes "trust") then word.Trust
    else (if bytes_eq text (codes "gateway") then word.Gateway
    else word.OfSetup))))

-- what stands behind one of the words of a service and a space
abbrev pub read_own : List ℕ → SettingsWord → Option Line
read_own rest word.Ring = option_map RingLine (number_from 1 most_ring rest)
read_own rest word.Realm = realm_cut (cut (is 32) rest)
read_own rest word.Expires = option_map ExpiresLine (read_expirations rest)
read_own rest word.Trust = option_map TrustLine (read_net rest)
read_own rest word.Gateway = option_map gateway_of (number_before most_q rest)
read_own rest word.OfSetup = None

-- the whole text, and what stands behind its word and a space
abbrev pub read_worded : List ℕ → List ℕ → SettingsWord → Option Line
read_worded text rest word.OfSetup = option_and_then of_setup (setup_line.read_line text)
read_worded text rest word.Ring = read_own rest word.Ring
read_worded text rest word.Realm = read_own rest word.Realm
read_worded text rest word.Expires = read_own rest word.Expires
read_worded text rest word.Trust = read_own rest word.Trust
read_worded text rest word.Gateway = read_own rest word.Gateway

abbrev pub read_cut : List ℕ → List ℕ × Option (List ℕ) → Option Line
read_cut text (word, None) = None
read_cut text (word, Some rest) = read_worded text rest (word_of word)

abbrev pub read_plain : List ℕ → Option Line
read_plain text =
    if says_nothing text then Some (CommentLine text)
    else (if bytes_eq text (codes "strangers") then Some StrangersLine
    else (if bytes_eq text (codes "large tcp") then Some LargeLine else read_cut text (cut (is 32) text)))

abbrev pub read_line : List ℕ → Option Line
read_line text = if list_all is_no_lf text then read_plain text else None
