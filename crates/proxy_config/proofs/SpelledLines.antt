-- Each spelling of a line is read as that line, and has no LF where its URI has none.
use Rattle.proxy_config.proofs.Common.{◌≡◌, ℕ, ◌≤◌, Bool, true, false, not, cond, List, [], ◌∷◌, ◌++◌, length, Some, None, refl, sym, ap, subst, ◌∙◌, arith, inl, inr, option_and_then, codes, option_map, AllByRecursion, decimal, and_parts}
use Rattle.proxy_config.proofs.Common.{Lacks, Lacks-pass, most_targets, most_q, number_before, address_text, Own, Line, OwnLine, InstanceLine, DomainLine, PreferLine, DepthLine, LocationLine, own_text, line_text, IsOwn, is_user, most_port}
use Rattle.proxy_config.proofs.Common.{most_instance, IsLine, octet_cut, octet_before, fourth, third, second, read_octets, own_at, own_cut, read_own, location_of, location_cut, read_location, read_line}
use Rattle.std.proofs.Common.{eqb}
use Rattle.std.specs.Prelude.{nat_le}
use Rattle.std.specs.Char.{is_ascii_digit}
use Rattle.std.specs.List.{list_all}
use Rattle.std.proofs.lemmas.Bool.{eqb-false}
use Rattle.sip_lex.proofs.laws.Cuts.{cut_again, Lacks-append}
use Rattle.sip_lex.proofs.laws.Numbers.{number_read, decimal_lacks}
use Rattle.fork_rank.specs.Field.{number_from, numbered_text}
use Rattle.fork_rank.proofs.laws.Field.{number_before_read, number_from_read}
use Rattle.fork_rank.proofs.laws.Preferred.{preferred_read, list_lacks}
use Rattle.sip_uri.specs.Host.{IsHost, is_host_byte, is_address_byte}
use Rattle.sip_uri.specs.declared.hop.Transport.{Transport}
use Rattle.sip_uri.specs.declared.hop.Transport.TheVariants.{Udp}
use Rattle.sip_uri.proofs.laws.Hosts.{is_host-IsHost}
use Rattle.proxy_config.specs.Line.{is_visible}

-- ---- what is spelled is read

octet_read : (n : ℕ) (rest : List ℕ) → n ≤ 255 → octet_before (decimal n ++ 46 ∷ rest) ≡ Some (n, rest)
octet_read n rest small =
    ap octet_cut (cut_again 46 (decimal n) (Some rest) (decimal_lacks 46 n refl (omega arith)))
    ∙ ap (option_map (λ m. (m, rest))) (number_read 255 n small (omega arith))

pub octets_read : (addr : List ℕ) → length addr ≡ 4 → AllByRecursion (λ byte. byte ≤ 255) addr → read_octets (address_text addr) ≡ Some addr
octets_read [] four bytes = absurd (omega arith)
octets_read (a ∷ []) four bytes = absurd (omega arith)
octets_read (a ∷ b ∷ []) four bytes = absurd (omega arith)
octets_read (a ∷ b ∷ c ∷ []) four bytes = absurd (omega arith)
octets_read (a ∷ b ∷ c ∷ d ∷ []) four bytes =
    ap (option_and_then second) (octet_read a (decimal b ++ 46 ∷ (decimal c ++ 46 ∷ decimal d)) bytes.0)
    ∙ ap (option_and_then (third a)) (octet_read b (decimal c ++ 46 ∷ decimal d) bytes.1.0)
    ∙ ap (option_and_then (fourth a b)) (octet_read c (decimal d) bytes.1.1.0)
    ∙ ap (option_map (λ e. a ∷ b ∷ c ∷ e ∷ [])) (number_read 255 d bytes.1.1.1.0 (omega arith))
octets_read (a ∷ b ∷ c ∷ d ∷ e ∷ addr) four bytes = absurd (omega arith)

-- a byte that is no digit and no dot stands in no address
pub address_lacks : (mark : ℕ) → Lacks mark (46 ∷ []) → (addr : List ℕ) → length addr ≡ 4 → AllByRecursion (λ byte. byte ≤ 255) addr → is_ascii_digit mark ≡ false → Lacks mark (address_text addr)
address_lacks mark dot [] four bytes none = absurd (omega arith)
address_lacks mark dot (a ∷ []) four bytes none = absurd (omega arith)
address_lacks mark dot (a ∷ b ∷ []) four bytes none = absurd (omega arith)
address_lacks mark dot (a ∷ b ∷ c ∷ []) four bytes none = absurd (omega arith)
address_lacks mark dot (a ∷ b ∷ c ∷ d ∷ []) four bytes none =
    Lacks-append mark (decimal a) _ (decimal_lacks mark a none (omega (arith, bytes.0))) (
      dot.0,
      Lacks-append mark (decimal b) _ (decimal_lacks mark b none (omega (arith, bytes.1.0))) (
        dot.0,
        Lacks-append mark (decimal c) _ (decimal_lacks mark c none (omega (arith, bytes.1.1.0)))
            (dot.0, decimal_lacks mark d none (omega (arith, bytes.1.1.1.0))),
      ),
    )
address_lacks mark dot (a ∷ b ∷ c ∷ d ∷ e ∷ addr) four bytes none = absurd (omega arith)

own_read : (own : Own) → IsOwn own → read_own (own_text own) ≡ Some own
own_read own h =
    ap own_cut (cut_again 32 (address_text own.addr) (Some (decimal own.port)) (address_lacks 32 (eqb-false 46 32 refl, tt) own.addr h.four h.bytes refl))
    ∙ ap (option_and_then (own_at (decimal own.port))) (octets_read own.addr h.four h.bytes)
    ∙ ap (λ t. cond t None (option_map (λ port. record { addr = own.addr; port = port; transport = Udp }) (number_from 1 most_port (decimal own.port)))) h.host
    ∙ ap (option_map (λ port. record { addr = own.addr; port = port; transport = Udp })) (number_from_read 1 most_port own.port h.port h.port_within (omega (arith, h.port_within)))
    ∙ ap (λ (t : Transport). Some (record { addr = own.addr; port = own.port; transport = t })) (sym h.transport)

user_lacks : (mark : ℕ) (user : List ℕ) → is_user user ≡ true → is_visible mark ≡ false → Lacks mark user
user_lacks mark user h none = Lacks-pass is_visible mark user none (and_parts (nat_le 1 (length user)) (list_all is_visible user) h).1

location_read : (user : List ℕ) (q : ℕ) (uri : List ℕ) → is_user user ≡ true → q ≤ most_q → read_location (user ++ 32 ∷ numbered_text q uri) ≡ Some (LocationLine user q uri)
location_read user q uri is_one within =
    ap location_cut (cut_again 32 user (Some (numbered_text q uri)) (user_lacks 32 user is_one refl))
    ∙ ap (λ t. cond t (option_map (location_of user) (number_before most_q (numbered_text q uri))) None) is_one
    ∙ ap (option_map (location_of user)) (number_before_read most_q q uri within (omega arith))

pub line_read : (line : Line) → IsLine line → read_line (line_text line) ≡ Some line
line_read (OwnLine own) h = ap (option_map OwnLine) (own_read own h)
line_read (InstanceLine n) h = ap (option_map InstanceLine) (number_read most_instance n h (omega arith))
line_read (DomainLine host) h = ap (λ t. option_map DomainLine (cond t (Some host) None)) h
line_read (PreferLine statuses) h = ap (option_map PreferLine) (preferred_read statuses h)
line_read (DepthLine depth) h = ap (option_map DepthLine) (number_read most_targets depth h (omega arith))
line_read (LocationLine user q uri) h = location_read user q uri h.0 h.1

-- ---- no LF stands in it

abbrev is_plain : ℕ → Bool
is_plain b = not (eqb b 10)

worded : (front back : List ℕ) → list_all is_plain front ≡ true → Lacks 10 back → Lacks 10 (front ++ back)
worded front back plain b = Lacks-append 10 front back (Lacks-pass is_plain 10 front refl plain) b

spaced : (front back : List ℕ) → Lacks 10 front → Lacks 10 back → Lacks 10 (front ++ 32 ∷ back)
spaced front back f b = Lacks-append 10 front (32 ∷ back) f (eqb-false 32 10 refl, b)

-- the same of a host, whose form is known by its first byte
host_lacks : (host : List ℕ) → IsHost host → Lacks 10 host
host_lacks host (inl name) = Lacks-pass is_host_byte 10 host refl name.1
host_lacks host (inr reference) =
    let P : List ℕ → Type 0 = Lacks 10 in
    subst P (sym reference.1)
    (eqb-false 91 10 refl, Lacks-append 10 reference.0 (93 ∷ []) (Lacks-pass is_address_byte 10 reference.0 refl reference.3) (eqb-false 93 10 refl, tt))

abbrev pub UriLacks : Line → Type 0
UriLacks (LocationLine user q uri) = Lacks 10 uri
UriLacks _ = Unit {0}

pub line_lacks : (line : Line) → IsLine line → UriLacks line → Lacks 10 (line_text line)
line_lacks (OwnLine own) h u =
    worded (codes "own ") _ refl
    (spaced (address_text own.addr) (decimal own.port) (address_lacks 10 (eqb-false 46 10 refl, tt) own.addr h.four h.bytes refl) (decimal_lacks 10 own.port refl (omega (arith, h.port_within))))
line_lacks (InstanceLine n) h u = worded (codes "instance ") _ refl (decimal_lacks 10 n refl (omega arith))
line_lacks (DomainLine host) h u = worded (codes "domain ") host refl (host_lacks host (is_host-IsHost host h))
line_lacks (PreferLine statuses) h u = worded (codes "prefer ") _ refl (list_lacks statuses h.client_errors)
line_lacks (DepthLine depth) h u = worded (codes "depth ") _ refl (decimal_lacks 10 depth refl (omega arith))
line_lacks (LocationLine user q uri) h u =
    worded (codes "location ") _ refl
    (spaced user _ (user_lacks 10 user h.0 refl) (spaced (decimal q) uri (decimal_lacks 10 q refl (omega (arith, h.1))) u))
