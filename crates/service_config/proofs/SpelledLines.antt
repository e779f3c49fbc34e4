-- Each spelling of a line is read as that line.
use Rattle.service_config.proofs.Common.{◌≡◌, ℕ, ◌≤◌, Bool, true, false, cond, List, [], ◌∷◌, ◌++◌, Option, Some, None, refl, ap, sym, ◌∙◌, arith, codes, option_map, option_and_then, and_parts, eq-eqb, bytes_eq, list_all, length, decimal, AllByRecursion}
use Rattle.service_config.proofs.Common.{Lacks, Lacks-append, Lacks-pass, behind, cut, is, cut_again, decimal_lacks, number_read, plain_number_within, most_q, number_before, number_from, number_before_read, number_from_read, is_no_lf, ◌==◌, ◌%◌, ◌&&◌}
use Rattle.service_config.proofs.Common.{Algorithms, algorithms_named, AreExpirations, Expirations, CommentLine, GatewayLine, HasParts, IsLine, IsLocationLine, IsNet, IsRing, IsRingIfAny, Line, LocationLine, Net, RealmLine, RingLine, SetupLine, LargeLine, StrangersLine, TrustLine, ExpiresLine}
use Rattle.service_config.proofs.Common.{address_number, algorithms_text, are_expirations, block, expirations_text, is_location, is_realm, is_realm_byte, line_text, most_expiration, most_ring, net_text, says_nothing}
use Rattle.std.specs.Prelude.{nat_le}
use Rattle.std.proofs.lemmas.Bool.{eqb-false}
use Rattle.sip_digest.specs.declared.algorithm.Algorithms.TheVariants as algorithms
use Rattle.sip_via.specs.Address.{address_text}
use Rattle.proxy_config.proofs.laws.Lines as setup_laws
use Rattle.proxy_config.specs.Line as setup
use Rattle.proxy_config.specs.LineReading as setup_line
use Rattle.service_config.specs.inner.LineReading.{expirations_if, gateway_of, location_cut, net_at, net_cut, net_if, of_setup, read_cut, read_expirations, read_line, read_net, read_plain, realm_cut, second_expiration, third_expiration}
use Rattle.service_config.proofs.Plain.{no_lf}

abbrev Cut : Type 0
Cut = List ℕ × Option (List ℕ)

-- ---- realm

algorithms_read : (them : Algorithms) → algorithms_named (algorithms_text them) ≡ Some them
algorithms_read algorithms.Md5 = refl
algorithms_read algorithms.Sha256 = refl
algorithms_read algorithms.Sha256AndMd5 = refl
algorithms_read algorithms.Md5AndSha256 = refl

realm_lacks : (realm : List ℕ) → is_realm realm ≡ true → Lacks 32 realm
realm_lacks realm h = Lacks-pass is_realm_byte 32 realm refl (and_parts (nat_le 1 (length realm) && nat_le (length realm) 64) (list_all is_realm_byte realm) h).1

realm_read : (realm : List ℕ) (them : Option Algorithms) → is_realm realm ≡ true → realm_cut (cut (is 32) (realm ++ behind 32 (option_map algorithms_text them))) ≡ Some (RealmLine realm them)
realm_read realm None h =
    ap realm_cut (cut_again 32 realm None (realm_lacks realm h)) ∙ ap (λ (b : Bool). cond b (Some (RealmLine realm None)) None) h
realm_read realm (Some them) h =
    ap realm_cut (cut_again 32 realm (Some (algorithms_text them)) (realm_lacks realm h))
    ∙ ap (λ (b : Bool). cond b (option_map (λ a. RealmLine realm (Some a)) (algorithms_named (algorithms_text them))) None) h
    ∙ ap (option_map (λ a. RealmLine realm (Some a))) (algorithms_read them)

-- ---- expires

expirations_read : (times : Expirations) → AreExpirations times → read_expirations (expirations_text times) ≡ Some times
expirations_read times h =
    let low = and_parts (nat_le 1 times.least && nat_le times.least times.usual) (nat_le times.usual times.most) h.rising in
    let first = and_parts (nat_le 1 times.least) (nat_le times.least times.usual) low.0 in
    let usual : times.usual ≤ times.most = le_of times.usual times.most low.1 in
    let least : times.least ≤ times.usual = le_of times.least times.usual first.1 in
    let within : times.most ≤ 604800 = h.within in
    ap (option_and_then second_expiration) (number_before_read most_expiration times.least (decimal times.usual ++ 32 ∷ decimal times.most) (omega arith) (omega arith))
    ∙ ap (option_and_then (third_expiration times.least)) (number_before_read most_expiration times.usual (decimal times.most) (omega arith) (omega arith))
    ∙ ap (option_and_then (expirations_if times.least times.usual)) (number_read most_expiration times.most h.within (omega arith))
    ∙ ap (λ (b : Bool). cond b (Some times) None) h.rising
  where
    le_of : (m n : ℕ) → nat_le m n ≡ true → m ≤ n
    le_of m n e = grind arith

-- ---- trust

address_lacks : (addr : List ℕ) → length addr ≡ 4 → AllByRecursion (λ byte. byte ≤ 255) addr → Lacks 47 (address_text addr)
address_lacks addr four bytes = setup_laws.address_lacks 47 (eqb-false 46 47 refl, tt) addr four bytes refl

net_read : (net : Net) → IsNet net → read_net (net_text net) ≡ Some net
net_read net h =
    let bits : net.bits ≤ 32 = h.bits in
    ap net_cut (cut_again 47 (address_text net.addr) (Some (decimal net.bits)) (address_lacks net.addr h.four h.bytes))
    ∙ ap (option_and_then (net_at (decimal net.bits))) (setup_laws.octets_read net.addr h.four h.bytes)
    ∙ ap (option_and_then (net_if net.addr)) (number_read 32 net.bits h.bits (omega arith))
    ∙ ap (λ (b : Bool). cond b (Some net) None) (eq-eqb (address_number net.addr % block net.bits) 0 h.plain)

-- ---- location

location_read : (user : List ℕ) (q : ℕ) (uri : List ℕ) (seconds : Option ℕ) → IsLocationLine user q uri seconds
    → location_cut user q (cut (is 32) (uri ++ behind 32 (option_map decimal seconds))) ≡ Some (LocationLine user q uri seconds)
location_read user q uri None h = ap (location_cut user q) (cut_again 32 uri None h.word)
location_read user q uri (Some seconds) h =
    let within : seconds ≤ 181 = h.ring.1 in
    ap (location_cut user q) (cut_again 32 uri (Some (decimal seconds)) h.word)
    ∙ ap (option_map (λ s. LocationLine user q uri (Some s))) (number_from_read 1 most_ring seconds h.ring.0 h.ring.1 (omega arith))

-- ---- a line

plain_read : (line : Line) → HasParts line → read_plain (line_text line) ≡ Some line
plain_read (SetupLine (setup.OwnLine own)) h = ap (option_and_then of_setup) (setup_laws.line_read (setup.OwnLine own) h.0)
plain_read (SetupLine (setup.InstanceLine n)) h = ap (option_and_then of_setup) (setup_laws.line_read (setup.InstanceLine n) h.0)
plain_read (SetupLine (setup.DomainLine host)) h = ap (option_and_then of_setup) (setup_laws.line_read (setup.DomainLine host) h.0)
plain_read (SetupLine (setup.PreferLine statuses)) h = ap (option_and_then of_setup) (setup_laws.line_read (setup.PreferLine statuses) h.0)
plain_read (SetupLine (setup.DepthLine depth)) h = ap (option_and_then of_setup) (setup_laws.line_read (setup.DepthLine depth) h.0)
plain_read (SetupLine (setup.LocationLine user q uri)) h = let none : true ≡ false = h.1 in absurd cc
plain_read (RingLine seconds) h =
    let within : seconds ≤ 181 = h.1 in
    ap (option_map RingLine) (number_from_read 1 most_ring seconds h.0 h.1 (omega arith))
plain_read LargeLine h = refl
plain_read (RealmLine realm algorithms) h = realm_read realm algorithms h
plain_read (ExpiresLine times) h = ap (option_map ExpiresLine) (expirations_read times h)
plain_read StrangersLine h = refl
plain_read (TrustLine net) h = ap (option_map TrustLine) (net_read net h)
plain_read (GatewayLine q uri) h =
    let within : q ≤ 1000 = h in
    ap (option_map gateway_of) (number_before_read most_q q uri h (omega arith))
plain_read (LocationLine user q uri seconds) h =
    ap (option_and_then of_setup) (setup_laws.line_read (setup.LocationLine user q (uri ++ behind 32 (option_map decimal seconds))) (h.user_is, h.q_within))
    ∙ location_read user q uri seconds h
plain_read (CommentLine text) h =
    ap (λ (b : Bool). cond b (Some (CommentLine text)) (cond (bytes_eq text (codes "strangers")) (Some StrangersLine) (cond (bytes_eq text (codes "large tcp")) (Some LargeLine) (read_cut text (cut (is 32) text))))) h

pub line_read : (line : Line) → IsLine line → read_line (line_text line) ≡ Some line
line_read line h =
    ap (λ (b : Bool). cond b (read_plain (line_text line)) None) (no_lf (line_text line) h.within) ∙ plain_read line h.parts
