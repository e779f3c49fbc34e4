-- Reading in one go gives what reading by the order of faults gives.
use Rattle.sip_uri.proofs.Common.{◌≡◌, ℕ, ◌≤◌, Bool, true, false, not, cond, List, [], ◌∷◌, map, take, drop, Option, Some, None, Ok, Err, refl, sym, ap, subst, ◌∙◌, inl, inr, arith, ◌&&◌, to_ascii_lowercase, list_all, and_from, and_parts, cases_Bool}
use Rattle.sip_uri.proofs.Common.{cond-false, cond-true, behind, pieces_behind, pieces_behind_join, UriFault, NotSip, BadHost, BadPort, BadText, named_fault, is_uri_byte, IsHost, is_address_byte, is_host, is_host_byte, IsKept, parts_key, Parts}
use Rattle.sip_uri.proofs.Common.{is_full, is_param, is_port_if_any, is_sip, or_fault, parts_of, uri_of, Uri, params_text, user_text, common_steps}
use Rattle.std.specs.Int.{is_in_range}
use Rattle.sip_uri.specs.inner.Checked.{are_bytes_if_any, are_params_if_any, are_texts, checked_uri, is_user_if_any, part_fault}
use Rattle.sip_uri.specs.Reading.{fault_of, read_uri}
use Rattle.sip_uri.proofs.laws.Found.{passes, read_parts, spelled}
use Rattle.sip_uri.proofs.laws.Hosts.{is_host-IsHost}
use Rattle.sip_uri.proofs.Readings.{long_enough, scheme_is}
use Rattle.sip_uri.proofs.Requests.{AreBytes, parts}

-- ---- the bytes of schemes, hosts and ports stand in a URI

abbrev Printed : ℕ → Type 0
Printed b = (33 ≤ b) × (b ≤ 126)

in_uri : (p : ℕ → Bool) (b : ℕ) → p 34 ≡ false → p 60 ≡ false → p 62 ≡ false → p b ≡ true → Printed b → is_uri_byte b ≡ true
in_uri p b quote less more h r = grind arith

in_range : (lo hi b : ℕ) → 33 ≤ lo → hi ≤ 126 → is_in_range lo hi b ≡ true → Printed b
in_range lo hi b low high h = grind arith

host_printed : (b : ℕ) → is_host_byte b ≡ true → Printed b
host_printed b h = grind arith

address_printed : (b : ℕ) → is_address_byte b ≡ true → Printed b
address_printed b h = grind arith

host_byte : (b : ℕ) → is_host_byte b ≡ true → is_uri_byte b ≡ true
host_byte b h = in_uri is_host_byte b refl refl refl h (host_printed b h)

address_byte : (b : ℕ) → is_address_byte b ≡ true → is_uri_byte b ≡ true
address_byte b h = in_uri is_address_byte b refl refl refl h (address_printed b h)

-- a test that passes where another does
weaker : (p q : ℕ → Bool) (bs : List ℕ) → ((b : ℕ) → p b ≡ true → q b ≡ true) → list_all p bs ≡ true → list_all q bs ≡ true
weaker p q [] passes h = refl
weaker p q (b ∷ bs) passes h =
    let each = and_parts (p b) (list_all p bs) h in
    and_from (q b) (list_all q bs) (passes b each.0) (weaker p q bs passes each.1)

of_host : (host : List ℕ) → IsHost host → AreBytes host
of_host host fact = grind (arith, common_steps, weaker, host_byte)

of_port : (port : Option (List ℕ)) → is_port_if_any port ≡ true → AreBytes (behind 58 port)
of_port port h = grind (arith, weaker)

lower_byte : (b : ℕ) → is_uri_byte (to_ascii_lowercase b) ≡ true → is_uri_byte b ≡ true
lower_byte b h = grind arith

lower_bytes : (bs : List ℕ) → AreBytes (map to_ascii_lowercase bs) → AreBytes bs
lower_bytes [] h = refl
lower_bytes (b ∷ bs) h =
    let each = and_parts (is_uri_byte (to_ascii_lowercase b)) (list_all is_uri_byte (map to_ascii_lowercase bs)) h in
    and_from _ _ (lower_byte b each.0) (lower_bytes bs each.1)

of_scheme : (text : List ℕ) → is_sip text ≡ true → AreBytes (take 4 text)
of_scheme text sip = lower_bytes (take 4 text) (subst (λ (x : List ℕ). AreBytes x) (sym (scheme_is text sip)) refl)

-- ---- parts whose bytes stand in a URI

user_bytes : (user : Option (List ℕ)) → AreBytes (user_text user) → are_bytes_if_any user ≡ true
user_bytes user h = grind (arith, common_steps)

behind_bytes : (mark : ℕ) (part : Option (List ℕ)) → AreBytes (behind mark part) → are_bytes_if_any part ≡ true
behind_bytes mark part h = grind arith

of_user : (user : Option (List ℕ)) → are_bytes_if_any user ≡ true → AreBytes (user_text user)
of_user user h = grind (arith, common_steps)

of_behind : (mark : ℕ) (part : Option (List ℕ)) → is_uri_byte mark ≡ true → are_bytes_if_any part ≡ true → AreBytes (behind mark part)
of_behind mark part m h = grind arith

-- ---- where all bytes stand in a URI, the parts decide

and_true : (a b : Bool) → b ≡ true → (a && b) ≡ a
and_true a b e = grind arith

drops : (u ub p pb h : Bool) → ub ≡ true → pb ≡ true → h ≡ true → ((u && ub) && (p && pb) && h) ≡ (u && p)
drops u ub p pb h a b c = grind arith

abbrev second : Bool → Bool → Bool → Option UriFault
second host port texts = cond (not host) (Some BadHost) (cond (not port) (Some BadPort) (cond (not texts) (Some BadText) None))

same_fault : (p : Parts) → are_texts p ≡ (is_full p.user && list_all is_param (pieces_behind 59 p.params)) → part_fault p ≡ fault_of p
unfolding part_fault fault_of
same_fault p e = ap (second (is_host p.host) (is_port_if_any p.port)) e

bytes_decide : (text : List ℕ) → AreBytes text → part_fault (parts_of (drop 4 text)) ≡ fault_of (parts_of (drop 4 text))
bytes_decide text h =
    let u = uri_of text in
    let p = parts_of (drop 4 text) in
    let a = parts u.scheme _ (subst (λ (x : List ℕ). AreBytes x) (spelled text) h) in
    let b = parts (user_text u.user) _ a.1 in
    let c = parts u.host _ b.1 in
    let d = parts (behind 58 u.port) _ c.1 in
    let e = parts (params_text u.params) (behind 63 u.headers) d.1 in
    let params = behind_bytes 59 p.params (subst (λ (x : List ℕ). AreBytes x) (pieces_behind_join 59 p.params) e.0) in
    same_fault p (drops (is_full p.user) (are_bytes_if_any p.user) (list_all is_param (pieces_behind 59 p.params)) (are_bytes_if_any p.params) (are_bytes_if_any p.headers) (user_bytes p.user b.0) params (behind_bytes 63 p.headers e.1))

-- ---- where no part has a fault, all bytes stand in a URI

record AreSound (p : Parts) : Type 0 where
  host : is_host p.host ≡ true
  port : is_port_if_any p.port ≡ true
  texts : are_texts p ≡ true

are_sound : (p : Parts) → part_fault p ≡ None → AreSound p
unfolding part_fault
are_sound p e = grind arith

sound_bytes : (text : List ℕ) → is_sip text ≡ true → part_fault (parts_of (drop 4 text)) ≡ None → AreBytes text
sound_bytes text sip e =
    let p = parts_of (drop 4 text) in
    let s = are_sound p e in
    let a = and_parts (is_user_if_any p.user && are_params_if_any p.params) (are_bytes_if_any p.headers) s.texts in
    let b = and_parts (is_user_if_any p.user) (are_params_if_any p.params) a.0 in
    let user = of_user p.user (and_parts (is_full p.user) (are_bytes_if_any p.user) b.0).1 in
    let params = subst (λ (x : List ℕ). AreBytes x) (sym (pieces_behind_join 59 p.params)) (of_behind 59 p.params refl (and_parts (list_all is_param (pieces_behind 59 p.params)) (are_bytes_if_any p.params) b.1).1) in
    grind (arith, common_steps, of_scheme text sip, spelled text, of_host, is_host-IsHost, of_port, of_behind)

-- ---- the two readings

named : (text : List ℕ) (found wanted : Option UriFault) → (AreBytes text → found ≡ wanted) → (found ≡ None → AreBytes text) → named_fault text found ≡ cond (not (list_all is_uri_byte text)) (Some BadText) wanted
named text found wanted same bytes = grind arith

guarded : (b : Bool) (f : Option UriFault) (u : Uri) → or_fault (cond (not b) (Some BadText) f) u ≡ cond (not b) (Err BadText) (or_fault f u)
guarded b f u = grind arith

pub checked_reads : (text : List ℕ) → checked_uri text ≡ read_uri text
unfolding checked_uri read_uri
checked_reads text =
    let p = parts_of (drop 4 text) in
    elim (cases_Bool (is_sip text)) [
      | inl sip ↦
          let fault = named text (part_fault p) (fault_of p) (bytes_decide text) (sound_bytes text sip) in
          cond-false _ _ _ (ap not sip) ∙ ap (λ f. or_fault f (uri_of text)) fault ∙ guarded (list_all is_uri_byte text) (fault_of p) (uri_of text) ∙ sym (cond-false _ _ _ (ap not sip))
      | inr other ↦ cond-true _ _ _ (ap not other) ∙ sym (cond-true _ _ _ (ap not other))
    ]

-- a text that is no SIP URI
pub not_sip : (text : List ℕ) → is_sip text ≡ false → read_uri text ≡ Err NotSip
unfolding read_uri
not_sip text other = cond-true _ _ _ (ap not other)

abbrev fault_by_parts : List ℕ → Option UriFault
fault_by_parts text = named_fault text (part_fault (parts_of (drop 4 text)))

-- what is read of any other, by the fault of its parts
pub read_by_parts : (text : List ℕ) (fault : Option UriFault) → is_sip text ≡ true → fault ≡ fault_by_parts text → read_uri text ≡ or_fault fault (uri_of text)
unfolding checked_uri
read_by_parts text fault sip e = sym (checked_reads text) ∙ cond-false _ _ _ (ap not sip) ∙ sym (ap (λ f. or_fault f (uri_of text)) e)

-- what is kept of a text that is read
pub kept_read : (text key : List ℕ) → read_uri text ≡ Ok (uri_of text) → key ≡ parts_key (parts_of (drop 4 text)) → IsKept text key
kept_read text key read keyed = record { long = long_enough text (read_parts text (uri_of text) read).sip; read = read; keyed = keyed }
