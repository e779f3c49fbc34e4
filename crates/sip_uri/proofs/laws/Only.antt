-- What is a URI is read.
use Rattle.sip_uri.proofs.Common.{◌≡◌, ◌≢◌, ℕ, ◌+◌, Bool, true, false, eqb, ltb, List, [], ◌∷◌, ◌++◌, length, map, take, drop, Option, Some, None, Result, Ok, Err, refl, sym, ap, subst, ◌∙◌, append_assoc, arith, IfSome, IfNone, ◌&&◌, codes}
use Rattle.sip_uri.proofs.Common.{to_ascii_lowercase, is_ascii_digit, list_all, AllByRecursion, append-nil, drop_at, length-map, take_at, eqb-true, eqb-false, and_from, and_parts, false≢true, false_from_ne_true, behind, cut, is, Lacks, pieces_behind}
use Rattle.sip_uri.proofs.Common.{cut_again, Lacks-append, Lacks-pass, joined, pieces_again, UriFault, Gives, IsParam, IsUri, hop_if_read, IsHost, IsPort, ends_host, host_len, is_address_byte, is_host, is_host_byte, Parts, is_full, is_param}
use Rattle.sip_uri.proofs.Common.{is_port_if_any, is_sip, port_and_params, read_uri, user_of, Uri, params_text, rest_text, spelling, user_text, common_steps}
use Rattle.std.specs.Prelude.{◌↔◌}
use Rattle.std.specs.Str.{bytes_eq}
use Rattle.sip_uri.specs.Fault.{fault_if_refused}
use Rattle.sip_uri.specs.Grammar.{IsUriText}
use Rattle.sip_uri.specs.Hop.{hop_of}
use Rattle.sip_uri.specs.Reading.{fault_of, parts_of}
use Rattle.sip_uri.proofs.laws.Found.{found}
use Rattle.sip_uri.proofs.laws.Hosts.{IsHost-is_host}
use Rattle.sip_uri.proofs.Readings.{read_ok}

abbrev Cut : Type 0
Cut = List ℕ × Option (List ℕ)

-- ---- the host ends where it ended

-- what stands behind a host is empty, or begins with a byte that ends it
abbrev Ends : List ℕ → Type 0
Ends [] = Unit {0}
Ends (b ∷ bs) = ends_host b ≡ true

stops_at : (tail : List ℕ) → Ends tail → host_len false tail ≡ 0
stops_at tail h = grind arith

name_len : (host tail : List ℕ) → list_all is_host_byte host ≡ true → Ends tail → host_len false (host ++ tail) ≡ length host
name_len [] tail h ends = stops_at tail ends
name_len (b ∷ bs) tail h ends =
    let both = and_parts (is_host_byte b) (list_all is_host_byte bs) h in
    grind (arith, name_len bs tail both.1 ends)

address_byte : (b : ℕ) → is_address_byte b ≡ true → eqb b 93 ≡ false
address_byte b h = false_from_ne_true (eqb b 93) (λ e. let bad : is_address_byte 93 ≡ true = subst (λ x. is_address_byte x ≡ true) (eqb-true b 93 e) h in absurd (false≢true bad))

inner_len : (inner tail : List ℕ) → list_all is_address_byte inner ≡ true → Ends tail → host_len true (inner ++ 93 ∷ tail) ≡ 1 + length inner
inner_len [] tail h ends = ap (λ n. 1 + n) (stops_at tail ends)
inner_len (b ∷ bs) tail h ends =
    let both = and_parts (is_address_byte b) (list_all is_address_byte bs) h in
    grind (arith, inner_len bs tail both.1 ends)

host_len-host : (host tail : List ℕ) → IsHost host → Ends tail → host_len false (host ++ tail) ≡ length host
host_len-host host tail fact ends = grind (arith, common_steps, name_len, inner_len)

-- ---- the tail is cut into port, parameters and headers

pub digits_lack : (mark : ℕ) (port : List ℕ) → is_ascii_digit mark ≡ false → IsPort port → Lacks mark port
digits_lack mark port fails p = Lacks-pass is_ascii_digit mark port fails (and_parts (ltb 0 (length port)) (list_all is_ascii_digit port) p.digits).1

port_lacks : (port : Option (List ℕ)) → IfSome port IsPort → Lacks 63 (behind 58 port)
port_lacks port h = grind (arith, digits_lack)

pub params_lack : (params : List (List ℕ)) → AllByRecursion IsParam params → Lacks 63 (params_text params)
params_lack [] h = tt
params_lack (p ∷ ps) h = (eqb-false 59 63 refl, Lacks-append 63 p (params_text ps) h.0.no_question (params_lack ps h.1))

pub each_lacks : (params : List (List ℕ)) → AllByRecursion IsParam params → AllByRecursion (Lacks 59) params
each_lacks [] h = tt
each_lacks (p ∷ ps) h = (h.0.no_semicolon, each_lacks ps h.1)

tail_cut : (port : Option (List ℕ)) (params : List (List ℕ)) (headers : Option (List ℕ)) → IfSome port IsPort → AllByRecursion IsParam params → cut (is 63) (behind 58 port ++ (params_text params ++ behind 63 headers)) ≡ (behind 58 port ++ params_text params, headers)
tail_cut port params headers h k = grind (arith, common_steps, cut_again, port_lacks, params_lack)

marks_again : (port : Option (List ℕ)) (params : List (List ℕ)) → IfSome port IsPort → port_and_params (behind 58 port ++ params_text params) ≡ (port, joined 59 params)
marks_again None [] h = refl
marks_again None (p ∷ ps) h = refl
marks_again (Some digits) params h = grind (arith, cut_again 59 digits (joined 59 params) (digits_lack 59 digits refl h))

-- ---- the parts are found again

user_again : (user : Option (List ℕ)) (rest : List ℕ) → IfSome user (λ w. (w ≢ []) × Lacks 64 w) → IfNone user (Lacks 64 rest) → user_of (cut (is 64) (user_text user ++ rest)) ≡ (user, rest)
user_again None rest h k = ap user_of (ap (cut (is 64)) (sym (append-nil rest)) ∙ cut_again 64 rest None k)
user_again (Some user) rest h k = ap user_of (ap (cut (is 64)) (append_assoc user (64 ∷ []) rest) ∙ cut_again 64 user (Some rest) h.1)

abbrev with_marks : Option (List ℕ) → List ℕ → Option (List ℕ) → Option (List ℕ) × Option (List ℕ) → Parts
with_marks user host headers marks = record { user = user; host = host; port = marks.0; params = marks.1; headers = headers }

abbrev with_tail : Option (List ℕ) → List ℕ → Cut → Parts
with_tail user host tail = with_marks user host tail.1 (port_and_params tail.0)

abbrev with_len : Option (List ℕ) → List ℕ → ℕ → Parts
with_len user rest n = with_tail user (take n rest) (cut (is 63) (drop n rest))

abbrev with_user : Option (List ℕ) × List ℕ → Parts
with_user user = with_len user.0 user.1 (host_len false user.1)

parts_of-user : (body : List ℕ) → parts_of body ≡ with_user (user_of (cut (is 64) body))
unfolding parts_of
parts_of-user body = refl

abbrev parts_in : Uri → Parts
parts_in u = record { user = u.user; host = u.host; port = u.port; params = joined 59 u.params; headers = u.headers }

parts_again : (u : Uri) → IsUri u → parts_of (user_text u.user ++ rest_text u) ≡ parts_in u
parts_again u h = grind (arith, common_steps, parts_of-user, user_again, host_len-host, tail_cut, marks_again)

-- ---- and pass each test

pub port_good : (port : Option (List ℕ)) → IfSome port IsPort → is_port_if_any port ≡ true
port_good port h = grind arith

user_good : (user : Option (List ℕ)) → IfSome user (λ w. (w ≢ []) × Lacks 64 w) → is_full user ≡ true
user_good user h = grind (arith, common_steps)

value_good : (value : Option (List ℕ)) → IfSome value (λ v. v ≢ []) → is_full value ≡ true
value_good value h = grind (arith, common_steps)

abbrev good_cut : Cut → Bool
good_cut c = ltb 0 (length c.0) && is_full c.1

param_good : (param : List ℕ) → IsParam param → is_param param ≡ true
param_good param h = grind (arith, common_steps, cut_again)

params_good : (params : List (List ℕ)) → AllByRecursion IsParam params → list_all is_param params ≡ true
params_good [] h = refl
params_good (p ∷ ps) h = and_from _ _ (param_good p h.0) (params_good ps h.1)

no_fault : (p : Parts) → is_host p.host ≡ true → is_port_if_any p.port ≡ true → is_full p.user ≡ true → list_all is_param (pieces_behind 59 p.params) ≡ true → fault_of p ≡ None
unfolding fault_of
no_fault p host port user params = grind arith

-- ---- the whole

scheme_len : (u : Uri) → IsUri u → length u.scheme ≡ 4
scheme_len u h = sym (length-map u.scheme to_ascii_lowercase) ∙ ap length h.scheme

abbrev with_params : Uri → List (List ℕ) → Uri
with_params u params = record { scheme = u.scheme; user = u.user; host = u.host; port = u.port; params = params; headers = u.headers }

abbrev is_ok : Uri → Result Uri UriFault
is_ok u = Ok u

pub read_again : (u : Uri) → IsUri u → read_uri (spelling u) ≡ Ok u
read_again u h =
    let body = user_text u.user ++ rest_text u in
    let text = spelling u in
    let front : take 4 text ≡ u.scheme = take_at u.scheme body 4 (scheme_len u h) in
    let parts : parts_of (drop 4 text) ≡ parts_in u = ap parts_of (drop_at u.scheme body 4 (scheme_len u h)) ∙ parts_again u h in
    let params = pieces_again 59 u.params (each_lacks u.params h.params) in
    let sip : is_sip text ≡ true = ap (λ (s : List ℕ). bytes_eq (map to_ascii_lowercase s) (codes "sip:")) front ∙ ap (λ (s : List ℕ). bytes_eq s (codes "sip:")) h.scheme in
    let passed = no_fault (parts_in u) (IsHost-is_host u.host h.host) (port_good u.port h.port) (user_good u.user h.user) (ap (list_all is_param) params ∙ params_good u.params h.params) in
    grind (arith, read_ok)

pub only_read : (text : List ℕ) (r : Result Uri UriFault) → Gives (λ (v : Uri). v) r (read_uri text) → (u : Uri) → IsUri u → text ≡ spelling u → Gives (λ (v : Uri). v) r (Ok u)
only_read text r h u good spelled = subst (λ (x : Result Uri UriFault). Gives (λ (v : Uri). v) r x) (ap read_uri spelled ∙ read_again u good) h

-- where a request to the URI that a text spells is sent
pub hop_only : (text : List ℕ) (u : Uri) → IsUri u → text ≡ spelling u → hop_if_read (read_uri text) ≡ hop_of u
hop_only text u good spelled = ap hop_if_read (ap read_uri spelled ∙ read_again u good)

of_reading : (text : List ℕ) (r : Result Uri UriFault) → read_uri text ≡ r → fault_if_refused r ≡ None → IsUriText text
of_reading text (Ok u) e h = let both = found text u e in (u, both.0, both.1)
of_reading text (Err f) e h = absurd cc

abbrev fault_at : List ℕ → Option UriFault
fault_at text = fault_if_refused (read_uri text)

-- no fault is named exactly of a URI
pub no_fault_exactly : (text : List ℕ) (fault : Option UriFault) → fault ≡ fault_if_refused (read_uri text) → (fault ≡ None) ↔ IsUriText text
no_fault_exactly text fault e = (
  λ none. of_reading text (read_uri text) refl (sym e ∙ none),
  λ h. e ∙ ap fault_at h.2 ∙ ap (λ (r : Result Uri UriFault). fault_if_refused r) (read_again h.0 h.1),
)
