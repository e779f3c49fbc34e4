-- The parameters and headers of a URI stand behind its first `;` or `?` behind the user.
use Rattle.sip_uri.proofs.Common.{◌≡◌, ℕ, ◌-◌, ◌≤◌, Bool, true, false, eqb, List, [], ◌∷◌, ◌++◌, length, take, drop, Option, Some, None, refl, sym, ap, subst, ◌∙◌, append_assoc, inl, inr, arith, ◌||◌, IfSome, is_ascii_digit, drop_at, eqb-false}
use Rattle.sip_uri.proofs.Common.{behind, cut, is, Lacks, pieces_behind, cut_again, Lacks-append, Lacks-pass, joined, pieces_again, IsUri, IsHost, IsPort, is_address_byte, is_host_byte, uri_of, user_of, front_len, params_in, Uri, params_text}
use Rattle.sip_uri.proofs.Common.{request_uri, user_text, without_methods, common_steps, rules}
use Rattle.sip_uri.specs.inner.Tail.{behind_first, tail_of}
use Rattle.sip_uri.proofs.laws.Found.{parts_join, rest_joins, spelled}
use Rattle.sip_uri.proofs.laws.Only.{digits_lack, each_lacks, params_lack}

abbrev Cut : Type 0
Cut = List ℕ × Option (List ℕ)

abbrev is_mark : ℕ → Bool
is_mark b = eqb b 59 || eqb b 63

-- a text is empty, or begins with a mark
abbrev Begins : List ℕ → Type 0
Begins [] = Unit {0}
Begins (b ∷ bs) = is_mark b ≡ true

stops_at : (tail : List ℕ) → Begins tail → front_len tail ≡ 0
stops_at tail h = grind arith

no_mark : (a b : Bool) → a ≡ false → b ≡ false → (a || b) ≡ false
no_mark a b h k = grind arith

front_again : (front tail : List ℕ) → Lacks 59 front → Lacks 63 front → Begins tail → front_len (front ++ tail) ≡ length front
front_again [] tail h k begins = stops_at tail begins
front_again (b ∷ bs) tail h k begins = grind (arith, front_again bs tail h.1 k.1 begins)

begins_tail : (params : List (List ℕ)) (headers : Option (List ℕ)) → Begins (params_text params ++ behind 63 headers)
begins_tail [] None = tt
begins_tail [] (Some headers) = refl
begins_tail (p ∷ ps) headers = refl

host_lacks : (mark : ℕ) (host : List ℕ) → is_host_byte mark ≡ false → is_address_byte mark ≡ false → eqb 91 mark ≡ false → eqb 93 mark ≡ false → IsHost host → Lacks mark host
host_lacks mark host no_host no_address no_open no_close (inl n) = Lacks-pass is_host_byte mark host no_host n.1
host_lacks mark host no_host no_address no_open no_close (inr r) =
    subst (λ (x : List ℕ). Lacks mark x) (sym r.1) (eqb-false 91 mark no_open, Lacks-append mark r.0 (93 ∷ []) (Lacks-pass is_address_byte mark r.0 no_address r.3) (eqb-false 93 mark no_close, tt))

port_lacks : (mark : ℕ) (port : Option (List ℕ)) → is_ascii_digit mark ≡ false → eqb 58 mark ≡ false → IfSome port IsPort → Lacks mark (behind 58 port)
port_lacks mark port no_digit no_colon h = grind (arith, digits_lack)

-- what stands behind the user is no longer than the whole
pub rest_within : (body rest : List ℕ) → rest ≡ (user_of (cut (is 64) body)).1 → length rest ≤ length body
rest_within body rest e = grind (arith, common_steps, rest_joins body, parts_join body)

abbrev tail_in : Uri → List ℕ
tail_in u = params_text u.params ++ behind 63 u.headers

abbrev address_in : Uri → List ℕ
address_in u = u.host ++ behind 58 u.port

pub tail_found : (text : List ℕ) → IsUri (uri_of text) → tail_of text ≡ tail_in (uri_of text)
tail_found text h =
    let u = uri_of text in
    let address = address_in u in
    let tail = tail_in u in
    let joins : (user_of (cut (is 64) (drop 4 text))).1 ≡ address ++ tail = rest_joins (drop 4 text) ∙ sym (append_assoc u.host (behind 58 u.port) tail) in
    let semicolons = Lacks-append 59 u.host (behind 58 u.port) (host_lacks 59 u.host refl refl refl refl h.host) (port_lacks 59 u.port refl refl h.port) in
    let questions = Lacks-append 63 u.host (behind 58 u.port) (host_lacks 63 u.host refl refl refl refl h.host) (port_lacks 63 u.port refl refl h.port) in
    ap (λ (x : List ℕ). drop (front_len x) x) joins ∙ drop_at address tail _ (sym (front_again address tail semicolons questions (begins_tail u.params u.headers)))

first_behind : (params : List (List ℕ)) → behind_first (params_text params) ≡ joined 59 params
first_behind params = grind arith

params_found : (text : List ℕ) → IsUri (uri_of text) → pieces_behind 59 (params_in (tail_of text)) ≡ (uri_of text).params
params_found text h = search (rules, cut_again, params_lack, tail_found, first_behind, pieces_again, each_lacks)

abbrev head_in : Uri → List ℕ
head_in u = u.scheme ++ (user_text u.user ++ address_in u)

joined_head : (scheme user host port tail : List ℕ) → scheme ++ (user ++ (host ++ (port ++ tail))) ≡ (scheme ++ (user ++ (host ++ port))) ++ tail
joined_head scheme user host port tail = grind (arith, common_steps)

-- what stands before them is the text of a request up to its parameters
pub head_found : (text : List ℕ) (n : ℕ) → IsUri (uri_of text) → n ≡ length text - length (tail_of text) → take n text ≡ head_in (uri_of text)
head_found text n h e = grind (arith, common_steps, spelled text, tail_found text h, joined_head)

-- the head and the parameters that stay are the request's
pub request_joins : (text head kept : List ℕ) (params : Option (List ℕ)) → IsUri (uri_of text) → head ≡ head_in (uri_of text) → params ≡ params_in (tail_of text) → kept ≡ params_text (without_methods (pieces_behind 59 params)) → head ++ kept ≡ request_uri (uri_of text)
request_joins text head kept params h front which rest = grind (arith, common_steps, params_found text h)
