-- The bytes of a URI as a request writes it.
use Rattle.sip_uri.proofs.Common.{◌≡◌, ℕ, true, List, [], ◌∷◌, ◌++◌, refl, list_all, IsUri, is_uri_byte, IsKept, uri_of, Uri, param_text, params_text, request_uri, without_methods, common_steps, arith}
use Rattle.sip_uri.proofs.laws.Found.{found}

abbrev pub AreBytes : List ℕ → Type 0
AreBytes bs = list_all is_uri_byte bs ≡ true

pub parts : (xs ys : List ℕ) → AreBytes (xs ++ ys) → AreBytes xs × AreBytes ys
parts xs ys h = grind (arith, common_steps)

pub whole : (xs ys : List ℕ) → AreBytes xs → AreBytes ys → AreBytes (xs ++ ys)
whole xs ys h k = grind (arith, common_steps)

kept_bytes : (params : List (List ℕ)) → AreBytes (params_text params) → AreBytes (params_text (without_methods params))
kept_bytes [] h = refl
kept_bytes (p ∷ ps) h =
    let both = parts (param_text p) (params_text ps) h in
    grind (arith, common_steps, whole (param_text p) (params_text (without_methods ps)) both.0 (kept_bytes ps both.1))

pub request_bytes : (u : Uri) → IsUri u → AreBytes (request_uri u)
request_bytes u h = grind (arith, common_steps, kept_bytes)

-- what is kept is a URI
pub kept_uri : (text key : List ℕ) → IsKept text key → IsUri (uri_of text)
kept_uri text key k = (found text (uri_of text) k.read).0
