-- A URI without the parameter `method` and the headers is one again, with the same key.
use Rattle.sip_uri.proofs.Common.{◌≡◌, ℕ, Bool, true, false, cond, not, List, [], ◌∷◌, ◌++◌, Option, Ok, ap, map, refl, sym, inl, inr, ◌∙◌, IfNone, AllByRecursion, list_all, Lacks, behind, cases_Bool, cond-false, cond-true, str_to_ascii_lowercase}
use Rattle.sip_uri.proofs.Common.{IsParam, IsUri, is_uri_byte, IsKept, add_distinct, read_uri, uri_of, Uri, is_method, params_text, request_uri, requested, rest_text, spelling, user_text, without_methods, common_steps, arith}
use Rattle.std.proofs.Common.{filter}
use Rattle.std.specs.Prelude.{IsTrue}
use Rattle.std.specs.List.{fold}
use Rattle.sip_uri.specs.Key.{key_of, port_key}
use Rattle.sip_uri.proofs.laws.Found.{read_parts}
use Rattle.sip_uri.proofs.laws.Only.{read_again}
use Rattle.sip_uri.proofs.Requests.{kept_uri, request_bytes}

module _ {A : Type 0} (P : A → Type 0) where
  all_front : (xs ys : List A) → AllByRecursion P (xs ++ ys) → AllByRecursion P xs
  all_front [] ys h = tt
  all_front (x ∷ xs) ys h = (h.0, all_front xs ys h.1)

  all_back : (xs ys : List A) → AllByRecursion P (xs ++ ys) → AllByRecursion P ys
  all_back [] ys h = h
  all_back (x ∷ xs) ys h = all_back xs ys h.1

  all_join : (xs ys : List A) → AllByRecursion P xs → AllByRecursion P ys → AllByRecursion P (xs ++ ys)
  all_join [] ys h k = k
  all_join (x ∷ xs) ys h k = (h.0, all_join xs ys h.1 k)

  all_filter : (p : A → Bool) (xs : List A) → AllByRecursion P xs → AllByRecursion P (filter p xs)
  all_filter p [] h = tt
  all_filter p (x ∷ xs) h = by (p x) (all_filter p xs h.1)
    where
      by : (b : Bool) → AllByRecursion P (filter p xs) → AllByRecursion P (cond b (x ∷ filter p xs) (filter p xs))
      by true rest = (h.0, rest)
      by false rest = rest

lacks_params : (p : List ℕ → Bool) (params : List (List ℕ)) → Lacks 64 (params_text params) → Lacks 64 (params_text (filter p params))
lacks_params p [] h = tt
lacks_params p (param ∷ params) h = by (p param) (lacks_params p params (all_back _ (59 ∷ param) (params_text params) h))
  where
    by : (b : Bool) → Lacks 64 (params_text (filter p params)) → Lacks 64 (params_text (cond b (param ∷ filter p params) (filter p params)))
    by true rest = all_join _ (59 ∷ param) (params_text (filter p params)) (all_front _ (59 ∷ param) (params_text params) h) rest
    by false rest = rest

lacks_rest : (u : Uri) → Lacks 64 (rest_text u) → Lacks 64 (rest_text (requested u))
lacks_rest u h =
    let tail = params_text u.params ++ behind 63 u.headers in
    let behind_host = all_back _ u.host (behind 58 u.port ++ tail) h in
    let behind_port = all_back _ (behind 58 u.port) tail behind_host in
    let params = lacks_params _ u.params (all_front _ (params_text u.params) (behind 63 u.headers) behind_port) in
    all_join _ u.host _ (all_front _ u.host (behind 58 u.port ++ tail) h)
    (all_join _ (behind 58 u.port) _ (all_front _ (behind 58 u.port) tail behind_host)
    (all_join _ (params_text (without_methods u.params)) [] params tt))

if_none : {X : Type 0} {A B : Type 0} (o : Option X) → (A → B) → IfNone o A → IfNone o B
if_none o f h = grind arith

spelled : (u : Uri) → spelling (requested u) ≡ request_uri u
spelled u = grind (arith, common_steps)

is_requested : (u : Uri) → IsUri u → IsTrue (list_all is_uri_byte (request_uri u)) → IsUri (requested u)
is_requested u h bytes = record {
  scheme = h.scheme;
  bytes = rw (spelled u) bytes;
  user = h.user;
  no_user = if_none u.user (lacks_rest u) h.no_user;
  host = h.host;
  port = h.port;
  params = all_filter IsParam _ u.params h.params;
}

-- ---- the key

module _ {A : Type 0} (p : A → Bool) where
  filter_twice : (xs : List A) → filter p (filter p xs) ≡ filter p xs
  filter_twice [] = refl
  filter_twice (x ∷ xs) =
      elim (cases_Bool (p x)) [
        | inl e ↦ ap (filter p) (cond-true _ _ _ e) ∙ cond-true _ _ _ e ∙ ap (λ (t : List A). x ∷ t) (filter_twice xs) ∙ sym (cond-true _ _ _ e)
        | inr e ↦ ap (filter p) (cond-false _ _ _ e) ∙ filter_twice xs ∙ sym (cond-false _ _ _ e)
      ]

same_key : (u : Uri) → key_of (requested u) ≡ key_of u
same_key u =
    ap (λ (t : List (List ℕ)). user_text u.user ++ (str_to_ascii_lowercase u.host ++ (port_key u.port ++ params_text (fold add_distinct [] (map str_to_ascii_lowercase t)))))
    (filter_twice (λ param. not (is_method param)) u.params)

-- ---- what is kept of it

read_requested : (u : Uri) → IsUri u → read_uri (request_uri u) ≡ Ok (requested u)
read_requested u good = grind (arith, common_steps, read_again (requested u) (is_requested u good (request_bytes u good)))

pub requested_view : (text key : List ℕ) → IsKept text key → uri_of (request_uri (uri_of text)) ≡ requested (uri_of text)
requested_view text key k =
    let u = uri_of text in
    sym (read_parts (request_uri u) (requested u) (read_requested u (kept_uri text key k))).value

pub requested_is_kept : (text key : List ℕ) → IsKept text key → IsKept (request_uri (uri_of text)) key
requested_is_kept text key k =
    let u = uri_of text in
    grind (arith, read_requested u (kept_uri text key k), requested_view text key k, same_key u)
