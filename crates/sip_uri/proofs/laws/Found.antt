-- What is read is a URI, and is spelled so.
use Rattle.sip_uri.proofs.Common.{◌≡◌, ◌≢◌, ℕ, suc, ◌+◌, Bool, true, false, not, cond, eqb, ltb, List, [], ◌∷◌, ◌++◌, length, take, drop, Option, Some, None, Result, Ok, Err, refl, sym, ap, subst, ◌∙◌, inl, inr, arith, IfOk, IfSome, IfNone, ◌||◌}
use Rattle.sip_uri.proofs.Common.{◌&&◌, if◌then◌else◌, list_all, AllByRecursion, take-append-drop, cond_both, and_parts, behind, cut, is, Lacks, pieces_behind, cut_joins, cut_lacks, pieces_behind_join, UriFault, NotSip, Gives, IsParam, IsUri}
use Rattle.sip_uri.proofs.Common.{is_uri_byte, IsPort, ends_host, host_len, is_host, IsKept, Parts, is_full, is_param, is_port_if_any, is_sip, or_fault, port_and_params, uri_of, user_of, Uri, params_text, spelling, user_text, common_steps}
use Rattle.std.proofs.Common.{◌⊎◌}
use Rattle.sip_lex.proofs.laws.Cuts.{Lacks-back}
use Rattle.sip_lex.proofs.laws.Splits.{pieces_lack, pieces_lack_other}
use Rattle.sip_uri.specs.Reading.{fault_of, parts_of, read_uri}
use Rattle.sip_uri.proofs.laws.Hosts.{full, is_host-IsHost}

abbrev Cut : Type 0
Cut = List ℕ × Option (List ℕ)

abbrev Marks : Type 0
Marks = Option (List ℕ) × Option (List ℕ)

-- ---- the parts joined are the text

-- a text is empty, or begins with a byte that passes
abbrev Begins : (ℕ → Bool) → List ℕ → Type 0
Begins p bs = (bs ≡ []) ⊎ ((b : ℕ) × (more : List ℕ) × (bs ≡ b ∷ more) × (p b ≡ true))

abbrev begins_port : ℕ → Bool
begins_port b = eqb b 58 || eqb b 59

abbrev test : Bool → ℕ → Bool
test inside b = not inside && ends_host b

host_stops : (inside : Bool) (bs : List ℕ) → Begins ends_host (drop (host_len inside bs) bs)
host_stops inside [] = inl refl
host_stops inside (b ∷ bs) =
    let step = if inside then not (eqb b 93) else eqb b 91 in
    cond_both (test inside b) 0 (1 + host_len step bs) (λ (n : ℕ). Begins ends_host (drop n (b ∷ bs)))
    (λ e. inr (b, bs, refl, (and_parts (not inside) (ends_host b) e).1))
    (λ e. let k : 1 + host_len step bs ≡ suc (host_len step bs) = omega arith in rw k (host_stops step bs))

front_begins : (bs : List ℕ) → Begins ends_host bs → Begins begins_port (cut (is 63) bs).0
front_begins bs h = grind arith

marks_join : (tail : List ℕ) → Begins begins_port tail → tail ≡ behind 58 (port_and_params tail).0 ++ behind 59 (port_and_params tail).1
marks_join tail h = grind (arith, cut_joins)

abbrev parts_rest : Parts → List ℕ
parts_rest p = p.host ++ (behind 58 p.port ++ (params_text (pieces_behind 59 p.params) ++ behind 63 p.headers))

-- what stands behind the user
pub rest_joins : (body : List ℕ) → (user_of (cut (is 64) body)).1 ≡ parts_rest (parts_of body)
unfolding parts_of
rest_joins body =
    let user = user_of (cut (is 64) body) in
    let n = host_len false user.1 in
    let tail = cut (is 63) (drop n user.1) in
    let marks = port_and_params tail.0 in
    grind (arith, common_steps, cut_joins 63 (drop n user.1), marks_join tail.0 (front_begins (drop n user.1) (host_stops false user.1)), pieces_behind_join 59 marks.1)

user_is : (body : List ℕ) → (user_of (cut (is 64) body)).0 ≡ (parts_of body).user
unfolding parts_of
user_is body = refl

pub parts_join : (body : List ℕ) → body ≡ user_text (parts_of body).user ++ parts_rest (parts_of body)
parts_join body = grind (arith, common_steps, cut_joins 64 body, rest_joins body, user_is body)

pub spelled : (text : List ℕ) → text ≡ spelling (uri_of text)
spelled text = sym (take-append-drop 4 text) ∙ ap (λ (x : List ℕ). take 4 text ++ x) (parts_join (drop 4 text))

-- ---- each test that passed

guard : {A : Type 0} (b : Bool) (d : UriFault) (r : Result A UriFault) (u : A) → cond (not b) (Err d) r ≡ Ok u → (b ≡ true) × (r ≡ Ok u)
guard b d r u e = grind arith

pub passes : (b : Bool) (f : UriFault) (rest : Option UriFault) → cond (not b) (Some f) rest ≡ None → (b ≡ true) × (rest ≡ None)
passes b f rest e = grind arith

no_fault : (o : Option UriFault) (x u : Uri) → or_fault o x ≡ Ok u → (o ≡ None) × (u ≡ x)
no_fault o x u e = grind arith

-- what was read is the parts of the text, and each test passed
pub record IsRead (text : List ℕ) (u : Uri) : Type 0 where
  pub sip : is_sip text ≡ true
  pub bytes : list_all is_uri_byte text ≡ true
  pub parts : fault_of (parts_of (drop 4 text)) ≡ None
  pub value : u ≡ uri_of text

pub read_parts : (text : List ℕ) (u : Uri) → read_uri text ≡ Ok u → IsRead text u
unfolding read_uri
read_parts text u e =
    let a = guard (is_sip text) NotSip _ u e in
    grind arith

pub record AreGood (p : Parts) : Type 0 where
  pub host : is_host p.host ≡ true
  pub port : is_port_if_any p.port ≡ true
  pub user : is_full p.user ≡ true
  pub params : list_all is_param (pieces_behind 59 p.params) ≡ true

pub are_good : (p : Parts) → fault_of p ≡ None → AreGood p
unfolding fault_of
are_good p e = grind arith

-- ---- the parts are those of the grammar

pub port_if_any : (port : Option (List ℕ)) → is_port_if_any port ≡ true → IfSome port IsPort
port_if_any port h = grind arith

user_lacks : (c : Cut) → Lacks 64 c.0 → is_full (user_of c).0 ≡ true → IfSome (user_of c).0 (λ user. (user ≢ []) × Lacks 64 user)
user_lacks c h f = grind arith

rest_lacks : (c : Cut) → Lacks 64 c.0 → IfNone (user_of c).0 (Lacks 64 (user_of c).1)
rest_lacks c h = grind arith

valued : (value : Option (List ℕ)) → is_full value ≡ true → IfSome value (λ v. v ≢ [])
valued value h = grind arith

param_is : (param : List ℕ) → is_param param ≡ true → Lacks 59 param → Lacks 63 param → IsParam param
param_is param h semicolon question =
    let c = cut (is 61) param in
    let both = and_parts (ltb 0 (length c.0)) (is_full c.1) h in
    record { name = c.0; value = c.1; spelled = cut_joins 61 param; full = full c.0 both.0; no_equals = cut_lacks 61 param; valued = valued c.1 both.1; no_semicolon = semicolon; no_question = question }

params_are : (params : List (List ℕ)) → list_all is_param params ≡ true → AllByRecursion (Lacks 59) params → AllByRecursion (Lacks 63) params → AllByRecursion IsParam params
params_are [] h semicolons questions = tt
params_are (p ∷ ps) h semicolons questions =
    let both = and_parts (is_param p) (list_all is_param ps) h in
    (param_is p both.0 semicolons.0 questions.0, params_are ps both.1 semicolons.1 questions.1)

of_back : (mark other : ℕ) (bs : List ℕ) (c : Cut) → bs ≡ c.0 ++ behind mark c.1 → Lacks other bs → IfSome c.1 (Lacks other)
of_back mark other bs (front, None) e h = tt
of_back mark other bs (front, Some back) e h = (Lacks-back other front (mark ∷ back) (subst (λ (x : List ℕ). Lacks other x) e h)).1

back_lacks : (mark other : ℕ) (bs : List ℕ) → Lacks other bs → IfSome (cut (is mark) bs).1 (Lacks other)
back_lacks mark other bs h = of_back mark other bs (cut (is mark) bs) (cut_joins mark bs) h

marked_lacks : (tail : List ℕ) → Lacks 63 tail → IfSome (port_and_params tail).1 (Lacks 63)
marked_lacks tail h = grind (arith, back_lacks)

pieces_behind_lack : (params : Option (List ℕ)) → AllByRecursion (Lacks 59) (pieces_behind 59 params)
pieces_behind_lack params = grind (arith, pieces_lack)

pieces_behind_lack_other : (params : Option (List ℕ)) → IfSome params (Lacks 63) → AllByRecursion (Lacks 63) (pieces_behind 59 params)
pieces_behind_lack_other params h = grind (arith, pieces_lack_other)

no_question : (body : List ℕ) → IfSome (parts_of body).params (Lacks 63)
unfolding parts_of
no_question body = grind (arith, marked_lacks, cut_lacks)

user_good : (body : List ℕ) → is_full (parts_of body).user ≡ true → IfSome (parts_of body).user (λ user. (user ≢ []) × Lacks 64 user)
unfolding parts_of
user_good body h = user_lacks (cut (is 64) body) (cut_lacks 64 body) h

rest_good : (body : List ℕ) → IfNone (parts_of body).user (Lacks 64 (user_of (cut (is 64) body)).1)
unfolding parts_of
rest_good body = rest_lacks (cut (is 64) body) (cut_lacks 64 body)

is_uri : (text : List ℕ) → IsRead text (uri_of text) → IsUri (uri_of text)
is_uri text r =
    let body = drop 4 text in
    let p = parts_of body in
    let good = are_good p r.parts in
    grind (arith, common_steps, spelled text, rest_joins body, rest_good body, no_question body, user_good, is_host-IsHost, port_if_any, params_are, pieces_behind_lack, pieces_behind_lack_other)

pub found : (text : List ℕ) (u : Uri) → read_uri text ≡ Ok u → IsUri u × (text ≡ spelling u)
found text u e = grind (arith, read_parts text u e, spelled text, is_uri)

pub is_found : (text : List ℕ) (r : Result Uri UriFault) → Gives (λ (u : Uri). u) r (read_uri text) → IfOk r (λ u. IsUri u × (text ≡ spelling u))
is_found text r h = grind (arith, found)

-- the port of a URI that is kept is one
pub kept_port : (text key : List ℕ) → IsKept text key → is_port_if_any (parts_of (drop 4 text)).port ≡ true
kept_port text key k = (are_good (parts_of (drop 4 text)) (read_parts text (uri_of text) k.read).parts).port

-- and so is that of a URI that is read
pub read_port_good : (text : List ℕ) (p : Parts) → p ≡ parts_of (drop 4 text) → read_uri text ≡ Ok (uri_of text) → is_port_if_any p.port ≡ true
read_port_good text p same e = ap (λ (q : Parts). is_port_if_any q.port) same ∙ (are_good (parts_of (drop 4 text)) (read_parts text (uri_of text) e).parts).port
