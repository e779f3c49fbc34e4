-- Start lines that are spelled so are read.
use Rattle.sip_text.proofs.Common.{◌≡◌, ℕ, ◌+◌, ◌/◌, ◌%◌, ◌≤◌, Bool, true, false, ltb, List, [], ◌∷◌, ◌++◌, length, take, map, get_or, Some, Ok, refl, sym, ap, ◌∙◌, arith, codes}
use Rattle.sip_text.proofs.Common.{list_all, AllByRecursion, bytes_eq, str_to_ascii_lowercase, and_parts, cond-true, cond-false, false_from_ne_true, false≢true, bytes_eq-Decides, is_space, is_token}
use Rattle.sip_text.proofs.Common.{is_token_byte, cut, token_bytes, token_byte-space, IsStartLine, after_uri, begins_with_sip, is_printed, is_status, is_uri, is_version, number_of, request_of, response_of, status_of, StartText}
use Rattle.sip_text.proofs.Common.{Request, Response, status_text, common_steps}
use Rattle.std.specs.Char.{to_ascii_lowercase}
use Rattle.sip_text.specs.Grammar.{IsRequestLine, IsStatusLine}
use Rattle.sip_text.specs.Reading.{start_of}
use Rattle.sip_text.proofs.Gaps.{cut_again_at}
use Rattle.sip_text.proofs.laws.Good.{and_both}

abbrev Apart : List ℕ → Type 0
Apart bs = AllByRecursion (λ b. is_space b ≡ false) bs

-- ---- no space

all_apart : (p : ℕ → Bool) (bs : List ℕ) → ((b : ℕ) → p b ≡ true → is_space b ≡ false) → list_all p bs ≡ true → Apart bs
all_apart p [] h all = tt
all_apart p (b ∷ bs) h all = let both = and_parts (p b) (list_all p bs) all in (h b both.0, all_apart p bs h both.1)

token_apart : (bs : List ℕ) → is_token bs ≡ true → Apart bs
token_apart bs h = all_apart is_token_byte bs token_byte-space (token_bytes bs h)

-- a space or a tab, in what holds of both
space_case : (b : ℕ) (P : ℕ → Type 0) → is_space b ≡ true → P 32 → P 9 → P b
space_case b P h x y = grind arith

not_space : (p : ℕ → Bool) (b : ℕ) → p 32 ≡ false → p 9 ≡ false → p b ≡ true → is_space b ≡ false
not_space p b x y h = false_from_ne_true (is_space b) (λ e. false≢true (sym (space_case b (λ n. p n ≡ false) e x y) ∙ h))

uri_apart : (bs : List ℕ) → is_uri bs ≡ true → Apart bs
uri_apart bs h = all_apart is_printed bs (λ b e. not_space is_printed b refl refl e) (and_parts (ltb 0 (length bs)) (list_all is_printed bs) h).1

lower_space : (b : ℕ) → is_space b ≡ true → is_space (to_ascii_lowercase b) ≡ true
lower_space b h = space_case b (λ n. is_space (to_ascii_lowercase n) ≡ true) h refl refl

lower_apart : (b c : ℕ) → to_ascii_lowercase b ≡ c → is_space c ≡ false → is_space b ≡ false
lower_apart b c e h = false_from_ne_true (is_space b) (λ space. false≢true (sym (ap is_space e ∙ h) ∙ lower_space b space))

abbrev sip : List ℕ
sip = codes "sip/2.0"

lowered_apart : (bs cs : List ℕ) → map to_ascii_lowercase bs ≡ cs → Apart cs → Apart bs
lowered_apart [] cs e h = tt
lowered_apart (b ∷ bs) [] e h = absurd cc
lowered_apart (b ∷ bs) (c ∷ cs) e h =
    let first : to_ascii_lowercase b ≡ c = cc in
    let rest : map to_ascii_lowercase bs ≡ cs = cc in
    (lower_apart b c first h.0, lowered_apart bs cs rest h.1)

pub is_sip : (version : List ℕ) → is_version version ≡ true → map to_ascii_lowercase version ≡ sip
is_sip version h = (bytes_eq-Decides (str_to_ascii_lowercase version) sip).0 h

pub version_apart : (version : List ℕ) → is_version version ≡ true → Apart version
version_apart version h = lowered_apart version sip (is_sip version h) (refl, (refl, (refl, (refl, (refl, (refl, (refl, tt)))))))

-- ---- a status line begins so

pub version_begins : (version rest : List ℕ) → map to_ascii_lowercase version ≡ sip → begins_with_sip (version ++ rest) ≡ true
version_begins [] rest e = absurd cc
version_begins (a ∷ []) rest e = absurd cc
version_begins (a ∷ b ∷ []) rest e = absurd cc
version_begins (a ∷ b ∷ c ∷ []) rest e = absurd cc
version_begins (a ∷ b ∷ c ∷ d ∷ more) rest e = ap (λ (bs : List ℕ). bytes_eq (take 4 bs) (codes "sip/")) e

number_text : (n : ℕ) → n ≤ 699 → number_of (48 + n / 100) (48 + n / 10 % 10) (48 + n % 10) ≡ n
number_text n h = omega arith

status_again : (n gap : ℕ) (reason : List ℕ) → is_status n ≡ true → is_space gap ≡ true → status_of (status_text n ++ (gap ∷ reason)) ≡ Ok (Response n reason)
status_again n gap reason s g = grind arith

response_again : (line : List ℕ) (status : ℕ) (reason : List ℕ) → IsStatusLine line status reason → start_of line ≡ Ok (Response status reason)
unfolding start_of
response_again line status reason h =
    let rest = status_text status ++ (h.second_gap ∷ reason) in
    let c : cut is_space (h.version ++ h.gap ∷ rest) ≡ (h.version, Some rest) = cut_again_at is_space h.version h.gap rest (version_apart h.version h.version_is) h.gap_is in
    ap start_of h.parts ∙ cond-true _ _ _ (version_begins h.version (h.gap ∷ rest) (is_sip h.version h.version_is)) ∙ ap response_of c ∙ cond-true _ _ _ h.version_is ∙ status_again status h.second_gap reason h.status_is h.second_gap_is

-- ---- a request line doesn't

pub gap_differs : (gap n : ℕ) → is_space gap ≡ true → is_space n ≡ false → to_ascii_lowercase gap ≡ n → ⊥
gap_differs gap n h apart e = false≢true (sym (ap is_space e ∙ apart) ∙ lower_space gap h)

abbrev pub lowered_front : List ℕ → List ℕ
lowered_front bs = map to_ascii_lowercase (take 4 bs)

method_begins : (method rest : List ℕ) (gap : ℕ) → is_token method ≡ true → is_space gap ≡ true → lowered_front (method ++ gap ∷ rest) ≡ codes "sip/" → ⊥
method_begins [] rest gap t g e = false≢true t
method_begins (a ∷ []) rest gap t g e = gap_differs gap 105 g refl (ap (λ (x : List ℕ). get_or x 1 0) e)
method_begins (a ∷ b ∷ []) rest gap t g e = gap_differs gap 112 g refl (ap (λ (x : List ℕ). get_or x 2 0) e)
method_begins (a ∷ b ∷ c ∷ []) rest gap t g e = gap_differs gap 47 g refl (ap (λ (x : List ℕ). get_or x 3 0) e)
method_begins (a ∷ b ∷ c ∷ d ∷ more) rest gap t g e = grind (arith, common_steps, and_parts)

no_sip : (method rest : List ℕ) (gap : ℕ) → is_token method ≡ true → is_space gap ≡ true → begins_with_sip (method ++ gap ∷ rest) ≡ false
no_sip method rest gap t g = false_from_ne_true (begins_with_sip (method ++ gap ∷ rest)) (λ h. method_begins method rest gap t g ((bytes_eq-Decides (lowered_front (method ++ gap ∷ rest)) (codes "sip/")).0 h))

request_again : (line method uri : List ℕ) → IsRequestLine line method uri → start_of line ≡ Ok (Request method uri)
unfolding start_of
request_again line method uri h =
    let rest = uri ++ h.second_gap ∷ h.version in
    let first : cut is_space (method ++ h.gap ∷ rest) ≡ (method, Some rest) = cut_again_at is_space method h.gap rest (token_apart method h.method_is) h.gap_is in
    let second : cut is_space rest ≡ (uri, Some h.version) = cut_again_at is_space uri h.second_gap h.version (uri_apart uri h.uri_is) h.second_gap_is in
    ap start_of h.parts ∙ cond-false _ _ _ (no_sip method rest h.gap h.method_is h.gap_is) ∙ ap request_of first ∙ ap (after_uri method) second ∙ cond-true _ _ _ h.version_is ∙ cond-true _ _ _ (and_both (is_token method) (is_uri uri) h.method_is h.uri_is)

pub start_again : (line : List ℕ) (s : StartText) → IsStartLine line s → start_of line ≡ Ok s
start_again line s h = grind (arith, request_again, response_again)
