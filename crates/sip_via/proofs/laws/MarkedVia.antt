-- A Via value that was marked is one, and names the same host, port and branch; `rport` names the port of the source where it did so
-- before, or was there without a value.
use Rattle.sip_via.proofs.Common.{◌≡◌, ◌≢◌, ℕ, ◌<◌, ◌^◌, true, false, cond, List, [], ◌∷◌, ◌++◌, length, drop, Option, Some, None, refl, sym, ap, subst, ◌∙◌, append_assoc, arith, inl, inr, IfSome, codes, is_none, is_ascii_digit}
use Rattle.sip_via.proofs.Common.{decimal, AllByRecursion, flat_map, list_all, bytes_eq, str_to_ascii_lowercase, and_parts, cases_Bool, cond-false, cond-true, false≢true, digits_decimal, append-nil, drop_at, bytes_eq-Decides, Quotes, Plain, is_token, trim, trim_end, is, cut_outside, cut_again, cut_outside_again, joined, joined-behind, trim_end-reverse, trim_start-none, trim_start-spaces, own}
use Rattle.sip_via.proofs.Common.{Hop, IsHost, IsPort, IsAddress, address_text, dotted, IsSource, asks_port, filled, gets_received, marked_param, marked_parts, marked_value, received_text, AreParamGaps, AreViaGaps, IsSpace, IsValue, IsVia, IsViaParam, ParamGaps, ViaGaps, param_spelling, spaced, spelling, ViaText, first_named, are_parts, is_named, is_value_byte}
use Rattle.sip_via.proofs.Common.{is_via, name_of, parts_of, via_of, common_steps}
use Rattle.std.proofs.Common.{slice_index}
use Rattle.std.proofs.lemmas.Fmt.{decimal_nonempty}
use Rattle.std.specs.Prelude.{Bool, ◌≤◌, ◌&&◌, ◌||◌}
use Rattle.std.specs.List.{list_any}
use Rattle.sip_lex.specs.Number.{number_within, plain_number_within}
use Rattle.sip_lex.proofs.laws.Numbers.{number_read}
use Rattle.sip_via.specs.ViaParts.{is_number, is_rport, is_trimmed, number_if_any, value_of}
use Rattle.sip_via.specs.inner.Replies.{gives_port}
use Rattle.sip_via.proofs.laws.Marked.{sip-begins, trim_end-back}
use Rattle.sip_via.proofs.laws.ViaFound.{via_found}
use Rattle.sip_via.proofs.laws.ViaOnly.{IsBare, Starts, all_joined, all_reverse, bare_trim, unsplit_all, host_bare, neither, on_some, param_front, param_joins, params_again, port_bare, semicolon, space_unsplit, tail_of}
use Rattle.sip_via.proofs.laws.ViaOnly.{token_bare, value_bare, value_in, value_trims, with_params}
use Rattle.sip_via.proofs.laws.OwnVia.{IsEnd, end-behind}
use Rattle.sip_branch.proofs.laws.Tokens.{all_pass}
use Rattle.sip_via.proofs.laws.ViaFronts.{IsFront, behind_name, core, core-unsplit, port_spelling, sender, spelled, spelling-split}

-- ---- space at the ends

pub end-trims : (bs gap : List ℕ) → IsEnd bs → IsSpace gap → trim_end (bs ++ gap) ≡ bs
end-trims bs gap end space = grind (arith, common_steps, trim_end-reverse, trim_start-spaces, all_reverse)

bare-some : (bs : List ℕ) → Starts bs → 0 < length bs
bare-some bs h = grind arith

pub bare-end : (bs : List ℕ) → IsBare bs → IsEnd bs
bare-end bs bare = grind (arith, common_steps, append-nil bs, trim_end-back bs, bare-some)

-- an equation behind a text that both sides begin with
pushed : (xs ys zs rest : List ℕ) → ys ≡ zs ++ rest → xs ++ ys ≡ (xs ++ zs) ++ rest
pushed xs ys zs rest e = ap (λ (x : List ℕ). xs ++ x) e ∙ sym (append_assoc xs zs rest)

-- ---- what a parameter says

param-says : (param : List ℕ) (h : IsViaParam param) → (name_of param ≡ h.name) × (value_of param ≡ h.value)
param-says param h = grind (arith, common_steps, value_in, param_joins, cut_again, param_front, bare_trim, token_bare, value_trims)

-- a parameter without the space at its end
record IsTrimmed (param kept name : List ℕ) (value : Option (List ℕ)) : Type 0 where
  gap : List ℕ
  space : IsSpace gap
  whole : param ≡ kept ++ gap
  good : IsViaParam kept
  named : name_of kept ≡ name
  valued : value_of kept ≡ value
  ends : IsEnd kept

trimmed-by : (param : List ℕ) (g : ParamGaps) (name : List ℕ) (value : Option (List ℕ)) → param ≡ param_spelling g name value → AreParamGaps g → is_token name ≡ true → IfSome value IsValue → (kept : List ℕ) × IsTrimmed param kept name value
trimmed-by param g name None e spaces token valued =
    let kept = g.before ++ name in
    let good : IsViaParam kept = record {
      gaps = record { before = g.before; behind_name = []; before_value = []; behind_value = [] };
      name = name;
      value = None;
      spelled = ap (λ (x : List ℕ). g.before ++ x) (sym (append-nil name));
      spaces = record { before = spaces.before; behind_name = refl; before_value = refl; behind_value = refl };
      token = token;
      valued = tt;
    } in
    let says = param-says kept good in
    (kept, record { gap = g.behind_name; space = spaces.behind_name; whole = e ∙ sym (append_assoc g.before name g.behind_name); good = good; named = says.0; valued = says.1; ends = end-behind g.before name (bare-end name (token_bare name token)) })
trimmed-by param g name (Some value) e spaces token valued =
    let inner = g.before_value ++ value in
    let tail = g.behind_name ++ (61 ∷ inner) in
    let kept = g.before ++ (name ++ tail) in
    let good : IsViaParam kept = record {
      gaps = record { before = g.before; behind_name = g.behind_name; before_value = g.before_value; behind_value = [] };
      name = name;
      value = Some value;
      spelled = ap (λ (x : List ℕ). g.before ++ (name ++ (g.behind_name ++ (61 ∷ (g.before_value ++ x))))) (sym (append-nil value));
      spaces = record { before = spaces.before; behind_name = spaces.behind_name; before_value = spaces.before_value; behind_value = refl };
      token = token;
      valued = valued;
    } in
    let says = param-says kept good in
    let ends = end-behind g.before (name ++ tail) (end-behind name tail (end-behind g.behind_name (61 ∷ inner) (end-behind (61 ∷ g.before_value) value (bare-end value (value_bare value valued))))) in
    grind (arith, common_steps, pushed)

trimmed : (param : List ℕ) (h : IsViaParam param) → (kept : List ℕ) × IsTrimmed param kept h.name h.value
trimmed param h = trimmed-by param h.gaps h.name h.value h.spelled h.spaces h.token h.valued

-- ---- parameters of which the last has no space at its end

record AreTrimmed (params kept : List (List ℕ)) : Type 0 where
  gap : List ℕ
  space : IsSpace gap
  whole : spelled params ≡ spelled kept ++ gap
  good : AllByRecursion IsViaParam kept
  ends : IsEnd (spelled kept)
  same : (name : List ℕ) → first_named name kept ≡ first_named name params
  rport : (port : ℕ) → list_any (is_rport port) kept ≡ list_any (is_rport port) params

abbrev says_rport : ℕ → List ℕ → Option (List ℕ) → Bool
says_rport port name value = bytes_eq (str_to_ascii_lowercase name) (str_to_ascii_lowercase (codes "rport")) && is_number port (number_if_any value)

abbrev step_of : List ℕ → List ℕ → Option (List ℕ) → Option (List ℕ) → Option (List ℕ)
step_of name says value later = cond (bytes_eq (str_to_ascii_lowercase says) (str_to_ascii_lowercase name)) value later

all-trimmed : (param : List ℕ) (params : List (List ℕ)) → AllByRecursion IsViaParam (param ∷ params) → (kept : List (List ℕ)) × AreTrimmed (param ∷ params) kept
all-trimmed param [] all =
    let t = trimmed param all.0 in
    let says = param-says param all.0 in (
      t.0 ∷ [],
      record {
        gap = t.1.gap;
        space = t.1.space;
        whole = ap (λ (x : List ℕ). 59 ∷ x) (append-nil param ∙ t.1.whole ∙ ap (λ (x : List ℕ). x ++ t.1.gap) (sym (append-nil t.0)));
        good = (t.1.good, tt);
        ends = subst IsEnd (ap (λ (x : List ℕ). 59 ∷ x) (sym (append-nil t.0))) (end-behind (59 ∷ []) t.0 t.1.ends);
        same = λ name. ap (λ (n : List ℕ). step_of name n (value_of t.0) None) (t.1.named ∙ sym says.0) ∙ ap (λ (v : Option (List ℕ)). step_of name (name_of param) v None) (t.1.valued ∙ sym says.1);
        rport = λ port. ap (λ (n : List ℕ). says_rport port n (value_of t.0) || false) (t.1.named ∙ sym says.0) ∙ ap (λ (v : Option (List ℕ)). says_rport port (name_of param) v || false) (t.1.valued ∙ sym says.1);
      },
    )
all-trimmed param (next ∷ params) all =
    let r = all-trimmed next params all.1 in (
      param ∷ r.0,
      record {
        gap = r.1.gap;
        space = r.1.space;
        whole = ap (λ (x : List ℕ). 59 ∷ x) (pushed param (spelled (next ∷ params)) (spelled r.0) r.1.gap r.1.whole);
        good = (all.0, r.1.good);
        ends = end-behind (59 ∷ param) (spelled r.0) r.1.ends;
        same = λ name. ap (λ (v : Option (List ℕ)). cond (is_named name param) (value_of param) v) (r.1.same name);
        rport = λ port. ap (λ (later : Bool). is_rport port param || later) (r.1.rport port);
      },
    )

-- ---- the parameters of a marked value

-- none where it is a `received`
abbrev kept_params : ℕ → List ℕ → List (List ℕ)
kept_params port param = cond (is_named (codes "received") param) [] (cond (asks_port param) (filled port param) param ∷ [])

abbrev added_params : List ℕ → List ℕ → List (List ℕ) → List (List ℕ)
added_params address host params = cond (gets_received address host params) ((codes "received=" ++ address) ∷ []) []

abbrev new_params : Hop → List ℕ → List (List ℕ) → List (List ℕ)
new_params source host params = flat_map (kept_params source.port) params ++ added_params (address_text source.addr) host params

all-spelled : (port : ℕ) (params : List (List ℕ)) → flat_map (marked_param port) params ≡ spelled (flat_map (kept_params port) params)
all-spelled port [] = refl
all-spelled port (p ∷ ps) = grind (arith, all-spelled port ps)

new-spelled : (source : Hop) (host : List ℕ) (params : List (List ℕ)) → flat_map (marked_param source.port) params ++ received_text (address_text source.addr) host params ≡ spelled (new_params source host params)
new-spelled source host params = grind (arith, common_steps, all-spelled)

-- ---- they are such

digit-value : (b : ℕ) → is_ascii_digit b ≡ true → is_value_byte b ≡ true
digit-value b h = grind arith

decimal-bytes : (n : ℕ) → n < 2 ^ 64 → list_all is_value_byte (decimal n) ≡ true
decimal-bytes n small = all_pass is_ascii_digit is_value_byte (decimal n) digit-value (digits_decimal own n small)

some-not-empty : (bs : List ℕ) → 0 < length bs → bs ≢ []
some-not-empty bs some = grind arith

decimal-some : (n : ℕ) → n < 2 ^ 64 → decimal n ≢ []
decimal-some n small = some-not-empty (decimal n) (decimal_nonempty n small)

decimal-value : (n : ℕ) → n < 2 ^ 64 → IsValue (decimal n)
decimal-value n small = inl (decimal-some n small, decimal-bytes n small)

longer : (xs ys : List ℕ) → 0 < length xs → 0 < length (xs ++ ys)
longer xs ys some = grind (arith, common_steps)

address-value : (addr : List ℕ) → IsAddress addr → IsValue (address_text addr)
address-value addr is =
    let a = decimal (slice_index addr 0) in
    let b = dotted (slice_index addr 1) in
    let c = dotted (slice_index addr 2) in
    let d = dotted (slice_index addr 3) in
    inl (
      some-not-empty (a ++ (b ++ (c ++ d))) (longer a (b ++ (c ++ d)) (decimal_nonempty (slice_index addr 0) is.first)),
      all_joined is_value_byte a (b ++ (c ++ d)) (decimal-bytes (slice_index addr 0) is.first)
          (all_joined is_value_byte b (c ++ d) (decimal-bytes (slice_index addr 1) is.second)
          (all_joined is_value_byte c d (decimal-bytes (slice_index addr 2) is.third) (decimal-bytes (slice_index addr 3) is.fourth))),
    )

abbrev received-good : (address : List ℕ) → IsValue address → IsViaParam (codes "received=" ++ address)
received-good address valued = record {
  gaps = record { before = []; behind_name = []; before_value = []; behind_value = [] };
  name = codes "received";
  value = Some address;
  spelled = ap (λ (x : List ℕ). codes "received=" ++ x) (sym (append-nil address));
  spaces = record { before = refl; behind_name = refl; before_value = refl; behind_value = refl };
  token = refl;
  valued = valued;
}

filled-by : (port : ℕ) (param : List ℕ) (g : ParamGaps) (name : List ℕ) (value : Option (List ℕ)) → port < 2 ^ 64 → param ≡ param_spelling g name value → AreParamGaps g → is_token name ≡ true → is_none value ≡ true → (good : IsViaParam (filled port param)) × (good.name ≡ name) × (good.value ≡ Some (decimal port))
filled-by port param g name (Some value) small e spaces token none = absurd (false≢true none)
filled-by port param g name None small e spaces token none =
    let kept = g.before ++ name in
    let whole : param ≡ kept ++ g.behind_name = e ∙ sym (append_assoc g.before name g.behind_name) in
    let front : trim_end param ≡ kept = ap trim_end whole ∙ end-trims kept g.behind_name (end-behind g.before name (bare-end name (token_bare name token))) spaces.behind_name in
    let back : drop (length (trim_end param)) param ≡ g.behind_name = ap (λ (x : List ℕ). drop (length x) param) front ∙ ap (drop (length kept)) whole ∙ drop_at kept g.behind_name (length kept) refl in
    let text : filled port param ≡ g.before ++ (name ++ (61 ∷ (decimal port ++ g.behind_name))) =
    ap (λ (x : List ℕ). x ++ (61 ∷ (decimal port ++ drop (length (trim_end param)) param))) front
    ∙ ap (λ (x : List ℕ). kept ++ (61 ∷ (decimal port ++ x))) back
    ∙ append_assoc g.before name (61 ∷ (decimal port ++ g.behind_name)) in
    let good : IsViaParam (filled port param) = record {
      gaps = record { before = g.before; behind_name = []; before_value = []; behind_value = g.behind_name };
      name = name;
      value = Some (decimal port);
      spelled = text;
      spaces = record { before = spaces.before; behind_name = refl; before_value = refl; behind_value = spaces.behind_name };
      token = token;
      valued = decimal-value port small;
    } in
    (good, refl, refl)

filled-good : (port : ℕ) (param : List ℕ) → port < 2 ^ 64 → (h : IsViaParam param) → asks_port param ≡ true → (good : IsViaParam (filled port param)) × (good.name ≡ h.name) × (good.value ≡ Some (decimal port))
filled-good port param small h asks =
    let none = (and_parts (is_named (codes "rport") param) (is_none (value_of param)) asks).1 in
    filled-by port param h.gaps h.name h.value small h.spelled h.spaces h.token (ap is_none (sym (param-says param h).1) ∙ none)

kept-good : (port : ℕ) (param : List ℕ) → port < 2 ^ 64 → IsViaParam param → AllByRecursion IsViaParam (kept_params port param)
kept-good port param small h = grind (arith, common_steps, cases_Bool (asks_port param), filled-good port param small h, cond-true, cond-false)

joined-good : (xs ys : List (List ℕ)) → AllByRecursion IsViaParam xs → AllByRecursion IsViaParam ys → AllByRecursion IsViaParam (xs ++ ys)
joined-good [] ys h k = k
joined-good (x ∷ xs) ys h k = (h.0, joined-good xs ys h.1 k)

all-good : (port : ℕ) (params : List (List ℕ)) → port < 2 ^ 64 → AllByRecursion IsViaParam params → AllByRecursion IsViaParam (flat_map (kept_params port) params)
all-good port [] small h = tt
all-good port (p ∷ ps) small h = joined-good (kept_params port p) (flat_map (kept_params port) ps) (kept-good port p small h.0) (all-good port ps small h.1)

new-good : (source : Hop) (host : List ℕ) (params : List (List ℕ)) → IsSource source → AllByRecursion IsViaParam params → AllByRecursion IsViaParam (new_params source host params)
new-good source host params is h =
    let address = address_text source.addr in
    joined-good (flat_map (kept_params source.port) params) (added_params address host params) (all-good source.port params is.port h)
    (elim (cases_Bool (gets_received address host params)) [
      | inl gets ↦ subst (AllByRecursion IsViaParam) (sym (cond-true _ _ _ gets)) (received-good address (address-value source.addr is.address), tt)
      | inr not_so ↦ subst (AllByRecursion IsViaParam) (sym (cond-false _ _ _ not_so)) tt
    ])

-- ---- and have the same branch

abbrev branch : List ℕ
branch = codes "branch"

abbrev lowered : List ℕ → List ℕ
lowered name = str_to_ascii_lowercase name

-- a parameter of another name
other-name : (name other says : List ℕ) → bytes_eq (lowered other) (lowered name) ≡ false → bytes_eq (lowered says) (lowered other) ≡ true → bytes_eq (lowered says) (lowered name) ≡ false
other-name name other says differ same = ap (λ (x : List ℕ). bytes_eq x (lowered name)) ((bytes_eq-Decides (lowered says) (lowered other)).0 same) ∙ differ

branch-step : (port : ℕ) (param : List ℕ) (rest params : List (List ℕ)) → port < 2 ^ 64 → IsViaParam param → first_named branch rest ≡ first_named branch params → first_named branch (kept_params port param ++ rest) ≡ first_named branch (param ∷ params)
branch-step port param rest params small h e =
    elim (cases_Bool (is_named (codes "received") param)) [
      | inl dropped ↦
          let other : is_named branch param ≡ false = other-name branch (codes "received") (name_of param) refl dropped in
          ap (λ (ks : List (List ℕ)). first_named branch (ks ++ rest)) (cond-true _ _ _ dropped) ∙ e ∙ sym (cond-false _ _ _ other)
      | inr stays ↦
          ap (λ (ks : List (List ℕ)). first_named branch (ks ++ rest)) (cond-false _ _ _ stays)
          ∙ elim (cases_Bool (asks_port param)) [
            | inl asks ↦
                let is_port = (and_parts (is_named (codes "rport") param) (is_none (value_of param)) asks).0 in
                let other : is_named branch param ≡ false = other-name branch (codes "rport") (name_of param) refl is_port in
                let good = filled-good port param small h asks in
                let names : name_of (filled port param) ≡ name_of param = (param-says (filled port param) good.0).0 ∙ good.1 ∙ sym (param-says param h).0 in
                let so : is_named branch (filled port param) ≡ false = ap (λ (n : List ℕ). bytes_eq (lowered n) (lowered branch)) names ∙ other in
                ap (λ (x : List ℕ). first_named branch (x ∷ rest)) (cond-true _ _ _ asks) ∙ cond-false _ _ _ so ∙ e ∙ sym (cond-false _ _ _ other)
            | inr not_so ↦ ap (λ (x : List ℕ). first_named branch (x ∷ rest)) (cond-false _ _ _ not_so) ∙ ap (λ (v : Option (List ℕ)). cond (is_named branch param) (value_of param) v) e
          ]
    ]

branch-all : (port : ℕ) (params rest : List (List ℕ)) → port < 2 ^ 64 → AllByRecursion IsViaParam params → first_named branch rest ≡ None → first_named branch (flat_map (kept_params port) params ++ rest) ≡ first_named branch params
branch-all port [] rest small h e = e
branch-all port (p ∷ ps) rest small h e = grind (arith, common_steps, branch-step, branch-all port ps rest small h.1 e)

new-branch : (source : Hop) (host : List ℕ) (params : List (List ℕ)) → IsSource source → AllByRecursion IsViaParam params → first_named branch (new_params source host params) ≡ first_named branch params
new-branch source host params is h = grind (arith, branch-all)

-- ---- and name the port of the source

plain-read : (limit : ℕ) (ds : List ℕ) (n : ℕ) → plain_number_within limit ds ≡ Some n → number_within limit ds ≡ Some n
plain-read limit ds n e = grind arith

port-number : (port : ℕ) (value : Option (List ℕ)) → port ≤ 65535 → value ≡ Some (decimal port) → is_number port (number_if_any value) ≡ true
port-number port value small e =
    let read : number_within 65535 (decimal port) ≡ Some port = plain-read 65535 (decimal port) port (number_read 65535 port small (omega (arith, small))) in
    grind (arith, common_steps)

rport-step : (port : ℕ) (param : List ℕ) (rest params : List (List ℕ)) → port ≤ 65535 → IsViaParam param → list_any (is_rport port) rest ≡ list_any (gives_port port) params → list_any (is_rport port) (kept_params port param ++ rest) ≡ list_any (gives_port port) (param ∷ params)
rport-step port param rest params small h e =
    elim (cases_Bool (is_named (codes "received") param)) [
      | inl dropped ↦
          let other : is_named (codes "rport") param ≡ false = other-name (codes "rport") (codes "received") (name_of param) refl dropped in
          grind (arith, common_steps)
      | inr stays ↦
          elim (cases_Bool (asks_port param)) [
            | inl asks ↦
                let is_port = (and_parts (is_named (codes "rport") param) (is_none (value_of param)) asks).0 in
                let good = filled-good port param (omega (arith, small)) h asks in
                let says = param-says (filled port param) good.0 in
                let names : name_of (filled port param) ≡ name_of param = says.0 ∙ good.1 ∙ sym (param-says param h).0 in
                let valued : value_of (filled port param) ≡ Some (decimal port) = says.1 ∙ good.2 in
                let number = port-number port (value_of (filled port param)) small valued in
                let named : is_named (codes "rport") (filled port param) ≡ true = ap (λ (n : List ℕ). bytes_eq (lowered n) (lowered (codes "rport"))) names ∙ is_port in
                grind (arith, common_steps)
            | inr not_so ↦ grind (arith, common_steps)
          ]
    ]

rport-all : (port : ℕ) (params rest : List (List ℕ)) → port ≤ 65535 → AllByRecursion IsViaParam params → list_any (is_rport port) rest ≡ false → list_any (is_rport port) (flat_map (kept_params port) params ++ rest) ≡ list_any (gives_port port) params
rport-all port [] rest small h e = e
rport-all port (p ∷ ps) rest small h e = grind (arith, common_steps, rport-step, rport-all port ps rest small h.1 e)

new-rport : (source : Hop) (host : List ℕ) (params : List (List ℕ)) → source.port ≤ 65535 → AllByRecursion IsViaParam params → list_any (is_rport source.port) (new_params source host params) ≡ list_any (gives_port source.port) params
new-rport source host params small h = grind (arith, rport-all)

-- ---- what stands before the parameters

spaced-end : (mark : ℕ) (before after inner : List ℕ) → IsEnd inner → IsEnd (spaced mark before after inner)
spaced-end mark before after inner h = end-behind before (mark ∷ (after ++ inner)) (end-behind (mark ∷ after) inner h)

sent-end : (host : List ℕ) (gaps : List ℕ × List ℕ) (port : Option (List ℕ)) → IsHost host → IfSome port IsPort → IsEnd (host ++ port_spelling gaps port)
sent-end host gaps None h p = subst IsEnd (sym (append-nil host)) (bare-end host (host_bare host h))
sent-end host gaps (Some port) h p = end-behind host (spaced 58 gaps.0 gaps.1 port) (spaced-end 58 gaps.0 gaps.1 port (bare-end port (port_bare port p)))

core-end : (g : ViaGaps) (via : ViaText) → IsFront g via → IsEnd (core g via)
core-end g via f =
    let port = port_spelling g.before_port via.port in
    let sent = end-behind g.before_host (via.host ++ port) (sent-end via.host g.before_port via.port f.host f.port) in
    let transport = end-behind via.transport (sender g via port) sent in
    grind (arith, common_steps, spaced-end, end-behind)

-- ---- a text of such parts

trim-whole : (g : ViaGaps) (via : ViaText) (text : List ℕ) → text ≡ spelling g via → AreViaGaps g → IsEnd text → trim text ≡ text
trim-whole g via text e spaces end =
    let begins = sip-begins g.name (behind_name g via (tail_of g via)) spaces.sip in
    grind (arith, common_steps, append-nil text, end-trims text [] end refl, trim_start-none)

made : (g : ViaGaps) (via : ViaText) (params : List (List ℕ)) (text : List ℕ) → text ≡ spelling g (with_params via params) → IsFront g via → AllByRecursion IsViaParam params → IsEnd text → IsVia text (with_params via params)
made g via params text e f good end = record {
  gaps = g;
  spelled = e;
  spaces = f.spaces;
  trimmed = trim-whole g (with_params via params) text e f.spaces end;
  transport = f.transport;
  host = f.host;
  port = f.port;
  params = good;
}

record IsFinished (g : ViaGaps) (via : ViaText) (params : List (List ℕ)) : Type 0 where
  text : List ℕ
  kept : List (List ℕ)
  trims : trim_end ((core g via ++ g.before_params) ++ spelled params) ≡ text
  is : IsVia text (with_params via kept)
  same : (name : List ℕ) → first_named name kept ≡ first_named name params
  rport : (port : ℕ) → list_any (is_rport port) kept ≡ list_any (is_rport port) params

abbrev without_gap : ViaGaps → ViaGaps
without_gap g = record { name = g.name; before_version = g.before_version; before_transport = g.before_transport; before_host = g.before_host; before_port = g.before_port; before_params = [] }

front-without : (g : ViaGaps) (via : ViaText) → IsFront g via → IsFront (without_gap g) via
front-without g via f = grind arith

finished : (g : ViaGaps) (via : ViaText) (params : List (List ℕ)) → IsFront g via → AllByRecursion IsViaParam params → IsFinished g via params
finished g via [] f good =
    let end = core-end g via f in
    let text : core g via ≡ spelling (without_gap g) (with_params via []) = sym (append-nil (core g via)) ∙ sym (spelling-split (without_gap g) via []) in
    record {
      text = core g via;
      kept = [];
      trims = ap trim_end (append-nil (core g via ++ g.before_params)) ∙ end-trims (core g via) g.before_params end f.spaces.before_params;
      is = made (without_gap g) via [] (core g via) text (front-without g via f) tt end;
      same = λ name. refl;
      rport = λ port. refl;
    }
finished g via (p ∷ ps) f good =
    let front = core g via ++ g.before_params in
    let r = all-trimmed p ps good in
    let end = end-behind front (spelled r.0) r.1.ends in
    record {
      text = front ++ spelled r.0;
      kept = r.0;
      trims = ap (λ (x : List ℕ). trim_end (front ++ x)) r.1.whole ∙ ap trim_end (sym (append_assoc front (spelled r.0) r.1.gap)) ∙ end-trims (front ++ spelled r.0) r.1.gap end r.1.space;
      is = made g via r.0 (front ++ spelled r.0) (append_assoc (core g via) g.before_params (spelled r.0) ∙ sym (spelling-split g via r.0)) f r.1.good end;
      same = r.1.same;
      rport = r.1.rport;
    }

-- ---- the marked value

pub record IsMarkedVia (source : Hop) (value : List ℕ) : Type 0 where
  pub new : ViaText
  pub is : IsVia (marked_value source value) new
  pub host : new.host ≡ (via_of value).host
  pub port : new.port ≡ (via_of value).port
  pub same_branch : first_named (codes "branch") new.params ≡ first_named (codes "branch") (via_of value).params
  pub rport : source.port ≤ 65535 → list_any (is_rport source.port) new.params ≡ list_any (gives_port source.port) (via_of value).params

pub marked-via : (source : Hop) (value : List ℕ) → IsSource source → is_via value ≡ true → IsMarkedVia source value
marked-via source value is h =
    let both = and_parts (is_trimmed value) (are_parts (parts_of value)) h in
    let via = via_of value in
    let found = via_found value both.0 both.1 in
    let g = found.gaps in
    let f : IsFront g via = record { spaces = found.spaces; transport = found.transport; host = found.host; port = found.port } in
    let front = core g via ++ g.before_params in
    let split : value ≡ front ++ spelled via.params = found.spelled ∙ spelling-split g via via.params ∙ sym (append_assoc (core g via) g.before_params (spelled via.params)) in
    let unsplit = unsplit_all 59 semicolon front (all_joined neither (core g via) g.before_params (core-unsplit g via f) (space_unsplit g.before_params found.spaces.before_params)) in
    let cuts : cut_outside Quotes 59 Plain value ≡ (front, joined 59 via.params) = ap (cut_outside Quotes 59 Plain) (split ∙ ap (λ (x : List ℕ). front ++ x) (joined-behind 59 via.params)) ∙ cut_outside_again Quotes 59 Plain front (joined 59 via.params) unsplit.lacks (on_some (joined 59 via.params) _ unsplit.ends) in
    let news = new_params source via.host via.params in
    let end = finished g via news f (new-good source via.host via.params is found.params) in
    let text : marked_value source value ≡ end.text =
    ap (marked_parts source via.host) cuts
    ∙ ap (λ (ps : List (List ℕ)). trim_end (front ++ (flat_map (marked_param source.port) ps ++ received_text (address_text source.addr) via.host ps))) (params_again via.params found.params)
    ∙ ap (λ (x : List ℕ). trim_end (front ++ x)) (new-spelled source via.host via.params)
    ∙ end.trims in
    record {
      new = with_params via end.kept;
      is = subst (λ (x : List ℕ). IsVia x (with_params via end.kept)) (sym text) end.is;
      host = refl;
      port = refl;
      same_branch = end.same branch ∙ new-branch source via.host via.params is found.params;
      rport = λ small. end.rport source.port ∙ new-rport source via.host via.params small found.params;
    }
