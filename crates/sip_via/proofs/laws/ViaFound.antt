-- What is read is a Via value of these parts.
use Rattle.sip_via.proofs.Common.{◌≡◌, ℕ, true, false, ltb, List, [], ◌∷◌, ◌++◌, length, map, take, drop, Option, Some, None, refl, sym, ap, subst, ◌∙◌, append_assoc, inl, inr, IfSome, ◌&&◌, codes, option_map, to_ascii_lowercase, list_all}
use Rattle.sip_via.proofs.Common.{AllByRecursion, flat_map, bytes_eq, str_to_ascii_lowercase, and_parts, false≢true, or_cases, append-nil, take-append-drop, bytes_eq-Decides, Quotes, Plain, is_space, is_token, trim, trim_end, trim_start, behind, cut}
use Rattle.sip_via.proofs.Common.{is, quoted_at, cut_joins, trim_end-whole, trim_start-whole, IsPort, host_len, IsSpace, IsValue, IsVia, IsViaParam, param_text, spaced, tail_spelling, Parts, ViaText, is_param, is_value_byte, is_value_if_any}
use Rattle.sip_via.proofs.Common.{is_whole, name_of, or_empty, params_of, port_and_params, value_of, via_of, pieces_from_join, common_steps, arith}
use Rattle.sip_lex.proofs.laws.Quotes.{quoted_at-takes}
use Rattle.sip_uri.specs.Host.{is_host}
use Rattle.sip_uri.proofs.laws.Found.{port_if_any}
use Rattle.sip_uri.proofs.laws.Hosts.{full, is_host-IsHost}
use Rattle.sip_via.specs.ViaParts.{are_parts, is_plain_value, is_port_if_any, is_trimmed, is_value, parts_of}

abbrev Cut : Type 0
Cut = List ℕ × Option (List ℕ)

abbrev Marks : Type 0
Marks = Option (List ℕ) × Option (List ℕ)

-- ---- a text is its trimmed text with space round it

pub record Trims (bs inner : List ℕ) : Type 0 where
  pub before : List ℕ
  pub after : List ℕ
  pub front_space : IsSpace before
  pub back_space : IsSpace after
  pub whole : bs ≡ before ++ (inner ++ after)

pub trims : (bs : List ℕ) → Trims bs (trim bs)
trims bs = grind (arith, common_steps, trim_start-whole bs, trim_end-whole (trim_start bs))

-- what stands behind such a text
padded : (before inner after rest : List ℕ) → (before ++ (inner ++ after)) ++ rest ≡ before ++ (inner ++ (after ++ rest))
padded before inner after rest = append_assoc before (inner ++ after) rest ∙ ap (λ (x : List ℕ). before ++ x) (append_assoc inner after rest)

-- ---- parameters

whole_is : (o : Option (List ℕ × List ℕ)) → is_whole o ≡ true → (inside : List ℕ) × (o ≡ Some (inside, []))
whole_is None e = absurd (false≢true e)
whole_is (Some (inside, [])) e = (inside, refl)
whole_is (Some (inside, b ∷ rest)) e = absurd (false≢true e)

value_found : (value : List ℕ) → is_value value ≡ true → IsValue value
value_found value h =
    elim (or_cases (is_plain_value value) (is_whole (quoted_at value)) h) [
      | inl plain ↦ let both = and_parts (ltb 0 (length value)) (list_all is_value_byte value) plain in inl (full value both.0, both.1)
      | inr quoted ↦ let w = whole_is (quoted_at value) quoted in inr (w.0, quoted_at-takes value w.0 [] w.1)
    ]

param_cut : (param : List ℕ) (c : Cut) → param ≡ c.0 ++ behind 61 c.1 → is_token (trim c.0) ≡ true → is_value_if_any (option_map trim c.1) ≡ true → IsViaParam param
param_cut param (front, None) e token valued =
    let n = trims front in
    record {
      gaps = record { before = n.before; behind_name = n.after; before_value = []; behind_value = [] };
      name = trim front;
      value = None;
      spelled = e ∙ append-nil front ∙ n.whole;
      spaces = record { before = n.front_space; behind_name = n.back_space; before_value = refl; behind_value = refl };
      token = token;
      valued = tt;
    }
param_cut param (front, Some back) e token valued =
    let n = trims front in
    let v = trims back in
    record {
      gaps = record { before = n.before; behind_name = n.after; before_value = v.before; behind_value = v.after };
      name = trim front;
      value = Some (trim back);
      spelled = e ∙ ap (λ (x : List ℕ). x ++ (61 ∷ back)) n.whole ∙ padded n.before (trim front) n.after (61 ∷ back) ∙ ap (λ (x : List ℕ). n.before ++ (trim front ++ (n.after ++ (61 ∷ x)))) v.whole;
      spaces = record { before = n.front_space; behind_name = n.back_space; before_value = v.front_space; behind_value = v.back_space };
      token = token;
      valued = value_found (trim back) valued;
    }

param_found : (param : List ℕ) → is_param param ≡ true → IsViaParam param
param_found param h = grind (arith, common_steps, and_parts (is_token (name_of param)) (is_value_if_any (value_of param)) h, cut_joins 61 param, param_cut)

params_found : (params : List (List ℕ)) → list_all is_param params ≡ true → AllByRecursion IsViaParam params
params_found [] h = tt
params_found (p ∷ ps) h =
    let both = and_parts (is_param p) (list_all is_param ps) h in
    (param_found p both.0, params_found ps both.1)

params_join : (text : Option (List ℕ)) → flat_map param_text (params_of text) ≡ behind 59 text
params_join None = refl
params_join (Some bs) = pieces_from_join Quotes 59 Plain bs

-- ---- what stands behind the host, with the space before it

record IsTail (text : List ℕ) (port : Option (List ℕ)) (params : List (List ℕ)) : Type 0 where
  before_port : List ℕ × List ℕ
  before_params : List ℕ
  port_space : IsSpace before_port.0 × IsSpace before_port.1
  params_space : IsSpace before_params
  spelled : text ≡ tail_spelling before_port before_params port params

with_port : (gap bs : List ℕ) (c : Cut) → IsSpace gap → bs ≡ c.0 ++ behind 59 c.1 → IsTail (gap ++ (58 ∷ bs)) (Some (trim c.0)) (params_of c.1)
with_port gap bs c space e =
    let p = trims c.0 in
    record {
      before_port = (gap, p.before);
      before_params = p.after;
      port_space = (space, p.front_space);
      params_space = p.back_space;
      spelled = ap (λ (x : List ℕ). gap ++ (58 ∷ x)) (e ∙ ap (λ (x : List ℕ). c.0 ++ x) (sym (params_join c.1)) ∙ ap (λ (x : List ℕ). x ++ flat_map param_text (params_of c.1)) p.whole ∙ padded p.before (trim c.0) p.after (flat_map param_text (params_of c.1)));
    }

without_port : (gap bs : List ℕ) → IsSpace gap → IsTail (gap ++ (59 ∷ bs)) None (params_of (Some bs))
without_port gap bs space = record {
  before_port = ([], []);
  before_params = gap;
  port_space = (refl, refl);
  params_space = space;
  spelled = ap (λ (x : List ℕ). gap ++ x) (sym (params_join (Some bs)));
}

abbrev Tails : List ℕ → Marks → Type 0
Tails text r = is_port_if_any r.0 ≡ true → IsTail text r.0 (params_of r.1)

behind_mark : (gap : List ℕ) (b : ℕ) (bs : List ℕ) → IsSpace gap → Tails (gap ++ (b ∷ bs)) (port_and_params (b ∷ bs))
behind_mark gap b bs space = grind (arith, with_port, cut_joins, without_port)

tail_found : (gap tail : List ℕ) → IsSpace gap → Tails (gap ++ tail) (port_and_params tail)
tail_found gap [] space = λ good. record { before_port = ([], []); before_params = gap; port_space = (refl, refl); params_space = space; spelled = refl }
tail_found gap (b ∷ bs) space = behind_mark gap b bs space

-- ---- cuts that found their mark

version_there : (text : List ℕ) (c : Cut) → text ≡ c.0 ++ behind 47 c.1 → bytes_eq (trim (cut (is 47) (or_empty c.1)).0) (codes "2.0") ≡ true → text ≡ c.0 ++ (47 ∷ or_empty c.1)
version_there text c e h = grind arith

transport_there : (text : List ℕ) (c : Cut) → text ≡ c.0 ++ behind 47 c.1 → is_token (cut is_space (trim_start (or_empty c.1))).0 ≡ true → text ≡ c.0 ++ (47 ∷ or_empty c.1)
transport_there text c e h = grind arith

-- at a space, which the cut does not keep
abbrev CutAt : List ℕ → Cut → Type 0
CutAt bs c = IfSome c.1 (λ back. (b : ℕ) × (is_space b ≡ true) × (bs ≡ c.0 ++ (b ∷ back)))

space_cut : (bs : List ℕ) → CutAt bs (cut is_space bs)
space_cut [] = tt
space_cut (b ∷ bs) = grind (arith, space_cut bs)

abbrev host_in : List ℕ → List ℕ
host_in sent = trim_end (take (host_len false sent) sent)

host_there : (bs : List ℕ) (c : Cut) → CutAt bs c → is_host (host_in (trim_start (or_empty c.1))) ≡ true → (b : ℕ) × (is_space b ≡ true) × (bs ≡ c.0 ++ (b ∷ or_empty c.1))
host_there bs c h good = grind arith

-- ---- each test that passed

record AreGood (p : Parts) : Type 0 where
  protocol : bytes_eq (str_to_ascii_lowercase p.protocol) (codes "sip") ≡ true
  version : bytes_eq p.version (codes "2.0") ≡ true
  transport : is_token p.transport ≡ true
  host : is_host p.host ≡ true
  port : is_port_if_any p.port ≡ true
  params : list_all is_param (params_of p.params) ≡ true

are_good : (p : Parts) → are_parts p ≡ true → AreGood p
unfolding are_parts
are_good p h = grind (arith, and_parts)

-- ---- the whole

-- what stands behind the space, from the host on
record IsSent (text host : List ℕ) (port : Option (List ℕ)) (params : List (List ℕ)) : Type 0 where
  before_port : List ℕ × List ℕ
  before_params : List ℕ
  port_space : IsSpace before_port.0 × IsSpace before_port.1
  params_space : IsSpace before_params
  spelled : text ≡ host ++ tail_spelling before_port before_params port params

sent_found : (sent : List ℕ) (marks : Marks) → marks ≡ port_and_params (drop (host_len false sent) sent) → is_port_if_any marks.0 ≡ true → IsSent sent (host_in sent) marks.0 (params_of marks.1)
sent_found sent marks e good =
    let n = host_len false sent in
    let h = trim_end-whole (take n sent) in
    let t = subst (Tails (h.gap ++ drop n sent)) (sym e) (tail_found h.gap (drop n sent) h.spaces) good in
    record {
      before_port = t.before_port;
      before_params = t.before_params;
      port_space = t.port_space;
      params_space = t.params_space;
      spelled = sym (take-append-drop n sent) ∙ ap (λ (x : List ℕ). x ++ drop n sent) h.whole ∙ append_assoc (host_in sent) h.gap (drop n sent) ∙ ap (λ (x : List ℕ). host_in sent ++ x) t.spelled;
    }

-- the parts by cuts
record AreCut (text : List ℕ) (p : Parts) : Type 0 where
  first : Cut
  second : Cut
  third : Cut
  first_is : first ≡ cut (is 47) text
  second_is : second ≡ cut (is 47) (or_empty first.1)
  third_is : third ≡ cut is_space (trim_start (or_empty second.1))
  protocol : p.protocol ≡ trim_end first.0
  version : p.version ≡ trim second.0
  transport : p.transport ≡ third.0
  host : p.host ≡ host_in (trim_start (or_empty third.1))
  marks : (p.port, p.params) ≡ port_and_params (drop (host_len false (trim_start (or_empty third.1))) (trim_start (or_empty third.1)))

parts_cut : (text : List ℕ) → AreCut text (parts_of text)
unfolding parts_of
parts_cut text = grind arith

joined : (text name a p v q r1 r2 g s transport lws r3 : List ℕ) → text ≡ (name ++ a) ++ (47 ∷ r1) → r1 ≡ (p ++ (v ++ q)) ++ (47 ∷ r2) → r2 ≡ g ++ s → s ≡ transport ++ (lws ++ r3) → text ≡ name ++ spaced 47 a p (v ++ spaced 47 q g (transport ++ (lws ++ r3)))
joined text name a p v q r1 r2 g s transport lws r3 e1 e2 e3 e4 = grind (arith, common_steps)

assembled : (text : List ℕ) (via : ViaText) (p : Parts) → AreCut text p → AreGood p → via.transport ≡ p.transport → via.host ≡ p.host → via.port ≡ p.port → via.params ≡ params_of p.params → trim text ≡ text → IsVia text via
assembled text via p c good transport host port params trimmed =
    let n = trim_end-whole c.first.0 in
    let v = trims c.second.0 in
    let version : trim c.second.0 ≡ codes "2.0" = sym c.version ∙ (bytes_eq-Decides p.version (codes "2.0")).0 good.version in
    let sent = trim_start (or_empty c.third.1) in
    let gap = trim_start-whole (or_empty c.second.1) in
    let lws = trim_start-whole (or_empty c.third.1) in
    let e1 = version_there text c.first (subst (λ (r : Cut). text ≡ r.0 ++ behind 47 r.1) (sym c.first_is) (cut_joins 47 text)) (ap (λ (r : Cut). bytes_eq (trim r.0) (codes "2.0")) (sym c.second_is) ∙ ap (λ (x : List ℕ). bytes_eq x (codes "2.0")) (sym c.version) ∙ good.version) in
    let e2 = transport_there (or_empty c.first.1) c.second (subst (λ (r : Cut). or_empty c.first.1 ≡ r.0 ++ behind 47 r.1) (sym c.second_is) (cut_joins 47 (or_empty c.first.1))) (ap (λ (r : Cut). is_token r.0) (sym c.third_is) ∙ ap is_token (sym c.transport) ∙ good.transport) in
    let e3 = host_there (trim_start (or_empty c.second.1)) c.third (subst (CutAt (trim_start (or_empty c.second.1))) (sym c.third_is) (space_cut (trim_start (or_empty c.second.1)))) (ap is_host (sym c.host) ∙ good.host) in
    let s = sent_found sent (p.port, p.params) c.marks good.port in
    let host_is : host_in sent ≡ via.host = sym (host ∙ c.host) in
    let sent_is : sent ≡ via.host ++ tail_spelling s.before_port s.before_params via.port via.params = s.spelled ∙ ap (λ (x : List ℕ). x ++ tail_spelling s.before_port s.before_params p.port (params_of p.params)) host_is ∙ ap (λ (x : Option (List ℕ)). via.host ++ tail_spelling s.before_port s.before_params x (params_of p.params)) (sym port) ∙ ap (λ (x : List (List ℕ)). via.host ++ tail_spelling s.before_port s.before_params via.port x) (sym params) in
    let e4 : trim_start (or_empty c.second.1) ≡ via.transport ++ ((e3.0 ∷ lws.gap) ++ (via.host ++ tail_spelling s.before_port s.before_params via.port via.params)) = e3.2 ∙ ap (λ (x : List ℕ). x ++ (e3.0 ∷ or_empty c.third.1)) (sym (transport ∙ c.transport)) ∙ ap (λ (x : List ℕ). via.transport ++ (e3.0 ∷ x)) (lws.whole ∙ ap (λ (x : List ℕ). lws.gap ++ x) sent_is) in
    let front_is : text ≡ (trim_end c.first.0 ++ n.gap) ++ (47 ∷ or_empty c.first.1) = e1 ∙ ap (λ (x : List ℕ). x ++ (47 ∷ or_empty c.first.1)) n.whole in
    let middle_is : or_empty c.first.1 ≡ (v.before ++ (codes "2.0" ++ v.after)) ++ (47 ∷ or_empty c.second.1) = e2 ∙ ap (λ (x : List ℕ). x ++ (47 ∷ or_empty c.second.1)) (v.whole ∙ ap (λ (x : List ℕ). v.before ++ (x ++ v.after)) version) in
    record {
      gaps = record { name = trim_end c.first.0; before_version = (n.gap, v.before); before_transport = (v.after, gap.gap); before_host = e3.0 ∷ lws.gap; before_port = s.before_port; before_params = s.before_params };
      spelled = joined text (trim_end c.first.0) n.gap v.before (codes "2.0") v.after (or_empty c.first.1) (or_empty c.second.1) gap.gap (trim_start (or_empty c.second.1)) via.transport (e3.0 ∷ lws.gap) (via.host ++ tail_spelling s.before_port s.before_params via.port via.params) front_is middle_is gap.whole e4;
      spaces = record {
        sip = ap (map to_ascii_lowercase) (sym c.protocol) ∙ (bytes_eq-Decides (str_to_ascii_lowercase p.protocol) (codes "sip")).0 good.protocol;
        before_version = (n.spaces, v.front_space);
        before_transport = (v.back_space, gap.spaces);
        before_host = (λ wrong. absurd cc, ap (λ t. t && list_all is_space lws.gap) e3.1 ∙ lws.spaces);
        before_port = s.port_space;
        before_params = s.params_space;
      };
      trimmed = trimmed;
      transport = ap is_token transport ∙ good.transport;
      host = is_host-IsHost via.host (ap is_host host ∙ good.host);
      port = subst (λ (o : Option (List ℕ)). IfSome o IsPort) (sym port) (port_if_any p.port good.port);
      params = params_found via.params (ap (list_all is_param) params ∙ good.params);
    }

pub via_found : (text : List ℕ) → is_trimmed text ≡ true → are_parts (parts_of text) ≡ true → IsVia text (via_of text)
via_found text trimmed good =
    assembled text (via_of text) (parts_of text) (parts_cut text) (are_good (parts_of text) good) refl refl refl refl ((bytes_eq-Decides (trim text) text).0 trimmed)
