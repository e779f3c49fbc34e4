-- What is a Via value is read as it.
use Rattle.sip_via.proofs.Common.{◌≡◌, ◌≢◌, ℕ, ◌+◌, Bool, true, false, not, cond, eqb, ltb, List, [], ◌∷◌, ◌++◌, length, map, take, drop, reverse, Option, Some, None, Result, Ok, refl, sym, ap, subst, ◌∙◌, append_assoc, inl, inr, arith, IfSome, ◌||◌}
use Rattle.sip_via.proofs.Common.{◌&&◌, codes, option_map, is_ascii_digit, to_ascii_lowercase, list_all, AllByRecursion, flat_map, bytes_eq, str_to_ascii_lowercase, and_from, and_parts, cond-true, cond-false, false≢true, append-nil, drop_at}
use Rattle.sip_via.proofs.Common.{reverse-append, reverse-reverse, take_at, list_all-append, bytes_eq-Decides, Quotes, ShelterState, Plain, is_space, is_token, is_token_byte, trim, trim_end, trim_start, behind, cut, is, Lacks, pieces_outside_behind}
use Rattle.sip_via.proofs.Common.{place_after, cut_again, pieces_outside-cut, cut_outside_again, joined, joined-behind, token_bytes, trim_end-reverse, trim_start-none, trim_start-spaces, IsHost, IsPort, host_len, is_address_byte, is_host_byte}
use Rattle.sip_via.proofs.Common.{other_than, ViaFault, AreParamGaps, AreViaGaps, IsSpace, IsValue, IsVia, IsViaParam, ParamGaps, ViaGaps, param_spelling, param_text, spaced, spelling, tail_spelling, Parts, ViaText, is_param, is_value_byte}
use Rattle.sip_via.proofs.Common.{is_value_if_any, or_empty, params_of, port_and_params, read_via, common_steps}
use Rattle.std.specs.Prelude.{OnSome}
use Rattle.sip_lex.specs.declared.sheltered.ShelterState.TheVariants.{Escaped, Quoted}
use Rattle.sip_lex.specs.Quoted.{IsInside}
use Rattle.sip_lex.specs.Sheltered.{LacksOutside, end_place}
use Rattle.sip_lex.proofs.laws.Cuts.{Lacks-append, Lacks-pass}
use Rattle.sip_lex.proofs.laws.Quotes.{quoted_at-again}
use Rattle.sip_lex.proofs.laws.Trims.{trim_end-passes}
use Rattle.sip_uri.specs.Host.{BeginsWithEnd, ends_host}
use Rattle.sip_uri.proofs.laws.Hosts.{IsHost-is_host}
use Rattle.sip_uri.proofs.laws.Only.{port_good}
use Rattle.sip_via.specs.ViaGrammar.{params_spelling, value_spelling}
use Rattle.sip_via.specs.ViaParts.{are_parts, is_value, parts_of}
use Rattle.sip_via.proofs.laws.Tokens.{no_space}
use Rattle.sip_branch.proofs.laws.Tokens.{all_pass}

abbrev Cut : Type 0
Cut = List ℕ × Option (List ℕ)

abbrev Marks : Type 0
Marks = Option (List ℕ) × Option (List ℕ)

-- ---- bytes

not_space : (b : ℕ) → no_space b ≡ true → is_space b ≡ false
not_space b h = grind arith

-- a byte of a class without space and tab is none
class_no_space : (p : ℕ → Bool) → p 32 ≡ false → p 9 ≡ false → (b : ℕ) → p b ≡ true → no_space b ≡ true
class_no_space p space tab b h = ap (λ t. not (t || eqb b 9)) (other_than p b 32 space h) ∙ ap not (other_than p b 9 tab h)

pub all_joined : (p : ℕ → Bool) (xs ys : List ℕ) → list_all p xs ≡ true → list_all p ys ≡ true → list_all p (xs ++ ys) ≡ true
all_joined p xs ys h k = list_all-append p xs ys ∙ and_from (list_all p xs) (list_all p ys) h k

-- ---- texts with space round them

-- a text that begins with another byte than space
abbrev pub Starts : List ℕ → Type 0
Starts [] = ⊥
Starts (b ∷ bs) = is_space b ≡ false

start_kept : (gap bs rest : List ℕ) → IsSpace gap → Starts bs → trim_start (gap ++ (bs ++ rest)) ≡ bs ++ rest
start_kept gap bs rest space s = grind (arith, trim_start-spaces)

-- a text that begins and ends so
pub record IsBare (bs : List ℕ) : Type 0 where
  pub starts : Starts bs
  pub ends : (gap : List ℕ) → IsSpace gap → trim_end (bs ++ gap) ≡ bs

pub bare_trim : (before bs after : List ℕ) → IsSpace before → IsSpace after → IsBare bs → trim (before ++ (bs ++ after)) ≡ bs
bare_trim before bs after front back h = ap trim_end (start_kept before bs after front h.starts) ∙ h.ends after back

passes_starts : (bs : List ℕ) → bs ≢ [] → list_all no_space bs ≡ true → Starts bs
passes_starts bs more h = grind arith

no_space_bare : (bs : List ℕ) → bs ≢ [] → list_all no_space bs ≡ true → IsBare bs
no_space_bare bs some h = record { starts = passes_starts bs some h; ends = λ gap space. trim_end-passes no_space not_space bs gap h space }

class_bare : (p : ℕ → Bool) → p 32 ≡ false → p 9 ≡ false → (bs : List ℕ) → bs ≢ [] → list_all p bs ≡ true → IsBare bs
class_bare p space tab bs some h = no_space_bare bs some (all_pass p no_space bs (class_no_space p space tab) h)

pub all_reverse : (p : ℕ → Bool) (bs : List ℕ) → list_all p bs ≡ true → list_all p (reverse bs) ≡ true
all_reverse p [] h = refl
all_reverse p (b ∷ bs) h =
    let each = and_parts (p b) (list_all p bs) h in
    ap (list_all p) (reverse-append (b ∷ []) bs) ∙ all_joined p (reverse bs) (b ∷ []) (all_reverse p bs each.1) (ap (λ t. t && true) each.0)

-- one that a byte other than space ends
ended_bare : (b c : ℕ) (bs : List ℕ) → is_space b ≡ false → is_space c ≡ false → IsBare (b ∷ (bs ++ c ∷ []))
ended_bare b c bs first last = record {
  starts = first;
  ends = λ gap space.
      let text = b ∷ (bs ++ c ∷ []) in
      let back : reverse text ≡ c ∷ reverse (b ∷ bs) = reverse-append (b ∷ bs) (c ∷ []) in
      trim_end-reverse (text ++ gap)
      ∙ ap (λ (x : List ℕ). reverse (trim_start x)) (reverse-append text gap)
      ∙ ap reverse (trim_start-spaces (reverse gap) (reverse text) (all_reverse is_space gap space) ∙ ap trim_start back ∙ trim_start-none c (reverse (b ∷ bs)) last ∙ sym back)
      ∙ reverse-reverse text;
}

token_some : (bs : List ℕ) → is_token bs ≡ true → bs ≢ []
token_some bs h = grind arith

pub token_bare : (bs : List ℕ) → is_token bs ≡ true → IsBare bs
token_bare bs h = class_bare is_token_byte refl refl bs (token_some bs h) (token_bytes bs h)

pub host_bare : (host : List ℕ) → IsHost host → IsBare host
host_bare host (inl name) = class_bare is_host_byte refl refl host name.0 name.1
host_bare host (inr r) = subst IsBare (sym r.1) (ended_bare 91 93 r.0 refl refl)

pub digits_all : (digits : List ℕ) → IsPort digits → list_all is_ascii_digit digits ≡ true
digits_all digits p = (and_parts (ltb 0 (length digits)) (list_all is_ascii_digit digits) p.digits).1

port_some : (digits : List ℕ) → IsPort digits → digits ≢ []
port_some digits p = grind arith

pub port_bare : (digits : List ℕ) → IsPort digits → IsBare digits
port_bare digits p = class_bare is_ascii_digit refl refl digits (port_some digits p) (digits_all digits p)

pub value_bare : (value : List ℕ) → IsValue value → IsBare value
value_bare value (inl plain) = class_bare is_value_byte refl refl value plain.0 plain.1
value_bare value (inr q) = subst IsBare (sym q.1.0) (ended_bare 34 34 q.0 refl refl)

space_lacks : (mark : ℕ) (gap : List ℕ) → is_space mark ≡ false → IsSpace gap → Lacks mark gap
space_lacks mark gap other space = Lacks-pass is_space mark gap other space

-- ---- a name that is `sip` in any case

lowered_lacks : (mark : ℕ) (bs : List ℕ) → to_ascii_lowercase mark ≡ mark → Lacks mark (map to_ascii_lowercase bs) → Lacks mark bs
lowered_lacks mark [] same h = tt
lowered_lacks mark (b ∷ bs) same h = (λ e. h.0 (ap to_ascii_lowercase e ∙ same), lowered_lacks mark bs same h.1)

lacks_all : (bs : List ℕ) → Lacks 32 bs → Lacks 9 bs → list_all no_space bs ≡ true
lacks_all [] h k = refl
lacks_all (b ∷ bs) h k = grind (arith, lacks_all bs h.1 k.1)

pub sip_lacks : (mark : ℕ) (name : List ℕ) → to_ascii_lowercase mark ≡ mark → is_token_byte mark ≡ false → map to_ascii_lowercase name ≡ codes "sip" → Lacks mark name
sip_lacks mark name same other e = lowered_lacks mark name same (subst (Lacks mark) (sym e) (Lacks-pass is_token_byte mark (codes "sip") other refl))

sip_no_space : (name : List ℕ) → map to_ascii_lowercase name ≡ codes "sip" → list_all no_space name ≡ true
sip_no_space name e = lacks_all name (sip_lacks 32 name refl refl e) (sip_lacks 9 name refl refl e)

-- ---- parameters

pub param_front : (g : ParamGaps) (name : List ℕ) → AreParamGaps g → is_token name ≡ true → Lacks 61 (g.before ++ (name ++ g.behind_name))
param_front g name spaces token =
    Lacks-append 61 g.before (name ++ g.behind_name) (space_lacks 61 g.before refl spaces.before)
    (Lacks-append 61 name g.behind_name (Lacks-pass is_token_byte 61 name refl (token_bytes name token)) (space_lacks 61 g.behind_name refl spaces.behind_name))

abbrev pub value_in : ParamGaps → Option (List ℕ) → Option (List ℕ)
value_in g None = None
value_in g (Some value) = Some (g.before_value ++ (value ++ g.behind_value))

padded : (before inner after rest : List ℕ) → (before ++ (inner ++ after)) ++ rest ≡ before ++ (inner ++ (after ++ rest))
padded before inner after rest = append_assoc before (inner ++ after) rest ∙ ap (λ (x : List ℕ). before ++ x) (append_assoc inner after rest)

pub param_joins : (g : ParamGaps) (name : List ℕ) (value : Option (List ℕ)) → param_spelling g name value ≡ (g.before ++ (name ++ g.behind_name)) ++ behind 61 (value_in g value)
param_joins g name value = grind (arith, common_steps)

abbrev some_text : List ℕ → Option (List ℕ)
some_text text = Some text

pub value_trims : (g : ParamGaps) (value : Option (List ℕ)) → AreParamGaps g → IfSome value IsValue → option_map trim (value_in g value) ≡ value
value_trims g None spaces h = refl
value_trims g (Some value) spaces h = ap some_text (bare_trim g.before_value value g.behind_value spaces.before_value spaces.behind_value (value_bare value h))

value_good : (value : List ℕ) → IsValue value → is_value value ≡ true
value_good value fact = grind (arith, quoted_at-again)

value_if_any : (value : Option (List ℕ)) → IfSome value IsValue → is_value_if_any value ≡ true
value_if_any value h = grind (arith, value_good)

abbrev good_cut : Cut → Bool
good_cut c = is_token (trim c.0) && is_value_if_any (option_map trim c.1)

param_good : (param : List ℕ) → IsViaParam param → is_param param ≡ true
param_good param h = grind (arith, common_steps, param_joins, cut_again, param_front, bare_trim, token_bare, and_from, value_trims, value_if_any)

params_good : (params : List (List ℕ)) → AllByRecursion IsViaParam params → list_all is_param params ≡ true
params_good [] h = refl
params_good (p ∷ ps) h = and_from (is_param p) (list_all is_param ps) (param_good p h.0) (params_good ps h.1)

-- ---- neither `;` nor `,` stands in a parameter but in quotes, and its quotes are closed

pub record IsUnsplit (mark : ℕ) (place : ShelterState) (bs : List ℕ) : Type 0 where
  pub lacks : LacksOutside Quotes mark place bs
  pub ends : end_place Quotes place bs ≡ Plain

-- a byte that is none of `;`, `,` and `"`
abbrev pub neither : ℕ → Bool
neither b = not (eqb b 59) && (not (eqb b 44) && not (eqb b 34))

-- a mark that is no such byte, and no `"`
pub record IsMark (mark : ℕ) : Type 0 where
  pub apart : (b : ℕ) → neither b ≡ true → eqb b mark ≡ false
  pub quote : eqb 34 mark ≡ false

not_true : (t : Bool) → not t ≡ true → t ≡ false
not_true t e = grind arith

neither_parts : (b : ℕ) → neither b ≡ true → (eqb b 59 ≡ false) × (eqb b 44 ≡ false) × (eqb b 34 ≡ false)
neither_parts b h = grind arith

pub semicolon : IsMark 59
semicolon = record { apart = λ b h. (neither_parts b h).0; quote = refl }

pub comma : IsMark 44
comma = record { apart = λ b h. (neither_parts b h).1; quote = refl }

-- a byte before such a text
pub unsplit_byte : (mark b : ℕ) (ys : List ℕ) → eqb b mark ≡ false → eqb b 34 ≡ false → IsUnsplit mark Plain ys → IsUnsplit mark Plain (b ∷ ys)
unsplit_byte mark b ys other quote k = grind arith

pub unsplit_append : (mark : ℕ) → IsMark mark → (xs : List ℕ) → list_all neither xs ≡ true → (ys : List ℕ) → IsUnsplit mark Plain ys → IsUnsplit mark Plain (xs ++ ys)
unsplit_append mark m [] h ys k = k
unsplit_append mark m (b ∷ xs) h ys k =
    let each = and_parts (neither b) (list_all neither xs) h in
    unsplit_byte mark b (xs ++ ys) (m.apart b each.0) (neither_parts b each.0).2 (unsplit_append mark m xs each.1 ys k)

pub unsplit_empty : (mark : ℕ) → IsUnsplit mark Plain []
unsplit_empty mark = record { lacks = tt; ends = refl }

pub unsplit_all : (mark : ℕ) → IsMark mark → (xs : List ℕ) → list_all neither xs ≡ true → IsUnsplit mark Plain xs
unsplit_all mark m xs h = subst (IsUnsplit mark Plain) (append-nil xs) (unsplit_append mark m xs h [] (unsplit_empty mark))

-- one such text behind another
pub unsplit_join : (mark : ℕ) (place : ShelterState) (xs ys : List ℕ) → IsUnsplit mark place xs → IsUnsplit mark Plain ys → IsUnsplit mark place (xs ++ ys)
unsplit_join mark place [] ys h k = subst (λ (p : ShelterState). IsUnsplit mark p ys) (sym h.ends) k
unsplit_join mark place (b ∷ xs) ys h k =
    let rest = unsplit_join mark (place_after Quotes place b) xs ys (record { lacks = h.lacks.1; ends = h.ends }) k in
    record { lacks = (h.lacks.0, rest.lacks); ends = rest.ends }

class_neither : (p : ℕ → Bool) → p 59 ≡ false → p 44 ≡ false → p 34 ≡ false → (b : ℕ) → p b ≡ true → neither b ≡ true
class_neither p semicolon comma quote b h = ap (λ t. not t && (not (eqb b 44) && not (eqb b 34))) (other_than p b 59 semicolon h) ∙ ap (λ t. not t && not (eqb b 34)) (other_than p b 44 comma h) ∙ ap not (other_than p b 34 quote h)

pub class_unsplit : (p : ℕ → Bool) → p 59 ≡ false → p 44 ≡ false → p 34 ≡ false → (xs : List ℕ) → list_all p xs ≡ true → list_all neither xs ≡ true
class_unsplit p semicolon comma quote xs h = all_pass p neither xs (class_neither p semicolon comma quote) h

-- inside quotes
abbrev place_in : Bool → ShelterState
place_in true = Escaped
place_in false = Quoted

inside_unsplit : (mark : ℕ) (escaped : Bool) (inside ys : List ℕ) → IsInside escaped inside → IsUnsplit mark Plain ys → IsUnsplit mark (place_in escaped) (inside ++ (34 ∷ ys))
inside_unsplit mark true [] ys h k = absurd (false≢true (sym h))
inside_unsplit mark false [] ys h k = record { lacks = (refl, k.lacks); ends = k.ends }
inside_unsplit mark true (b ∷ inside) ys h k =
    let rest = inside_unsplit mark false inside ys h.1 k in
    record { lacks = (refl, rest.lacks); ends = rest.ends }
inside_unsplit mark false (b ∷ inside) ys h k =
    let rest = inside_unsplit mark (eqb b 92) inside ys h.1 k in
    let later : place_after Quotes Quoted b ≡ place_in (eqb b 92) = after_quoted (eqb b 92) (eqb b 34) (and_true (eqb b 34) h.0) in
    record {
      lacks = (refl, subst (λ (p : ShelterState). LacksOutside Quotes mark p (inside ++ (34 ∷ ys))) (sym later) rest.lacks);
      ends = ap (λ (p : ShelterState). end_place Quotes p (inside ++ (34 ∷ ys))) later ∙ rest.ends;
    }
  where
    and_true : (t : Bool) → (t && true) ≡ false → t ≡ false
    and_true true e = e
    and_true false e = refl

    after_quoted : (s t : Bool) → t ≡ false → cond s Escaped (cond t Plain Quoted) ≡ place_in s
    after_quoted true t e = refl
    after_quoted false true e = absurd (false≢true (sym e))
    after_quoted false false e = refl

quoted_unsplit : (mark : ℕ) → IsMark mark → (inside ys : List ℕ) → IsInside false inside → IsUnsplit mark Plain ys → IsUnsplit mark Plain (34 ∷ (inside ++ (34 ∷ ys)))
quoted_unsplit mark m inside ys h k = let rest = inside_unsplit mark false inside ys h k in record { lacks = (m.quote, rest.lacks); ends = rest.ends }

value_unsplit : (mark : ℕ) → IsMark mark → (value ys : List ℕ) → IsValue value → IsUnsplit mark Plain ys → IsUnsplit mark Plain (value ++ ys)
value_unsplit mark m value ys (inl plain) k = unsplit_append mark m value (class_unsplit is_value_byte refl refl refl value plain.1) ys k
value_unsplit mark m value ys (inr q) k = grind (arith, common_steps, append_assoc q.0 (34 ∷ []) ys, quoted_unsplit mark m q.0 ys q.1.1 k)

pub space_unsplit : (gap : List ℕ) → IsSpace gap → list_all neither gap ≡ true
space_unsplit gap space = class_unsplit is_space refl refl refl gap space

tail_unsplit : (mark : ℕ) → IsMark mark → (g : ParamGaps) (value : Option (List ℕ)) → AreParamGaps g → IfSome value IsValue → IsUnsplit mark Plain (value_spelling g value)
tail_unsplit mark m g None spaces h = unsplit_all mark m g.behind_name (space_unsplit g.behind_name spaces.behind_name)
tail_unsplit mark m g (Some value) spaces h =
    unsplit_append mark m g.behind_name (space_unsplit g.behind_name spaces.behind_name) (61 ∷ (g.before_value ++ (value ++ g.behind_value)))
    (unsplit_append mark m (61 ∷ []) refl (g.before_value ++ (value ++ g.behind_value))
    (unsplit_append mark m g.before_value (space_unsplit g.before_value spaces.before_value) (value ++ g.behind_value)
    (value_unsplit mark m value g.behind_value h (unsplit_all mark m g.behind_value (space_unsplit g.behind_value spaces.behind_value)))))

pub param_unsplit : (mark : ℕ) → IsMark mark → (param : List ℕ) → IsViaParam param → IsUnsplit mark Plain param
param_unsplit mark m param h =
    subst (IsUnsplit mark Plain) (sym h.spelled)
    (unsplit_append mark m h.gaps.before (space_unsplit h.gaps.before h.spaces.before) (h.name ++ value_spelling h.gaps h.value)
    (unsplit_append mark m h.name (class_unsplit is_token_byte refl refl refl h.name (token_bytes h.name h.token)) (value_spelling h.gaps h.value)
    (tail_unsplit mark m h.gaps h.value h.spaces h.valued)))

abbrev of_cut : Cut → List (List ℕ)
of_cut c = c.0 ∷ pieces_outside_behind Quotes 59 c.1

pub on_some : (o : Option (List ℕ)) (P : Type 0) → P → OnSome o P
on_some o P p = grind arith

pub params_again : (params : List (List ℕ)) → AllByRecursion IsViaParam params → params_of (joined 59 params) ≡ params
params_again [] all = refl
params_again (p ∷ ps) all = grind (arith, param_unsplit, pieces_outside-cut, joined-behind, cut_outside_again, params_again ps all.1)

-- ---- the host ends where it ended

runs_on : (p : ℕ → Bool) → ((b : ℕ) → p b ≡ true → ends_host b ≡ false) → p 91 ≡ false → (bs rest : List ℕ) → list_all p bs ≡ true → host_len false (bs ++ rest) ≡ length bs + host_len false rest
runs_on p on bracket [] rest h = let k : host_len false rest ≡ length {A = ℕ} [] + host_len false rest = omega arith in k
runs_on p on bracket (b ∷ bs) rest h =
    let each = and_parts (p b) (list_all p bs) h in
    grind (arith, common_steps, cond-false (ends_host b) 0 (1 + host_len (eqb b 91) (bs ++ rest)) (on b each.0), other_than p b 91 bracket each.0, runs_on p on bracket bs rest each.1)

inner_runs_on : (inner rest : List ℕ) → list_all is_address_byte inner ≡ true → host_len true (inner ++ (93 ∷ rest)) ≡ 1 + (length inner + host_len false rest)
inner_runs_on [] rest h = let k : 1 + host_len false rest ≡ 1 + (length {A = ℕ} [] + host_len false rest) = omega arith in k
inner_runs_on (b ∷ bs) rest h =
    let each = and_parts (is_address_byte b) (list_all is_address_byte bs) h in
    grind (arith, common_steps, other_than is_address_byte b 93 refl each.0, inner_runs_on bs rest each.1)

host_runs_on : (host rest : List ℕ) → IsHost host → host_len false (host ++ rest) ≡ length host + host_len false rest
host_runs_on host rest fact = grind (arith, common_steps, runs_on, inner_runs_on)

stops_at : (tail : List ℕ) → BeginsWithEnd tail → host_len false tail ≡ 0
stops_at tail h = grind arith

host_ends : (host gap tail : List ℕ) → IsHost host → IsSpace gap → BeginsWithEnd tail → host_len false (host ++ (gap ++ tail)) ≡ length (host ++ gap)
host_ends host gap tail h space ends = grind (arith, common_steps, host_runs_on, runs_on)

-- ---- the parts, cut by cut

abbrev with_tail : List ℕ → List ℕ → List ℕ → List ℕ → Marks → Parts
with_tail protocol version transport host marks = record { protocol = protocol; version = version; transport = transport; host = host; port = marks.0; params = marks.1 }

abbrev with_len : List ℕ → List ℕ → List ℕ → List ℕ → ℕ → Parts
with_len protocol version transport sent n = with_tail protocol version transport (trim_end (take n sent)) (port_and_params (drop n sent))

abbrev with_sent : List ℕ → List ℕ → List ℕ → List ℕ → Parts
with_sent protocol version transport sent = with_len protocol version transport sent (host_len false sent)

abbrev with_third : List ℕ → List ℕ → Cut → Parts
with_third protocol version c = with_sent protocol version c.0 (trim_start (or_empty c.1))

abbrev with_second : List ℕ → Cut → Parts
with_second protocol c = with_third protocol (trim c.0) (cut is_space (trim_start (or_empty c.1)))

abbrev with_first : Cut → Parts
with_first c = with_second (trim_end c.0) (cut (is 47) (or_empty c.1))

parts_by_cuts : (text : List ℕ) → parts_of text ≡ with_first (cut (is 47) text)
unfolding parts_of
parts_by_cuts text = refl

-- what stands behind the host
record IsTail (text gap tail : List ℕ) (marks : Marks) : Type 0 where
  joins : text ≡ gap ++ tail
  space : IsSpace gap
  ends : BeginsWithEnd tail
  cuts : port_and_params tail ≡ marks

no_port_tail : (gap : List ℕ) (params : List (List ℕ)) → IsSpace gap → IsTail (params_spelling gap params) gap (flat_map param_text params) (None, joined 59 params)
no_port_tail gap [] space = record { joins = refl; space = space; ends = tt; cuts = refl }
no_port_tail gap (p ∷ ps) space = record { joins = refl; space = space; ends = refl; cuts = refl }

port_tail : (before after gap port : List ℕ) (params : List (List ℕ)) → IsSpace before → IsSpace after → IsSpace gap → IsPort port → IsTail (spaced 58 before after (port ++ params_spelling gap params)) before (58 ∷ (after ++ (port ++ params_spelling gap params))) (Some port, joined 59 params)
port_tail before after gap port params front back space is_port =
    let inner = after ++ (port ++ gap) in
    let text : after ++ (port ++ (gap ++ flat_map param_text params)) ≡ inner ++ behind 59 (joined 59 params) = sym (padded after port gap (flat_map param_text params)) ∙ ap (λ (x : List ℕ). inner ++ x) (joined-behind 59 params) in
    let lacks = Lacks-append 59 after (port ++ gap) (space_lacks 59 after refl back) (Lacks-append 59 port gap (Lacks-pass is_ascii_digit 59 port refl (digits_all port is_port)) (space_lacks 59 gap refl space)) in
    grind (arith, common_steps, joined 59 params, cut_again 59, bare_trim after port gap back space (port_bare port is_port), port_bare)

sent_again : (protocol version transport host text gap tail : List ℕ) (marks : Marks) → IsHost host → IsTail text gap tail marks → with_sent protocol version transport (host ++ text) ≡ with_tail protocol version transport host marks
sent_again protocol version transport host text gap tail marks h t = grind (arith, common_steps, append_assoc host gap tail, host_bare host h, host_ends, take_at, drop_at)

cut_space : (ds rest : List ℕ) (b : ℕ) → list_all no_space ds ≡ true → is_space b ≡ true → cut is_space (ds ++ (b ∷ rest)) ≡ (ds, Some rest)
cut_space [] rest b h space = cond-true (is_space b) ([], Some rest) (b ∷ (cut is_space rest).0, (cut is_space rest).1) space
cut_space (d ∷ ds) rest b h space =
    let each = and_parts (no_space d) (list_all no_space ds) h in
    cond-false (is_space d) ([], Some (ds ++ (b ∷ rest))) (d ∷ (cut is_space (ds ++ (b ∷ rest))).0, (cut is_space (ds ++ (b ∷ rest))).1) (not_space d each.0)
    ∙ ap (λ (c : Cut). (d ∷ c.0, c.1)) (cut_space ds rest b each.1 space)

host_again : (protocol version transport lws host text gap tail : List ℕ) (marks : Marks) → is_token transport ≡ true → lws ≢ [] → IsSpace lws → IsHost host → IsTail text gap tail marks → with_third protocol version (cut is_space (transport ++ (lws ++ (host ++ text)))) ≡ with_tail protocol version transport host marks
host_again protocol version transport [] host text gap tail marks token more space h t = absurd (more refl)
host_again protocol version transport (b ∷ lws) host text gap tail marks token more space h t = grind (arith, common_steps, and_parts (is_space b) (list_all is_space lws) space, all_pass is_token_byte no_space transport (class_no_space is_token_byte refl refl) (token_bytes transport token), host_bare host h, sent_again protocol version transport host text gap tail marks h t, no_space, class_no_space, token_bytes, cut_space, start_kept)

slash_again : (before inner after rest : List ℕ) → IsSpace before → IsSpace after → Lacks 47 inner → cut (is 47) (before ++ (inner ++ (after ++ (47 ∷ rest)))) ≡ (before ++ (inner ++ after), Some rest)
slash_again before inner after rest front back lacks =
    ap (cut (is 47)) (sym (padded before inner after (47 ∷ rest)))
    ∙ cut_again 47 (before ++ (inner ++ after)) (Some rest) (Lacks-append 47 before (inner ++ after) (space_lacks 47 before refl front) (Lacks-append 47 inner after lacks (space_lacks 47 after refl back)))

abbrev version_text : List ℕ
version_text = codes "2.0"

abbrev pub tail_of : ViaGaps → ViaText → List ℕ
tail_of g via = tail_spelling g.before_port g.before_params via.port via.params

abbrev parts_in : ViaGaps → ViaText → Marks → Parts
parts_in g via marks = with_tail g.name version_text via.transport via.host marks

spelled_again : (g : ViaGaps) (via : ViaText) (gap tail : List ℕ) (marks : Marks) → AreViaGaps g → is_token via.transport ≡ true → IsHost via.host → IsTail (tail_of g via) gap tail marks → parts_of (spelling g via) ≡ parts_in g via marks
spelled_again g via gap tail marks spaces token h t =
    let r3 = via.transport ++ (g.before_host ++ (via.host ++ tail_of g via)) in
    let r2 = g.before_transport.1 ++ r3 in
    let r1 = g.before_version.1 ++ (version_text ++ (g.before_transport.0 ++ (47 ∷ r2))) in
    let no_spaces = sip_no_space g.name spaces.sip in
    parts_by_cuts (spelling g via)
    ∙ ap with_first (slash_again [] g.name g.before_version.0 r1 refl spaces.before_version.0 (sip_lacks 47 g.name refl refl spaces.sip))
    ∙ ap (λ (x : List ℕ). with_second x (cut (is 47) r1)) (trim_end-passes no_space not_space g.name g.before_version.0 no_spaces spaces.before_version.0)
    ∙ ap (with_second g.name) (slash_again g.before_version.1 version_text g.before_transport.0 r2 spaces.before_version.1 spaces.before_transport.0 (Lacks-pass is_token_byte 47 version_text refl refl))
    ∙ ap (λ (x : List ℕ). with_third g.name x (cut is_space (trim_start r2))) (bare_trim g.before_version.1 version_text g.before_transport.0 spaces.before_version.1 spaces.before_transport.0 (token_bare version_text refl))
    ∙ ap (λ (x : List ℕ). with_third g.name version_text (cut is_space x)) (start_kept g.before_transport.1 via.transport (g.before_host ++ (via.host ++ tail_of g via)) spaces.before_transport.1 (token_bare via.transport token).starts)
    ∙ host_again g.name version_text via.transport g.before_host via.host (tail_of g via) gap tail marks token spaces.before_host.0 spaces.before_host.1 h t

abbrev TailOf : ViaGaps → Option (List ℕ) → List (List ℕ) → Type 0
TailOf g port params = (gap : List ℕ) × (tail : List ℕ) × IsTail (tail_spelling g.before_port g.before_params port params) gap tail (port, joined 59 params)

tail_is : (g : ViaGaps) (port : Option (List ℕ)) (params : List (List ℕ)) → AreViaGaps g → IfSome port IsPort → TailOf g port params
tail_is g None params spaces h = (g.before_params, flat_map param_text params, no_port_tail g.before_params params spaces.before_params)
tail_is g (Some port) params spaces h = (g.before_port.0, 58 ∷ (g.before_port.1 ++ (port ++ params_spelling g.before_params params)), port_tail g.before_port.0 g.before_port.1 g.before_params port params spaces.before_port.0 spaces.before_port.1 spaces.before_params h)

parts_again : (text : List ℕ) (via : ViaText) (h : IsVia text via) → parts_of text ≡ parts_in h.gaps via (via.port, joined 59 via.params)
parts_again text via h =
    let t = tail_is h.gaps via.port via.params h.spaces h.port in
    ap parts_of h.spelled ∙ spelled_again h.gaps via t.0 t.1 (via.port, joined 59 via.params) h.spaces h.transport h.host t.2

-- ---- and pass each test

tests_pass : (p : Parts) → bytes_eq (str_to_ascii_lowercase p.protocol) (codes "sip") ≡ true → bytes_eq p.version (codes "2.0") ≡ true → is_token p.transport ≡ true → IsHost p.host → IfSome p.port IsPort → list_all is_param (params_of p.params) ≡ true → are_parts p ≡ true
unfolding are_parts
tests_pass p protocol version transport host port params =
    and_from _ _ (and_from _ _ (and_from _ _ (and_from _ _ (and_from _ _ protocol version) transport) (IsHost-is_host p.host host)) (port_good p.port port)) params

abbrev pub with_params : ViaText → List (List ℕ) → ViaText
with_params via params = record { transport = via.transport; host = via.host; port = via.port; params = params }

abbrev pub ok : ViaText → Result ViaText ViaFault
ok via = Ok via

pub via_again : (text : List ℕ) (via : ViaText) → IsVia text via → read_via text ≡ Ok via
via_again text via h = grind (arith, common_steps, parts_again text via h, bytes_eq-Decides (trim text) text, joined, params_again, tests_pass, params_good, and_from, cond-true)
