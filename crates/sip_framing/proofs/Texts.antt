-- A text that is read as a message is a message of a stream.
use Rattle.std.proofs.Common.{◌≡◌, ◌≢◌, ℕ, zero, suc, ◌-◌, Bool, true, false, cond, List, [], ◌∷◌, ◌++◌, length, take, Option, Some, None, refl, ap, sym, subst, ◌∙◌, arith, inl, inr}
use Rattle.std.specs.Prelude.{◌==◌, ◌&&◌, ◌||◌, codes, not, reverse, unwrap_or}
use Rattle.std.specs.Char.{to_ascii_lowercase}
use Rattle.std.specs.List.{AllByRecursion, flat_map, list_all, suffix_len}
use Rattle.std.specs.Str.{bytes_eq, str_to_ascii_lowercase}
use Rattle.std.proofs.lemmas.Bool.{and_parts, cond_both, not-true}
use Rattle.std.proofs.lemmas.List.{append_assoc, append-nil, reverse-reverse}
use Rattle.std.proofs.lemmas.Slice.Eq.{bytes_eq-Decides}
use Rattle.sip_lex.specs.Bytes.{is_space, is_token, is_token_byte, trim, trim_end, trim_start}
use Rattle.sip_lex.specs.Cut.{cut, is}
use Rattle.sip_lex.specs.Line.{ended}
use Rattle.sip_lex.specs.Values.{begins_with_space, is_trimmed}
use Rattle.sip_lex.proofs.laws.Cuts.{cut_again}
use Rattle.sip_lex.proofs.laws.Trims.{token_byte-space, token_bytes, trim_end-reverse, trim_start-none}
use Rattle.sip_text.specs.declared.fields.BodyLength.{BodyLength}
use Rattle.sip_text.specs.declared.fields.BodyLength.TheVariants as text
use Rattle.sip_text.specs.Fields.{agreed as text_agreed, is_number, length_name, said_by, said_length, says}
use Rattle.sip_lex.specs.Number.{length_number}
use Rattle.sip_text.specs.Grammar.{AreHeaders, IsBody, IsHeader, IsStartLine}
use Rattle.sip_text.specs.Name.{full_name, name_of_letter, same_name, values_of}
use Rattle.sip_text.specs.Text.{HeaderText, StartText, Request, Response}
use Rattle.sip_text.proofs.laws.Good.{trim_trimmed}
use Rattle.sip_framing.specs.declared.length.Heard.{Heard}
use Rattle.sip_framing.specs.declared.length.SaidLength.{SaidLength}
use Rattle.sip_framing.specs.declared.length.SaidLength.TheVariants.{Unsaid, Bytes, Wrong}
use Rattle.sip_framing.specs.Length.{agreed, heard_after, is_length_name, length_in, length_in_cut, with_length}
use Rattle.sip_framing.specs.Message.{heard_all}
use Rattle.sip_framing.specs.Text.{AreUnfolded, TextsAreFramed}

-- ---- the name

same_test : (a b : Bool) → (a ≡ true → b ≡ true) → (b ≡ true → a ≡ true) → a ≡ b
same_test true b f g = sym (f refl)
same_test false true f g = g refl
same_test false false f g = refl

both_ways : (a b : List ℕ) → bytes_eq a b ≡ bytes_eq b a
both_ways a b = same_test (bytes_eq a b) (bytes_eq b a) (λ e. (bytes_eq-Decides b a).1 (sym ((bytes_eq-Decides a b).0 e))) (λ e. (bytes_eq-Decides a b).1 (sym ((bytes_eq-Decides b a).0 e)))

abbrev lower_length : List ℕ
lower_length = str_to_ascii_lowercase length_name

abbrev short_name : ℕ → Bool
short_name c = bytes_eq (c ∷ []) (codes "content-length") || bytes_eq (c ∷ []) (codes "l")

and_false : (v : Bool) → (v && false) ≡ false
and_false true = refl
and_false false = refl

or_no_and : (x v : Bool) → (x || (v && false)) ≡ x
or_no_and true v = refl
or_no_and false v = and_false v

letter : (b c : ℕ) → to_ascii_lowercase b ≡ c → bytes_eq lower_length (str_to_ascii_lowercase (unwrap_or (name_of_letter c) (b ∷ []))) ≡ short_name c
letter b c same =
    cond_both (c == 118) _ _ Is (λ e. sym (ap short_name (eq c 118 e)))
    (λ e. cond_both (c == 102) _ _ Is (λ e. sym (ap short_name (eq c 102 e)))
    (λ e. cond_both (c == 116) _ _ Is (λ e. sym (ap short_name (eq c 116 e)))
    (λ e. cond_both (c == 109) _ _ Is (λ e. sym (ap short_name (eq c 109 e)))
    (λ e. cond_both (c == 105) _ _ Is (λ e. sym (ap short_name (eq c 105 e)))
    (λ e. cond_both (c == 108) _ _ Is (λ e. sym (ap short_name (eq c 108 e)))
    (λ not_l. cond_both (c == 99) _ _ Is (λ e. sym (ap short_name (eq c 99 e))) (λ e. other not_l)))))))
  where
    Is : Option (List ℕ) → Type 0
    Is o = bytes_eq lower_length (str_to_ascii_lowercase (unwrap_or o (b ∷ []))) ≡ short_name c

    eq : (x y : ℕ) → (x == y) ≡ true → x ≡ y
    eq x y e = grind arith

    other : (c == 108) ≡ false → Is None
    other not_l =
        ap (λ x. bytes_eq lower_length (x ∷ [])) same ∙ and_false (99 == c)
        ∙ sym (ap (λ v. v || ((c == 108) && true)) (and_false (c == 99)) ∙ ap (λ v. v && true) not_l)

named : (name : List ℕ) → same_name length_name name ≡ is_length_name name
unfolding full_name
named [] = refl
named (b ∷ []) = letter b (to_ascii_lowercase b) refl
named (b ∷ c ∷ cs) =
    let name = str_to_ascii_lowercase (b ∷ c ∷ cs) in
    both_ways lower_length name ∙ sym (or_no_and (bytes_eq name (codes "content-length")) (to_ascii_lowercase b == 108))

-- ---- one header

plain_start : (bs : List ℕ) → begins_with_space bs ≡ false → trim_start bs ≡ bs
plain_start [] e = refl
plain_start (b ∷ bs) e = trim_start-none b bs e

trimmed_stays : (bs : List ℕ) → is_trimmed bs ≡ true → trim bs ≡ bs
trimmed_stays bs h =
    let both = and_parts (not (begins_with_space bs)) (not (begins_with_space (reverse bs))) h in
    ap trim_end (plain_start bs (not-true _ both.0)) ∙ trim_end-reverse bs ∙ ap (λ (x : List ℕ). reverse x) (plain_start (reverse bs) (not-true _ both.1)) ∙ reverse-reverse bs

trim_again : (bs : List ℕ) → trim (trim bs ++ []) ≡ trim bs
trim_again bs = ap trim (append-nil (trim bs)) ∙ trimmed_stays (trim bs) (trim_trimmed bs)

begins_plain : (n : ℕ) (front raw : List ℕ) → is_token (take n front) ≡ true → begins_with_space (front ++ 58 ∷ raw) ≡ false
begins_plain n [] raw h = refl
begins_plain zero (b ∷ bs) raw h = absurd cc
begins_plain (suc n) (b ∷ bs) raw h = token_byte-space b (and_parts (is_token_byte b) (list_all is_token_byte (take n bs)) (token_bytes (b ∷ take n bs) h)).0

no_space : (line : List ℕ) (more : List (List ℕ)) (h : HeaderText) → IsHeader line more h → begins_with_space line ≡ false
no_space line more h t =
    ap begins_with_space t.parts ∙ begins_plain (length t.front - suffix_len is_space t.front) t.front t.raw (ap is_token (sym t.name) ∙ t.is_name)

length_of : (line : List ℕ) (more : List (List ℕ)) (h : HeaderText) (t : IsHeader line more h)
    → length_in line ≡ cond (same_name length_name h.name) (Some (length_number (trim t.raw))) None
length_of line more h t =
    ap length_in_cut (ap (cut (is 58)) t.parts ∙ cut_again 58 t.front (Some t.raw) t.no_colon)
    ∙ ap (λ v. cond v (Some (length_number (trim t.raw))) None) (ap is_length_name (sym t.name) ∙ sym (named h.name))

value_of : (line : List ℕ) (h : HeaderText) (t : IsHeader line [] h) → h.value ≡ trim t.raw
value_of line h t = t.value ∙ trim_again t.raw

-- ---- all of them

abbrev with : Bool → SaidLength → Heard
with fresh said = record { is_begun = true; is_fresh = fresh; said = said }

-- what values say, one after another
abbrev said_with : SaidLength → List (List ℕ) → SaidLength
said_with said [] = said
said_with said (v ∷ vs) = said_with (agreed said (length_number v)) vs

more_heard : (said : SaidLength) (more others : List (List ℕ)) → AllByRecursion (λ l. begins_with_space l ≡ true) more
    → heard_all (with false said) (more ++ others) ≡ heard_all (with false said) others
more_heard said [] others c = refl
more_heard said (l ∷ more) others c =
    ap (λ v. heard_all (cond v (with false said) (with_length (with false said) (length_in l))) (more ++ others)) c.0 ∙ more_heard said more others c.1

unfolded_behind : (line : List ℕ) (more others : List (List ℕ)) → AreUnfolded (line ∷ (more ++ others)) → AreUnfolded others
unfolded_behind line [] [] u = tt
unfolded_behind line [] (o ∷ others) u = u.1
unfolded_behind line (m ∷ more) others u = unfolded_behind m more others u.1

-- a line that begins without space
plain_after : (fresh : Bool) (said : SaidLength) (line : List ℕ) → begins_with_space line ≡ false → heard_after (with fresh said) line ≡ with_length (with fresh said) (length_in line)
plain_after fresh said line e = ap (λ v. cond v (record { is_begun = true; is_fresh = false; said = cond fresh Wrong said }) (with_length (with fresh said) (length_in line))) e

-- what is heard of the lines behind a header
abbrev Behind : List (List ℕ) → List HeaderText → Type 0
Behind others hs = (fresh : Bool) (said : SaidLength) → AreUnfolded others → (heard_all (with fresh said) others).said ≡ said_with said (values_of length_name hs)

-- a Content-Length, which no line continues
length_heard : (fresh : Bool) (said : SaidLength) (line : List ℕ) (more others : List (List ℕ)) (h : HeaderText) (hs : List HeaderText) (t : IsHeader line more h)
    → same_name length_name h.name ≡ true → AreUnfolded (line ∷ (more ++ others)) → Behind others hs
    → (heard_all (heard_after (with fresh said) line) (more ++ others)).said ≡ said_with said (values_of length_name (h ∷ hs))
unfolding values_of
length_heard fresh said line [] others h hs t is u behind =
    let n = length_of line [] h t ∙ ap (λ v. cond v (Some (length_number (trim t.raw))) None) is in
    ap (λ (x : Heard). (heard_all x others).said) (plain_after fresh said line (no_space line [] h t) ∙ ap (with_length (with fresh said)) n)
    ∙ behind true (agreed said (length_number (trim t.raw))) (unfolded_behind line [] others u)
    ∙ ap (λ (v : List ℕ). said_with (agreed said (length_number v)) (values_of length_name hs)) (sym (value_of line h t))
    ∙ ap (λ v. said_with said (cond v (h.value ∷ values_of length_name hs) (values_of length_name hs))) (sym is)
length_heard fresh said line (m ∷ more) others h hs t is u behind =
    let n = length_of line (m ∷ more) h t ∙ ap (λ v. cond v (Some (length_number (trim t.raw))) None) is in
    elim u.0 [ inl none ↦ absurd (let wrong = sym n ∙ none in cc) | inr plain ↦ absurd (let wrong = sym t.continues.0 ∙ plain in cc) ]

-- another header, with the lines that continue it
other_heard : (fresh : Bool) (said : SaidLength) (line : List ℕ) (more others : List (List ℕ)) (h : HeaderText) (hs : List HeaderText) (t : IsHeader line more h)
    → same_name length_name h.name ≡ false → AreUnfolded (line ∷ (more ++ others)) → Behind others hs
    → (heard_all (heard_after (with fresh said) line) (more ++ others)).said ≡ said_with said (values_of length_name (h ∷ hs))
unfolding values_of
other_heard fresh said line more others h hs t is u behind =
    let n = length_of line more h t ∙ ap (λ v. cond v (Some (length_number (trim t.raw))) None) is in
    ap (λ (x : Heard). (heard_all x (more ++ others)).said) (plain_after fresh said line (no_space line more h t) ∙ ap (with_length (with fresh said)) n)
    ∙ ap (λ (x : Heard). x.said) (more_heard said more others t.continues)
    ∙ behind false said (unfolded_behind line more others u)
    ∙ ap (λ v. said_with said (cond v (h.value ∷ values_of length_name hs) (values_of length_name hs))) (sym is)

header_heard : (fresh : Bool) (said : SaidLength) (line : List ℕ) (more others : List (List ℕ)) (h : HeaderText) (hs : List HeaderText) (t : IsHeader line more h)
    → AreUnfolded (line ∷ (more ++ others)) → Behind others hs → (v : Bool) → same_name length_name h.name ≡ v
    → (heard_all (heard_after (with fresh said) line) (more ++ others)).said ≡ said_with said (values_of length_name (h ∷ hs))
header_heard fresh said line more others h hs t u behind true is = length_heard fresh said line more others h hs t is u behind
header_heard fresh said line more others h hs t u behind false is = other_heard fresh said line more others h hs t is u behind

headers_heard : (fresh : Bool) (said : SaidLength) (lines : List (List ℕ)) (hs : List HeaderText) → AreHeaders lines hs → AreUnfolded lines
    → (heard_all (with fresh said) lines).said ≡ said_with said (values_of length_name hs)
unfolding values_of
headers_heard fresh said lines [] a u = ap (λ (x : List (List ℕ)). (heard_all (with fresh said) x).said) a
headers_heard fresh said lines (h ∷ hs) a u =
    ap (λ (x : List (List ℕ)). (heard_all (with fresh said) x).said) a.3
    ∙ header_heard fresh said a.0 a.1 a.2 h hs a.4 (subst AreUnfolded a.3 u) (λ f s v. headers_heard f s a.2 hs a.5 v) (same_name length_name h.name) refl

-- ---- what the values say

bytes_is : (m n : ℕ) → text.Bytes m ≡ text.Bytes n → m ≡ n
bytes_is m n e = cc

one_says : (n : ℕ) (o : Option ℕ) → is_number n o ≡ true → agreed (Bytes n) o ≡ Bytes n
one_says n None e = absurd cc
one_says n (Some m) e = ap (λ v. cond v (Bytes n) Wrong) e

all_say : (n : ℕ) (vs : List (List ℕ)) → list_all (says n) vs ≡ true → said_with (Bytes n) vs ≡ Bytes n
all_say n [] h = refl
all_say n (v ∷ vs) h =
    let both = and_parts (says n v) (list_all (says n) vs) h in
    ap (λ x. said_with x vs) (one_says n (length_number v) both.0) ∙ all_say n vs both.1

first_says : (n : ℕ) (o : Option ℕ) (vs : List (List ℕ)) → text_agreed o vs ≡ text.Bytes n → said_with (agreed Unsaid o) vs ≡ Bytes n
first_says n None vs e = absurd cc
first_says n (Some m) vs e = one (list_all (says m) vs) refl e
  where
    one : (v : Bool) → list_all (says m) vs ≡ v → cond v (text.Bytes m) text.Wrong ≡ text.Bytes n → said_with (Bytes m) vs ≡ Bytes n
    one true all e = all_say m vs all ∙ ap (λ k. Bytes k) (bytes_is m n e)
    one false all e = absurd cc

values_say : (n : ℕ) (vs : List (List ℕ)) → said_by vs ≡ text.Bytes n → said_with Unsaid vs ≡ Bytes n
values_say n [] h = absurd cc
values_say n (v ∷ vs) h = first_says n (length_number v) vs h

body_said : (l : BodyLength) (rest body : List ℕ) → IsBody l rest body → l ≢ text.Unsaid → l ≡ text.Bytes (length body)
body_said text.Unsaid rest body is said = absurd (said refl)
body_said text.Wrong rest body is said = absurd is
body_said (text.Bytes n) rest body is said = ap (λ m. text.Bytes m) (sym is.2)

-- ---- the message

not_nil : (xs : List ℕ) (y : ℕ) (ys : List ℕ) → xs ++ y ∷ ys ≢ []
not_nil [] y ys e = absurd cc
not_nil (x ∷ xs) y ys e = absurd cc

start_full : (line : List ℕ) (start : StartText) → IsStartLine line start → line ≢ []
start_full line (Request method uri) s e = not_nil method s.gap _ (sym s.parts ∙ e)
start_full line (Response status reason) s e = not_nil s.version s.gap _ (sym s.parts ∙ e)

pub texts_framed : TextsAreFramed
texts_framed text m t whole said unfolded =
    let message = ended t.line ++ (flat_map ended t.lines ++ (ended [] ++ t.rest)) in
    let n = body_said (said_length m.headers) t.rest m.body t.body said in (
      message,
      t.whole,
      record {
        line = t.line;
        lines = t.lines;
        body = m.body;
        whole = sym (append_assoc (ended t.line) (flat_map ended t.lines) (ended [] ++ t.rest)) ∙ ap (λ (b : List ℕ). flat_map ended (t.line ∷ t.lines) ++ (ended [] ++ b)) whole;
        are_full = ((t.is_line, start_full t.line m.start t.start), t.are_full);
        said = headers_heard false Unsaid t.lines m.headers t.headers unfolded ∙ values_say (length m.body) (values_of length_name m.headers) n;
      },
    )
