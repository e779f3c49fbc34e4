-- The fields that reading looks at, found in one walk.
use Rattle.sip_text.proofs.Common.{◌≡◌, ℕ, Bool, true, false, cond, List, [], ◌∷◌, ◌++◌, Option, Some, None, refl, sym, ap, ◌∙◌, arith, cond_both, cond-true, cond-false, list_all-append, bytes_eq, str_to_ascii_lowercase, bytes_eq-Decides, append-nil}
use Rattle.sip_text.proofs.Common.{BodyLength, Unsaid, MandatoryHeader, missing, said_length, same_name, HeaderText, common_steps}
use Rattle.sip_text.proofs.Common.{zero, suc, ◌+◌, ◌<◌, get_or, header_in, headers_in, length, take}
use Rattle.sip_text.specs.declared.found.Found.{Found}
use Rattle.sip_text.specs.declared.place.LinePlaces.{LinePlaces}
use Rattle.sip_text.specs.declared.needed.MandatoryHeader.TheVariants.{Via, From, To, CallId, CSeq}
use Rattle.sip_text.specs.Fields.{agreed, length_name, needed_name, said_by, value_of}
use Rattle.sip_lex.specs.Number.{length_number}
use Rattle.sip_text.specs.Name.{first_of, full_name, values_of}
use Rattle.sip_text.specs.inner.Found.{Finds, got, is_same, missing_of, put_first, said_then}

-- ---- names

abbrev pub lowered : List ℕ → List ℕ
lowered name = str_to_ascii_lowercase (full_name name)

named_as : (which : MandatoryHeader) (name : List ℕ) → same_name (needed_name which) name ≡ bytes_eq (needed_name which) (lowered name)
unfolding full_name
named_as Via name = refl
named_as From name = refl
named_as To name = refl
named_as CallId name = refl
named_as CSeq name = refl

length_as : (name : List ℕ) → same_name length_name name ≡ bytes_eq length_name (lowered name)
unfolding full_name
length_as name = refl

same_at : (which other : MandatoryHeader) → is_same which other ≡ bytes_eq (needed_name which) (needed_name other)
same_at Via Via = refl
same_at Via From = refl
same_at Via To = refl
same_at Via CallId = refl
same_at Via CSeq = refl
same_at From Via = refl
same_at From From = refl
same_at From To = refl
same_at From CallId = refl
same_at From CSeq = refl
same_at To Via = refl
same_at To From = refl
same_at To To = refl
same_at To CallId = refl
same_at To CSeq = refl
same_at CallId Via = refl
same_at CallId From = refl
same_at CallId To = refl
same_at CallId CallId = refl
same_at CallId CSeq = refl
same_at CSeq Via = refl
same_at CSeq From = refl
same_at CSeq To = refl
same_at CSeq CallId = refl
same_at CSeq CSeq = refl

no_length_at : (which : MandatoryHeader) → bytes_eq length_name (needed_name which) ≡ false
no_length_at Via = refl
no_length_at From = refl
no_length_at To = refl
no_length_at CallId = refl
no_length_at CSeq = refl

length_at : (which : MandatoryHeader) → bytes_eq (needed_name which) length_name ≡ false
length_at Via = refl
length_at From = refl
length_at To = refl
length_at CallId = refl
length_at CSeq = refl

-- a name that is a needed field's is that field's alone
pub needed_alone : (name : List ℕ) (found : MandatoryHeader) → bytes_eq (needed_name found) (lowered name) ≡ true → (which : MandatoryHeader) → is_same which found ≡ same_name (needed_name which) name
needed_alone name found e which =
    let low : needed_name found ≡ lowered name = (bytes_eq-Decides (needed_name found) (lowered name)).0 e in
    same_at which found ∙ ap (bytes_eq (needed_name which)) low ∙ sym (named_as which name)

pub needed_no_length : (name : List ℕ) (found : MandatoryHeader) → bytes_eq (needed_name found) (lowered name) ≡ true → false ≡ same_name length_name name
needed_no_length name found e =
    let low : needed_name found ≡ lowered name = (bytes_eq-Decides (needed_name found) (lowered name)).0 e in
    sym (no_length_at found) ∙ ap (bytes_eq length_name) low ∙ sym (length_as name)

pub length_no_needed : (name : List ℕ) → bytes_eq length_name (lowered name) ≡ true → (which : MandatoryHeader) → false ≡ same_name (needed_name which) name
length_no_needed name e which =
    let low : length_name ≡ lowered name = (bytes_eq-Decides length_name (lowered name)).0 e in
    sym (length_at which) ∙ ap (bytes_eq (needed_name which)) low ∙ sym (named_as which name)

pub length_named : (name : List ℕ) (t : Bool) → bytes_eq length_name (lowered name) ≡ t → t ≡ same_name length_name name
length_named name t e = sym e ∙ sym (length_as name)

pub none_named : (name : List ℕ) → bytes_eq (needed_name Via) (lowered name) ≡ false → bytes_eq (needed_name From) (lowered name) ≡ false → bytes_eq (needed_name To) (lowered name) ≡ false → bytes_eq (needed_name CallId) (lowered name) ≡ false → bytes_eq (needed_name CSeq) (lowered name) ≡ false → (which : MandatoryHeader) → false ≡ same_name (needed_name which) name
none_named name a b c d e Via = sym a ∙ sym (named_as Via name)
none_named name a b c d e From = sym b ∙ sym (named_as From name)
none_named name a b c d e To = sym c ∙ sym (named_as To name)
none_named name a b c d e CallId = sym d ∙ sym (named_as CallId name)
none_named name a b c d e CSeq = sym e ∙ sym (named_as CSeq name)

-- ---- one line more

values_push : (name : List ℕ) (hs : List HeaderText) (h : HeaderText) → values_of name (hs ++ h ∷ []) ≡ values_of name hs ++ cond (same_name name h.name) (h.value ∷ []) []
unfolding values_of
values_push name [] h = refl
values_push name (x ∷ hs) h = grind (arith, common_steps, values_push name hs h)

first_push : (vs : List (List ℕ)) (v : List ℕ) → first_of (vs ++ v ∷ []) ≡ put_first (first_of vs) v
first_push [] v = refl
first_push (x ∷ vs) v = refl

value_push : (which : MandatoryHeader) (hs : List HeaderText) (h : HeaderText) → value_of which (hs ++ h ∷ []) ≡ cond (same_name (needed_name which) h.name) (put_first (value_of which hs) h.value) (value_of which hs)
value_push which hs h =
    ap first_of (values_push (needed_name which) hs h)
    ∙ cond_both (same_name (needed_name which) h.name) (h.value ∷ []) [] (λ (vs : List (List ℕ)). first_of (values_of (needed_name which) hs ++ vs) ≡ cond (same_name (needed_name which) h.name) (put_first (value_of which hs) h.value) (value_of which hs))
    (λ e. first_push (values_of (needed_name which) hs) h.value ∙ sym (cond-true _ _ _ e))
    (λ e. ap first_of (append-nil (values_of (needed_name which) hs)) ∙ sym (cond-false _ _ _ e))

agreed_push : (n : Option ℕ) (vs : List (List ℕ)) (v : List ℕ) → agreed n (vs ++ v ∷ []) ≡ said_then (agreed n vs) v
agreed_push None vs v = refl
agreed_push (Some n) vs v = grind (arith, common_steps, list_all-append)

said_push : (vs : List (List ℕ)) (v : List ℕ) → said_by (vs ++ v ∷ []) ≡ said_then (said_by vs) v
said_push [] v = refl
said_push (x ∷ vs) v = agreed_push (length_number x) vs v

length_push : (hs : List HeaderText) (h : HeaderText) → true ≡ same_name length_name h.name → said_length (hs ++ h ∷ []) ≡ said_then (said_length hs) h.value
length_push hs h e =
    ap said_by (values_push length_name hs h ∙ ap (λ (vs : List (List ℕ)). values_of length_name hs ++ vs) (cond-true _ _ _ (sym e))) ∙ said_push (values_of length_name hs) h.value

length_stays : (hs : List HeaderText) (h : HeaderText) → false ≡ same_name length_name h.name → said_length (hs ++ h ∷ []) ≡ said_length hs
length_stays hs h e =
    ap said_by (values_push length_name hs h ∙ ap (λ (vs : List (List ℕ)). values_of length_name hs ++ vs) (cond-false _ _ _ (sym e)) ∙ append-nil (values_of length_name hs))

value_stays : (which : MandatoryHeader) (hs : List HeaderText) (h : HeaderText) → false ≡ same_name (needed_name which) h.name → value_of which (hs ++ h ∷ []) ≡ value_of which hs
value_stays which hs h e = value_push which hs h ∙ cond-false _ _ _ (sym e)

pub finds_needed : (text : List ℕ) (hs : List HeaderText) (h : HeaderText) (found new : Found) (field : MandatoryHeader) → ((which : MandatoryHeader) → is_same which field ≡ same_name (needed_name which) h.name) → false ≡ same_name length_name h.name → ((other : MandatoryHeader) → got text other new ≡ cond (is_same other field) (put_first (got text other found) h.value) (got text other found)) → new.length ≡ found.length → Finds text hs found → Finds text (hs ++ h ∷ []) new
finds_needed text hs h found new field is other put said f = record {
  needed = λ which.
      put which
      ∙ ap (λ (o : Option (List ℕ)). cond (is_same which field) (put_first o h.value) o) (f.needed which)
      ∙ ap (λ b. cond b (put_first (value_of which hs) h.value) (value_of which hs)) (is which)
      ∙ sym (value_push which hs h);
  length = said ∙ f.length ∙ sym (length_stays hs h other);
}

pub finds_length : (text : List ℕ) (hs : List HeaderText) (h : HeaderText) (found new : Found) → ((which : MandatoryHeader) → false ≡ same_name (needed_name which) h.name) → true ≡ same_name length_name h.name → ((which : MandatoryHeader) → got text which new ≡ got text which found) → new.length ≡ said_then found.length h.value → Finds text hs found → Finds text (hs ++ h ∷ []) new
finds_length text hs h found new none is same said f = record {
  needed = λ which. same which ∙ f.needed which ∙ sym (value_stays which hs h (none which));
  length = said ∙ ap (λ (l : BodyLength). said_then l h.value) f.length ∙ sym (length_push hs h is);
}

pub finds_other : (text : List ℕ) (hs : List HeaderText) (h : HeaderText) (found : Found) → ((which : MandatoryHeader) → false ≡ same_name (needed_name which) h.name) → false ≡ same_name length_name h.name → Finds text hs found → Finds text (hs ++ h ∷ []) found
finds_other text hs h found none other f = record {
  needed = λ which. f.needed which ∙ sym (value_stays which hs h (none which));
  length = f.length ∙ sym (length_stays hs h other);
}

nothing_found : (which : MandatoryHeader) → value_of which [] ≡ None
unfolding values_of
nothing_found which = refl

no_length_found : said_length [] ≡ Unsaid
unfolding values_of
no_length_found = refl

pub finds_none : (text : List ℕ) (found : Found) → ((which : MandatoryHeader) → got text which found ≡ None) → found.length ≡ Unsaid → Finds text [] found
finds_none text found none said = record { needed = λ which. none which ∙ sym (nothing_found which); length = said ∙ sym no_length_found }

pub missing_found : (text : List ℕ) (hs : List HeaderText) (found : Found) → Finds text hs found → missing_of text found ≡ missing hs
missing_found text hs found f =
    let via = f.needed Via in
    let from = f.needed From in
    let to = f.needed To in
    let call = f.needed CallId in
    let cseq = f.needed CSeq in
    grind arith

abbrev nothing : Found
nothing = record { via = None; from = None; to = None; call_id = None; cseq = None; length = Unsaid }

nothing_got : (text : List ℕ) (which : MandatoryHeader) → got text which nothing ≡ None
nothing_got text Via = refl
nothing_got text From = refl
nothing_got text To = refl
nothing_got text CallId = refl
nothing_got text CSeq = refl

pub finds_nothing : (text : List ℕ) → Finds text [] nothing
finds_nothing text = finds_none text nothing (nothing_got text) refl

abbrev pub with_length : Found → BodyLength → Found
with_length found said = record { via = found.via; from = found.from; to = found.to; call_id = found.call_id; cseq = found.cseq; length = said }

pub got_still : (text : List ℕ) (found : Found) (said : BodyLength) (which : MandatoryHeader) → got text which (with_length found said) ≡ got text which found
got_still text found said Via = refl
got_still text found said From = refl
got_still text found said To = refl
got_still text found said CallId = refl
got_still text found said CSeq = refl

-- the lines so far, and the next one
next_header : (text : List ℕ) (lines : List LinePlaces) (n : ℕ) (d : LinePlaces) → n < length lines → headers_in text (take (suc n) lines) ≡ headers_in text (take n lines) ++ header_in text (get_or lines n d) ∷ []
next_header text [] n d lt = absurd (omega arith)
next_header text (x ∷ lines) zero d lt = refl
next_header text (x ∷ lines) (suc n) d lt = ap (λ (hs : List HeaderText). header_in text x ∷ hs) (next_header text lines n d (omega arith))

pub headers_more : (text : List ℕ) (lines : List LinePlaces) (n : ℕ) (d : LinePlaces) → n < length lines → headers_in text (take (n + 1) lines) ≡ headers_in text (take n lines) ++ header_in text (get_or lines n d) ∷ []
headers_more text lines n d lt = let next : n + 1 ≡ suc n = omega arith in ap (λ m. headers_in text (take m lines)) next ∙ next_header text lines n d lt
