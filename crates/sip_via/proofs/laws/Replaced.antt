-- A message of which header lines were replaced is one.
use Rattle.sip_via.proofs.Common.{◌≡◌, ℕ, Bool, true, false, cond, List, [], ◌∷◌, ◌++◌, Option, Some, None, refl, sym, ap, ◌∙◌, inl, inr, codes, is_none, list_all, bytes_eq, str_to_ascii_lowercase, and_parts, cases_Bool, cond_both, cond-true}
use Rattle.sip_via.proofs.Common.{cond-false, bytes_eq-Decides, is_token, IsMessage, is_header, is_value, first_of, first_value, same_name, HeaderText, MessageText, and_both, line_if_any, replaced, with_headers, arith, common_steps}
use Rattle.sip_text.specs.declared.needed.MandatoryHeader.{MandatoryHeader}
use Rattle.sip_text.specs.declared.needed.MandatoryHeader.TheVariants.{Via, From, To, CallId, CSeq}
use Rattle.sip_text.specs.Fields.{length_name, missing}
use Rattle.sip_text.specs.Name.{full_name, values_of}

-- ---- names that differ have no line in common

abbrev lowered_name : List ℕ → List ℕ
lowered_name name = str_to_ascii_lowercase (full_name name)

abbrev Differ : List ℕ → List ℕ → Type 0
Differ a b = bytes_eq (lowered_name a) (lowered_name b) ≡ false

pub apart : (a b n : List ℕ) → Differ a b → same_name a n ≡ true → same_name b n ≡ false
apart a b n differ same = grind (arith, bytes_eq-Decides)

values-line : (other n : List ℕ) (value : Option (List ℕ)) (hs : List HeaderText) → same_name other n ≡ false → values_of other (line_if_any n value ++ hs) ≡ values_of other hs
unfolding values_of
values-line other n value hs differs = grind arith

pub values-replaced : (other name : List ℕ) (value : Option (List ℕ)) (hs : List HeaderText) → Differ name other → values_of other (replaced name value hs) ≡ values_of other hs
unfolding values_of
values-replaced other name value [] differ = refl
values-replaced other name value (h ∷ hs) differ = grind (arith, apart, values-replaced other name value hs differ)

-- a line that stays keeps its name there
pub first-replaced : (name v : List ℕ) (hs : List HeaderText) → is_none (first_value name (replaced name (Some v) hs)) ≡ is_none (first_value name hs)
unfolding values_of
first-replaced name v [] = refl
first-replaced name v (h ∷ hs) = grind (arith, first-replaced name v hs)

-- ---- each line is a header

abbrev pub GoodValue : Option (List ℕ) → Type 0
GoodValue None = Unit {0}
GoodValue (Some v) = is_value v ≡ true

all-line : (n : List ℕ) (value : Option (List ℕ)) (hs : List HeaderText) → is_token n ≡ true → GoodValue value → list_all is_header hs ≡ true → list_all is_header (line_if_any n value ++ hs) ≡ true
all-line n value hs t g h = grind arith

pub all-replaced : (name : List ℕ) (value : Option (List ℕ)) (hs : List HeaderText) → list_all is_header hs ≡ true → GoodValue value → list_all is_header (replaced name value hs) ≡ true
all-replaced name value [] h g = refl
all-replaced name value (x ∷ hs) h g =
    let both = and_parts (is_header x) (list_all is_header hs) h in
    grind (arith, common_steps, all-line x.name value hs (and_parts (is_token x.name) (is_value x.value) both.0).0 g both.1, and_both (is_header x) (list_all is_header (replaced name value hs)) both.0 (all-replaced name value hs both.1 g), cond_both, and_parts)

-- the first value of a name is such as a line may have
pub first-good : (name v : List ℕ) (hs : List HeaderText) → list_all is_header hs ≡ true → first_value name hs ≡ Some v → is_value v ≡ true
unfolding values_of
first-good name v [] h e = absurd cc
first-good name v (x ∷ hs) h e =
    let both = and_parts (is_header x) (list_all is_header hs) h in
    elim (cases_Bool (same_name name x.name)) [
      | inl same ↦
          let found : Some x.value ≡ Some v = sym (ap first_of (cond-true (same_name name x.name) (x.value ∷ values_of name hs) (values_of name hs) same)) ∙ e in
          let is : x.value ≡ v = cc in
          sym (ap is_value is) ∙ (and_parts (is_token x.name) (is_value x.value) both.0).1
      | inr none ↦ first-good name v hs both.1 (sym (ap first_of (cond-false (same_name name x.name) (x.value ∷ values_of name hs) (values_of name hs) none)) ∙ e)
    ]

-- ---- what a message needs

-- the header fields that reading looks at, but Via, are the same
pub record SameOthers (hs ks : List HeaderText) : Type 0 where
  pub from : values_of (codes "from") hs ≡ values_of (codes "from") ks
  pub to : values_of (codes "to") hs ≡ values_of (codes "to") ks
  pub call_id : values_of (codes "call-id") hs ≡ values_of (codes "call-id") ks
  pub cseq : values_of (codes "cseq") hs ≡ values_of (codes "cseq") ks
  pub length : values_of length_name hs ≡ values_of length_name ks

abbrev no_via : List HeaderText → Bool
no_via hs = is_none (first_value (codes "via") hs)

abbrev missing_by : Bool → List (List ℕ) → List (List ℕ) → List (List ℕ) → List (List ℕ) → Option MandatoryHeader
missing_by via from to call cseq =
    cond via (Some Via)
    (cond (is_none (first_of from)) (Some From)
    (cond (is_none (first_of to)) (Some To)
    (cond (is_none (first_of call)) (Some CallId)
    (cond (is_none (first_of cseq)) (Some CSeq) None))))

some-none : (b : Bool) (which : MandatoryHeader) (rest : Option MandatoryHeader) → cond b (Some which) rest ≡ None → (b ≡ false) × (rest ≡ None)
some-none b which rest e = grind arith

-- nothing is missing in a message
via-there : (ks : List HeaderText) → missing ks ≡ None → no_via ks ≡ false
via-there ks e = (some-none (no_via ks) Via _ e).0

pub same-missing : (hs ks : List HeaderText) → no_via hs ≡ false → missing ks ≡ None → SameOthers hs ks → missing hs ≡ None
same-missing hs ks via none same = grind arith

pub edited-good : (m : MessageText) (hs : List HeaderText) → IsMessage m → list_all is_header hs ≡ true → no_via hs ≡ false → SameOthers hs m.headers → IsMessage (with_headers m hs)
edited-good m hs good all via same = grind arith

others-via : (value : Option (List ℕ)) (hs : List HeaderText) → SameOthers (replaced (codes "via") value hs) hs
unfolding full_name
others-via value hs = grind (arith, values-replaced)

others-route : (value : Option (List ℕ)) (hs : List HeaderText) → SameOthers (replaced (codes "route") value hs) hs
unfolding full_name
others-route value hs = grind (arith, values-replaced)

via-route : (value : Option (List ℕ)) (hs : List HeaderText) → no_via (replaced (codes "route") value hs) ≡ no_via hs
unfolding full_name
via-route value hs = ap (λ (vs : List (List ℕ)). is_none (first_of vs)) (values-replaced (codes "via") (codes "route") value hs refl)

-- with another value in the first Via line
pub with_via-good : (m : MessageText) (value : List ℕ) → IsMessage m → is_value value ≡ true → IsMessage (with_headers m (replaced (codes "via") (Some value) m.headers))
with_via-good m value good v = edited-good m (replaced (codes "via") (Some value) m.headers) good (all-replaced (codes "via") (Some value) m.headers good.head.headers v) (first-replaced (codes "via") value m.headers ∙ via-there m.headers good.head.needed) (others-via (Some value) m.headers)

-- with another value in the first Route line, or without it
pub with_route-good : (m : MessageText) (value : Option (List ℕ)) → IsMessage m → GoodValue value → IsMessage (with_headers m (replaced (codes "route") value m.headers))
with_route-good m value good v = edited-good m (replaced (codes "route") value m.headers) good (all-replaced (codes "route") value m.headers good.head.headers v) (via-route value m.headers ∙ via-there m.headers good.head.needed) (others-route value m.headers)
