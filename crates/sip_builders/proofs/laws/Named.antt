-- Values by name in lists of header lines.
use Rattle.sip_builders.proofs.Common.{◌≡◌, ℕ, true, false, List, [], ◌∷◌, ◌++◌, map, take, Option, Some, None, refl, sym, ap, ◌∙◌, inl, inr, filter, cases_Bool, cond-true, cond-false, Via, From, To, CallId, CSeq, CSeqText, fits_start, value_of, first_of}
use Rattle.sip_builders.proofs.Common.{same_name, HeaderText, StartText, found, tagged, with_tag, line, has_name, arith}
use Rattle.std.specs.List.{AllByRecursion}
use Rattle.std.specs.Str.{str_to_ascii_lowercase}
use Rattle.std.proofs.lemmas.Slice.Eq.{bytes_eq-Decides}
use Rattle.sip_text.specs.declared.needed.MandatoryHeader.{MandatoryHeader}
use Rattle.sip_text.specs.Fields.{missing}
use Rattle.sip_text.specs.Name.{full_name, values_of}
use Rattle.sip_text.proofs.laws.Good.{some_is}

-- ---- one line

pub first_here : (name : List ℕ) (h : HeaderText) (hs : List HeaderText) → same_name name h.name ≡ true → first_of (values_of name (h ∷ hs)) ≡ Some h.value
unfolding values_of
first_here name h hs same = ap first_of (cond-true (same_name name h.name) (h.value ∷ values_of name hs) (values_of name hs) same)

pub later : (name : List ℕ) (h : HeaderText) (hs : List HeaderText) → same_name name h.name ≡ false → values_of name (h ∷ hs) ≡ values_of name hs
unfolding values_of
later name h hs other = cond-false (same_name name h.name) (h.value ∷ values_of name hs) (values_of name hs) other

-- lines of which none has the name
pub none_in : (name : List ℕ) (xs ys : List HeaderText) → values_of name xs ≡ [] → values_of name (xs ++ ys) ≡ values_of name ys
unfolding values_of
none_in name [] ys none = refl
none_in name (x ∷ xs) ys none = grind (arith, cases_Bool (same_name name x.name), later, none_in name xs ys)

-- ---- lines that all have one name

abbrev pub AreNamed : List ℕ → List HeaderText → Type 0
AreNamed name block = AllByRecursion (λ h. same_name name h.name ≡ true) block

abbrev lowered : List ℕ → List ℕ
lowered name = str_to_ascii_lowercase (full_name name)

-- what has one name has no other
apart : (other name n : List ℕ) → same_name other name ≡ false → same_name name n ≡ true → same_name other n ≡ false
apart other name n differ same = grind (arith, bytes_eq-Decides)

pub skip : (other name : List ℕ) (block rest : List HeaderText) → same_name other name ≡ false → AreNamed name block → values_of other (block ++ rest) ≡ values_of other rest
skip other name [] rest differ all = refl
skip other name (h ∷ block) rest differ all = grind (arith, later, apart, skip other name block rest differ all.1)

pub named_filter : (name : List ℕ) (hs : List HeaderText) → AreNamed name (filter (has_name name) hs)
named_filter name [] = tt
named_filter name (h ∷ hs) = grind (arith, named_filter name hs)

pub named_first : (name : List ℕ) (block : List HeaderText) → AreNamed name block → AreNamed name (take 1 block)
named_first name block all = grind arith

pub named_lines : (name other : List ℕ) (values : List (List ℕ)) → same_name name other ≡ true → AreNamed name (map (line other) values)
named_lines name other [] same = tt
named_lines name other (v ∷ values) same = (same, named_lines name other values same)

-- ---- the first value stays

abbrev first_in : List ℕ → List HeaderText → Option (List ℕ)
first_in name hs = first_of (values_of name hs)

none_there : (name v : List ℕ) → first_in name [] ≡ Some v → ⊥
unfolding values_of
none_there name v e = let wrong : None ≡ found v = e in absurd cc

pub all_keep : (name : List ℕ) (hs rest : List HeaderText) (v : List ℕ) → first_in name hs ≡ Some v → first_in name (filter (has_name name) hs ++ rest) ≡ Some v
all_keep name [] rest v e = absurd (none_there name v e)
all_keep name (h ∷ hs) rest v e =
    let F = filter (has_name name) hs in
    elim (cases_Bool (has_name name h)) [
      | inl same ↦
          ap (λ (b : List HeaderText). first_in name (b ++ rest)) (cond-true (has_name name h) (h ∷ F) F same)
          ∙ first_here name h (F ++ rest) same ∙ sym (first_here name h hs same) ∙ e
      | inr other ↦
          ap (λ (b : List HeaderText). first_in name (b ++ rest)) (cond-false (has_name name h) (h ∷ F) F other)
          ∙ all_keep name hs rest v (sym (ap first_of (later name h hs other)) ∙ e)
    ]

pub first_keeps : (name : List ℕ) (hs rest : List HeaderText) (v : List ℕ) → first_in name hs ≡ Some v → first_in name (take 1 (filter (has_name name) hs) ++ rest) ≡ Some v
first_keeps name [] rest v e = absurd (none_there name v e)
first_keeps name (h ∷ hs) rest v e =
    let F = filter (has_name name) hs in
    elim (cases_Bool (has_name name h)) [
      | inl same ↦
          ap (λ (b : List HeaderText). first_in name (take 1 b ++ rest)) (cond-true (has_name name h) (h ∷ F) F same)
          ∙ first_here name h rest same ∙ sym (first_here name h hs same) ∙ e
      | inr other ↦
          ap (λ (b : List HeaderText). first_in name (take 1 b ++ rest)) (cond-false (has_name name h) (h ∷ F) F other)
          ∙ first_keeps name hs rest v (sym (ap first_of (later name h hs other)) ∙ e)
    ]

pub tagged_keeps : (name tag : List ℕ) (hs rest : List HeaderText) (v : List ℕ) → first_in name hs ≡ Some v → first_in name (map (tagged tag) (take 1 (filter (has_name name) hs)) ++ rest) ≡ Some (with_tag tag v)
tagged_keeps name tag [] rest v e = absurd (none_there name v e)
tagged_keeps name tag (h ∷ hs) rest v e =
    let F = filter (has_name name) hs in
    elim (cases_Bool (has_name name h)) [
      | inl same ↦
          ap (λ (b : List HeaderText). first_in name (map (tagged tag) (take 1 b) ++ rest)) (cond-true (has_name name h) (h ∷ F) F same)
          ∙ first_here name (tagged tag h) rest same ∙ ap (λ (w : List ℕ). Some (with_tag tag w)) (some_is h.value v (sym (first_here name h hs same) ∙ e))
      | inr other ↦
          ap (λ (b : List HeaderText). first_in name (map (tagged tag) (take 1 b) ++ rest)) (cond-false (has_name name h) (h ∷ F) F other)
          ∙ tagged_keeps name tag hs rest v (sym (ap first_of (later name h hs other)) ∙ e)
    ]

-- ---- the five that a message needs

abbrev pub Has : MandatoryHeader → List HeaderText → Type 0
Has which hs = (v : List ℕ) × (value_of which hs ≡ Some v)

pub record HasAll (hs : List HeaderText) : Type 0 where
  pub via : Has Via hs
  pub from : Has From hs
  pub to : Has To hs
  pub call_id : Has CallId hs
  pub cseq : Has CSeq hs

pub none_missing : (hs : List HeaderText) → HasAll hs → missing hs ≡ None
none_missing hs all = grind arith

abbrev Filled : Option (List ℕ) → Type 0
Filled o = (v : List ℕ) × (o ≡ Some v)

record AllFilled (via from to call cseq : Option (List ℕ)) : Type 0 where
  via_is : Filled via
  from_is : Filled from
  to_is : Filled to
  call_is : Filled call
  cseq_is : Filled cseq

pub has_all : (hs : List HeaderText) → missing hs ≡ None → HasAll hs
has_all hs e = grind arith

-- ---- the CSeq

pub cseq_there : (start : StartText) (o : Option CSeqText) → fits_start start o ≡ true → (c : CSeqText) × (o ≡ Some c)
cseq_there start o e = grind arith
