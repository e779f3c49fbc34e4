-- The first value of each name, an element after the other.
use Rattle.sip_digest.proofs.Common.{◌≡◌, ℕ, Bool, true, false, cond, List, [], ◌∷◌, Option, Some, None, refl, sym, ap, ◌∙◌, suc, length, codes, bytes_eq, str_to_ascii_lowercase, Quotes, Plain, cut_outside}
use Rattle.sip_digest.proofs.Common.{AuthParam, Named, first_named, named_in, first_or, followed, read_element, read_list, with_param}
use Rattle.sip_digest.proofs.Listed.{list_cut}

abbrev pub size : Option (List ℕ) → ℕ
size None = 0
size (Some text) = suc (length text)

-- ---- one name

or_none : (o : Option (List ℕ)) → first_or o None ≡ o
or_none None = refl
or_none (Some value) = refl

or_next : (field : Option (List ℕ)) (name : List ℕ) (p : AuthParam) (ps : List AuthParam) → first_or (first_or field (first_named name (p ∷ []))) (first_named name ps) ≡ first_or field (first_named name (p ∷ ps))
or_next (Some value) name p ps = refl
or_next None name p ps = one (bytes_eq (str_to_ascii_lowercase p.name) name)
  where
    one : (b : Bool) → first_or (cond b (Some p.value) None) (first_named name ps) ≡ cond b (Some p.value) (first_named name ps)
    one true = refl
    one false = refl

-- ---- all of them

abbrev made : (username realm nonce uri response algorithm qop nc cnonce : Option (List ℕ)) → Named
made username realm nonce uri response algorithm qop nc cnonce =
    record { username = username; realm = realm; nonce = nonce; uri = uri; response = response; algorithm = algorithm; qop = qop; nc = nc; cnonce = cnonce }

same_fields : {u v r s n m i j p q a b c d e f g h : Option (List ℕ)} → u ≡ v → r ≡ s → n ≡ m → i ≡ j → p ≡ q → a ≡ b → c ≡ d → e ≡ f → g ≡ h
    → made u r n i p a c e g ≡ made v s m j q b d f h
same_fields e1 e2 e3 e4 e5 e6 e7 e8 e9 = cc

pub followed_none : (f : Named) → followed f (named_in []) ≡ f
followed_none f = same_fields (or_none f.username) (or_none f.realm) (or_none f.nonce) (or_none f.uri) (or_none f.response) (or_none f.algorithm) (or_none f.qop) (or_none f.nc) (or_none f.cnonce)

pub followed_next : (f : Named) (p : AuthParam) (ps : List AuthParam) → followed (followed f (named_in (p ∷ []))) (named_in ps) ≡ followed f (named_in (p ∷ ps))
followed_next f p ps =
    same_fields
    (or_next f.username (codes "username") p ps)
    (or_next f.realm (codes "realm") p ps)
    (or_next f.nonce (codes "nonce") p ps)
    (or_next f.uri (codes "uri") p ps)
    (or_next f.response (codes "response") p ps)
    (or_next f.algorithm (codes "algorithm") p ps)
    (or_next f.qop (codes "qop") p ps)
    (or_next f.nc (codes "nc") p ps)
    (or_next f.cnonce (codes "cnonce") p ps)

-- ---- from one element to the next

abbrev Cut : Type 0
Cut = List ℕ × Option (List ℕ)

abbrev Params : Type 0
Params = List AuthParam × Bool

-- these fields, and those of what is left, are all
pub record IsSoFar (fields : Named) (rest : Option (List ℕ)) (list : List ℕ) : Type 0 where
  pub fields_are : followed fields (named_in (read_list rest).0) ≡ named_in (read_list (Some list)).0
  pub whole : (read_list rest).1 ≡ (read_list (Some list)).1

list_at : (text element : List ℕ) (after : Option (List ℕ)) → (element, after) ≡ cut_outside Quotes 44 Plain text → (o : Option AuthParam) → o ≡ read_element element → read_list (Some text) ≡ with_param o (read_list after)
list_at text element after e o r =
    list_cut text ∙ ap (λ (c : Cut). with_param (read_element c.0) (read_list c.1)) (sym e) ∙ ap (λ (x : Option AuthParam). with_param x (read_list after)) (sym r)

pub next_field : (list text element : List ℕ) (after : Option (List ℕ)) (param : AuthParam) (f g : Named) → IsSoFar f (Some text) list → (element, after) ≡ cut_outside Quotes 44 Plain text
    → Some param ≡ read_element element → g ≡ followed f (named_in (param ∷ [])) → IsSoFar g after list
next_field list text element after param f g h e r is =
    let l : read_list (Some text) ≡ (param ∷ (read_list after).0, (read_list after).1) = list_at text element after e (Some param) r in
    record {
      fields_are = ap (λ (x : Named). followed x (named_in (read_list after).0)) is
          ∙ followed_next f param (read_list after).0
          ∙ ap (λ (x : Params). followed f (named_in x.0)) (sym l)
          ∙ h.fields_are;
      whole = ap (λ (x : Params). x.1) (sym l) ∙ h.whole;
    }

-- at a fault
pub at_fault : (list text element : List ℕ) (after : Option (List ℕ)) (f : Named) → IsSoFar f (Some text) list → (element, after) ≡ cut_outside Quotes 44 Plain text → None ≡ read_element element
    → (f ≡ named_in (read_list (Some list)).0) × (false ≡ (read_list (Some list)).1)
at_fault list text element after f h e r =
    let l : read_list (Some text) ≡ ([], false) = list_at text element after e None r in (
      sym (followed_none f) ∙ ap (λ (x : Params). followed f (named_in x.0)) (sym l) ∙ h.fields_are,
      ap (λ (x : Params). x.1) (sym l) ∙ h.whole,
    )

-- at the end
pub at_end : (list : List ℕ) (rest : Option (List ℕ)) (f : Named) → IsSoFar f rest list → rest ≡ None → (f ≡ named_in (read_list (Some list)).0) × (true ≡ (read_list (Some list)).1)
at_end list None f h e = (sym (followed_none f) ∙ h.fields_are, h.whole)
at_end list (Some text) f h e = absurd cc
