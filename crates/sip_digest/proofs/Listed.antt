-- A list is read exactly as far as it is one.
use Rattle.sip_digest.proofs.Common.{◌≡◌, ℕ, Bool, List, [], ◌∷◌, ◌++◌, Option, Some, None, refl, sym, ap, ◌∙◌, behind, Quotes, Plain, cut_outside, end_place, pieces_outside_behind}
use Rattle.sip_digest.proofs.Common.{AuthParam, HasNoElement, IsElement, IsListed, read_element, read_elements, read_list, with_param}
use Rattle.std.specs.Prelude.{OnSome}
use Rattle.sip_lex.proofs.laws.OutsideSplits.{pieces_outside-cut}
use Rattle.sip_lex.proofs.laws.Shelters.{cut_outside_again, cut_outside_joins}
use Rattle.sip_digest.proofs.Elements.{element_again, element_found}
use Rattle.sip_digest.proofs.Sheltered.{element_stays}

abbrev Cut : Type 0
Cut = List ℕ × Option (List ℕ)

abbrev Params : Type 0
Params = List AuthParam × Bool

abbrev cut_element : List ℕ → Cut
cut_element text = cut_outside Quotes 44 Plain text

where_any : (o : Option (List ℕ)) (element : List ℕ) → end_place Quotes Plain element ≡ Plain → OnSome o (end_place Quotes Plain element ≡ Plain)
where_any None element h = tt
where_any (Some rest) element h = h

-- an element at the front is cut off
pub element_cut_off : (text element : List ℕ) (rest : Option (List ℕ)) (param : AuthParam) → text ≡ element ++ behind 44 rest → IsElement element param → cut_element text ≡ (element, rest)
element_cut_off text element rest param e h =
    let stays = element_stays element param h in
    ap cut_element e ∙ cut_outside_again Quotes 44 Plain element rest stays.lacks (where_any rest element stays.ends)

-- the first element, and the others
pub list_cut : (text : List ℕ) → read_list (Some text) ≡ with_param (read_element (cut_element text).0) (read_list (cut_element text).1)
list_cut text = ap read_elements (pieces_outside-cut Quotes 44 text)

none_some : (o : Option AuthParam) (param : AuthParam) → o ≡ None → o ≡ Some param → ⊥
none_some o param e f = absurd cc

no_element : (text : List ℕ) → read_element (cut_element text).0 ≡ None → HasNoElement text
no_element text none element rest param e h =
    let cut_is : cut_element text ≡ (element, rest) = element_cut_off text element rest param e h in
    let first : (cut_element text).0 ≡ element = ap (λ (c : Cut). c.0) cut_is in
    none_some (read_element (cut_element text).0) param none (ap read_element first ∙ element_again element param h)

-- ---- what is read is a list

pub listed : (text : Option (List ℕ)) (pieces : List (List ℕ)) → pieces_outside_behind Quotes 44 text ≡ pieces → IsListed text (read_elements pieces).0 (read_elements pieces).1
listed None [] e = (refl, refl)
listed None (element ∷ pieces) e = absurd cc
listed (Some text) [] e = let both = sym (pieces_outside-cut Quotes 44 text) ∙ e in absurd cc
listed (Some text) (element ∷ pieces) e =
    let both = sym (pieces_outside-cut Quotes 44 text) ∙ e in
    let first : (cut_element text).0 ≡ element = cc in
    let more : pieces_outside_behind Quotes 44 (cut_element text).1 ≡ pieces = cc in
    one first (read_element element) refl (listed (cut_element text).1 pieces more)
  where
    one : (cut_element text).0 ≡ element → (o : Option AuthParam) → read_element element ≡ o → IsListed (cut_element text).1 (read_elements pieces).0 (read_elements pieces).1
        → IsListed (Some text) (with_param o (read_elements pieces)).0 (with_param o (read_elements pieces)).1
    one first None r rest = (no_element text (ap read_element first ∙ r), refl)
    one first (Some param) r rest =
        (element, (cut_element text).1, cut_outside_joins Quotes 44 Plain text ∙ ap (λ (t : List ℕ). t ++ behind 44 (cut_element text).1) first, element_found element param r, rest)

pub is_listed : (text : Option (List ℕ)) → IsListed text (read_list text).0 (read_list text).1
is_listed text = listed text (pieces_outside_behind Quotes 44 text) refl

-- ---- and a list is read

pub listed_again : (text : Option (List ℕ)) (params : List AuthParam) (whole : Bool) → IsListed text params whole → read_list text ≡ (params, whole)
listed_again None params whole h = let none = h.0 in let ends = h.1 in cc
listed_again (Some text) [] whole h = one (read_element (cut_element text).0) refl
  where
    one : (o : Option AuthParam) → read_element (cut_element text).0 ≡ o → read_list (Some text) ≡ ([], whole)
    one None r = list_cut text ∙ ap (λ (o : Option AuthParam). with_param o (read_list (cut_element text).1)) r ∙ ap (λ (w : Bool). ([], w)) (sym h.1)
    one (Some param) r = absurd (h.0 (cut_element text).0 (cut_element text).1 param (cut_outside_joins Quotes 44 Plain text) (element_found (cut_element text).0 param r))
listed_again (Some text) (param ∷ params) whole h =
    list_cut text
    ∙ ap (λ (c : Cut). with_param (read_element c.0) (read_list c.1)) (element_cut_off text h.0 h.1 param h.2 h.3)
    ∙ ap (λ (o : Option AuthParam). with_param o (read_list h.1)) (element_again h.0 param h.3)
    ∙ ap (λ (l : Params). (param ∷ l.0, l.1)) (listed_again h.1 params whole h.4)
