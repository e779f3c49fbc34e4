-- The form of an item, by cuts and by the whole item.
use Rattle.sip_uri.proofs.Common.{◌≡◌, ℕ, ltb, List, ◌∷◌, ◌++◌, length, Option, Some, None, refl, sym, ap, ◌∙◌, append_assoc, inl, inr, OnSome, list_all, append-nil, and_parts, Plain, is_space, trim_start, behind, Lacks, LacksOutside, cut_outside}
use Rattle.sip_uri.proofs.Common.{end_place, cut_again, cut_joins, cut_lacks, Lacks-append, Lacks-pass, cut_outside_again, form_of, common_steps, arith}
use Rattle.sip_lex.specs.declared.sheltered.Shelter.TheVariants.{Quotes}
use Rattle.sip_lex.proofs.laws.Shelters.{cut_outside_ends, cut_outside_joins, cut_outside_lacks}
use Rattle.sip_lex.proofs.laws.Trims.{trim_end-passes, trim_end-whole, trim_start-spaces, trim_start-whole}
use Rattle.sip_uri.specs.Contact.{bare_form, behind_brackets, bracketed_form, form_behind, is_bare_byte}
use Rattle.sip_uri.specs.Items.{IsBare, IsBracketed, IsForm}

abbrev Cut : Type 0
Cut = List ℕ × Option (List ℕ)

-- ---- what is found has the form

bracketed_found : (item display inner address : List ℕ) (params : Option (List ℕ)) (c : Cut) → item ≡ display ++ 60 ∷ inner → LacksOutside Quotes 60 Plain display → end_place Quotes Plain display ≡ Plain → inner ≡ c.0 ++ behind 62 c.1 → Lacks 62 c.0 → bracketed_form c ≡ Some (address, params) → IsBracketed item address params
bracketed_found item display inner address params (a, None) whole first outside join ends e = absurd cc
bracketed_found item display inner address params (a, Some rest) whole first outside join ends e = grind (arith, trim_start-whole rest)

bare_found : (item address : List ℕ) (params : Option (List ℕ)) (c : Cut) → item ≡ c.0 ++ behind 59 c.1 → LacksOutside Quotes 60 Plain item → bare_form c ≡ Some (address, params) → IsBare item address params
bare_found item address params (front, after) join none e = grind (arith, common_steps, trim_end-whole front)

of_cut : (item address : List ℕ) (params : Option (List ℕ)) (c : Cut) → item ≡ c.0 ++ behind 60 c.1 → LacksOutside Quotes 60 Plain c.0 → OnSome c.1 (end_place Quotes Plain c.0 ≡ Plain) → form_behind item c.1 ≡ Some (address, params) → IsForm item address params
of_cut item address params (front, None) join first outside e = grind (arith, common_steps, cut_joins 59 item, bare_found)
of_cut item address params (display, Some inner) join first outside e = grind (arith, bracketed_found item display, cut_joins 62, cut_lacks 62)

pub form_found : (item address : List ℕ) (params : Option (List ℕ)) → form_of item ≡ Some (address, params) → IsForm item address params
form_found item address params e = grind (arith, cut_outside_joins Quotes 60 Plain item, cut_outside_lacks Quotes 60 Plain item, cut_outside_ends Quotes 60 Plain item, of_cut)

-- ---- what has the form is found

start_behind : (params : Option (List ℕ)) → trim_start (behind 59 params) ≡ behind 59 params
start_behind params = grind arith

behind_again : (address : List ℕ) (params : Option (List ℕ)) → behind_brackets address (behind 59 params) ≡ Some (address, params)
behind_again address params = grind arith

bracketed_again : (item address : List ℕ) (params : Option (List ℕ)) → IsBracketed item address params → form_of item ≡ Some (address, params)
bracketed_again item address params h =
    let rest = h.gap ++ behind 59 params in
    let inner = address ++ 62 ∷ rest in
    let front : cut_outside Quotes 60 Plain item ≡ (h.display, Some inner) = ap (cut_outside Quotes 60 Plain) h.spelled ∙ cut_outside_again Quotes 60 Plain h.display (Some inner) h.first h.outside in
    ap (λ (c : Cut). form_behind item c.1) front
    ∙ ap bracketed_form (cut_again 62 address (Some rest) h.ends)
    ∙ ap (behind_brackets address) (trim_start-spaces h.gap (behind 59 params) h.spaces ∙ start_behind params)
    ∙ behind_again address params

bare_again : (item address : List ℕ) (params : Option (List ℕ)) → IsBare item address params → form_of item ≡ Some (address, params)
bare_again item address params h =
    let front = address ++ h.gap in
    let bytes = (and_parts (ltb 0 (length address)) (list_all is_bare_byte address) h.written).1 in
    let none : cut_outside Quotes 60 Plain item ≡ (item, None) = ap (cut_outside Quotes 60 Plain) (sym (append-nil item)) ∙ cut_outside_again Quotes 60 Plain item None h.no_bracket tt in
    let whole : item ≡ front ++ behind 59 params = h.spelled ∙ sym (append_assoc address h.gap (behind 59 params)) in
    let lacks = Lacks-append 59 address h.gap (Lacks-pass is_bare_byte 59 address refl bytes) (Lacks-pass is_space 59 h.gap refl h.spaces) in
    grind (arith, cut_again 59 front params lacks, trim_end-passes)

pub form_again : (item address : List ℕ) (params : Option (List ℕ)) → IsForm item address params → form_of item ≡ Some (address, params)
form_again item address params (inl h) = bracketed_again item address params h
form_again item address params (inr h) = bare_again item address params h
