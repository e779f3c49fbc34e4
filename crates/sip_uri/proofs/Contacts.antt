-- Items and parameters by cuts.
use Rattle.sip_uri.proofs.Common.{◌≡◌, ℕ, Bool, true, false, eqb, List, [], ◌∷◌, ◌++◌, length, map, Option, Some, sym, ap, ◌∙◌, append_assoc, arith, list_all, QuotesAndAngles, Plain, trim, cut_outside, pieces_outside-cut, view_contacts, ContactText}
use Rattle.sip_uri.proofs.Common.{are_items, contact_of, contact_params, is_contact_param, items_behind, q_of, q_value_if_any}
use Rattle.std.proofs.lemmas.List.{map-append}
use Rattle.sip_uri.specs.declared.contact.Contact.{Contact}
use Rattle.sip_uri.specs.SeenContact.{view_contact}
use Rattle.sip_uri.specs.Contact.{is_q, value_of}
use Rattle.sip_uri.proofs.Keys.{size}
use Rattle.std.specs.Option.{option_map}
use Rattle.std.proofs.Common.{None, IfSome, subst, suc, ◌<◌, ◌≤◌}

abbrev Cut : Type 0
Cut = List ℕ × Option (List ℕ)

-- the first parameter, and the others
pub params_cut : (text param : List ℕ) (after : Option (List ℕ)) → (param, after) ≡ cut_outside QuotesAndAngles 59 Plain text → contact_params (Some text) ≡ param ∷ contact_params after
params_cut text param after e = pieces_outside-cut QuotesAndAngles 59 text ∙ sym (ap (λ (c : Cut). c.0 ∷ contact_params c.1) e)

-- the first item, and the others
pub items_cut : (text item : List ℕ) (after : Option (List ℕ)) → (item, after) ≡ cut_outside QuotesAndAngles 44 Plain text → items_behind (Some text) ≡ trim item ∷ items_behind after
items_cut text item after e = ap (map trim) (pieces_outside-cut QuotesAndAngles 44 text) ∙ sym (ap (λ (c : Cut). trim c.0 ∷ items_behind c.1) e)

-- ---- steps of the loops

pub good_first : (text param : List ℕ) (after : Option (List ℕ)) (all : Bool) → (param, after) ≡ cut_outside QuotesAndAngles 59 Plain text → is_contact_param param ≡ true → list_all is_contact_param (contact_params (Some text)) ≡ all → list_all is_contact_param (contact_params after) ≡ all
good_first text param after all e good h = grind (arith, params_cut text param after e)

pub bad_first : (text param : List ℕ) (after : Option (List ℕ)) (all : Bool) → (param, after) ≡ cut_outside QuotesAndAngles 59 Plain text → is_contact_param param ≡ false → list_all is_contact_param (contact_params (Some text)) ≡ all → false ≡ all
bad_first text param after all e bad h = grind (arith, params_cut text param after e)

pub q_first : (text param : List ℕ) (after : Option (List ℕ)) (all : ℕ) → (param, after) ≡ cut_outside QuotesAndAngles 59 Plain text → is_q param ≡ true → q_of (contact_params (Some text)) ≡ all → q_value_if_any (value_of param) ≡ all
q_first text param after all e q h = grind (arith, params_cut text param after e)

pub q_later : (text param : List ℕ) (after : Option (List ℕ)) (all : ℕ) → (param, after) ≡ cut_outside QuotesAndAngles 59 Plain text → is_q param ≡ false → q_of (contact_params (Some text)) ≡ all → q_of (contact_params after) ≡ all
q_later text param after all e other h = grind (arith, params_cut text param after e)

pub item_full : (text item trimmed : List ℕ) (after : Option (List ℕ)) (all : Bool) → (item, after) ≡ cut_outside QuotesAndAngles 44 Plain text → trimmed ≡ trim item → eqb (length trimmed) 0 ≡ false → are_items (items_behind (Some text)) ≡ all → are_items (items_behind after) ≡ all
item_full text item trimmed after all e t filled h = grind (arith, items_cut text item after e)

pub item_empty : (text item trimmed : List ℕ) (after : Option (List ℕ)) (all : Bool) → (item, after) ≡ cut_outside QuotesAndAngles 44 Plain text → trimmed ≡ trim item → eqb (length trimmed) 0 ≡ true → are_items (items_behind (Some text)) ≡ all → false ≡ all
item_empty text item trimmed after all e t empty h = grind (arith, items_cut text item after e)

module _ {A : Type 0} where
  pub next_contact : (done more : List (Contact A)) (c : Contact A) (text item trimmed : List ℕ) (after : Option (List ℕ)) (all : List ContactText) → (item, after) ≡ cut_outside QuotesAndAngles 44 Plain text → trimmed ≡ trim item → more ≡ done ++ c ∷ [] → view_contact c ≡ contact_of trimmed → view_contacts done ++ map contact_of (items_behind (Some text)) ≡ all → view_contacts more ++ map contact_of (items_behind after) ≡ all
  next_contact done more c text item trimmed after all e t pushed is h =
      let rest = map contact_of (items_behind after) in
      ap (λ (cs : List (Contact A)). view_contacts cs ++ rest) pushed
      ∙ ap (λ (vs : List ContactText). vs ++ rest) (map-append view_contact done (c ∷ []))
      ∙ append_assoc (view_contacts done) (view_contact c ∷ []) rest
      ∙ ap (λ (v : ContactText). view_contacts done ++ (v ∷ rest)) (is ∙ ap contact_of t)
      ∙ sym (ap (λ (items : List (List ℕ)). view_contacts done ++ map contact_of items) (items_cut text item after e))
      ∙ h

-- ---- what stands behind an item is shorter

module _ {X : Type 0} (v : X → List ℕ) where
  behind_shorter : (after : Option X) (text : X) → IfSome after (λ a. length (v a) < length (v text)) → suc (size (option_map v after)) ≤ size (Some (v text))
  behind_shorter None text h = omega arith
  behind_shorter (Some a) text h = omega arith

  pub rest_shorter : (rest after : Option X) (text : X) → rest ≡ Some text → IfSome after (λ a. length (v a) < length (v text)) → suc (size (option_map v after)) ≤ size (option_map v rest)
  rest_shorter rest after text e h = subst (λ (r : Option X). suc (size (option_map v after)) ≤ size (option_map v r)) (sym e) (behind_shorter after text h)
