-- The parameters of an address, one by one.
use Rattle.std.proofs.Common.{◌≡◌, ℕ, true, false, cond, List, ◌∷◌, Option, Some, sym, ap, ◌∙◌}
use Rattle.std.proofs.lemmas.Bool.{cond-true, cond-false}
use Rattle.sip_lex.specs.declared.sheltered.Shelter.TheVariants.{QuotesAndAngles}
use Rattle.sip_lex.specs.Cut.{cut, is}
use Rattle.sip_lex.specs.Outside.{pieces_outside_behind}
use Rattle.sip_lex.specs.Tag.{tag_of_params}
use Rattle.sip_lex.specs.declared.sheltered.ShelterState.TheVariants.{Plain}
use Rattle.sip_lex.specs.Sheltered.{cut_outside}
use Rattle.sip_lex.proofs.laws.OutsideSplits.{pieces_outside-cut}
use Rattle.sip_lex.specs.Tag.{is_tag_name, value_of_cut}

abbrev Cut : Type 0
Cut = List ℕ × Option (List ℕ)

abbrev params : Option (List ℕ) → List (List ℕ)
params text = pieces_outside_behind QuotesAndAngles 59 text

params_cut : (text param : List ℕ) (after : Option (List ℕ)) → (param, after) ≡ cut_outside QuotesAndAngles 59 Plain text → params (Some text) ≡ param ∷ params after
params_cut text param after e = pieces_outside-cut QuotesAndAngles 59 text ∙ sym (ap (λ (c : Cut). c.0 ∷ params c.1) e)

abbrev chosen : Cut → List (List ℕ) → Option (List ℕ)
chosen c others = cond (is_tag_name c.0) (value_of_cut c.1) (tag_of_params others)

whole : (text param name : List ℕ) (after value all : Option (List ℕ)) → (param, after) ≡ cut_outside QuotesAndAngles 59 Plain text → (name, value) ≡ cut (is 61) param → tag_of_params (params (Some text)) ≡ all → all ≡ chosen (name, value) (params after)
whole text param name after value all e c h = sym h ∙ ap tag_of_params (params_cut text param after e) ∙ ap (λ (x : Cut). chosen x (params after)) (sym c)

pub tag_here : (text param name : List ℕ) (after value all : Option (List ℕ)) → (param, after) ≡ cut_outside QuotesAndAngles 59 Plain text → (name, value) ≡ cut (is 61) param → is_tag_name name ≡ true → tag_of_params (params (Some text)) ≡ all → value_of_cut value ≡ all
tag_here text param name after value all e c is h = sym (whole text param name after value all e c h ∙ cond-true _ _ _ is)

pub tag_later : (text param name : List ℕ) (after value all : Option (List ℕ)) → (param, after) ≡ cut_outside QuotesAndAngles 59 Plain text → (name, value) ≡ cut (is 61) param → is_tag_name name ≡ false → tag_of_params (params (Some text)) ≡ all → tag_of_params (params after) ≡ all
tag_later text param name after value all e c is h = sym (whole text param name after value all e c h ∙ cond-false _ _ _ is)
