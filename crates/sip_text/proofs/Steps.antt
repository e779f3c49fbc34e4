-- Headers of one name, one by one.
use Rattle.sip_text.proofs.Common.{◌≡◌, ℕ, true, false, List, [], ◌∷◌, sym, ap, ◌∙◌, arith, cond-true, cond-false, same_name, HeaderText, common_steps}
use Rattle.sip_text.specs.Name.{values_of}

pub named_here : (name : List ℕ) (hs rest : List HeaderText) (h : HeaderText) (all : List (List ℕ)) → hs ≡ h ∷ rest → same_name name h.name ≡ true → values_of name hs ≡ all → all ≡ h.value ∷ values_of name rest
unfolding values_of
named_here name hs rest h all split same e = sym e ∙ ap (values_of name) split ∙ cond-true _ _ _ same

pub named_later : (name : List ℕ) (hs rest : List HeaderText) (h : HeaderText) (all : List (List ℕ)) → hs ≡ h ∷ rest → same_name name h.name ≡ false → values_of name hs ≡ all → values_of name rest ≡ all
unfolding values_of
named_later name hs rest h all split other e = sym (cond-false _ _ _ other) ∙ sym (ap (values_of name) split) ∙ e

pub none_named : (name : List ℕ) (hs : List HeaderText) → hs ≡ [] → values_of name hs ≡ []
unfolding values_of
none_named name hs e = grind (arith, common_steps)
