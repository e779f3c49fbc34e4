-- The items of a value are contacts, and are what stands between its commas.
use Rattle.sip_uri.proofs.Common.{◌≡◌, ℕ, true, false, List, [], ◌∷◌, map, Option, Some, None, Result, Ok, Err, refl, sym, ap, subst, ◌∙◌, inl, inr, IfOk, list_all, AllByRecursion, cases_Bool, cond-false, cond-true, same_Some, QuotesAndAngles}
use Rattle.sip_uri.proofs.Common.{is_closed, UriFault, ContactText, Form, are_items, contact_of, contact_params, form_of, is_contact_param, items_behind, q_of, Gives, AreItems, read_uri, Uri, is_line, is_value, arith}
use Rattle.sip_uri.specs.Contact.{contact_of_form, contacts_of, takeable}
use Rattle.sip_uri.specs.Items.{IsContact, IsFormless, texts}
use Rattle.sip_uri.proofs.Forms.{form_again, form_found}
use Rattle.sip_uri.proofs.Items.{items_again, items_are, items_pass}
use Rattle.sip_uri.proofs.laws.Values.{items_values}

text_of_form : (item : List ℕ) (form : Option Form) → (contact_of_form item form).text ≡ item
text_of_form item form = grind arith

pub texts_of : (items : List (List ℕ)) → texts (map contact_of items) ≡ items
texts_of [] = refl
texts_of (item ∷ items) = ap (λ (x : List ℕ). x ∷ texts (map contact_of items)) (text_of_form item (form_of item)) ∙ ap (λ (xs : List (List ℕ)). item ∷ xs) (texts_of items)

contact_by_form : (item : List ℕ) (form : Option Form) → form_of item ≡ form → IsContact (contact_of_form item form)
contact_by_form item None e = inr (record {
  unnamed = λ address params f. let wrong : None ≡ Some (address, params) = sym e ∙ form_again item address params f in absurd cc;
  q = refl;
  uri = refl;
})
contact_by_form item (Some form) e =
    elim (cases_Bool (list_all is_contact_param (contact_params form.1))) [
      | inl good ↦ subst IsContact (sym (cond-true _ _ _ good)) (inl (record { address = form.0; params = form.1; form = form_found item form.0 form.1 e; named = good; q = refl; uri = refl }))
      | inr bad ↦ subst IsContact (sym (cond-false _ _ _ bad)) (inr (record {
        unnamed = λ address params f. subst (λ (g : Form). list_all is_contact_param (contact_params g.1) ≡ false) (same_Some form (address, params) (sym e ∙ form_again item address params f)) bad;
        q = refl;
        uri = refl;
      }))
    ]

pub all_contacts : (items : List (List ℕ)) → AllByRecursion IsContact (map contact_of items)
all_contacts [] = tt
all_contacts (item ∷ items) = (contact_by_form item (form_of item) refl, all_contacts items)

abbrev done : List ContactText → Result (List ContactText) UriFault
done cs = Ok cs

record IsListed (value : List ℕ) (contacts : List ContactText) : Type 0 where
  closed : is_closed QuotesAndAngles value ≡ true
  full : are_items (items_behind (Some value)) ≡ true
  contacts_are : contacts ≡ map contact_of (items_behind (Some value))

listed : (value : List ℕ) (contacts : List ContactText) → contacts_of value ≡ Ok contacts → IsListed value contacts
unfolding contacts_of
listed value contacts e = grind arith

texts_are : (value : List ℕ) (contacts : List ContactText) → IsListed value contacts → texts contacts ≡ items_behind (Some value)
texts_are value contacts h = ap texts h.contacts_are ∙ texts_of (items_behind (Some value))

-- ---- what is a contact is read so

abbrev made : List ℕ → ℕ → Option Uri → ContactText
made text q uri = record { text = text; q = q; uri = uri }

same_contact : (c : ContactText) (q : ℕ) (uri : Option Uri) → c.q ≡ q → c.uri ≡ uri → c ≡ made c.text q uri
same_contact c q uri e f = ap (λ n. made c.text n c.uri) e ∙ ap (made c.text q) f

formless_at : (c : ContactText) (form : Option Form) → IsFormless c → form_of c.text ≡ form → c ≡ contact_of_form c.text form
formless_at c None h e = same_contact c 1000 None h.q h.uri
formless_at c (Some form) h e =
    same_contact c 1000 None h.q h.uri ∙ sym (cond-false _ _ _ (h.unnamed form.0 form.1 (form_found c.text form.0 form.1 e)))

contact_again : (c : ContactText) → IsContact c → c ≡ contact_of c.text
contact_again c (inl h) =
    same_contact c (q_of (contact_params h.params)) (takeable (read_uri h.address)) h.q h.uri
    ∙ sym (ap (contact_of_form c.text) (form_again c.text h.address h.params h.form) ∙ cond-true _ _ _ h.named)
contact_again c (inr h) = formless_at c (form_of c.text) h refl

contacts_again : (cs : List ContactText) → AllByRecursion IsContact cs → map contact_of (texts cs) ≡ cs
contacts_again [] h = refl
contacts_again (c ∷ cs) h = grind (arith, contact_again, contacts_again cs h.1)

list_again : (value : List ℕ) (cs : List ContactText) → AreItems value (texts cs) → AllByRecursion IsContact cs → contacts_of value ≡ Ok cs
unfolding contacts_of
list_again value cs items contacts = grind (arith, items_pass value (texts cs) items, items_again value (texts cs) items, contacts_again cs contacts)

-- ---- the clauses of what was read

module _ {X : Type 0} where
  pub items_found : (view : X → List ContactText) (value : List ℕ) (r : Result X UriFault) → Gives view r (contacts_of value) → IfOk r (λ x. AreItems value (texts (view x)))
  items_found view value (Ok x) h =
      let l = listed value (view x) h in
      subst (λ (items : List (List ℕ)). AreItems value items) (sym (texts_are value (view x) l)) (items_are value l.closed l.full)
  items_found view value (Err f) h = tt

  pub contacts_found : (view : X → List ContactText) (value : List ℕ) (r : Result X UriFault) → Gives view r (contacts_of value) → IfOk r (λ x. AllByRecursion IsContact (view x))
  contacts_found view value (Ok x) h = subst (λ (cs : List ContactText). AllByRecursion IsContact cs) (sym (listed value (view x) h).contacts_are) (all_contacts (items_behind (Some value)))
  contacts_found view value (Err f) h = tt

  pub values_found : (view : X → List ContactText) (value : List ℕ) (r : Result X UriFault) → Gives view r (contacts_of value) → is_line value ≡ true → IfOk r (λ x. list_all is_value (texts (view x)) ≡ true)
  values_found view value (Ok x) h line = ap (list_all is_value) (texts_are value (view x) (listed value (view x) h)) ∙ items_values value line
  values_found view value (Err f) h line = tt

  pub only_contacts : (view : X → List ContactText) (value : List ℕ) (r : Result X UriFault) → Gives view r (contacts_of value) → (cs : List ContactText) → AreItems value (texts cs) → AllByRecursion IsContact cs → Gives view r (Ok cs)
  only_contacts view value r h cs items contacts = subst (λ (x : Result (List ContactText) UriFault). Gives view r x) (list_again value cs items contacts) h
