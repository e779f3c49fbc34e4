-- The contacts and the challenges of a message are values that a header line may have.
use Rattle.call_model.proofs.Common.{◌≡◌, ◌∙◌, ℕ, ap, refl, subst, true, false, Bool, List, [], ◌∷◌, map, Option, None, Some, ◌&&◌, cond, nat_lt, ◌||◌, ◌==◌, Result, Ok, Err, codes, flat_map, list_all, and_from, and_parts, list_all-append}
use Rattle.call_model.proofs.Common.{Event, Ring, Answer, challenges_of, offers_of, Challenge, is_closed, QuotesAndAngles, IsMessage, is_value, values_of, MessageText, ContactText, Form, are_items, contact_of, contact_of_form}
use Rattle.call_model.proofs.Common.{contact_params, form_of, is_contact_param, items_behind, UriFault, BadText, is_challenge, challenge_in, challenges_by, contacts_at, contacts_by, contacts_in, contacts_or, event_by, is_redirection}
use Rattle.call_model.proofs.Common.{contact_for, contacts_for, offer_of, is_text}
use Rattle.call_model.specs.declared.tried_contacts.TriedContacts.{TriedContacts}
use Rattle.sip_lex.specs.Bytes.{is_token}
use Rattle.sip_text.specs.Message.{is_header, is_line, is_trimmed}
use Rattle.sip_text.specs.Name.{same_name}
use Rattle.sip_text.specs.Text.{HeaderText}
use Rattle.sip_uri.specs.Contact.{contacts_of}
use Rattle.sip_uri.proofs.laws.Values.{items_values}

-- ---- contacts

abbrev has_value : ContactText → Bool
has_value contact = is_value contact.text

text_by : (b : Bool) (x y : ContactText) (item : List ℕ) → x.text ≡ item → y.text ≡ item → (cond {A = ContactText} b x y).text ≡ item
text_by true x y item h k = h
text_by false x y item h k = k

contact_text : (item : List ℕ) (form : Option Form) → (contact_of_form item form).text ≡ item
contact_text item None = refl
contact_text item (Some form) = text_by (list_all is_contact_param (contact_params form.1)) _ _ item refl refl

all_contacts : (items : List (List ℕ)) → list_all is_value items ≡ true → list_all has_value (map contact_of items) ≡ true
all_contacts [] h = refl
all_contacts (item ∷ items) h =
    let each = and_parts (is_value item) (list_all is_value items) h in
    and_from (has_value (contact_of item)) (list_all has_value (map contact_of items)) (ap is_value (contact_text item (form_of item)) ∙ each.0) (all_contacts items each.1)

contact_values : (value : List ℕ) (cs : List ContactText) → is_line value ≡ true → contacts_of value ≡ Ok cs → list_all has_value cs ≡ true
unfolding contacts_of
contact_values value cs h e =
    let items = items_behind (Some value) in
    let values : list_all is_value items ≡ true = items_values value h in
    by (is_closed QuotesAndAngles value && are_items items) (map contact_of items) (all_contacts items values) e
  where
    by : (b : Bool) (xs : List ContactText) → list_all has_value xs ≡ true → cond {A = Result (List ContactText) UriFault} b (Ok xs) (Err BadText) ≡ Ok cs → list_all has_value cs ≡ true
    by true xs good same = let h : xs ≡ cs = cc in subst (λ (l : List ContactText). list_all has_value l ≡ true) h good
    by false xs good same = absurd cc

at_values : (value : List ℕ) → is_value value ≡ true → list_all has_value (contacts_at value) ≡ true
at_values value h = by (contacts_of value) refl
  where
    by : (r : Result (List ContactText) UriFault) → contacts_of value ≡ r → list_all has_value (contacts_or value r) ≡ true
    by (Ok cs) e = contact_values value cs (and_parts (is_line value) (is_trimmed value) h).0 e
    by (Err f) e = and_from (is_value value) true h refl

in_values : (values : List (List ℕ)) → list_all is_value values ≡ true → list_all has_value (flat_map contacts_at values) ≡ true
in_values [] h = refl
in_values (v ∷ vs) h =
    let each = and_parts (is_value v) (list_all is_value vs) h in
    list_all-append has_value (contacts_at v) (flat_map contacts_at vs) ∙ and_from (list_all has_value (contacts_at v)) (list_all has_value (flat_map contacts_at vs)) (at_values v each.0) (in_values vs each.1)

values_for : (tried : TriedContacts) (cs : List ContactText) → list_all has_value cs ≡ true → list_all has_value (map (contact_for tried) cs) ≡ true
values_for tried [] h = refl
values_for tried (c ∷ cs) h =
    let each = and_parts (has_value c) (list_all has_value cs) h in
    and_from (has_value c) (list_all has_value (map (contact_for tried) cs)) each.0 (values_for tried cs each.1)

offers_pass : (cs : List ContactText) → list_all has_value cs ≡ true → list_all is_text (map offer_of cs) ≡ true
offers_pass [] h = refl
offers_pass (c ∷ cs) h =
    let each = and_parts (has_value c) (list_all has_value cs) h in
    and_from (has_value c) (list_all is_text (map offer_of cs)) each.0 (offers_pass cs each.1)

-- ---- challenges

header_pass : (h : HeaderText) → is_header h ≡ true → list_all is_challenge (challenge_in h) ≡ true
header_pass h e =
    let value : is_value h.value ≡ true = (and_parts (is_token h.name) (is_value h.value) e).1 in
    let one : list_all is_challenge (record { proxy = false; value = h.value } ∷ []) ≡ true = and_from (is_value h.value) true value refl in
    let other : list_all is_challenge (record { proxy = true; value = h.value } ∷ []) ≡ true = and_from (is_value h.value) true value refl in
    by (same_name (codes "www-authenticate") h.name) (same_name (codes "proxy-authenticate") h.name) _ _ one other
  where
    by : (a b : Bool) (x y : List Challenge) → list_all is_challenge x ≡ true → list_all is_challenge y ≡ true
        → list_all is_challenge (cond {A = List Challenge} a x (cond {A = List Challenge} b y [])) ≡ true
    by true b x y k l = k
    by false true x y k l = l
    by false false x y k l = refl

headers_pass : (hs : List HeaderText) → list_all is_header hs ≡ true → list_all is_challenge (flat_map challenge_in hs) ≡ true
headers_pass [] e = refl
headers_pass (h ∷ hs) e =
    let each = and_parts (is_header h) (list_all is_header hs) e in
    list_all-append is_challenge (challenge_in h) (flat_map challenge_in hs)
    ∙ and_from (list_all is_challenge (challenge_in h)) (list_all is_challenge (flat_map challenge_in hs)) (header_pass h each.0) (headers_pass hs each.1)

-- ---- the event

module _ (values_are : (m : MessageText) (name : List ℕ) → IsMessage m → list_all is_value (values_of name m.headers) ≡ true) where
  contacts_pass : (tried : TriedContacts) (status : ℕ) (m : MessageText) → IsMessage m → list_all is_text (map offer_of (contacts_for tried status m)) ≡ true
  contacts_pass tried status m is = offers_pass (contacts_for tried status m) (values_for tried (contacts_by status m) (by (is_redirection status)))
    where
      by : (b : Bool) → list_all has_value (cond {A = List ContactText} b (contacts_in m) []) ≡ true
      by true = in_values (values_of (codes "contact") m.headers) (values_are m (codes "contact") is)
      by false = refl

  challenges_pass : (status : ℕ) (m : MessageText) → IsMessage m → list_all is_challenge (challenges_by status m) ≡ true
  challenges_pass status m is = by (status == 401 || status == 407)
    where
      by : (b : Bool) → list_all is_challenge (cond {A = List Challenge} b (flat_map challenge_in m.headers) []) ≡ true
      by true = headers_pass m.headers is.head.headers
      by false = refl

  pub event_values : (tried : TriedContacts) (n status : ℕ) (m : MessageText) → IsMessage m
      → (list_all is_text (offers_of (event_by tried n status m)) ≡ true) × (list_all is_challenge (challenges_of (event_by tried n status m)) ≡ true)
  event_values tried n status m is = by (nat_lt status 200)
    where
      by : (b : Bool) → (list_all is_text (offers_of (cond {A = Event} b (Ring n status) (Answer n (record { status = status; offers = map offer_of (contacts_for tried status m); challenges = challenges_by status m })))) ≡ true)
          × (list_all is_challenge (challenges_of (cond {A = Event} b (Ring n status) (Answer n (record { status = status; offers = map offer_of (contacts_for tried status m); challenges = challenges_by status m })))) ≡ true)
      by true = (refl, refl)
      by false = (contacts_pass tried status m is, challenges_pass status m is)
