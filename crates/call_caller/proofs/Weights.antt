-- The q of a contact is no more than one.
use Rattle.call_caller.proofs.Common.{◌≡◌, ℕ, ◌≤◌, refl, arith, true, false, Bool, List, [], ◌∷◌, ◌++◌, map, length, Option, Some, None, cond, ◌&&◌, ◌==◌, Result, Ok, Err, codes, AllByRecursion, flat_map, list_all, and_parts, is_closed}
use Rattle.call_caller.proofs.Common.{QuotesAndAngles, values_of, MessageText, ContactText, Form, are_items, contact_of, contact_of_form, contact_params, form_of, is_contact_param, items_behind, q_of, takeable, read_uri, UriFault, BadText}
use Rattle.call_caller.proofs.Common.{contacts_at, contacts_by, contacts_in, contacts_or, is_redirection}
use Rattle.std.proofs.Common.{leb-true}
use Rattle.std.specs.Prelude.{nat_le}
use Rattle.std.specs.Char.{is_ascii_digit}
use Rattle.fork_model.specs.Range.{most_q}
use Rattle.sip_uri.specs.Contact.{are_decimals, contacts_of, is_q, q_decimals, q_value, q_value_if_any, thousandths, value_of}

-- ---- the value of q

digit_most : (b : ℕ) → is_ascii_digit b ≡ true → b ≤ 57
digit_most b e = leb-true b 57 (and_parts (nat_le 48 b) (nat_le b 57) e).1

thousandths_most : (a b c : ℕ) → a ≤ 57 → b ≤ 57 → c ≤ 57 → thousandths a b c ≤ 1000
thousandths_most a b c h k l = omega arith

decimals_most : (ds : List ℕ) → are_decimals ds ≡ true → q_decimals ds ≤ 1000
decimals_most [] e = omega arith
decimals_most (a ∷ []) e =
    let digits = and_parts (nat_le 1 3) (list_all is_ascii_digit (a ∷ [])) e in
    let one = and_parts (is_ascii_digit a) true digits.1 in
    thousandths_most a 48 48 (digit_most a one.0) (omega arith) (omega arith)
decimals_most (a ∷ b ∷ []) e =
    let digits = and_parts (nat_le 2 3) (list_all is_ascii_digit (a ∷ b ∷ [])) e in
    let one = and_parts (is_ascii_digit a) (list_all is_ascii_digit (b ∷ [])) digits.1 in
    let two = and_parts (is_ascii_digit b) true one.1 in
    thousandths_most a b 48 (digit_most a one.0) (digit_most b two.0) (omega arith)
decimals_most (a ∷ b ∷ c ∷ more) e =
    let digits = and_parts (nat_le (length (a ∷ b ∷ c ∷ more)) 3) (list_all is_ascii_digit (a ∷ b ∷ c ∷ more)) e in
    let one = and_parts (is_ascii_digit a) (list_all is_ascii_digit (b ∷ c ∷ more)) digits.1 in
    let two = and_parts (is_ascii_digit b) (list_all is_ascii_digit (c ∷ more)) one.1 in
    let three = and_parts (is_ascii_digit c) (list_all is_ascii_digit more) two.1 in
    thousandths_most a b c (digit_most a one.0) (digit_most b two.0) (digit_most c three.0)

value_most : (value : List ℕ) → q_value value ≤ 1000
value_most [] = omega arith
value_most (a ∷ []) = go (a == 48)
  where
    go : (b : Bool) → cond {A = ℕ} b 0 1000 ≤ 1000
    go true = omega arith
    go false = omega arith
value_most (a ∷ dot ∷ ds) = go (a == 48) (dot == 46) (are_decimals ds) refl
  where
    go : (x y z : Bool) → are_decimals ds ≡ z → cond {A = ℕ} (x && y && z) (q_decimals ds) 1000 ≤ 1000
    go true true true e = decimals_most ds e
    go true true false e = omega arith
    go true false z e = omega arith
    go false y z e = omega arith

any_most : (value : Option (List ℕ)) → q_value_if_any value ≤ 1000
any_most None = omega arith
any_most (Some value) = value_most value

q_most : (params : List (List ℕ)) → q_of params ≤ 1000
q_most [] = omega arith
q_most (param ∷ params) = go (is_q param) (q_most params)
  where
    go : (b : Bool) → q_of params ≤ 1000 → cond {A = ℕ} b (q_value_if_any (value_of param)) (q_of params) ≤ 1000
    go true rest = any_most (value_of param)
    go false rest = rest

-- ---- of each contact

abbrev pub IsWeighed : ContactText → Type 0
IsWeighed contact = contact.q ≤ most_q

form_most : (item : List ℕ) (form : Option Form) → IsWeighed (contact_of_form item form)
form_most item None = omega arith
form_most item (Some form) = go (list_all is_contact_param (contact_params form.1))
  where
    go : (b : Bool) → IsWeighed (cond {A = ContactText} b (record { text = item; q = q_of (contact_params form.1); uri = takeable (read_uri form.0) }) (record { text = item; q = 1000; uri = None }))
    go true = q_most (contact_params form.1)
    go false = omega arith

items_most : (items : List (List ℕ)) → AllByRecursion IsWeighed (map contact_of items)
items_most [] = tt
items_most (item ∷ items) = (form_most item (form_of item), items_most items)

at_most : (value : List ℕ) → AllByRecursion IsWeighed (contacts_at value)
unfolding contacts_of
at_most value = by (is_closed QuotesAndAngles value && are_items (items_behind (Some value)))
  where
    by : (b : Bool) → AllByRecursion IsWeighed (contacts_or value (cond {A = Result (List ContactText) UriFault} b (Ok (map contact_of (items_behind (Some value)))) (Err BadText)))
    by true = items_most (items_behind (Some value))
    by false = (omega arith, tt)

all_joined : (xs ys : List ContactText) → AllByRecursion IsWeighed xs → AllByRecursion IsWeighed ys → AllByRecursion IsWeighed (xs ++ ys)
all_joined [] ys h k = k
all_joined (x ∷ xs) ys h k = (h.0, all_joined xs ys h.1 k)

values_most : (values : List (List ℕ)) → AllByRecursion IsWeighed (flat_map contacts_at values)
values_most [] = tt
values_most (v ∷ vs) = all_joined (contacts_at v) (flat_map contacts_at vs) (at_most v) (values_most vs)

pub contacts_weighed : (status : ℕ) (m : MessageText) → AllByRecursion IsWeighed (contacts_by status m)
contacts_weighed status m = by (is_redirection status)
  where
    by : (b : Bool) → AllByRecursion IsWeighed (cond {A = List ContactText} b (contacts_in m) [])
    by true = values_most (values_of (codes "contact") m.headers)
    by false = tt

-- that of one in the midst of others
pub weighed_here : (xs ys : List ContactText) (c : ContactText) → AllByRecursion IsWeighed (xs ++ c ∷ ys) → IsWeighed c
weighed_here [] ys c h = h.0
weighed_here (x ∷ xs) ys c h = weighed_here xs ys c h.1
