-- Each row that a response adds has the destination of its contact, and takes it.
use Rattle.call_caller.proofs.Common.{◌≡◌, ◌≢◌, ◌∙◌, ℕ, zero, suc, ◌<◌, ◌≤◌, ◌+◌, ap, refl, sym, subst, arith, true, false, Bool, List, [], ◌∷◌, ◌++◌, map, length, drop, Option, Some, None, slice_get, cond, is_some, slice_set, filter_map}
use Rattle.call_caller.proofs.Common.{nat_lt, Result, Ok, Err, codes, AllByRecursion, cons_option, flat_map, list_all, option_and_then, and_from, and_parts, list_all-append, Offer, Row, Event, Ring, Answer, FinalAnswer, next, values_of}
use Rattle.call_caller.proofs.Common.{MessageText, ContactText, Form, are_items, contact_of, contact_of_form, contact_params, form_of, is_contact_param, items_behind, q_of, takeable, read_uri, Uri, Hop, UriFault, BadText, is_closed}
use Rattle.call_caller.proofs.Common.{QuotesAndAngles, OpenedRequest, Destination, HaveDestinations, IsNone, count_in, place_of, destination_for, without, Branch, no_branch, destination_of_contact, destinations_of, challenges_by, contacts_at, contacts_by, contacts_in, contacts_or, event_by}
use Rattle.call_caller.proofs.Common.{contact_for, contacts_for, is_redirection, offer_of, ◌&&◌}
use Rattle.call_model.specs.declared.tried_contacts.TriedContacts.{TriedContacts}
use Rattle.call_model.specs.declared.tried_contacts.TriedContacts.TheVariants.{Every, NoContacts, OverUdp}
use Rattle.call_model.specs.Response.{is_over_udp, tried_uri}
use Rattle.std.proofs.Common.{option_map, append_assoc, ltb-true, ltb-false}
use Rattle.fork_model.specs.Sources.{AddsNoRow, IsRowOf, NewRowsAreContacts}
use Rattle.sip_uri.specs.Contact.{contacts_of}
use Rattle.sip_uri.specs.Hop.{hop_of}
use Rattle.sip_uri.specs.Key.{key_of}
use Rattle.call_model.specs.OpenedRequest.{next_hop, destination_by, destination_to, sized_hop}
use Rattle.call_caller.specs.NewDestinations.{GivesDestinations, has_destination, joined, destination_in}
use Rattle.call_model.specs.Posting.{destination_of_row}
use Rattle.call_caller.proofs.NewPlaces.{added_apart, drop_all}

-- ---- a contact that may be tried has a hop

abbrev uri_has_hop : Option Uri → Bool
uri_has_hop None = true
uri_has_hop (Some uri) = is_some (hop_of uri)

abbrev has_hop : ContactText → Bool
has_hop contact = uri_has_hop contact.uri

takeable_hop : (r : Result Uri UriFault) → uri_has_hop (takeable r) ≡ true
takeable_hop (Err f) = refl
takeable_hop (Ok u) = go (is_some (hop_of u)) refl
  where
    go : (b : Bool) → is_some (hop_of u) ≡ b → uri_has_hop (cond {A = Option Uri} b (Some u) None) ≡ true
    go true e = e
    go false e = refl

contact_hop : (item : List ℕ) (form : Option Form) → has_hop (contact_of_form item form) ≡ true
contact_hop item None = refl
contact_hop item (Some form) = go (list_all is_contact_param (contact_params form.1))
  where
    go : (b : Bool) → has_hop (cond {A = ContactText} b (record { text = item; q = q_of (contact_params form.1); uri = takeable (read_uri form.0) }) (record { text = item; q = 1000; uri = None })) ≡ true
    go true = takeable_hop (read_uri form.0)
    go false = refl

items_hop : (items : List (List ℕ)) → list_all has_hop (map contact_of items) ≡ true
items_hop [] = refl
items_hop (item ∷ items) = and_from (has_hop (contact_of item)) (list_all has_hop (map contact_of items)) (contact_hop item (form_of item)) (items_hop items)

value_hop : (value : List ℕ) → list_all has_hop (contacts_at value) ≡ true
unfolding contacts_of
value_hop value = by (is_closed QuotesAndAngles value && are_items (items_behind (Some value)))
  where
    by : (b : Bool) → list_all has_hop (contacts_or value (cond {A = Result (List ContactText) UriFault} b (Ok (map contact_of (items_behind (Some value)))) (Err BadText))) ≡ true
    by true = items_hop (items_behind (Some value))
    by false = refl

values_hop : (values : List (List ℕ)) → list_all has_hop (flat_map contacts_at values) ≡ true
values_hop [] = refl
values_hop (v ∷ vs) =
    list_all-append has_hop (contacts_at v) (flat_map contacts_at vs)
    ∙ and_from (list_all has_hop (contacts_at v)) (list_all has_hop (flat_map contacts_at vs)) (value_hop v) (values_hop vs)

contacts_hop : (status : ℕ) (m : MessageText) → list_all has_hop (contacts_by status m) ≡ true
contacts_hop status m = by (is_redirection status)
  where
    by : (b : Bool) → list_all has_hop (cond {A = List ContactText} b (contacts_in m) []) ≡ true
    by true = values_hop (values_of (codes "contact") m.headers)
    by false = refl

-- one that is not tried needs none
hop_for : (tried : TriedContacts) (contact : ContactText) → has_hop contact ≡ true → has_hop (contact_for tried contact) ≡ true
hop_for NoContacts contact h = refl
hop_for Every contact h = h
hop_for OverUdp contact h = over contact.uri h
  where
    over : (uri : Option Uri) → uri_has_hop uri ≡ true → uri_has_hop (tried_uri OverUdp uri) ≡ true
    over None e = refl
    over (Some uri) e = go (is_over_udp uri)
      where
        go : (b : Bool) → uri_has_hop (cond {A = Option Uri} b (Some uri) None) ≡ true
        go true = e
        go false = refl

hops_for : (tried : TriedContacts) (cs : List ContactText) → list_all has_hop cs ≡ true → list_all has_hop (map (contact_for tried) cs) ≡ true
hops_for tried [] h = refl
hops_for tried (c ∷ cs) h =
    let each = and_parts (has_hop c) (list_all has_hop cs) h in
    and_from (has_hop (contact_for tried c)) (list_all has_hop (map (contact_for tried) cs)) (hop_for tried c each.0) (hops_for tried cs each.1)

hop_at : (cs : List ContactText) (place : ℕ) (c : ContactText) → list_all has_hop cs ≡ true → slice_get cs place ≡ Some c → has_hop c ≡ true
hop_at [] place c h e = absurd cc
hop_at (x ∷ cs) zero c h e =
    let same : x ≡ c = cc in
    ap has_hop (sym same) ∙ (and_parts (has_hop x) (list_all has_hop cs) h).0
hop_at (x ∷ cs) (suc place) c h e = hop_at cs place c (and_parts (has_hop x) (list_all has_hop cs) h).1 e

-- ---- so its request has a destination

goes_by : (opened : OpenedRequest) (uri : Uri) → is_some (hop_of uri) ≡ true → is_some (destination_to opened uri) ≡ true
goes_by opened uri h = by opened.route
  where
    at : (hop : Option Hop) → is_some hop ≡ true → is_some (destination_by uri (option_map (sized_hop opened.large) hop) opened.ring) ≡ true
    at None e = absurd cc
    at (Some hop) e = refl

    by : (route : Option Hop) → is_some (destination_by uri (option_map (sized_hop opened.large) (next_hop route uri)) opened.ring) ≡ true
    by (Some hop) = refl
    by None = at (hop_of uri) h

contact_goes : (opened : OpenedRequest) (uri : Option Uri) (key : List ℕ) → uri_has_hop uri ≡ true → option_map key_of uri ≡ Some key → is_some (option_and_then (destination_to opened) uri) ≡ true
contact_goes opened None key h e = absurd cc
contact_goes opened (Some uri) key h e = goes_by opened uri h

get_mapped : {X Y : Type 0} (f : X → Y) (xs : List X) (n : ℕ) (y : Y) → slice_get (map f xs) n ≡ Some y → (x : X) × (slice_get xs n ≡ Some x) × (f x ≡ y)
get_mapped f [] n y e = absurd cc
get_mapped f (x ∷ xs) zero y e = let same : f x ≡ y = cc in (x, refl, same)
get_mapped f (x ∷ xs) (suc n) y e = get_mapped f xs n y e

map_at : {X Y : Type 0} (f : X → Y) (xs : List X) (n : ℕ) (x : X) → slice_get xs n ≡ Some x → slice_get (map f xs) n ≡ Some (f x)
map_at f [] n x e = absurd cc
map_at f (y ∷ xs) zero x e = let same : y ≡ x = cc in ap (λ z. Some (f z)) same
map_at f (y ∷ xs) (suc n) x e = map_at f xs n x e

-- the row of a contact has a destination
row_goes : (opened : OpenedRequest) (cs : List ContactText) (row : Row) → list_all has_hop cs ≡ true → IsRowOf (map offer_of cs) row → has_destination (map (destination_of_contact opened) cs) row ≡ true
row_goes opened cs row hops is =
    let c = get_mapped offer_of cs row.place is.offer is.contact in
    let key : option_map key_of c.0.uri ≡ Some row.key = ap (λ (o : Offer). o.key) c.2 ∙ is.key in
    let there : slice_get (map (destination_of_contact opened) cs) row.place ≡ Some (destination_of_contact opened c.0) = map_at (destination_of_contact opened) cs row.place c.0 c.1 in
    ap (λ (o : Option (Option Destination)). is_some (joined o)) there ∙ contact_goes opened c.0.uri row.key (hop_at cs row.place c.0 hops c.1) key

-- ---- the rows that a response adds

all_at : {X : Type 0} (P : X → Type 0) (xs : List X) → ((n : ℕ) (x : X) → slice_get xs n ≡ Some x → P x) → AllByRecursion P xs
all_at P [] h = tt
all_at P (x ∷ xs) h = (h zero x refl, all_at P xs (λ n y e. h (suc n) y e))

get_behind : {X : Type 0} (m : ℕ) (xs : List X) (n : ℕ) → slice_get (drop m xs) n ≡ slice_get xs (m + n)
get_behind zero xs n = ap (λ (k : ℕ). slice_get xs k) (let e : n ≡ 0 + n = omega arith in e)
get_behind (suc m) [] n = refl
get_behind (suc m) (x ∷ xs) n =
    get_behind m xs n ∙ ap (λ (k : ℕ). slice_get (x ∷ xs) k) (let e : suc (m + n) ≡ suc m + n = omega arith in e)

none_past : {X : Type 0} (xs : List X) (n : ℕ) → slice_get xs (length xs + n) ≡ None
none_past [] n = refl
none_past (x ∷ xs) n = ap (λ (k : ℕ). slice_get (x ∷ xs) k) (let e : suc (length xs) + n ≡ suc (length xs + n) = omega arith in e) ∙ none_past xs n

drop_same : (rows : List Row) (n : ℕ) → length rows ≡ n → drop n rows ≡ []
drop_same rows n e = ap (λ (k : ℕ). drop k rows) (sym e) ∙ drop_all rows

module _ (each : NewRowsAreContacts) (none : AddsNoRow) where
  no_rows : (n status : ℕ) (destinations : List (Option Destination)) → GivesDestinations (Ring n status) destinations
  no_rows n status destinations t at =
      let same : drop (length t.rows) (next t (Ring n status) at).rows ≡ [] = drop_same (next t (Ring n status) at).rows (length t.rows) (none t (Ring n status) at refl) in
      subst (HaveDestinations destinations) (sym same) (record { each = tt; apart = tt })

  some_rows : (opened : OpenedRequest) (n : ℕ) (cs : List ContactText) (answer : FinalAnswer) → list_all has_hop cs ≡ true → answer.offers ≡ map offer_of cs → GivesDestinations (Answer n answer) (map (destination_of_contact opened) cs)
  some_rows opened n cs answer hops offers t at =
      let new = (next t (Answer n answer) at).rows in
      record {
        each = all_at (λ row. has_destination (map (destination_of_contact opened) cs) row ≡ true) (drop (length t.rows) new) (λ k row e.
            let is : IsRowOf answer.offers row = each t (Answer n answer) at (length t.rows + k) row (none_past t.rows k) (sym (get_behind (length t.rows) new k) ∙ e) in
            row_goes opened cs row hops (subst (λ (os : List Offer). IsRowOf os row) offers is));
        apart = added_apart t n at answer;
      }

  pub gives_destinations : (opened : OpenedRequest) (tried : TriedContacts) (n status : ℕ) (m : MessageText) → GivesDestinations (event_by tried n status m) (map (destination_of_contact opened) (contacts_for tried status m))
  gives_destinations opened tried n status m = by (nat_lt status 200)
    where
      by : (b : Bool) → GivesDestinations (cond {A = Event} b (Ring n status) (Answer n (record { status = status; offers = map offer_of (contacts_for tried status m); challenges = challenges_by status m }))) (map (destination_of_contact opened) (contacts_for tried status m))
      by true = no_rows n status (map (destination_of_contact opened) (contacts_for tried status m))
      by false =
          let answer : FinalAnswer = record { status = status; offers = map offer_of (contacts_for tried status m); challenges = challenges_by status m } in
          some_rows opened n (contacts_for tried status m) answer (hops_for tried (contacts_by status m) (contacts_hop status m)) refl

  pub event_gives : (opened : OpenedRequest) (tried : TriedContacts) (n status : ℕ) (m : MessageText) (event : Event) (destinations : List (Option Destination)) → event ≡ event_by tried n status m
      → destinations ≡ map (destination_of_contact opened) (contacts_for tried status m) → GivesDestinations event destinations
  event_gives opened tried n status m event destinations e w =
      subst (λ (v : Event). GivesDestinations v destinations) (sym e) (subst (GivesDestinations (event_by tried n status m)) (sym w) (gives_destinations opened tried n status m))

pub rings : (tried : TriedContacts) (n status ring : ℕ) (m : MessageText) → ring ≡ status → status < 200 → Ring n ring ≡ event_by tried n status m
rings tried n status ring m e lt = by (nat_lt status 200) refl
  where
    by : (b : Bool) → nat_lt status 200 ≡ b → Ring n ring ≡ cond {A = Event} b (Ring n status) (Answer n (record { status = status; offers = map offer_of (contacts_for tried status m); challenges = challenges_by status m }))
    by true is = ap (Ring n) e
    by false is = absurd (omega (arith, ltb-false status 200 is))

pub answers_with : (tried : TriedContacts) (n status : ℕ) (m : MessageText) (answer : FinalAnswer) → 200 ≤ status
    → answer ≡ record { status = status; offers = map offer_of (contacts_for tried status m); challenges = challenges_by status m } → Answer n answer ≡ event_by tried n status m
answers_with tried n status m answer le e = by (nat_lt status 200) refl
  where
    by : (b : Bool) → nat_lt status 200 ≡ b → Answer n answer ≡ cond {A = Event} b (Ring n status) (Answer n (record { status = status; offers = map offer_of (contacts_for tried status m); challenges = challenges_by status m }))
    by true is = absurd (omega (arith, ltb-true status 200 is))
    by false is = ap (Answer n) e

-- ---- taking the destinations, one row after the other

other_there : (destinations : List (Option Destination)) (p q : ℕ) → p ≢ q → destination_in (without destinations p) q ≡ destination_in destinations q
other_there [] p q ne = refl
other_there (w ∷ destinations) zero zero ne = absurd (ne refl)
other_there (w ∷ destinations) zero (suc q) ne = refl
other_there (w ∷ destinations) (suc p) zero ne = refl
other_there (w ∷ destinations) (suc p) (suc q) ne = other_there destinations p q (λ e. ne (ap suc e))

module _ (destinations : List (Option Destination)) (p : ℕ) where
  rest_each : (rows : List Row) → AllByRecursion (λ row. has_destination destinations row ≡ true) rows → IsNone (map place_of rows) p → AllByRecursion (λ row. has_destination (without destinations p) row ≡ true) rows
  rest_each [] h k = tt
  rest_each (row ∷ rows) h k = (ap is_some (other_there destinations p row.place k.0) ∙ h.0, rest_each rows h.1 k.1)

  rest_same : (rows : List Row) → IsNone (map place_of rows) p → filter_map (destination_for (without destinations p)) rows ≡ filter_map (destination_for destinations) rows
  rest_same [] k = refl
  rest_same (row ∷ rows) k =
      ap (λ (o : Option Destination). cons_option o (filter_map (destination_for (without destinations p)) rows)) (other_there destinations p row.place k.0)
      ∙ ap (λ (ws : List Destination). cons_option (destination_for destinations row) ws) (rest_same rows k.1)

pub count_without : (destinations : List (Option Destination)) (p : ℕ) (destination : Destination) → destination_in destinations p ≡ Some destination → suc (count_in (without destinations p)) ≡ count_in destinations
count_without [] p destination e = absurd cc
count_without (None ∷ destinations) zero destination e = absurd cc
count_without (Some w ∷ destinations) zero destination e = refl
count_without (None ∷ destinations) (suc p) destination e = count_without destinations p destination e
count_without (Some w ∷ destinations) (suc p) destination e = ap suc (count_without destinations p destination e)

pub count_most : (destinations : List (Option Destination)) → count_in destinations ≤ length destinations
count_most [] = omega arith
count_most (None ∷ destinations) = let rest : count_in destinations ≤ length destinations = count_most destinations in omega arith
count_most (Some w ∷ destinations) = let rest : count_in destinations ≤ length destinations = count_most destinations in omega arith

drop_at : (rows : List Row) (n : ℕ) (row : Row) → slice_get rows n ≡ Some row → drop n rows ≡ row ∷ drop (suc n) rows
drop_at [] n row e = absurd cc
drop_at (x ∷ rows) zero row e = let same : x ≡ row = cc in ap (λ (r : Row). r ∷ rows) same
drop_at (x ∷ rows) (suc n) row e = drop_at rows n row e

-- the row of this number, with its place
pub row_there : (rows : List Row) (n place : ℕ) → option_map (λ row. row.place) (slice_get rows n) ≡ Some place → (row : Row) × (row.place ≡ place) × (drop n rows ≡ row ∷ drop (n + 1) rows)
row_there rows n place e = by (slice_get rows n) refl e
  where
    by : (o : Option Row) → slice_get rows n ≡ o → option_map (λ row. row.place) o ≡ Some place → (row : Row) × (row.place ≡ place) × (drop n rows ≡ row ∷ drop (n + 1) rows)
    by None at is = absurd cc
    by (Some row) at is =
        let same : row.place ≡ place = cc in
        let next : suc n ≡ n + 1 = omega arith in
        (row, same, drop_at rows n row at ∙ ap (λ (k : ℕ). row ∷ drop k rows) next)

-- what is left for the rows behind one that took its destination
pub left_behind : (destinations : List (Option Destination)) (row : Row) (rows : List Row) → HaveDestinations destinations (row ∷ rows) → HaveDestinations (without destinations row.place) rows
left_behind destinations row rows have = record { each = rest_each destinations row.place rows have.each.1 have.apart.0; apart = have.apart.1 }

pub taken_first : (destinations : List (Option Destination)) (row : Row) (rows : List Row) (destination : Destination) → HaveDestinations destinations (row ∷ rows) → destination_for destinations row ≡ Some destination
    → filter_map (destination_for destinations) (row ∷ rows) ≡ destination ∷ filter_map (destination_for (without destinations row.place)) rows
taken_first destinations row rows destination have e =
    ap (λ (o : Option Destination). cons_option o (filter_map (destination_for destinations) rows)) e
    ∙ ap (λ (ws : List Destination). destination ∷ ws) (sym (rest_same destinations row.place rows have.apart.0))

-- ---- the destinations of the new rows

pub each_goes : (destinations : List (Option Destination)) (rows : List Row) → AllByRecursion (λ row. has_destination destinations row ≡ true) rows → length (filter_map (destination_for destinations) rows) ≡ length rows
each_goes destinations [] h = refl
each_goes destinations (row ∷ rows) h = by (destination_for destinations row) h.0 (each_goes destinations rows h.1)
  where
    by : (o : Option Destination) → is_some o ≡ true → length (filter_map (destination_for destinations) rows) ≡ length rows → length (cons_option o (filter_map (destination_for destinations) rows)) ≡ suc (length rows)
    by None e rest = absurd cc
    by (Some destination) e rest = ap suc rest

joined_map : (opened : OpenedRequest) (o : Option ContactText) → joined (option_map (destination_of_contact opened) o) ≡ option_and_then (destination_of_contact opened) o
joined_map opened None = refl
joined_map opened (Some c) = refl

get_map : {X Y : Type 0} (f : X → Y) (xs : List X) (n : ℕ) → slice_get (map f xs) n ≡ option_map f (slice_get xs n)
get_map f [] n = refl
get_map f (x ∷ xs) zero = refl
get_map f (x ∷ xs) (suc n) = get_map f xs n

pub destinations_are : (opened : OpenedRequest) (cs : List ContactText) (rows : List Row) → filter_map (destination_for (map (destination_of_contact opened) cs)) rows ≡ destinations_of opened cs rows
destinations_are opened cs [] = refl
destinations_are opened cs (row ∷ rows) =
    let here : destination_for (map (destination_of_contact opened) cs) row ≡ destination_of_row opened cs row = ap joined (get_map (destination_of_contact opened) cs row.place) ∙ joined_map opened (slice_get cs row.place) in
    ap (λ (o : Option Destination). cons_option o (filter_map (destination_for (map (destination_of_contact opened) cs)) rows)) here
    ∙ ap (λ (ws : List Destination). cons_option (destination_of_row opened cs row) ws) (destinations_are opened cs rows)

-- ---- one destination that is taken

pub set_without : (destinations : List (Option Destination)) (place : ℕ) → slice_set destinations place None ≡ without destinations place
set_without [] place = refl
set_without (w ∷ destinations) zero = refl
set_without (w ∷ destinations) (suc place) = ap (λ (ws : List (Option Destination)). w ∷ ws) (set_without destinations place)

-- a row that is still to take its destination finds it
pub finds : (destinations : List (Option Destination)) (rows : List Row) (n place : ℕ) → option_map (λ row. row.place) (slice_get rows n) ≡ Some place → HaveDestinations destinations (drop n rows) → is_some (destination_in destinations place) ≡ true
finds destinations rows n place e have =
    let at = row_there rows n place e in
    let split : HaveDestinations destinations (at.0 ∷ drop (n + 1) rows) = subst (HaveDestinations destinations) at.2 have in
    ap (λ (p : ℕ). is_some (destination_in destinations p)) (sym at.1) ∙ split.each.0

-- the rows behind it
pub go_on : (destinations left : List (Option Destination)) (rows : List Row) (n place : ℕ) → option_map (λ row. row.place) (slice_get rows n) ≡ Some place
    → left ≡ without destinations place → HaveDestinations destinations (drop n rows) → HaveDestinations left (drop (n + 1) rows)
go_on destinations left rows n place e is have =
    let at = row_there rows n place e in
    let split : HaveDestinations destinations (at.0 ∷ drop (n + 1) rows) = subst (HaveDestinations destinations) at.2 have in
    subst (λ (ws : List (Option Destination)). HaveDestinations ws (drop (n + 1) rows)) (ap (without destinations) at.1 ∙ sym is) (left_behind destinations at.0 (drop (n + 1) rows) split)

-- its destination stands before theirs
pub one_more : (before now : List Destination) (destinations left : List (Option Destination)) (rows : List Row) (n place : ℕ) (destination : Destination) → option_map (λ row. row.place) (slice_get rows n) ≡ Some place
    → left ≡ without destinations place → HaveDestinations destinations (drop n rows) → destination_in destinations place ≡ Some destination → now ≡ before ++ destination ∷ []
    → now ++ filter_map (destination_for left) (drop (n + 1) rows) ≡ before ++ filter_map (destination_for destinations) (drop n rows)
one_more before now destinations left rows n place destination e is have there pushed =
    let at = row_there rows n place e in
    let rest = drop (n + 1) rows in
    let split : HaveDestinations destinations (at.0 ∷ rest) = subst (HaveDestinations destinations) at.2 have in
    let left_is : left ≡ without destinations at.0.place = is ∙ ap (without destinations) (sym at.1) in
    let here : destination_for destinations at.0 ≡ Some destination = ap (destination_in destinations) at.1 ∙ there in
    let first : filter_map (destination_for destinations) (drop n rows) ≡ destination ∷ filter_map (destination_for left) rest =
    ap (filter_map (destination_for destinations)) at.2 ∙ taken_first destinations at.0 rest destination split here
    ∙ ap (λ (ws : List (Option Destination)). destination ∷ filter_map (destination_for ws) rest) (sym left_is) in
    ap (λ (ws : List Destination). ws ++ filter_map (destination_for left) rest) pushed
    ∙ append_assoc before (destination ∷ []) (filter_map (destination_for left) rest)
    ∙ ap (λ (ws : List Destination). before ++ ws) (sym first)

pub one_branch_more : (before now : List (Option Branch)) (rows : List Row) (n place : ℕ) → option_map (λ row. row.place) (slice_get rows n) ≡ Some place
    → now ≡ before ++ None ∷ [] → now ++ map no_branch (drop (n + 1) rows) ≡ before ++ map no_branch (drop n rows)
one_branch_more before now rows n place e pushed =
    let at = row_there rows n place e in
    let rest = drop (n + 1) rows in
    ap (λ (ls : List (Option Branch)). ls ++ map no_branch rest) pushed
    ∙ append_assoc before (None ∷ []) (map no_branch rest)
    ∙ ap (λ (rs : List Row). before ++ map no_branch rs) (sym at.2)
