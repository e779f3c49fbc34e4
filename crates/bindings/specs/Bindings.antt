-- The bindings of a user's address-of-record, and how the contacts of a REGISTER request change them (RFC 3261 section 10.3 step 7,
-- RFC 5626 section 6).
use Rattle.std.specs.Prelude.{ℕ, zero, suc, ◌+◌, ◌-◌, ◌*◌, ◌^◌, min, Bool, true, false, ◌&&◌, not, nat_lt, List, [], ◌∷◌, filter, fold, length, Option, Some, None, is_some, ◌==◌, if◌then◌else◌}
use Rattle.std.specs.Str.{bytes_eq}
use Rattle.sip_uri.specs.declared.hop.Hop.{Hop}

-- a contact, its texts as they were received
pub record Contact : Type 0 where
  -- without its `expires` parameters
  pub item : List ℕ
  pub uri : List ℕ
  -- decides whether two URIs are the same target (RFC 3261 section 19.1.4)
  pub key : List ℕ
  -- in thousandths
  pub q : ℕ
  -- the value of its parameter `+sip.instance`, which tells one telephone from all others (RFC 5626 section 4.1)
  pub instance : Option (List ℕ)
  -- that of its parameter `reg-id`, which tells the registrations of one telephone apart
  pub reg_id : Option (List ℕ)
  -- where a request to it is sent
  pub hop : Hop

pub record RequestId : Type 0 where
  pub call_id : List ℕ
  pub cseq : ℕ
  -- of its transaction, from its top Via value
  pub key : List ℕ

pub record Binding : Type 0 where
  pub contact : Contact
  -- the millisecond from which on it is not there
  pub ends : ℕ
  -- the request that made it
  pub by : RequestId

-- a contact of a request, with the seconds for which it is to be bound
pub record Asked : Type 0 where
  pub contact : Contact
  pub time : ℕ

pub record Register : Type 0 where
  pub id : RequestId
  -- the millisecond at which it came
  pub at : ℕ
  -- the fewest seconds for which a contact may be bound (section 10.3 step 7)
  pub least : ℕ
  -- where its Contact is `*`, the seconds of its Expires
  pub star : Option ℕ
  pub contacts : List Asked

-- ---- which contacts name the same binding

abbrev pub same_if_any : Option (List ℕ) → Option (List ℕ) → Bool
same_if_any (Some a) (Some b) = bytes_eq a b
same_if_any None None = true
same_if_any (Some a) None = false
same_if_any None (Some b) = false

abbrev pub same_place : Contact → Contact → Bool
same_place a b = bytes_eq a.key b.key && bytes_eq a.hop.addr b.hop.addr

-- by their instances where there are two, and else by their places
abbrev pub same_by : Option (List ℕ) → Option (List ℕ) → Bool → Bool → Bool
same_by (Some a) (Some b) same_reg_id same_place = bytes_eq a b && same_reg_id
same_by (Some a) None same_reg_id same_place = same_place
same_by None b same_reg_id same_place = same_place

-- One instance with one reg-id, or none; or, where one of the two has no instance, one key and one address.
abbrev pub same_binding : Contact → Contact → Bool
same_binding a b = same_by a.instance b.instance (same_if_any a.reg_id b.reg_id) (same_place a b)

abbrev pub names : Contact → Binding → Bool
names contact binding = same_binding contact binding.contact

abbrev pub same_request : RequestId → RequestId → Bool
same_request a b = bytes_eq a.call_id b.call_id && a.cseq == b.cseq && bytes_eq a.key b.key

abbrev pub is_by : RequestId → Binding → Bool
is_by id binding = same_request id binding.by

-- ---- which are there

abbrev pub is_there : ℕ → Binding → Bool
is_there moment binding = nat_lt moment binding.ends

abbrev pub there : ℕ → List Binding → List Binding
there moment bindings = filter (is_there moment) bindings

abbrev pub sooner : Option ℕ → ℕ → Option ℕ
sooner None moment = Some moment
sooner (Some other) moment = Some (min other moment)

abbrev pub sooner_if : Bool → Option ℕ → ℕ → Option ℕ
sooner_if true soonest moment = sooner soonest moment
sooner_if false soonest moment = soonest

-- when the first of those that pass ends
abbrev pub first_end : (Binding → Bool) → List Binding → Option ℕ
first_end test bindings = fold (λ soonest binding. sooner_if (test binding) soonest binding.ends) None bindings

-- ---- a contact

abbrev pub without_first : {X : Type 0} → (X → Bool) → List X → List X
without_first test [] = []
without_first test (x ∷ xs) = if test x then xs else x ∷ without_first test xs

-- in the place of the first that passes, or behind all
abbrev pub in_place : {X : Type 0} → (X → Bool) → X → List X → List X
in_place test new [] = new ∷ []
in_place test new (x ∷ xs) = if test x then new ∷ xs else x ∷ in_place test new xs

-- in the place of the first that its contact names, or behind all others
abbrev pub put : Binding → List Binding → List Binding
put new bindings = in_place (names new.contact) new bindings

-- its end as far as a word of 64 bits holds it
abbrev pub binding_of : Register → Asked → Binding
binding_of r asked = record { contact = asked.contact; ends = min (r.at + 1000 * asked.time) (2 ^ 64 - 1); by = r.id }

-- a contact that is to be bound for no time takes away what it names
abbrev pub after_binding : ℕ → List Binding → Binding → List Binding
after_binding moment bindings new = if is_there moment new then put new bindings else without_first (names new.contact) bindings

abbrev pub after_contact : Register → List Binding → Asked → List Binding
after_contact r bindings asked = after_binding r.at bindings (binding_of r asked)

-- ---- no more than sixteen

abbrev pub most : ℕ
most = 16

abbrev pub is_of_another : RequestId → Binding → Bool
is_of_another id binding = not (is_by id binding)

-- of those that other requests made, one that ends at that moment
abbrev pub ends_first : RequestId → Option ℕ → Binding → Bool
ends_first id None binding = false
ends_first id (Some moment) binding = is_of_another id binding && binding.ends == moment

abbrev pub goes : RequestId → List Binding → Binding → Bool
goes id bindings = ends_first id (first_end (is_of_another id) bindings)

-- so many fewer: each time the first in order of those that end first
abbrev pub fewer : RequestId → ℕ → List Binding → List Binding
fewer id zero bindings = bindings
fewer id (suc n) bindings = fewer id n (without_first (goes id bindings) bindings)

-- ---- a request

abbrev pub all_asked : Register → List Binding → List Binding
all_asked r bindings = fold (after_contact r) bindings r.contacts

abbrev pub at_most : RequestId → List Binding → List Binding
at_most id bindings = fewer id (length bindings - most) bindings

-- its contacts one after another; `*` names each binding
abbrev pub changed : Register → List Binding → List Binding
changed r bindings = if is_some r.star then [] else at_most r.id (all_asked r bindings)
