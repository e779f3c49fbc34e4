-- The contacts of a 3xx, gone through from the first.
use Rattle.fork_context.proofs.Common.{◌≡◌, ℕ, suc, ◌+◌, ◌-◌, ◌<◌, ◌≤◌, Bool, ◌||◌, List, [], ◌∷◌, ◌++◌, length, map, drop, get_or, Option, unwrap_or, refl, ap, arith, add-one, list_any, Offer, most_targets, ContactLists, taking_from, common_steps}
use Rattle.std.proofs.lemmas.List.{append_assoc, drop_more, length_push}
use Rattle.fork_model.specs.Contacts.{ContactOutcome, Known, Fresh, Left, outcome_of, keys_after, with_outcome}
use Rattle.fork_context.specs.inner.ContactsSoFar.{taken_more}

-- what is taken and left of two parts of a list
abbrev pub joined : ContactLists → ContactLists → ContactLists
joined a b = record { fresh = a.fresh ++ b.fresh; left = a.left ++ b.left }

pub list_any-map : {X Y : Type 0} (p : Y → Bool) (f : X → Y) (xs : List X) → list_any p (map f xs) ≡ list_any (λ x. p (f x)) xs
list_any-map p f [] = refl
list_any-map p f (x ∷ xs) = ap (λ b. p (f x) || b) (list_any-map p f xs)

-- a contact that becomes a target does so under its own key, and where there is room
record Fits (keys : List (List ℕ)) (offer : Option (List ℕ)) (key : List ℕ) : Type 0 where
  own : key ≡ unwrap_or offer []
  room : length keys < most_targets

abbrev IsFit : List (List ℕ) → Option (List ℕ) → ContactOutcome → Type 0
IsFit keys offer Known = Unit {0}
IsFit keys offer (Fresh key) = Fits keys offer key
IsFit keys offer Left = Unit {0}

fits : (keys : List (List ℕ)) (offer : Option (List ℕ)) → IsFit keys offer (outcome_of keys offer)
fits keys offer = grind arith

-- one contact further, what is taken so far has it, and the rest goes on with its key
joined_more : (place : ℕ) (offer : Offer) (outcome : ContactOutcome) (taken rest : ContactLists)
    → joined taken (with_outcome place offer outcome rest) ≡ joined (taken_more place offer outcome taken) rest
joined_more place offer outcome taken rest = grind (arith, common_steps, append_assoc)

-- the step of the loop over the contacts, where these are the keys of all targets before it and after it
pub taken_by_keys : (keys after : List (List ℕ)) (offers : List Offer) (place : ℕ) (offer : Offer) (taken more whole : ContactLists)
    → place < length offers → offer ≡ get_or offers place offer
    → more ≡ taken_more place offer (outcome_of keys offer.key) taken
    → after ≡ keys_after keys (outcome_of keys offer.key)
    → joined taken (taking_from keys place (drop place offers)) ≡ whole
    → joined more (taking_from after (place + 1) (drop (place + 1) offers)) ≡ whole
taken_by_keys keys after offers place offer taken more whole lt at is known so_far = grind (arith, common_steps, joined, drop_more, add-one, joined_more)

-- no more contacts become targets than there is room
few_more : (keys : List (List ℕ)) (place : ℕ) (offer : Offer) (outcome : ContactOutcome) (rest : ContactLists) → IsFit keys offer.key outcome
    → length rest.fresh ≤ most_targets - length (keys_after keys outcome) → length (with_outcome place offer outcome rest).fresh ≤ most_targets - length keys
few_more keys place offer outcome rest fit few = grind (arith, common_steps, length_push)

pub few_from : (keys : List (List ℕ)) (place : ℕ) (offers : List Offer) → length (taking_from keys place offers).fresh ≤ most_targets - length keys
few_from keys place [] = omega arith
few_from keys place (offer ∷ offers) =
    few_more keys place offer (outcome_of keys offer.key) (taking_from (keys_after keys (outcome_of keys offer.key)) (suc place) offers)
    (fits keys offer.key) (few_from (keys_after keys (outcome_of keys offer.key)) (suc place) offers)

pub few_taken : (keys : List (List ℕ)) (offers : List Offer) (taken : ContactLists) → taken ≡ taking_from keys 0 offers → length taken.fresh ≤ most_targets
few_taken keys offers taken e = grind (arith, common_steps, few_from)
