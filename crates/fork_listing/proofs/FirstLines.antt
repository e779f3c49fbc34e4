-- The first rank line of a fork's listing is that of the answer that goes up.
use Rattle.fork_listing.proofs.Common.{◌≡◌, List, subst, Row, Choice, Listing, final_of, listing_of, FirstLineIs, arith}
use Rattle.fork_listing.specs.Meaning.{TheChoiceIsFirst, row_chosen}
use Rattle.fork_listing.proofs.ListedForks.{in_order, all_listed, is_chosen}
use Rattle.fork_listing.proofs.Meanings.{listed, ranked, first, first_line}

chosen_is : (rows : List Row) (choice : Choice) → (final_of rows choice).number ≡ row_chosen choice
chosen_is rows choice = grind arith

pub the_choice_is_first : TheChoiceIsFirst
the_choice_is_first t at ranks choice arrivals ranking is =
    let l : Listing = listing_of t ranks choice in
    let order = in_order t at ranks choice arrivals ranking in
    subst (FirstLineIs ranks) (chosen_is t.rows choice)
    (first_line l (listed l order (all_listed t at ranks choice arrivals ranking)) (λ j k a b lt x y. ranked l order k j a b lt x y)
    (first l (is_chosen t choice is)))
