-- A worked fork: two groups at first, then a redirection with two more below the row that answers.
use Rattle.fork_model.proofs.Common.{ℕ, [], ◌∷◌, Some, Invite, Offer, Rules, Table, FinalAnswer, Answer, next, Target, opening}

target : ℕ → ℕ → Target
target key q = record { key = key ∷ []; q = q }

offer : ℕ → ℕ → Offer
offer key q = record { text = key ∷ []; q = q; key = Some (key ∷ []) }

usual : Rules
usual = record { preferred = []; depth = 3 }

-- one target goes first, then two together
three : Table
three = opening Invite usual (target 1 500 ∷ target 2 1000 ∷ target 3 500 ∷ [])

redirection : FinalAnswer
redirection = record { status = 302; offers = offer 4 700 ∷ offer 5 900 ∷ offer 6 900 ∷ []; challenges = [] }

busy : FinalAnswer
busy = record { status = 486; offers = []; challenges = [] }

redirected : Table
redirected = next three (Answer 0 redirection) 0

one_ended : Table
one_ended = next redirected (Answer 3 busy) 1

both_ended : Table
both_ended = next one_ended (Answer 4 busy) 2

all_ended : Table
all_ended = next both_ended (Answer 5 busy) 3
