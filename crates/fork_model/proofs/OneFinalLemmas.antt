-- Exactly one final answer goes up: the event that ends the last branch brings it, and no other does.
use Rattle.fork_model.proofs.Common.{◌≡◌, ℕ, zero, suc, Bool, true, false, List, [], ◌∷◌, ◌++◌, map, Option, Some, None, refl, ap, ◌∙◌, sym, slice_get, not, ◌&&◌, ◌||◌, unwrap_or, nat_lt, option_map, list_any, Kind, Row, Table, State, Idle, Trying}
use Rattle.fork_model.proofs.Common.{Rung, Ended, Accepted, is_open, is_ended, is_finished, is_succeeded, effect, accepts, moves, with_effect, with_state, change_at, change, next, settled, settled_row, settled_state, Event, FinalAnswer, Ring, Answer}
use Rattle.fork_model.proofs.Common.{Choice, IsChoice, Up, Final, Reply, IsUp, IsReply, finishes, provisional, success, after, AreReplies, OneFinal, arith, rules}
use Rattle.fork_model.specs.Table.{is_accepted}
use Rattle.fork_model.specs.Reply.{success_goes_up}
use Rattle.fork_model.specs.History.{with_final, finals}
use Rattle.fork_model.proofs.EndedRows.{ended_same, no_effect, next_same, next_finished, next_rules}

-- a test of states that settling keeps
abbrev pub Kept : (State → Bool) → Type 0
Kept test = (t : Table) (row : Row) → test row.state ≡ true → test (settled_state t row) ≡ true

or_true : (b : Bool) → (b || true) ≡ true
or_true b = grind arith

or_step : (here rest here' rest' : Bool) → (here ≡ true → here' ≡ true) → (rest ≡ true → rest' ≡ true) → (here || rest) ≡ true → (here' || rest') ≡ true
or_step here rest here' rest' h r e = grind arith

any_settled : (test : State → Bool) → Kept test → (t : Table) (rows : List Row) → list_any (λ row. test row.state) rows ≡ true
    → list_any (λ row. test row.state) (map (settled_row t) rows) ≡ true
any_settled test kept t [] e = e
any_settled test kept t (row ∷ rows) e =
    or_step (test row.state) (list_any (λ row. test row.state) rows) (test (settled_state t row)) _ (kept t row) (λ h. any_settled test kept t rows h) e

any_put : (test : State → Bool) (rows more : List Row) (n : ℕ) (row : Row) (state : State) → slice_get rows n ≡ Some row → test state ≡ true
    → list_any (λ row. test row.state) (with_state rows n state ++ more) ≡ true
any_put test [] more n row state is e = absurd cc
any_put test (x ∷ rows) more zero row state is e = ap (λ b. b || list_any (λ row. test row.state) (rows ++ more)) e
any_put test (x ∷ rows) more (suc n) row state is e = grind (arith, any_put test rows more n row state is e)

any_at : (test : State → Bool) (rows : List Row) (n : ℕ) (row : Row) → slice_get rows n ≡ Some row → test row.state ≡ true
    → list_any (λ row. test row.state) rows ≡ true
any_at test [] n row is e = absurd cc
any_at test (x ∷ rows) zero row is e = grind arith
any_at test (x ∷ rows) (suc n) row is e = grind (arith, any_at test rows n row is e)

-- an accepted branch stays accepted
accepted_ended : (state : State) → is_accepted state ≡ true → is_ended state ≡ true
accepted_ended state e = grind arith

accepted_kept : Kept is_accepted
accepted_kept t row e = ap is_accepted (ended_same t row (accepted_ended row.state e)) ∙ e

open_kept : Kept is_open
open_kept t row e = grind arith

pub open_unfinished : (rows : List Row) → list_any (λ row. is_open row.state) rows ≡ true → is_finished rows ≡ false
open_unfinished [] e = absurd cc
open_unfinished (row ∷ rows) e = go row.state (list_any (λ row. is_open row.state) rows) e (λ h. open_unfinished rows h)
  where
    go : (state : State) (rest : Bool) → (is_open state || rest) ≡ true → (rest ≡ true → is_finished rows ≡ false) → (is_ended state && is_finished rows) ≡ false
    go Idle rest e ih = refl
    go Trying rest e ih = refl
    go (Rung cancelled) rest e ih = refl
    go (Ended end) rest e ih = ih e

-- where a 2xx goes up, some branch is accepted
effect_2xx : (t : Table) (row : Row) (n at : ℕ) (a : FinalAnswer) (state : State) → is_open state ≡ true → nat_lt a.status 300 ≡ true
    → effect t row at (Answer n a) state ≡ Some (accepts at)
effect_2xx t row n at a state o lt = grind arith

success_open : (t : Table) (n at : ℕ) (a : FinalAnswer) (row : Row) → slice_get t.rows n ≡ Some row → is_open row.state ≡ true → nat_lt a.status 300 ≡ true
    → is_succeeded (next t (Answer n a) at).rows ≡ true
success_open t n at a row there o lt =
    let made : change t (Answer n a) at ≡ Some (with_effect t n (accepts at)) =
    ap (change_at t at (Answer n a) n) there ∙ ap (option_map (with_effect t n)) (effect_2xx t row n at a row.state o lt) in
    let u : Table = with_effect t n (accepts at) in
    ap (λ (c : Option Table). is_succeeded (unwrap_or (option_map settled c) t).rows) made
    ∙ any_settled is_accepted accepted_kept u u.rows (any_put is_accepted t.rows [] n row (Ended (Accepted at)) there refl)

success_again : (t : Table) (n at : ℕ) (a : FinalAnswer) (row : Row) → slice_get t.rows n ≡ Some row → is_accepted row.state ≡ true
    → is_succeeded (next t (Answer n a) at).rows ≡ true
success_again t n at a row there acc =
    let none : change t (Answer n a) at ≡ None =
    ap (change_at t at (Answer n a) n) there ∙ ap (option_map (with_effect t n)) (no_effect t row at (Answer n a) row.state (accepted_ended row.state acc)) in
    ap (λ (u : Table). is_succeeded u.rows) (next_same t (Answer n a) at none) ∙ any_at is_accepted t.rows n row there acc

success_row : (t : Table) (n at : ℕ) (a : FinalAnswer) (row : Row) → slice_get t.rows n ≡ Some row → nat_lt a.status 300 ≡ true
    → (o acc : Bool) → is_open row.state ≡ o → is_accepted row.state ≡ acc → (o || acc) ≡ true → is_succeeded (next t (Answer n a) at).rows ≡ true
success_row t n at a row there lt o acc oe ae e = grind (arith, success_open, success_again)

goes_up_succeeds : (t : Table) (n at : ℕ) (a : FinalAnswer) (kind : Kind) (row : Option Row) → slice_get t.rows n ≡ row → nat_lt a.status 300 ≡ true
    → success_goes_up t kind row ≡ true → is_succeeded (next t (Answer n a) at).rows ≡ true
goes_up_succeeds t n at a kind row there lt e = grind (arith, success_row)

pub success_succeeds : (t : Table) (event : Event) (at m : ℕ) → success t event ≡ Some m → is_succeeded (next t event at).rows ≡ true
success_succeeds t event at m is = grind (arith, goes_up_succeeds)

-- a provisional answer ends no branch
ring_unfinished : (t : Table) (n status at : ℕ) → is_finished t.rows ≡ false → is_finished (next t (Ring n status) at).rows ≡ false
ring_unfinished t n status at f = of_row (slice_get t.rows n) refl
  where
    kept : change t (Ring n status) at ≡ None → is_finished (next t (Ring n status) at).rows ≡ false
    kept none = ap (λ (u : Table). is_finished u.rows) (next_same t (Ring n status) at none) ∙ f

    by_state : (row : Row) (state : State) → row.state ≡ state → slice_get t.rows n ≡ Some row → is_finished (next t (Ring n status) at).rows ≡ false
    by_state row Idle is there =
        kept (ap (change_at t at (Ring n status) n) there ∙ ap (λ (s : State). option_map (with_effect t n) (effect t row at (Ring n status) s)) is)
    by_state row (Rung cancelled) is there =
        kept (ap (change_at t at (Ring n status) n) there ∙ ap (λ (s : State). option_map (with_effect t n) (effect t row at (Ring n status) s)) is)
    by_state row (Ended end) is there =
        kept (ap (change_at t at (Ring n status) n) there ∙ ap (λ (s : State). option_map (with_effect t n) (effect t row at (Ring n status) s)) is)
    by_state row Trying is there =
        let made : change t (Ring n status) at ≡ Some (with_effect t n (moves (Rung false))) =
        ap (change_at t at (Ring n status) n) there ∙ ap (λ (s : State). option_map (with_effect t n) (effect t row at (Ring n status) s)) is in
        let u : Table = with_effect t n (moves (Rung false)) in
        ap (λ (c : Option Table). is_finished (unwrap_or (option_map settled c) t).rows) made
        ∙ open_unfinished (map (settled_row u) u.rows) (any_settled is_open open_kept u u.rows (any_put is_open t.rows [] n row (Rung false) there refl))

    of_row : (row : Option Row) → slice_get t.rows n ≡ row → is_finished (next t (Ring n status) at).rows ≡ false
    of_row None there = kept (ap (change_at t at (Ring n status) n) there)
    of_row (Some row) there = by_state row row.state refl there

pub provisional_unfinished : (t : Table) (event : Event) (at m : ℕ) → provisional t event ≡ Some m → is_finished t.rows ≡ false
    → is_finished (next t event at).rows ≡ false
provisional_unfinished t event at m is f = grind (arith, ring_unfinished)

-- whatever follows at a finished table
pub rows_stay : (t : Table) (at : ℕ) (events : List Event) → is_finished t.rows ≡ true → (after t at events).rows ≡ t.rows
rows_stay t at [] f = refl
rows_stay t at (event ∷ events) f =
    let same : (next t event at).rows ≡ t.rows = next_finished t event at f in
    rows_stay (next t event at) (suc at) events (ap is_finished same ∙ f) ∙ same

pub rules_stay : (t : Table) (at : ℕ) (events : List Event) → (after t at events).rules ≡ t.rules
rules_stay t at [] = refl
rules_stay t at (event ∷ events) = rules_stay (next t event at) (suc at) events ∙ next_rules t event at

no_final : (t u : Table) (event : Event) (up : Up) (choices : List Choice) → IsUp t event u up → is_finished t.rows ≡ true → with_final up choices ≡ choices
no_final t u event up choices is f = grind arith

pub nothing_final_follows : (t : Table) (at : ℕ) (events : List Event) (replies : List Reply) → AreReplies t at events replies → is_finished t.rows ≡ true
    → finals replies ≡ []
nothing_final_follows t at [] [] are f = refl
nothing_final_follows t at [] (reply ∷ replies) are f = absurd are
nothing_final_follows t at (event ∷ events) [] are f = absurd are
nothing_final_follows t at (event ∷ events) (reply ∷ replies) are f =
    let same : (next t event at).rows ≡ t.rows = next_finished t event at f in
    no_final t (next t event at) event reply.up (finals replies) are.0.up f
    ∙ nothing_final_follows (next t event at) (suc at) events replies are.1 (ap is_finished same ∙ f)

differ : {b : Bool} → b ≡ true → b ≡ false → ⊥
differ h k = cc

-- the event after which the table is finished: its reply is final
last_event : (t u : Table) (event : Event) (up : Up) → IsUp t event u up → (choices : List Choice) → choices ≡ []
    → ((m : ℕ) → provisional t event ≡ Some m → is_finished u.rows ≡ false) → ((m : ℕ) → success t event ≡ Some m → is_succeeded u.rows ≡ true)
    → is_finished t.rows ≡ false → is_finished u.rows ≡ true → is_succeeded u.rows ≡ false
    → (choice : Choice) × (with_final up choices ≡ choice ∷ []) × IsChoice u.rules u.rows choice
last_event t u event up is choices none rings succeeds f done not_succ = grind arith

finished_of : (done before succeeded : Bool) → (done && not before && not succeeded) ≡ true → (done ≡ true) × (before ≡ false) × (succeeded ≡ false)
finished_of done before succeeded e = grind arith

pub final_at_the_end : (t : Table) (event : Event) (at : ℕ) (reply : Reply) → IsReply t event at reply → finishes t (next t event at) ≡ true
    → (choice : Choice) × (reply.up ≡ Final choice) × IsChoice (next t event at).rules (next t event at).rows choice
final_at_the_end t event at reply is done = grind (arith, finished_of, provisional_unfinished, success_succeeds)

pub final_at_the_end_alone : (t : Table) (event : Event) (at : ℕ) (reply : Reply) (choice : Choice) → IsReply t event at reply → reply.up ≡ Final choice
    → (finishes t (next t event at) ≡ true) × IsChoice (next t event at).rules (next t event at).rows choice
final_at_the_end_alone t event at reply choice is same = grind arith

-- an event after which it is not: nothing final goes up
other_event : (t u : Table) (event : Event) (up : Up) → IsUp t event u up → (choices : List Choice) → is_finished u.rows ≡ false → with_final up choices ≡ choices
other_event t u event up is choices f = grind arith

-- a table that is unfinished after events was so before them
pub was_unfinished : (t : Table) (at : ℕ) (events : List Event) → is_finished (after t at events).rows ≡ false → is_finished t.rows ≡ false
was_unfinished t at events f = grind (arith, rows_stay)

pub no_final_before : (t : Table) (at : ℕ) (events : List Event) (replies : List Reply) → AreReplies t at events replies
    → is_finished (after t at events).rows ≡ false → finals replies ≡ []
no_final_before t at [] [] are f = refl
no_final_before t at [] (reply ∷ replies) are f = absurd are
no_final_before t at (event ∷ events) [] are f = absurd are
no_final_before t at (event ∷ events) (reply ∷ replies) are f = grind (arith, was_unfinished, no_final_before (next t event at) (suc at) events replies are.1 f)

-- what a choice rests on
choice_moved : (t u : Table) (choice : Choice) → u.rules ≡ t.rules → u.rows ≡ t.rows → IsChoice t.rules t.rows choice → IsChoice u.rules u.rows choice
choice_moved t u choice rules rows is = grind arith

pub one_final : (t : Table) (at : ℕ) (events : List Event) (replies : List Reply) → AreReplies t at events replies
    → is_finished t.rows ≡ false → is_finished (after t at events).rows ≡ true → is_succeeded (after t at events).rows ≡ false
    → OneFinal (after t at events) replies
one_final t at [] [] are f done succ = absurd (differ done f)
one_final t at [] (reply ∷ replies) are f done succ = absurd are
one_final t at (event ∷ events) [] are f done succ = absurd are
one_final t at (event ∷ events) (reply ∷ replies) are f done succ =
    go (is_finished (next t event at).rows) refl (λ unfinished. one_final (next t event at) (suc at) events replies are.1 unfinished done succ)
  where
    u : Table
    u = next t event at

    end : Table
    end = after (next t event at) (suc at) events

    go : (b : Bool) → is_finished (next t event at).rows ≡ b → (is_finished (next t event at).rows ≡ false → OneFinal end replies) → OneFinal end (reply ∷ replies)
    go false is later =
        let rest = later is in
        (rest.0, other_event t (next t event at) event reply.up are.0.up (finals replies) is ∙ rest.1, rest.2)
    go true is later =
        let none = nothing_final_follows (next t event at) (suc at) events replies are.1 is in
        let rows = rows_stay (next t event at) (suc at) events is in
        let not_succ : is_succeeded (next t event at).rows ≡ false = ap is_succeeded (sym rows) ∙ succ in
        let one =
        last_event t (next t event at) event reply.up are.0.up (finals replies) none (λ m p. provisional_unfinished t event at m p f) (λ m s. success_succeeds t event at m s) f is not_succ in
        (one.0, one.1, choice_moved (next t event at) (after (next t event at) (suc at) events) one.0 (rules_stay (next t event at) (suc at) events) rows one.2)

pub no_final_beside_success : (t : Table) (at : ℕ) (events : List Event) (replies : List Reply) → AreReplies t at events replies
    → is_succeeded (after t at events).rows ≡ true → finals replies ≡ []
no_final_beside_success t at [] [] are succ = refl
no_final_beside_success t at [] (reply ∷ replies) are succ = absurd are
no_final_beside_success t at (event ∷ events) [] are succ = absurd are
no_final_beside_success t at (event ∷ events) (reply ∷ replies) are succ = grind (arith, rows_stay, no_final_beside_success (next t event at) (suc at) events replies are.1 succ)
