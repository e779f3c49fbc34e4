-- The first answer that is owed, as it is sent.
use Rattle.call_state.proofs.Common.{◌≡◌, ◌∙◌, ◌++◌, ℕ, ap, refl, sym, subst, true, false, Bool, List, [], ◌∷◌, map, drop, filter, Option, Some, None, slice_get, ◌&&◌, ◌==◌, Result, Ok, Err, IfOk, cond, length, nat_lt, cons_option}
use Rattle.call_state.proofs.Common.{flat_map, list_all, option_and_then, and_from, and_parts, cond-true, list_all-append, Core, numbers_below, Best, stored_at, Challenge, Offer, Row, StoredAnswer, Table, stored_of, IsChosen, left_of, Log}
use Rattle.call_state.proofs.Common.{core_of, table_of, is_value, MessageText, is_challenge, IsPaid, IsText, answer_in, kept_at, text_of, was_received, Call, nth_branch, rows_of, Branch, AnswersWith, Pumped, SendsAnswer, Owed, IsForward, IsSound}
use Rattle.call_state.proofs.Common.{StoresValues, is_text, BuiltResponse}
use Rattle.std.proofs.Common.{option_map}
use Rattle.std.specs.List.{filter_map}
use Rattle.fork_model.specs.Challenges.{added_to, asks_credentials, by_arrival, challenge_list, other_askers, stored_beside, with_arrival}
use Rattle.fork_context.specs.LeftView.{left_of_answer}
use Rattle.sip_build.specs.declared.responses.OwnStatus.TheVariants as own
use Rattle.sip_build.specs.Upward.{upward_of}
use Rattle.fork_model.specs.Chosen.{HasFirst}
use Rattle.call_model.specs.Behind.{KeepsAnswers}
use Rattle.call_model.specs.Built.{best_of, final_of, generated, kept_of}
use Rattle.call_model.specs.Server as server
use Rattle.call_state.specs.declared.answers.BuiltResponse.TheVariants as built_response
use Rattle.call_model.proofs.laws.RightDatagrams.{some_as}

-- ---- the response that a branch keeps may go up

pub forward_of : (call : Call) (n : ℕ) (m : MessageText) → IsSound call → answer_in (nth_branch call n) ≡ Some m → IsForward m
forward_of call n m sound e = by (nth_branch call n) refl e
  where
    by : (o : Option Branch) → nth_branch call n ≡ o → answer_in o ≡ Some m → IsForward m
    by None h k = absurd cc
    by (Some branch) h k = some_as IsForward branch.answer m k (sound.branches n branch h).answer

-- where the answer of the choice came, its branch keeps it
pub has_kept : (call : Call) (n : ℕ) → KeepsAnswers call → IsChosen (table_of call.log) (Some (Best n)) → was_received (stored_at (slice_get (rows_of call) n)) ≡ true
    → answer_in (nth_branch call n) ≡ None → ⊥
has_kept call n answers chosen received none = by_row (slice_get (rows_of call) n) refl received
  where
    first : HasFirst (table_of call.log) n
    first = (chosen.1.0, chosen.1.1)

    by_answer : (row : Row) → slice_get (rows_of call) n ≡ Some row → (o : Option StoredAnswer) → stored_of row.state ≡ o → was_received o ≡ true → ⊥
    by_answer row there None is e = absurd cc
    by_answer row there (Some a) is e =
        let kept = answers n a (row, there, is) e first in
        absurd (let h : None ≡ Some kept.0 = sym none ∙ kept.1 in cc)

    by_row : (o : Option Row) → slice_get (rows_of call) n ≡ o → was_received (stored_at o) ≡ true → ⊥
    by_row None there e = absurd cc
    by_row (Some row) there e = by_answer row there (stored_of row.state) refl e

-- ---- challenges

abbrev asks_well : StoredAnswer → Bool
asks_well stored = list_all is_challenge stored.challenges

-- what is stored beside row n challenges well
beside_pass : (t : Table) (n : ℕ) → StoresValues t → (ms : List ℕ) → list_all asks_well (filter_map (stored_beside t.rows n) ms) ≡ true
beside_pass t n values [] = refl
beside_pass t n values (m ∷ ms) = by (beside_pass t n values ms) (stored_beside t.rows n m) (λ s. by_number (m == n) s)
  where
    by_row : (o : Option Row) → slice_get t.rows m ≡ o → (s : StoredAnswer) → stored_at o ≡ Some s → asks_well s ≡ true
    by_row None is s h = absurd cc
    by_row (Some row) is s h = (values m s (row, is, h)).1

    by_number : (b : Bool) (s : StoredAnswer) → cond {A = Option StoredAnswer} b None (stored_at (slice_get t.rows m)) ≡ Some s → asks_well s ≡ true
    by_number true s h = absurd cc
    by_number false s h = by_row (slice_get t.rows m) refl s h

    by : list_all asks_well (filter_map (stored_beside t.rows n) ms) ≡ true → (o : Option StoredAnswer) → ((s : StoredAnswer) → o ≡ Some s → asks_well s ≡ true) → list_all asks_well (cons_option o (filter_map (stored_beside t.rows n) ms)) ≡ true
    by rest None well = rest
    by rest (Some s) well = and_from (asks_well s) (list_all asks_well (filter_map (stored_beside t.rows n) ms)) (well s refl) rest

filter_pass : (q : StoredAnswer → Bool) (xs : List StoredAnswer) → list_all asks_well xs ≡ true → list_all asks_well (filter q xs) ≡ true
filter_pass q [] h = refl
filter_pass q (x ∷ xs) h =
    let each = and_parts (asks_well x) (list_all asks_well xs) h in
    by (q x) each.0 (filter_pass q xs each.1)
  where
    by : (b : Bool) → asks_well x ≡ true → list_all asks_well (filter q xs) ≡ true → list_all asks_well (cond {A = List StoredAnswer} b (x ∷ filter q xs) (filter q xs)) ≡ true
    by true k l = and_from (asks_well x) (list_all asks_well (filter q xs)) k l
    by false k l = l

with_pass : (a : StoredAnswer) (xs : List StoredAnswer) → asks_well a ≡ true → list_all asks_well xs ≡ true → list_all asks_well (with_arrival a xs) ≡ true
with_pass a [] k h = and_from (asks_well a) true k refl
with_pass a (x ∷ xs) k h =
    let each = and_parts (asks_well x) (list_all asks_well xs) h in
    by each.0 (with_pass a xs k each.1) (nat_lt a.arrival x.arrival)
  where
    by : asks_well x ≡ true → list_all asks_well (with_arrival a xs) ≡ true → (b : Bool) → list_all asks_well (cond {A = List StoredAnswer} b (a ∷ x ∷ xs) (x ∷ with_arrival a xs)) ≡ true
    by l rest true = and_from (asks_well a) (list_all asks_well (x ∷ xs)) k h
    by l rest false = and_from (asks_well x) (list_all asks_well (with_arrival a xs)) l rest

arrival_pass : (xs : List StoredAnswer) → list_all asks_well xs ≡ true → list_all asks_well (by_arrival xs) ≡ true
arrival_pass [] h = refl
arrival_pass (x ∷ xs) h =
    let each = and_parts (asks_well x) (list_all asks_well xs) h in
    with_pass x (by_arrival xs) each.0 (arrival_pass xs each.1)

flat_pass : (xs : List StoredAnswer) → list_all asks_well xs ≡ true → list_all is_challenge (flat_map (λ (a : StoredAnswer). a.challenges) xs) ≡ true
flat_pass [] h = refl
flat_pass (x ∷ xs) h =
    let each = and_parts (asks_well x) (list_all asks_well xs) h in
    list_all-append is_challenge x.challenges (flat_map (λ (a : StoredAnswer). a.challenges) xs)
    ∙ and_from (asks_well x) (list_all is_challenge (flat_map (λ (a : StoredAnswer). a.challenges) xs)) each.0 (flat_pass xs each.1)

pub challenges_pass : (t : Table) (n : ℕ) → StoresValues t → list_all is_challenge (challenge_list t.rows (Best n)) ≡ true
challenges_pass t n values = by (stored_at (slice_get t.rows n))
  where
    pass : (b : Bool) → list_all is_challenge (cond {A = List Challenge} b (flat_map (λ (a : StoredAnswer). a.challenges) (by_arrival (other_askers t.rows n))) []) ≡ true
    pass true =
        flat_pass (by_arrival (other_askers t.rows n)) (arrival_pass (other_askers t.rows n)
        (filter_pass asks_credentials (filter_map (stored_beside t.rows n) (numbers_below (length t.rows))) (beside_pass t n values (numbers_below (length t.rows)))))
    pass false = refl

    by : (o : Option StoredAnswer) → list_all is_challenge (added_to t.rows n o) ≡ true
    by None = refl
    by (Some chosen) = pass (asks_credentials chosen)

-- those that a context adds to none
pub challenges_all : (log : Log) (n : ℕ) (context : Core) (old all : List Challenge) → context ≡ core_of log
    → (IsChosen context.table (Some (Best n)) → all ≡ old ++ challenge_list context.table.rows (Best n))
    → IsChosen (table_of log) (Some (Best n)) → old ≡ [] → all ≡ challenge_list (table_of log).rows (Best n)
challenges_all log n context old all stands added chosen empty =
    let C : Core → Type 0 = λ x. IsChosen x.table (Some (Best n)) in
    added (subst C (sym stands) chosen)
    ∙ ap (λ (cs : List Challenge). cs ++ challenge_list context.table.rows (Best n)) empty
    ∙ ap (λ (x : Core). challenge_list x.table.rows (Best n)) stands

-- ---- contacts

abbrev pub texts_in : List Offer → List (List ℕ)
texts_in offers = map text_of offers

left_texts : (answer : StoredAnswer) → answer.received ≡ true → kept_of answer ≡ option_map texts_in (left_of_answer answer)
left_texts answer e = by answer.received (nat_lt answer.status 400) e
  where
    by : (r b : Bool) → r ≡ true → cond {A = Option (List (List ℕ))} b (Some (map text_of answer.left)) None ≡ option_map texts_in (cond {A = Option (List Offer)} (r && b) (Some answer.left) None)
    by true true h = refl
    by true false h = refl
    by false b h = absurd cc

pub kept_left : (row : Option Row) → was_received (stored_at row) ≡ true → kept_at (stored_at row) ≡ option_map texts_in (option_and_then left_of row)
kept_left None e = absurd cc
kept_left (Some row) e = by (stored_of row.state) e
  where
    by : (o : Option StoredAnswer) → was_received o ≡ true → kept_at o ≡ option_map texts_in (option_and_then left_of_answer o)
    by None h = absurd cc
    by (Some answer) h = left_texts answer h

pub texts_pass : (offers : List Offer) → list_all is_text offers ≡ true → list_all is_value (texts_in offers) ≡ true
texts_pass [] h = refl
texts_pass (o ∷ os) h =
    let each = and_parts (is_text o) (list_all is_text os) h in
    and_from (is_text o) (list_all is_value (texts_in os)) each.0 (texts_pass os each.1)

-- the contacts left of a row are values
pub left_pass : (t : Table) (n : ℕ) (left : List Offer) → StoresValues t → option_and_then left_of (slice_get t.rows n) ≡ Some left → list_all is_text left ≡ true
left_pass t n left values e = by_row (slice_get t.rows n) refl e
  where
    by_bool : (answer : StoredAnswer) (b : Bool) → list_all is_text answer.left ≡ true → cond {A = Option (List Offer)} b (Some answer.left) None ≡ Some left → list_all is_text left ≡ true
    by_bool answer true h k = let same : answer.left ≡ left = cc in subst (λ (l : List Offer). list_all is_text l ≡ true) same h
    by_bool answer false h k = absurd cc

    by_stored : (row : Row) → slice_get t.rows n ≡ Some row → (o : Option StoredAnswer) → stored_of row.state ≡ o → option_and_then left_of_answer o ≡ Some left → list_all is_text left ≡ true
    by_stored row is None h k = absurd cc
    by_stored row is (Some answer) h k = by_bool answer (answer.received && nat_lt answer.status 400) (values n answer (row, is, h)).0 k

    by_row : (o : Option Row) → slice_get t.rows n ≡ o → option_and_then left_of o ≡ Some left → list_all is_text left ≡ true
    by_row None h k = absurd cc
    by_row (Some row) h k = by_stored row h (stored_of row.state) refl k

-- ---- what is sent

module _ {A : Type 0} where
  abbrev pub IsAnswer : BuiltResponse A → Type 0
  IsAnswer (built_response.Sent d) = ⊥
  IsAnswer (built_response.Answer status text) = Unit {0}

  -- an answer that the server transaction takes
  pub paid_text : (call new : Call) (now : ℕ) (owed : List Owed) (paid : BuiltResponse A) (p : Pumped)
      → IsAnswer paid
      → IsPaid call owed paid
      → ((m : MessageText) → IsText m paid → AnswersWith call now (drop 1 owed) (Some m) p new)
      → SendsAnswer call now owed p new
  paid_text call new now owed (built_response.Sent d) p is h f = absurd is
  paid_text call new now [] (built_response.Answer status text) p is h f = absurd h
  paid_text call new now (server.Again ∷ rest) (built_response.Answer status text) p is h f = absurd h
  paid_text call new now (server.CancelOk cancel to ∷ rest) (built_response.Answer status text) p is h f = absurd h
  paid_text call new now (server.Trying ∷ rest) (built_response.Answer status text) p is h f = f (generated call.opened own.Trying) h
  paid_text call new now (server.Passed m ∷ rest) (built_response.Answer status text) p is h f = f (upward_of m None []) h
  paid_text call new now (server.Final choice ∷ rest) (built_response.Answer status text) p is h f = f (final_of call choice) h

pub if_ok : {X E : Type 0} {P Q : X → Type 0} → ((x : X) → P x → Q x) → (r : Result X E) → IfOk r P → IfOk r Q
if_ok f (Ok x) h = f x h
if_ok f (Err e) h = tt

-- ---- the response of a branch as it goes up

pub best_made : (call : Call) (n : ℕ) (response : MessageText) (kept : Option (List (List ℕ))) (challenges : List Challenge)
    → answer_in (nth_branch call n) ≡ Some response
    → was_received (stored_at (slice_get (rows_of call) n)) ≡ true
    → kept_at (stored_at (slice_get (rows_of call) n)) ≡ kept
    → challenge_list (rows_of call) (Best n) ≡ challenges
    → upward_of response kept challenges ≡ best_of call n (answer_in (nth_branch call n))
best_made call n response kept challenges there received keeps asks =
    sym (ap (best_of call n) there ∙ cond-true _ _ _ received
    ∙ ap (λ (k : Option (List (List ℕ))). upward_of response k (challenge_list (rows_of call) (Best n))) keeps
    ∙ ap (upward_of response kept) asks)
