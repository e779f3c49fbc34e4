-- What is chosen where each target was answered once.
use Rattle.std.proofs.Common.{◌≡◌, ◌≢◌, ℕ, zero, suc, ◌+◌, ◌<◌, ◌≤◌, ◌==◌, ◌⊎◌, inl, inr, Bool, true, false, cond, ◌&&◌, ◌||◌, nat_lt, All, slice_index_or, List, [], ◌∷◌, ◌++◌, length, map, Option, Some, None, slice_get, refl, ap, arith, ◌∙◌, sym, subst}
use Rattle.std.specs.Prelude.{filter_map}
use Rattle.std.specs.List.{list_any, cons_option}
use Rattle.std.specs.Option.{option_map}
use Rattle.std.proofs.lemmas.Bool.Decides.{nat_tests}
use Rattle.fork_model.specs.Table.{Kind, Rules, State, Trying, Row, is_ended, is_accepted, is_finished, is_succeeded}
use Rattle.fork_model.specs.Event.{Event, Ring, Answer, Timeout, Fault, TimerC, GiveUp, Cancel}
use Rattle.fork_model.specs.Groups.{with_q, falling, places_of, in_group, numbered, numbered_from}
use Rattle.fork_model.specs.Rank.{Score, Before, rank_of, class_of, part_of}
use Rattle.fork_model.specs.Choice.{Best, Only503, NoAnswer408, score_of, stored_at, HasScore, IsFirst}
use Rattle.fork_model.specs.History.{Target, first_row, opening_rows, opening, table}
use Rattle.fork_model.specs.Steps.{BranchesAlwaysGoOn, EachTargetHasARow}
use Rattle.fork_model.specs.Log.{Posted, events_of}
use Rattle.fork_engine.specs.Interleaving.{IsInterleaving}
use Rattle.fork_engine.specs.Plain.{all_of, HaveOneQ, IsPlainAnswer, is_answer, count_of, answers_of, IsAnswered, GoesFirst, AreEqual, IsNotBefore, IsLeast, PlainScripts, LeastIsChosen, PlainScriptsEnd}
use Rattle.fork_engine.proofs.Plainly.{all_head, all_tail, is_fixed, AreFixed, Stores, IsStoredIn, AreWaited, OnceEach, each_stored}
use Rattle.fork_engine.proofs.Counted.{all_scripts, all_history, count_mixed}

-- ---- the opening table of one group

one_value : (q : ℕ) (targets : List Target) → All (λ (target : Target). target.q ≡ q) targets
    → (falling (map (λ (target : Target). target.q) targets) ≡ []) ⊎ (falling (map (λ (target : Target). target.q) targets) ≡ q ∷ [])
one_value q [] all = inl refl
one_value q (target ∷ targets) all =
    let is : target.q ≡ q = all_head (λ (t : Target). t.q ≡ q) target targets all in
    inr (ap (λ (x : ℕ). with_q x (falling (map (λ (t : Target). t.q) targets))) is ∙ go (one_value q targets (all_tail (λ (t : Target). t.q ≡ q) target targets all)))
  where
    go : (falling (map (λ (t : Target). t.q) targets) ≡ []) ⊎ (falling (map (λ (t : Target). t.q) targets) ≡ q ∷ [])
        → with_q q (falling (map (λ (t : Target). t.q) targets)) ≡ q ∷ []
    go (inl none) = ap (with_q q) none
    go (inr one) =
        let same : (q == q) ≡ true = grind (arith, nat_tests) in
        ap (with_q q) one ∙ ap (λ b. cond b (q ∷ []) (cond (nat_lt q q) (q ∷ q ∷ []) (q ∷ q ∷ []))) same

abbrev AllZero : List (ℕ × ℕ) → Type 0
AllZero [] = Unit {0}
AllZero (p ∷ ps) = (p.0 ≡ 0) × AllZero ps

in_zero : (places : List ℕ) → AllZero (in_group 0 places ++ [])
in_zero [] = tt
in_zero (place ∷ places) = (refl, in_zero places)

numbered_zero : (qs : List ℕ) (q : ℕ) → (falling qs ≡ []) ⊎ (falling qs ≡ q ∷ []) → AllZero (numbered qs)
numbered_zero qs q (inl none) = subst (λ (fs : List ℕ). AllZero (numbered_from 0 (map (places_of qs) fs))) (sym none) tt
numbered_zero qs q (inr one) = subst (λ (fs : List ℕ). AllZero (numbered_from 0 (map (places_of qs) fs))) (sym one) (in_zero (places_of qs q))

abbrev AreTrying : List Row → Type 0
AreTrying [] = Unit {0}
AreTrying (row ∷ rows) = (row.state ≡ Trying) × AreTrying rows

trying_made : (targets : List Target) (ps : List (ℕ × ℕ)) → AllZero ps → AreTrying (filter_map (λ (p : ℕ × ℕ). option_map (first_row p.0 p.1) (slice_get targets p.1)) ps)
trying_made targets [] z = tt
trying_made targets (p ∷ ps) z = go p.0 z.0 (slice_get targets p.1) _ (trying_made targets ps z.1)
  where
    go : (group : ℕ) → group ≡ 0 → (o : Option Target) (rows : List Row) → AreTrying rows → AreTrying (cons_option (option_map (first_row group p.1) o) rows)
    go group e None rows h = h
    go group e (Some target) rows h = (ap (λ (n : ℕ). (first_row n p.1 target).state) e, h)

opening_trying : (targets : List Target) → HaveOneQ targets → AreTrying (opening_rows targets)
opening_trying targets h =
    trying_made targets (numbered (map (λ (target : Target). target.q) targets)) (numbered_zero (map (λ (target : Target). target.q) targets) h.0 (one_value h.0 targets h.1))

trying_fixed : (rows : List Row) → AreTrying rows → AreFixed rows
trying_fixed [] h = tt
trying_fixed (row ∷ rows) h = (ap (λ (s : State). is_fixed s) h.0, trying_fixed rows h.1)

has_row : (rows : List Row) (n : ℕ) → AreTrying rows → n < length rows → (row : Row) × (slice_get rows n ≡ Some row) × (row.state ≡ Trying)
has_row [] n h lt = absurd (omega arith)
has_row (row ∷ rows) zero h lt = (row, refl, h.0)
has_row (row ∷ rows) (suc n) h lt = has_row rows n h.1 (omega arith)

-- ---- one answer of a row

abbrev StoredRow : List Row → ℕ → ℕ → Type 0
StoredRow rows n status = (row : Row) × (slice_get rows n ≡ Some row) × Stores row.state status

-- what was stored is what was answered
found : (rows : List Row) (n : ℕ) (events : List Event) → All (IsStoredIn rows) events → 1 ≤ answers_of n events
    → (status : ℕ) × IsAnswered events n status × StoredRow rows n status
found rows n [] all le = absurd (omega arith)
found rows n (Ring m s ∷ events) all le = absurd (all_head (IsStoredIn rows) (Ring m s) events all)
found rows n (Timeout m ∷ events) all le = absurd (all_head (IsStoredIn rows) (Timeout m) events all)
found rows n (Fault m ∷ events) all le = absurd (all_head (IsStoredIn rows) (Fault m) events all)
found rows n (TimerC m ∷ events) all le = absurd (all_head (IsStoredIn rows) (TimerC m) events all)
found rows n (GiveUp m ∷ events) all le = absurd (all_head (IsStoredIn rows) (GiveUp m) events all)
found rows n (Cancel ∷ events) all le = absurd (all_head (IsStoredIn rows) Cancel events all)
found rows n (Answer m answer ∷ events) all le =
    go (m == n) refl le (λ more. found rows n events (all_tail (IsStoredIn rows) (Answer m answer) events all) more)
  where
    go : (b : Bool) → (m == n) ≡ b → 1 ≤ cond (b && true) 1 0 + answers_of n events
        → (1 ≤ answers_of n events → (status : ℕ) × IsAnswered events n status × StoredRow rows n status)
        → (status : ℕ) × IsAnswered (Answer m answer ∷ events) n status × StoredRow rows n status
    go true is more later =
        let e : m ≡ n = grind (arith, nat_tests) in
        let same : (m == n && answer.status == answer.status) ≡ true = grind (arith, nat_tests) in
        let P : ℕ → Type 0 = λ k. StoredRow rows k answer.status in (
          answer.status,
          ap (λ b. b || list_any (is_answer (λ other. other == answer.status) n) events) same,
          subst P e (all_head (IsStoredIn rows) (Answer m answer) events all),
        )
    go false is more later =
        let h = later (omega arith) in
        let differ : (m == n && answer.status == h.0) ≡ false = ap (λ b. b && answer.status == h.0) is in
        (h.0, ap (λ b. b || list_any (is_answer (λ other. other == h.0) n) events) differ ∙ h.1, h.2)

score_stored : (rows : List Row) (n status : ℕ) → StoredRow rows n status → (score : Score) × HasScore rows n score × (score.status ≡ status)
score_stored rows n status s =
    (score_of s.2.0, ap (λ (o : Option Row). option_map score_of (stored_at o)) s.1 ∙ ap (λ (st : State). option_map score_of (stored_at (Some (record s.0 { state = st })))) s.2.1, s.2.2)

same_score : (rows : List Row) (n : ℕ) (a b : Score) → HasScore rows n a → HasScore rows n b → a ≡ b
same_score rows n a b h k = let e : Some a ≡ Some b = sym h ∙ k in cc

-- ---- class and preference

order : (a b : ℕ) → (a < b) ⊎ ((a ≡ b) ⊎ (b < a))
order a b = grind arith

not_before : (rules : Rules) (a b : Score) → (Before rules b a → ⊥) → GoesFirst rules a.status b.status ⊎ AreEqual rules a.status b.status
unfolding Before rank_of
not_before rules a b isnt = go (order (class_of a.status) (class_of b.status)) (order (part_of rules a.status) (part_of rules b.status))
  where
    go : (class_of a.status < class_of b.status) ⊎ ((class_of a.status ≡ class_of b.status) ⊎ (class_of b.status < class_of a.status))
        → (part_of rules a.status < part_of rules b.status) ⊎ ((part_of rules a.status ≡ part_of rules b.status) ⊎ (part_of rules b.status < part_of rules a.status))
        → GoesFirst rules a.status b.status ⊎ AreEqual rules a.status b.status
    go (inl less) p = inl (inl less)
    go (inr (inr more)) p = absurd (isnt (inl more))
    go (inr (inl same)) (inl less) = inl (inr (same, less))
    go (inr (inl same)) (inr (inl equal)) = inr (same, equal)
    go (inr (inl same)) (inr (inr more)) = absurd (isnt (inr (sym same, inl more)))

pub least_stored : (rules : Rules) (rows : List Row) (n : ℕ) (score : Score) (events : List Event) → IsFirst rules rows n score → All (IsStoredIn rows) events
    → All (IsNotBefore rules score.status) events
least_stored rules rows n score events first all k d lt = go (slice_index_or events k d) (all k d lt)
  where
    go : (event : Event) → IsStoredIn rows event → IsNotBefore rules score.status event
    go (Ring m s) h = absurd h
    go (Answer m answer) h =
        let other = score_stored rows m answer.status h in
        let P : ℕ → Type 0 = λ status. GoesFirst rules score.status status ⊎ AreEqual rules score.status status in
        subst P other.2 (not_before rules score other.0 (first.first m other.0 other.1))
    go (Timeout m) h = absurd h
    go (Fault m) h = absurd h
    go (TimerC m) h = absurd h
    go (GiveUp m) h = absurd h
    go Cancel h = absurd h

-- ---- a history of plain scripts

record AllStored (rules : Rules) (targets : List Target) (events : List Event) (rows : List Row) : Type 0 where
  stored : All (IsStoredIn rows) events
  long : length rows ≡ length targets
  once : (n : ℕ) → answers_of n events ≡ cond (nat_lt n (length targets)) 1 0

plain_ends : BranchesAlwaysGoOn → EachTargetHasARow → (kind : Kind) (rules : Rules) (targets : List Target) (scripts : List (List Event)) (history : List Posted)
    → PlainScripts targets scripts → IsInterleaving scripts history → AllStored rules targets (events_of history) (table kind rules targets (events_of history)).rows
plain_ends go_on each kind rules targets scripts history plain mixed =
    let rows : List Row = opening_rows targets in
    let trying : AreTrying rows = opening_trying targets plain.one_q in
    let long : length rows ≡ length targets = each kind rules targets in
    let once : (n : ℕ) → answers_of n (events_of history) ≡ cond (nat_lt n (length targets)) 1 0 =
    λ n. sym (count_mixed (is_answer (λ status. true) n) scripts history mixed) ∙ plain.plain.once n in
    let waited : AreWaited rows (events_of history) = λ n le. has_row rows n trying (below n (length targets) (length rows) _ long (once n) le) in
    let most : OnceEach (events_of history) = λ n. at_most _ (nat_lt n (length targets)) (once n) in
    let h = each_stored go_on (opening kind rules targets) 0 (events_of history) (trying_fixed rows trying) waited most (all_history IsPlainAnswer scripts history mixed plain.plain.plain) in
    record { stored = h.0; long = h.1 ∙ long; once = once }
  where
    below : (n m l c : ℕ) → l ≡ m → c ≡ cond (nat_lt n m) 1 0 → 1 ≤ c → n < l
    below n m l c e is le = go (nat_lt n m) refl is
      where
        go : (b : Bool) → nat_lt n m ≡ b → c ≡ cond b 1 0 → n < l
        go true f g = grind (arith, nat_tests)
        go false f g = absurd (omega arith)

    at_most : (c : ℕ) (b : Bool) → c ≡ cond b 1 0 → c ≤ 1
    at_most c true e = omega arith
    at_most c false e = omega arith

answered_row : (rules : Rules) (targets : List Target) (events : List Event) (rows : List Row) → AllStored rules targets events rows → (n : ℕ) → n < length rows
    → (status : ℕ) × IsAnswered events n status × StoredRow rows n status
answered_row rules targets events rows e n lt =
    let yes : nat_lt n (length targets) ≡ true = let l : length rows ≡ length targets = e.long in grind (arith, nat_tests) in
    let one : answers_of n events ≡ 1 = e.once n ∙ ap (λ b. cond b 1 0) yes in
    found rows n events e.stored (omega (arith, one))

within : (rows : List Row) (n : ℕ) (score : Score) → HasScore rows n score → n < length rows
within [] n score h = absurd cc
within (row ∷ rows) zero score h = omega arith
within (row ∷ rows) (suc n) score h = let lt : n < length rows = within rows n score h in omega arith

counted_any : (test : Event → Bool) (events : List Event) → list_any test events ≡ true → 1 ≤ count_of test events
counted_any test [] e = absurd cc
counted_any test (event ∷ events) e = go (test event) e (counted_any test events)
  where
    go : (b : Bool) → (b || list_any test events) ≡ true → (list_any test events ≡ true → 1 ≤ count_of test events) → 1 ≤ cond b 1 0 + count_of test events
    go true h k = omega arith
    go false h k = let le : 1 ≤ count_of test events = k h in omega arith

any_counted : (test : Event → Bool) (events : List Event) → 1 ≤ count_of test events → list_any test events ≡ true
any_counted test [] le = absurd (omega arith)
any_counted test (event ∷ events) le = go (test event) le (any_counted test events)
  where
    go : (b : Bool) → 1 ≤ cond b 1 0 + count_of test events → (1 ≤ count_of test events → list_any test events ≡ true) → (b || list_any test events) ≡ true
    go true h k = refl
    go false h k = k (omega arith)

answered_scripts : (scripts : List (List Event)) (history : List Posted) (n status : ℕ) → IsInterleaving scripts history → IsAnswered (events_of history) n status → IsAnswered (all_of scripts) n status
answered_scripts scripts history n status mixed h =
    let test : Event → Bool = is_answer (λ other. other == status) n in
    any_counted test (all_of scripts) (subst (λ (c : ℕ). 1 ≤ c) (sym (count_mixed test scripts history mixed)) (counted_any test (events_of history) h))

least_first : (rules : Rules) (targets : List Target) (scripts : List (List Event)) (history : List Posted) (rows : List Row) → IsInterleaving scripts history
    → AllStored rules targets (events_of history) rows → (n : ℕ) (score : Score) → IsFirst rules rows n score → (status : ℕ) × IsLeast rules (all_of scripts) n status
least_first rules targets scripts history rows mixed e n score first =
    let a = answered_row rules targets (events_of history) rows e n (within rows n score first.stored) in
    let s = score_stored rows n a.0 a.2 in
    let same : score.status ≡ a.0 = ap (λ (x : Score). x.status) (same_score rows n score s.0 first.stored s.1) ∙ s.2 in
    let least : All (IsNotBefore rules score.status) (events_of history) = least_stored rules rows n score (events_of history) first e.stored in
    let P : ℕ → Type 0 = λ status. All (IsNotBefore rules status) (all_of scripts) in (
      a.0,
      record {
        answered = answered_scripts scripts history n a.0 mixed a.1;
        least = subst P same (all_scripts (IsNotBefore rules score.status) 0 scripts history mixed.1 least);
      },
    )

some_row : (targets : List Target) → targets ≢ [] → 0 < length targets
some_row [] some = absurd (some refl)
some_row (target ∷ targets) some = omega arith

pub least_is_chosen : BranchesAlwaysGoOn → EachTargetHasARow → LeastIsChosen
least_is_chosen go_on each kind rules targets scripts history (Best n) plain mixed is =
    least_first rules targets scripts history _ mixed (plain_ends go_on each kind rules targets scripts history plain mixed) n is.0 is.1
least_is_chosen go_on each kind rules targets scripts history (Only503 n) plain mixed is =
    least_first rules targets scripts history _ mixed (plain_ends go_on each kind rules targets scripts history plain mixed) n is.0 is.1
least_is_chosen go_on each kind rules targets scripts history NoAnswer408 plain mixed is =
    let e = plain_ends go_on each kind rules targets scripts history plain mixed in
    let lt : 0 < length targets = some_row targets plain.some in
    let long = e.long in
    let a = answered_row rules targets (events_of history) _ e 0 (omega (arith, long)) in
    let s = score_stored _ 0 a.0 a.2 in
    is 0 s.0 s.1

-- ---- every branch ends

all_ended : (rows : List Row) → ((n : ℕ) → n < length rows → (status : ℕ) × StoredRow rows n status) → is_finished rows ≡ true
all_ended [] h = refl
all_ended (row ∷ rows) h =
    let f = h 0 (omega arith) in
    let same : row ≡ f.1.0 = let e : Some row ≡ Some f.1.0 = f.1.1 in cc in
    let here : is_ended row.state ≡ true = ap (λ (r : Row). is_ended r.state) same ∙ ap is_ended f.1.2.1 in
    ap (λ b. b && is_finished rows) here ∙ all_ended rows (λ n lt. let k = h (suc n) (omega arith) in (k.0, (k.1.0, k.1.1, k.1.2)))

none_accepted : (rows : List Row) → ((n : ℕ) → n < length rows → (status : ℕ) × StoredRow rows n status) → is_succeeded rows ≡ false
none_accepted [] h = refl
none_accepted (row ∷ rows) h =
    let f = h 0 (omega arith) in
    let same : row ≡ f.1.0 = let e : Some row ≡ Some f.1.0 = f.1.1 in cc in
    let here : is_accepted row.state ≡ false = ap (λ (r : Row). is_accepted r.state) same ∙ ap is_accepted f.1.2.1 in
    ap (λ b. b || is_succeeded rows) here ∙ none_accepted rows (λ n lt. let k = h (suc n) (omega arith) in (k.0, (k.1.0, k.1.1, k.1.2)))

pub plain_scripts_end : BranchesAlwaysGoOn → EachTargetHasARow → PlainScriptsEnd
plain_scripts_end go_on each kind rules targets scripts history plain mixed =
    let e = plain_ends go_on each kind rules targets scripts history plain mixed in
    let rows : List Row = (table kind rules targets (events_of history)).rows in
    let h : (n : ℕ) → n < length rows → (status : ℕ) × StoredRow rows n status =
    λ n lt. let a = answered_row rules targets (events_of history) rows e n lt in (a.0, a.2) in
    (all_ended rows h, none_accepted rows h)
