-- Each 2xx of an INVITE that is posted in a run is owed, and paid at its place.
use Rattle.std.proofs.Common.{◌≡◌, ◌∙◌, ◌++◌, ◌∷◌, ℕ, zero, suc, Bool, true, false, List, [], length, map, Some, ap, refl, sym, subst, inl, inr, nat_lt, slice_get, append-nil, append_assoc}
use Rattle.std.specs.List.{AllByRecursion}
use Rattle.fork_model.specs.Steps.{BranchesGoOn}
use Rattle.sip_text.specs.Text.{MessageText}
use Rattle.call_model.specs.Call.{Call}
use Rattle.call_model.specs.OpenedRequest.{OpenedRequest, is_invite}
use Rattle.call_model.specs.Server as server
use Rattle.call_model.specs.Server.{Owed}
use Rattle.call_model.specs.Sound.{IsSound, StepsKeepSound}
use Rattle.call_model.specs.Step as step
use Rattle.call_model.specs.Step.{Input, Output, Step, Turn}
use Rattle.call_model.specs.Take as to
use Rattle.call_laws.specs.Answers.{AreGiven, GivesPassed, IsPaidAs, IsPaidRight, PaysInOrder}
use Rattle.call_laws.specs.Stages.{Leads, Payment, Stage, end_of, owed_new, owed_of, owed_since, paid_at, paid_if, payments}
use Rattle.call_laws.specs.Successes.{GivesSuccess, GoesUp, PostsSuccess}
use Rattle.call_laws.proofs.Accepted.{KeepsAccepted, accepted_step, success_owed}
use Rattle.call_laws.proofs.Branches.{state}
use Rattle.call_laws.proofs.Paying.{grows_new}

-- ---- lists

at_end : (xs ys : List Owed) (o : Owed) → slice_get (xs ++ o ∷ ys) (length xs) ≡ Some o
at_end [] ys o = refl
at_end (x ∷ xs) ys o = at_end xs ys o

map_there : (ps : List Payment) (k : ℕ) (o : Owed) → slice_get (map owed_of ps) k ≡ Some o → (p : Payment) × (slice_get ps k ≡ Some p) × (p.owed ≡ o)
map_there [] k o e = absurd cc
map_there (p ∷ ps) zero o e = (p, refl, let same : p.owed ≡ o = cc in same)
map_there (p ∷ ps) (suc k) o e = map_there ps k o e

each_there : (P : Payment → Type 0) (ps : List Payment) (k : ℕ) (p : Payment) → AllByRecursion P ps → slice_get ps k ≡ Some p → P p
each_there P [] k p all e = absurd cc
each_there P (x ∷ ps) zero p all e = let same : x ≡ p = cc in subst P same all.0
each_there P (x ∷ ps) (suc k) p all e = each_there P ps k p all.1 e

-- ---- a run, and a stage in it

stage_leads : (before : List Stage) (stage : Stage) (later : List Stage) (call : Call) → Leads call (before ++ stage ∷ later)
    → Leads call before × Step stage.turn.now (end_of call before) stage.turn.input stage.call stage.turn.output
stage_leads [] stage later call leads = (tt, leads.0)
stage_leads (x ∷ before) stage later call leads = let rest = stage_leads before stage later x.call leads.1 in ((leads.0, rest.0), rest.1)

given_before : (before : List Stage) (stage : Stage) (later : List Stage) → AreGiven (before ++ stage ∷ later) → AreGiven before
given_before [] stage later given = tt
given_before (x ∷ before) stage later given = (given.0, given_before before stage later given.1)

owed_split : (before : List Stage) (stage : Stage) (later : List Stage) (call : Call)
    → owed_since call (before ++ stage ∷ later) ≡ owed_since call before ++ (owed_new (end_of call before) stage ++ owed_since stage.call later)
owed_split [] stage later call = refl
owed_split (x ∷ before) stage later call =
    ap (λ (os : List Owed). owed_new call x ++ os) (owed_split before stage later x.call)
    ∙ sym (append_assoc (owed_new call x) (owed_since x.call before) (owed_new (end_of x.call before) stage ++ owed_since stage.call later))

-- each payment of a run is made by a call that was opened with the same
paid_fixed : (b : Bool) (turns : List Turn) (call : Call) (owed : List Owed) (output : Output) → AllByRecursion (λ (p : Payment). p.call.opened ≡ call.opened) (paid_if b turns call owed output)
paid_fixed true turns call [] output = tt
paid_fixed true turns call (o ∷ owed) output = (refl, tt)
paid_fixed false turns call owed output = tt

all_both : (P : Payment → Type 0) (xs ys : List Payment) → AllByRecursion P xs → AllByRecursion P ys → AllByRecursion P (xs ++ ys)
all_both P [] ys h k = k
all_both P (x ∷ xs) ys h k = (h.0, all_both P xs ys h.1 k)

payments_fixed : (stages : List Stage) (turns : List Turn) (call : Call) → Leads call stages → AllByRecursion (λ (p : Payment). p.call.opened ≡ call.opened) (payments turns call stages)
payments_fixed [] turns call leads = tt
payments_fixed (stage ∷ stages) turns call leads =
    let same = (state stage.turn.now call stage.turn.input stage.call stage.turn.output leads.0).opened in
    let later = payments_fixed stages (turns ++ stage.turn ∷ []) stage.call leads.1 in
    let P : OpenedRequest → Type 0 = λ f. AllByRecursion (λ (p : Payment). p.call.opened ≡ f) (payments (turns ++ stage.turn ∷ []) stage.call stages) in
    all_both (λ (p : Payment). p.call.opened ≡ call.opened) (paid_at turns call stage) (payments (turns ++ stage.turn ∷ []) stage.call stages)
    (paid_fixed (nat_lt (length stage.call.server.owed) (length call.server.owed)) turns call call.server.owed stage.turn.output) (subst P same later)

-- what holds of each call of a run for an INVITE
pub record Stands (call : Call) : Type 0 where
  pub sound : IsSound call
  pub accepted : KeepsAccepted call
  pub invited : is_invite call.opened ≡ true

module _ (sound_steps : StepsKeepSound) (goes_on : BranchesGoOn) where
  stands_at : (stages : List Stage) (call : Call) → Stands call → AreGiven stages → Leads call stages → Stands (end_of call stages)
  stands_at [] call stands given leads = stands
  stands_at (x ∷ stages) call stands given leads =
      stands_at stages x.call (record {
        sound = sound_steps x.turn call x.call stands.sound given.0 leads.0;
        accepted = accepted_step goes_on x.turn.now call x.call x.turn.input x.turn.output stands.sound leads.0 stands.accepted;
        invited = ap is_invite (state x.turn.now call x.turn.input x.call x.turn.output leads.0).opened ∙ stands.invited;
      }) given.1 leads.1

  -- a stage that posts a 2xx
  stage_owes : (call : Call) (stage : Stage) (m : MessageText) → Stands call → Step stage.turn.now call stage.turn.input stage.call stage.turn.output → PostsSuccess stage.turn m
      → stage.call.server.owed ≡ call.server.owed ++ server.Passed m ∷ []
  stage_owes call stage m stands leads (n, at, (source, given, posted), success) =
      let P : Input → Type 0 = λ i. Step stage.turn.now call i stage.call stage.turn.output in
      let Q : Output → Type 0 = λ o. Step stage.turn.now call (step.Take (to.Client n) m source) stage.call o in
      success_owed stage.turn.now call stage.call n at m source stands.sound stands.accepted stands.invited success (subst Q posted (subst P given leads))

  pub goes_up : (call : Call) (before : List Stage) (stage : Stage) (later : List Stage) (m : MessageText) → Stands call → AreGiven (before ++ stage ∷ later)
      → Leads call (before ++ stage ∷ later) → PostsSuccess stage.turn m → PaysInOrder call (before ++ stage ∷ later) → GoesUp call before stage later m
  goes_up call before stage later m stands given leads posts pays = record {
    owed = owes;
    paid = λ none.
        let found = map_there paid place (server.Passed m) (ap (λ (os : List Owed). slice_get os place) (sym (all_paid none)) ∙ placed) in
        let right : IsPaidRight found.0 = each_there IsPaidRight paid place found.0 pays.each found.1 in
        let opened : found.0.call.opened ≡ call.opened = each_there (λ (p : Payment). p.call.opened ≡ call.opened) paid place found.0 (payments_fixed (before ++ stage ∷ later) [] call leads) found.1 in
        let P : Owed → Type 0 = λ o. IsPaidAs found.0 o in
        (found.0, found.1, found.2, given_so found.0 (ap is_invite opened ∙ stands.invited) (subst P found.2 right));
  }
    where
      given_so : (p : Payment) → is_invite p.call.opened ≡ true → GivesPassed p m → GivesSuccess p m
      given_so p invited (inl sent) = inl sent
      given_so p invited (inr (dropped, none, ended)) = inr (dropped, ended invited posts.3)

      at_stage : Leads call before × Step stage.turn.now (end_of call before) stage.turn.input stage.call stage.turn.output
      at_stage = stage_leads before stage later call leads

      stands_then : Stands (end_of call before)
      stands_then = stands_at before call stands (given_before before stage later given) at_stage.0

      owes : owed_new (end_of call before) stage ≡ server.Passed m ∷ []
      owes = grows_new [] (end_of call before) stage (server.Passed m ∷ []) (stage_owes (end_of call before) stage m stands_then at_stage.1 posts)

      paid : List Payment
      paid = payments [] call (before ++ stage ∷ later)

      place : ℕ
      place = length (call.server.owed ++ owed_since call before)

      all_paid : (end_of call (before ++ stage ∷ later)).server.owed ≡ [] → call.server.owed ++ owed_since call (before ++ stage ∷ later) ≡ map owed_of paid
      all_paid none = pays.order ∙ ap (λ (os : List Owed). map owed_of paid ++ os) none ∙ append-nil (map owed_of paid)

      placed : slice_get (call.server.owed ++ owed_since call (before ++ stage ∷ later)) place ≡ Some (server.Passed m)
      placed =
          ap (λ (os : List Owed). slice_get (call.server.owed ++ os) place)
          (owed_split before stage later call ∙ ap (λ (os : List Owed). owed_since call before ++ (os ++ owed_since stage.call later)) owes)
          ∙ ap (λ (os : List Owed). slice_get os place) (sym (append_assoc call.server.owed (owed_since call before) (server.Passed m ∷ owed_since stage.call later)))
          ∙ at_end (call.server.owed ++ owed_since call before) (owed_since stage.call later) (server.Passed m)
