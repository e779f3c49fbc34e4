-- What a step leaves of where that comes from what a call keeps to be sent.
use Rattle.std.proofs.Common.{◌≡◌, ◌∙◌, ◌⊎◌, ◌++◌, ◌∷◌, ℕ, zero, suc, Bool, true, false, List, [], length, Option, Some, None, ap, refl, sym, subst, inl, inr, slice_get}
use Rattle.std.specs.List.{AllByRecursion}
use Rattle.sip_text.specs.Text.{MessageText, spelling}
use Rattle.sip_uri.specs.declared.hop.Hop.{Hop}
use Rattle.call_model.specs.Behind.{ComesFirst, FirstsStayOrCome, StaysFirst}
use Rattle.call_model.specs.Built.{ack_to, answer_in}
use Rattle.call_model.specs.Call.{Call, nth_branch}
use Rattle.call_model.specs.OpenedRequest.{OpenedRequest, Destination}
use Rattle.call_model.specs.Branch.{Branch}
use Rattle.call_model.specs.Posting.{owed_by, passed}
use Rattle.fork_model.specs.Reply.{Up, Nothing, Provisional, Success, Final}
use Rattle.call_model.specs.Server as server
use Rattle.call_model.specs.Server.{Owed}
use Rattle.call_model.specs.Step.{Step, Turn}
use Rattle.call_model.specs.Sound.{IsSound}
use Rattle.call_model.specs.Take.{again_if}
use Rattle.call_laws.specs.Came.{Came, CameCancel, CamePosted, IsTurnOf}
use Rattle.call_laws.specs.Origins.{ComesFrom, IsOkayOf, KeepsPosted, KeepsWhatCame, OwesAcks, OwesOkays}
use Rattle.call_laws.proofs.Branches.{CallState, TakesFailure, ack_in, state}
use Rattle.call_laws.proofs.Serving.{IsMarkedNow, Serves, Beside, Posted, Cancelled, CancelledBoth, Acked, Faulted, Ticked, Repeated, Sent, Dropped, Again, Okayed, serves}

-- ---- the turns so far, and one more

more_there : {X : Type 0} (xs ys : List X) (k : ℕ) (x : X) → slice_get xs k ≡ Some x → slice_get (xs ++ ys) k ≡ Some x
more_there [] ys k x e = absurd cc
more_there (y ∷ xs) ys zero x e = e
more_there (y ∷ xs) ys (suc k) x e = more_there xs ys k x e

last_there : {X : Type 0} (xs : List X) (x : X) → slice_get (xs ++ x ∷ []) (length xs) ≡ Some x
last_there [] x = refl
last_there (y ∷ xs) x = last_there xs x

module _ (turns : List Turn) (turn : Turn) where
  abbrev pub Later : List Turn
  Later = turns ++ turn ∷ []

  pub one_of : (t : Turn) → IsTurnOf turns t → IsTurnOf Later t
  one_of t (place, there) = (place, more_there turns (turn ∷ []) place t there)

  pub this_one : IsTurnOf Later turn
  this_one = (length turns, last_there turns turn)

  came_later : (n : ℕ) (m : MessageText) → Came turns n m → Came Later n m
  came_later n m (t, is, source, came) = (t, one_of t is, source, came)

  posted_later : (n at : ℕ) (m : MessageText) → CamePosted turns n at m → CamePosted Later n at m
  posted_later n at m (t, is, posted) = (t, one_of t is, posted)

  cancel_later : (cancel : MessageText) (to : Hop) → CameCancel turns cancel to → CameCancel Later cancel to
  cancel_later cancel to (t, is, m, source, came, marks, goes) = (t, one_of t is, m, source, came, marks, goes)

  okay_later : (o : Owed) → IsOkayOf turns o → IsOkayOf Later o
  okay_later server.Trying h = tt
  okay_later (server.Passed m) h = tt
  okay_later (server.Final choice) h = tt
  okay_later server.Again h = tt
  okay_later (server.CancelOk cancel to) h = cancel_later cancel to h

  -- ---- the parts of branches

  module _ (call new : Call) (p : CallState turn.now call turn.input new) where
    old_part : (n : ℕ) (bytes : List ℕ) → ack_in (nth_branch call n) ≡ Some bytes → (branch : Branch) × (nth_branch call n ≡ Some branch) × (branch.ack ≡ Some bytes)
    old_part n bytes e = by (nth_branch call n) refl e
      where
        by : (l : Option Branch) → nth_branch call n ≡ l → ack_in l ≡ Some bytes → (branch : Branch) × (nth_branch call n ≡ Some branch) × (branch.ack ≡ Some bytes)
        by None there e = absurd cc
        by (Some branch) there e = (branch, there, e)

    old_answer : (n : ℕ) (m : MessageText) → answer_in (nth_branch call n) ≡ Some m → (branch : Branch) × (nth_branch call n ≡ Some branch) × (branch.answer ≡ Some m)
    old_answer n m e = by (nth_branch call n) refl e
      where
        by : (l : Option Branch) → nth_branch call n ≡ l → answer_in l ≡ Some m → (branch : Branch) × (nth_branch call n ≡ Some branch) × (branch.answer ≡ Some m)
        by None there e = absurd cc
        by (Some branch) there e = (branch, there, e)

    destination_there : (n : ℕ) (destination : Destination) → slice_get call.destinations n ≡ Some destination → slice_get new.destinations n ≡ Some destination
    destination_there n destination goes = ap (λ (ws : List Destination). slice_get ws n) p.destinations ∙ more_there call.destinations p.more n destination goes

    came_now : (n : ℕ) (m : MessageText) → TakesFailure turn.now call turn.input new n m → Came Later n m
    came_now n m (source, is, failure) = (turn, this_one, source, is)

    acks_step : OwesAcks turns call → OwesAcks Later new
    acks_step acks n branch bytes there is = elim ((p.each n branch there).ack bytes is) [
      | inl before ↦
          let part = old_part n bytes before in
          let a = acks n part.0 bytes part.1 part.2 in
          (a.0, came_later n a.0 a.1, a.2, a.3, destination_there n a.3 a.4, a.5 ∙ ap (λ (f : OpenedRequest). spelling (ack_to f a.3 n a.0)) (sym p.opened))
      | inr made ↦
          (made.0, came_now n made.0 made.2, made.2.2, made.1, destination_there n made.1 made.3, made.4 ∙ ap (λ (f : OpenedRequest). spelling (ack_to f made.1 n made.0)) (sym p.opened))
    ]

    answers_step : KeepsWhatCame turns call → KeepsWhatCame Later new
    answers_step keeps n branch m there is = elim ((p.each n branch there).answer m is) [
      | inl before ↦
          let part = old_answer n m before in
          let k = keeps n part.0 m part.1 part.2 in
          (came_later n m k.0, k.1)
      | inr made ↦ (came_now n m made, made.2)
    ]

  -- the branch with the best stored answer keeps what it kept, or takes it now
  posted_step : (call new : Call) → FirstsStayOrCome → IsSound call → Step turn.now call turn.input new turn.output → KeepsPosted turns call → KeepsPosted Later new
  posted_step call new firsts sound h keeps n stored has came first = by (firsts turn call new sound h n stored has came first)
    where
      by : StaysFirst call new n stored ⊎ ComesFirst turn new n stored → (m : MessageText) × (answer_in (nth_branch new n) ≡ Some m) × CamePosted Later n stored.arrival m
      by (inl stays) =
          let old = keeps n stored stays.has came stays.first in
          (old.0, stays.kept ∙ old.1, posted_later n stored.arrival old.0 old.2)
      by (inr (m, posted, kept, said)) = (m, kept, (turn, this_one, posted))

  -- ---- what is owed

  abbrev Okays : List Owed → Type 0
  Okays os = AllByRecursion (IsOkayOf Later) os

  all_later : (os : List Owed) → AllByRecursion (IsOkayOf turns) os → Okays os
  all_later [] h = tt
  all_later (o ∷ os) h = (okay_later o h.0, all_later os h.1)

  all_more : (xs ys : List Owed) → Okays xs → Okays ys → Okays (xs ++ ys)
  all_more [] ys h k = k
  all_more (x ∷ xs) ys h k = (h.0, all_more xs ys h.1 k)

  passed_okays : (response : Option MessageText) → Okays (passed response)
  passed_okays None = tt
  passed_okays (Some m) = (tt, tt)

  up_okays : (up : Up) (response : Option MessageText) → Okays (owed_by up response)
  up_okays Nothing response = tt
  up_okays (Provisional n) response = passed_okays response
  up_okays (Success n) response = passed_okays response
  up_okays (Final choice) response = (tt, tt)

  again_okays : (b : Bool) → Okays (again_if b)
  again_okays true = (tt, tt)
  again_okays false = tt

  cancel_now : (cancel : MessageText) (hop : Hop) → IsMarkedNow turn.input cancel hop → Okays (server.CancelOk cancel hop ∷ [])
  cancel_now cancel hop (m, source, is, marks, goes) = ((turn, this_one, m, source, is, marks, goes), tt)

  okays_step : (call new : Call) → Serves turn.now call turn.input turn.output new → OwesOkays turns call → OwesOkays Later new
  okays_step call new s owes = by s
    where
      still : Okays call.server.owed
      still = all_later call.server.owed owes

      now_owed : (os : List Owed) → new.server.owed ≡ os → Okays os → Okays new.server.owed
      now_owed os e h = let P : List Owed → Type 0 = λ x. Okays x in subst P (sym e) h

      less : (owed : Owed) (rest : List Owed) → call.server.owed ≡ owed ∷ rest → Okays rest
      less owed rest is = let P : List Owed → Type 0 = λ x. Okays x in (subst P is still).1

      by : Serves turn.now call turn.input turn.output new → Okays new.server.owed
      by (Beside l s) = now_owed call.server.owed (ap (λ (x : server.Server). x.owed) s) still
      by (Posted ev response reply goes is l s) =
          now_owed (call.server.owed ++ owed_by reply.up response) (ap (λ (x : server.Server). x.owed) s) (all_more call.server.owed (owed_by reply.up response) still (up_okays reply.up response))
      by (Cancelled cancel hop marks l s) =
          now_owed (call.server.owed ++ server.CancelOk cancel hop ∷ []) (ap (λ (x : server.Server). x.owed) s)
          (all_more call.server.owed (server.CancelOk cancel hop ∷ []) still (cancel_now cancel hop marks))
      by (CancelledBoth cancel hop ev reply marks is l s) =
          now_owed ((call.server.owed ++ server.CancelOk cancel hop ∷ []) ++ owed_by reply.up None) (ap (λ (x : server.Server). x.owed) s)
          (all_more (call.server.owed ++ server.CancelOk cancel hop ∷ []) (owed_by reply.up None)
          (all_more call.server.owed (server.CancelOk cancel hop ∷ []) still (cancel_now cancel hop marks)) (up_okays reply.up None))
      by (Acked l s) = now_owed call.server.owed (ap (λ (x : server.Server). x.owed) s) still
      by (Faulted why l s) = now_owed call.server.owed (ap (λ (x : server.Server). x.owed) s) still
      by (Ticked sends out is l s) = now_owed call.server.owed (ap (λ (x : server.Server). x.owed) s) still
      by (Repeated sends is l s) =
          now_owed (call.server.owed ++ again_if sends) (ap (λ (x : server.Server). x.owed) s) (all_more call.server.owed (again_if sends) still (again_okays sends))
      by (Sent owed rest m is made sends out l s) = now_owed rest (ap (λ (x : server.Server). x.owed) s) (less owed rest is)
      by (Dropped owed rest m is made sends out l s) = now_owed rest (ap (λ (x : server.Server). x.owed) s) (less owed rest is)
      by (Again rest is out l s) = now_owed rest (ap (λ (x : server.Server). x.owed) s) (less server.Again rest is)
      by (Okayed cancel hop rest is out l s) = now_owed rest (ap (λ (x : server.Server). x.owed) s) (less (server.CancelOk cancel hop) rest is)

  pub origins_step : (call new : Call) → FirstsStayOrCome → IsSound call → Step turn.now call turn.input new turn.output → ComesFrom turns call → ComesFrom Later new
  origins_step call new firsts sound h from =
      let p = state turn.now call turn.input new turn.output h in
      let s = serves turn.now call turn.input new turn.output h in
      record {
        acks = acks_step call new p from.acks;
        okays = okays_step call new s from.okays;
        answers = answers_step call new p from.answers;
        posted = posted_step call new firsts sound h from.posted;
      }
