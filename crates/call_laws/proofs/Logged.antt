-- The log of a call: each reply is that to its event, and one final at most goes up.
use Rattle.std.proofs.Common.{◌≡◌, ◌≢◌, ◌∙◌, ◌⊎◌, ◌++◌, ◌∷◌, ◌+◌, ℕ, suc, Bool, true, false, List, [], length, ap, refl, sym, subst, inl, inr, arith}
use Rattle.fork_model.specs.Choice.{Choice}
use Rattle.fork_model.specs.Event.{Event}
use Rattle.fork_model.specs.ExactlyOne.{ExactlyOneFinal, NoFinalBefore, NoFinalBesideSuccess}
use Rattle.fork_model.specs.History.{AreReplies, OneFinal, Target, after, finals}
use Rattle.fork_model.specs.Log.{IsLog, IsOpening, Log, Posted, added, event_posted, events_of, opening_log, table_of}
use Rattle.fork_model.specs.Reply.{IsReply, Reply}
use Rattle.fork_model.specs.Step.{next}
use Rattle.fork_model.specs.Table.{Kind, Rules, Table, is_finished, is_succeeded}

replies_more : (t : Table) (at : ℕ) (events : List Event) (replies : List Reply) (event : Event) (reply : Reply) (place : ℕ) → place ≡ at + length events
    → AreReplies t at events replies → IsReply (after t at events) event place reply → AreReplies t at (events ++ event ∷ []) (replies ++ reply ∷ [])
replies_more t at [] [] event reply place e are is =
    let P : ℕ → Type 0 = λ k. IsReply t event k reply in
    (subst P (e ∙ (let z : at + 0 ≡ at = omega arith in z)) is, tt)
replies_more t at [] (r ∷ replies) event reply place e are is = absurd are
replies_more t at (v ∷ events) [] event reply place e are is = absurd are
replies_more t at (v ∷ events) (r ∷ replies) event reply place e are is =
    (are.0, replies_more (next t v at) (suc at) events replies event reply place (e ∙ (let z : at + suc (length events) ≡ suc at + length events = omega arith in z)) are.1 is)

events_more : (history : List Posted) (post : Posted) → events_of (history ++ post ∷ []) ≡ events_of history ++ event_posted post ∷ []
events_more [] post = refl
events_more (p ∷ history) post = ap (λ (es : List Event). event_posted p ∷ es) (events_more history post)

length_events : (history : List Posted) → length (events_of history) ≡ length history
length_events [] = refl
length_events (p ∷ history) = ap suc (length_events history)

pub log_more : (log : Log) (tag : ℕ) (event : Event) (reply : Reply) → IsLog log → IsReply (table_of log) event (length log.history) reply
    → IsLog (added log tag event reply)
log_more log tag event reply is replied = record {
  opens = is.opens;
  answered =
      let E : List Event → Type 0 = λ es. AreReplies log.opening 0 es (log.replies ++ reply ∷ []) in
      subst E (sym (events_more log.history (record { tag = tag; event = event })))
      (replies_more log.opening 0 (events_of log.history) log.replies event reply (length log.history)
      (sym (length_events log.history) ∙ (let z : length (events_of log.history) ≡ 0 + length (events_of log.history) = omega arith in z)) is.answered replied);
}

pub opening_logged : (kind : Kind) (rules : Rules) (targets : List Target) → targets ≢ [] → IsLog (opening_log kind rules targets)
opening_logged kind rules targets some = record { opens = (targets, some, refl); answered = tt }

abbrev pub AtMostOne : List Choice → Type 0
AtMostOne choices = (choices ≡ []) ⊎ ((choice : Choice) × (choices ≡ choice ∷ []))

module _ (one : ExactlyOneFinal) (before : NoFinalBefore) (beside : NoFinalBesideSuccess) where
  ends_so : (t : Table) → IsOpening t → (events : List Event) (replies : List Reply) → AreReplies t 0 events replies
      → is_finished (after t 0 events).rows ≡ true → is_succeeded (after t 0 events).rows ≡ false → OneFinal (after t 0 events) replies
  ends_so t (targets, some, e) events replies =
      let P : Table → Type 0 = λ u. AreReplies u 0 events replies → is_finished (after u 0 events).rows ≡ true → is_succeeded (after u 0 events).rows ≡ false
      → OneFinal (after u 0 events) replies in
      subst P (sym e) (one t.kind t.rules targets events replies some)

  none_before : (t : Table) → IsOpening t → (events : List Event) (replies : List Reply) → AreReplies t 0 events replies
      → is_finished (after t 0 events).rows ≡ false → finals replies ≡ []
  none_before t (targets, some, e) events replies =
      let P : Table → Type 0 = λ u. AreReplies u 0 events replies → is_finished (after u 0 events).rows ≡ false → finals replies ≡ [] in
      subst P (sym e) (before t.kind t.rules targets events replies)

  none_beside : (t : Table) → IsOpening t → (events : List Event) (replies : List Reply) → AreReplies t 0 events replies
      → is_succeeded (after t 0 events).rows ≡ true → finals replies ≡ []
  none_beside t (targets, some, e) events replies =
      let P : Table → Type 0 = λ u. AreReplies u 0 events replies → is_succeeded (after u 0 events).rows ≡ true → finals replies ≡ [] in
      subst P (sym e) (beside t.kind t.rules targets events replies)

  -- once every branch has ended and none with a 2xx
  pub ends_once : (log : Log) → IsLog log → is_finished (table_of log).rows ≡ true → is_succeeded (table_of log).rows ≡ false → OneFinal (table_of log) log.replies
  ends_once log is = ends_so log.opening is.opens (events_of log.history) log.replies is.answered

  -- and none where a branch was answered with a 2xx
  pub none_of_succeeded : (log : Log) → IsLog log → is_succeeded (table_of log).rows ≡ true → finals log.replies ≡ []
  none_of_succeeded log is won = none_beside log.opening is.opens (events_of log.history) log.replies is.answered won

  pub at_most_one : (log : Log) → IsLog log → AtMostOne (finals log.replies)
  at_most_one log is = by (is_finished (table_of log).rows) (is_succeeded (table_of log).rows) refl refl
    where
      by : (f s : Bool) → is_finished (table_of log).rows ≡ f → is_succeeded (table_of log).rows ≡ s → AtMostOne (finals log.replies)
      by false s done won = inl (none_before log.opening is.opens (events_of log.history) log.replies is.answered done)
      by true true done won = inl (none_beside log.opening is.opens (events_of log.history) log.replies is.answered won)
      by true false done won = let f = ends_once log is done won in inr (f.0, f.1)
