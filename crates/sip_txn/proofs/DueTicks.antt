-- A tick when a timer is due has a row.
use Rattle.sip_txn.proofs.Common.{Reliability, ◌≡◌, ◌∙◌, ℕ, true, Option, Some, None, sym, ap, arith, Tick, Repeat, Timers, EndDue, RepeatDue, InviteClientState, InviteServerState, OtherClientState, OtherServerState, EndsOnly, input_of, least, no_timers, Table}
use Rattle.std.proofs.Common.{◌≢◌, IsSome, is_some}
use Rattle.std.proofs.lemmas.Bool.{false≢true}
use Rattle.sip_txn.specs.Timers.{is_due}
use Rattle.sip_txn.specs.InviteClient as of_invite_client
use Rattle.sip_txn.specs.InviteServer as of_invite_server
use Rattle.sip_txn.specs.OtherClient as of_other_client
use Rattle.sip_txn.specs.OtherServer as of_other_server

abbrev timers_of : Option Repeat → Option ℕ → Timers
timers_of repeat end = record { repeat = repeat; end = end }

pub there : {A : Type 0} (x : A) → Some x ≢ None
there {A} x e = false≢true (sym (ap (is_some {T = A}) e))

-- where each running timer has a row, so has a tick once the earlier one has come
acts : {S : Type 0} (table : Table S) (s : S) (repeat : Option Repeat) (end : Option ℕ) (now : ℕ) → (IsSome repeat → table s RepeatDue ≢ None) → (IsSome end → table s EndDue ≢ None) →
    is_due now (least (timers_of repeat end)) ≡ true → table s (input_of Tick now (timers_of repeat end)) ≢ None
acts table s repeat end now again ends h = grind arith

-- where no timer runs, none is due
none_due : (now : ℕ) (timers : Timers) → timers ≡ no_timers → is_due now (least timers) ≢ true
none_due now timers none h = false≢true (sym (ap (λ (t : Timers). is_due now (least t)) none) ∙ h)

alone : {S : Type 0} (table : Table S) (s : S) (repeat : Option Repeat) (end : Option ℕ) (now : ℕ) → EndsOnly (timers_of repeat end) → (IsSome end → table s EndDue ≢ None) →
    is_due now (least (timers_of repeat end)) ≡ true → table s (input_of Tick now (timers_of repeat end)) ≢ None
alone table s repeat end now runs ends h = acts table s repeat end now (λ some. absurd (false≢true (sym (ap (is_some {T = Repeat}) runs.0) ∙ some))) ends h

pub invite_client_acts : (t : Reliability) (s : InviteClientState) (repeat : Option Repeat) (end : Option ℕ) (now : ℕ) → of_invite_client.RunsTimersOf t s (timers_of repeat end) →
    is_due now (least (timers_of repeat end)) ≡ true → of_invite_client.invite_client s (input_of Tick now (timers_of repeat end)) ≢ None
invite_client_acts t s repeat end now runs h = grind arith

pub other_client_acts : (t : Reliability) (s : OtherClientState) (repeat : Option Repeat) (end : Option ℕ) (now : ℕ) → of_other_client.RunsTimersOf t s (timers_of repeat end) →
    is_due now (least (timers_of repeat end)) ≡ true → of_other_client.other_client s (input_of Tick now (timers_of repeat end)) ≢ None
other_client_acts t s repeat end now runs h = grind arith

pub invite_server_acts : (t : Reliability) (s : InviteServerState) (repeat : Option Repeat) (end : Option ℕ) (now : ℕ) → of_invite_server.RunsTimersOf t s (timers_of repeat end) →
    is_due now (least (timers_of repeat end)) ≡ true → of_invite_server.invite_server s (input_of Tick now (timers_of repeat end)) ≢ None
invite_server_acts t s repeat end now runs h = grind arith

pub other_server_acts : (t : Reliability) (s : OtherServerState) (repeat : Option Repeat) (end : Option ℕ) (now : ℕ) → of_other_server.RunsTimersOf t s (timers_of repeat end) →
    is_due now (least (timers_of repeat end)) ≡ true → of_other_server.other_server s (input_of Tick now (timers_of repeat end)) ≢ None
other_server_acts t s repeat end now runs h = grind arith
