-- A datagram that could not be sent, and what comes to the transaction of a CANCEL.
use Rattle.call_state.proofs.Common.{◌≡◌, ◌∙◌, ℕ, zero, suc, ap, refl, sym, subst, true, false, Bool, List, [], ◌∷◌, Option, Some, None, slice_get, is_open, TxEvent, TxOut, Machine, OtherClientState, machine_after, other_client, Call}
use Rattle.call_state.proofs.Common.{nth_branch, row_passes, set_branch, with_branch, ClientTransaction, client_after, client_out, FaultsBy, FaultsClient, cancel_faulted, faulted, faulted_cancel, is_fault, CancelTransaction, Branch, cancel_on, changed_branch, responded}
use Rattle.call_state.proofs.Common.{with_client, is_timeout, IsSound}
use Rattle.std.proofs.Common.{option_map}
use Rattle.sip_txn.specs.declared.event.TxEvent.TheVariants as event
use Rattle.call_state.proofs.Changing.{changed_part}
use Rattle.call_branch.proofs.laws.BranchLists.{found_is}
use Rattle.call_model.proofs.laws.Fitting.{fault_fits, timeout_fits}

with_same : (branches : List (Option Branch)) (n : ℕ) (branch : Branch) → slice_get branches n ≡ Some (Some branch) → with_branch branches n branch ≡ branches
with_same [] n branch is = refl
with_same (l ∷ branches) zero branch is =
    let same : l ≡ Some branch = cc in
    rw same refl
with_same (l ∷ branches) (suc n) branch is = ap (λ (ls : List (Option Branch)). l ∷ ls) (with_same branches n branch is)

set_same : (call : Call) (n : ℕ) (branch : Branch) → nth_branch call n ≡ Some branch → set_branch call n branch ≡ call
set_same call n branch there = ap (λ (ls : List (Option Branch)). record call { branches = ls }) (with_same call.branches n branch (found_is (slice_get call.branches n) branch there))

module _ (call : Call) (n now : ℕ) (branch : Branch) (there : nth_branch call n ≡ Some branch) where
  -- ---- its own transaction

  pub faulted_silent : (new : Call) (client : ClientTransaction) (out : TxOut)
      → client ≡ client_after event.TransportError now branch.client
      → out ≡ client_out event.TransportError now branch.client
      → is_fault out.pass ≡ false
      → new ≡ record call { branches = changed_branch (responded client None) call.branches n }
      → FaultsClient call now n (nth_branch call n) new
  faulted_silent new client out client_is out_is quiet changed =
      let goes_on : new ≡ set_branch call n (faulted branch now) =
      changed ∙ changed_part (responded client None) call n branch there ∙ ap (λ (c : ClientTransaction). set_branch call n (record branch { client = c })) client_is in
      let by : false ≡ is_fault (client_out event.TransportError now branch.client).pass = sym (ap (λ (o : TxOut). is_fault o.pass) (sym out_is) ∙ quiet) in
      let B : Bool → Type 0 = λ b. FaultsBy call now n branch b new in
      let P : Option Branch → Type 0 = λ o. FaultsClient call now n o new in
      subst P (sym there) (subst B by goes_on)

  -- a transaction that fails has a branch that is open
  pub fault_is_open : (out : TxOut) → IsSound call → out ≡ client_out event.TransportError now branch.client → is_fault out.pass ≡ true → row_passes is_open call n ≡ true
  fault_is_open out sound out_is fails =
      let e : is_fault (client_out event.TransportError now branch.client).pass ≡ true = ap (λ (o : TxOut). is_fault o.pass) (sym out_is) ∙ fails in
      fault_fits call n now branch sound there e

  pub timeout_is_open : (out : TxOut) → IsSound call → out ≡ client_out event.Tick now branch.client → is_timeout out.pass ≡ true → row_passes is_open call n ≡ true
  timeout_is_open out sound out_is ends =
      let e : is_timeout (client_out event.Tick now branch.client).pass ≡ true = ap (λ (o : TxOut). is_timeout o.pass) (sym out_is) ∙ ends in
      timeout_fits call n now branch sound there e

  -- ---- that of its CANCEL

  pub cancel_goes_on : (new : Call) (ev : TxEvent) (cancelling : CancelTransaction) (client : Machine OtherClientState)
      → branch.cancelling ≡ Some cancelling
      → client ≡ machine_after other_client ev now cancelling.client
      → new ≡ record call { branches = changed_branch (cancel_on client) call.branches n }
      → new ≡ set_branch call n (record branch { cancelling = Some (record cancelling { client = machine_after other_client ev now cancelling.client }) })
  cancel_goes_on new ev cancelling client is client_is changed =
      changed ∙ changed_part (cancel_on client) call n branch there
      ∙ ap (λ (o : Option CancelTransaction). set_branch call n (record branch { cancelling = option_map (with_client client) o })) is
      ∙ ap (λ (m : Machine OtherClientState). set_branch call n (record branch { cancelling = Some (record cancelling { client = m }) })) client_is

  pub cancel_faults : (new : Call) (cancelling : CancelTransaction) (client : Machine OtherClientState)
      → branch.cancelling ≡ Some cancelling
      → client ≡ machine_after other_client event.TransportError now cancelling.client
      → new ≡ record call { branches = changed_branch (cancel_on client) call.branches n }
      → new ≡ cancel_faulted call now n (nth_branch call n)
  cancel_faults new cancelling client is client_is changed =
      cancel_goes_on new event.TransportError cancelling client is client_is changed
      ∙ sym (ap (cancel_faulted call now n) there ∙ ap (λ (o : Option CancelTransaction). set_branch call n (faulted_cancel branch now o)) is)

  pub no_cancel_faults : branch.cancelling ≡ None → call ≡ cancel_faulted call now n (nth_branch call n)
  no_cancel_faults none =
      sym (ap (cancel_faulted call now n) there ∙ ap (λ (o : Option CancelTransaction). set_branch call n (faulted_cancel branch now o)) none ∙ set_same call n branch there)
