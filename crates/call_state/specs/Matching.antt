-- Which transaction of a call a message belongs to (RFC 3261 sections 9.2, 16.7 steps 1 and 3, 17.1.3 and 17.2.3).
use Rattle.std.specs.Prelude.{◌≡◌, ◌≢◌, ◌<◌, ◌^◌, ℕ, true, List, Some, None, codes}
use Rattle.sip_text.specs.declared.method.Method.TheVariants.{Ack, Cancel}
use Rattle.sip_text.specs.Fields.{message_cseq}
use Rattle.sip_text.specs.Method.{known_method}
use Rattle.sip_text.specs.Text.{MessageText, StartText}
use Rattle.sip_branch.specs.declared.branch.BranchName.{BranchName}
use Rattle.sip_via.specs.declared.own.Own.{Own}
use Rattle.sip_branch.specs.BranchText.{IsBranch}
use Rattle.sip_via.specs.OwnPass.{IsOwnBranch}
use Rattle.sip_via.specs.TopVia.{has_second, top_value, via_values}
use Rattle.sip_route.specs.RequestKey.{request_key}
use Rattle.call_model.specs.Call.{Call, is_cancel_sent, is_sent}
use Rattle.call_model.specs.OpenedRequest.{OpenedRequest, branch_at, method_of}
use Rattle.call_state.specs.Kinds.{is_request_of, is_response, is_to_method}
use Rattle.call_model.specs.Take.{MatchedTransaction, Server, ServerAck, ServerCancel, Client, CancelClient}

-- ---- requests

-- a request that is such a one, with the key of the call's own request (section 17.2.3)
pub record Repeats (opened : OpenedRequest) (IsSuch : StartText → Type 0) (m : MessageText) : Type 0 where
  pub request : IsSuch m.start
  pub keyed : request_key m ≢ None
  pub same : request_key m ≡ request_key opened.request

-- ---- responses

-- a response to a request of that method on branch n: its top Via value is the one that the proxy put there (section
-- 17.1.3)
pub record Answers (opened : OpenedRequest) (method : List ℕ) (n : ℕ) (m : MessageText) : Type 0 where
  pub response : is_response m.start ≡ true
  -- targets are numbered in 16 bits
  pub number : n < 2 ^ 16
  pub via : IsOwnBranch opened.own (top_value m) (branch_at opened n)
  pub to_method : is_to_method method (message_cseq m.headers) ≡ true

-- the branch that such a value names, and no other
pub record IsReadBranch (own : Own) (value : List ℕ) (branch : BranchName) : Type 0 where
  pub names : IsOwnBranch own value branch
  pub only : (other : BranchName) → IsBranch other → IsOwnBranch own value other → other ≡ branch

-- ---- the transactions of a call

-- the caller's transaction takes the call's own request again, its ACK and its CANCEL (sections 9.2 and 17.2.3); a branch
-- takes a response once its request was sent; one with a single Via value was meant for the proxy itself
-- (section 16.7 step 3)
abbrev pub BelongsTo : Call → MessageText → MatchedTransaction → Type 0
BelongsTo call m Server = Repeats call.opened (λ start. is_request_of (method_of call.opened.request.start) start ≡ true) m
BelongsTo call m ServerAck = Repeats call.opened (λ start. known_method start ≡ Some Ack) m
BelongsTo call m ServerCancel = Repeats call.opened (λ start. known_method start ≡ Some Cancel) m
BelongsTo call m (Client n) =
    Answers call.opened (method_of call.opened.request.start) n m
    × (has_second (via_values m) ≡ true)
    × (is_sent call n ≡ true)
BelongsTo call m (CancelClient n) = Answers call.opened (codes "CANCEL") n m × (is_cancel_sent call n ≡ true)

-- a stray
abbrev pub BelongsToNone : Call → MessageText → Type 0
BelongsToNone call m = (r : MatchedTransaction) → BelongsTo call m r → ⊥
