-- Which transaction of a call a message belongs to (RFC 3261 sections 9.2, 16.7 steps 1 and 3, 17.1.3 and 17.2.3).
-- Here: what no public contract reaches.
use Rattle.std.specs.Prelude.{ℕ}
use Rattle.sip_text.specs.Text.{MessageText}
use Rattle.call_model.specs.Call.{Call}
use Rattle.call_model.specs.Take.{Server, ServerAck, ServerCancel, Client, CancelClient}
use Rattle.call_state.specs.Matching.{BelongsTo}

-- no branch takes it
abbrev pub BelongsToNoBranch : Call → MessageText → Type 0
BelongsToNoBranch call m = (n : ℕ) → (BelongsTo call m (Client n) → ⊥) × (BelongsTo call m (CancelClient n) → ⊥)

-- nor does the caller's transaction, as its request, its ACK or its CANCEL
abbrev pub BelongsToNoServer : Call → MessageText → Type 0
BelongsToNoServer call m = (BelongsTo call m Server → ⊥) × (BelongsTo call m ServerAck → ⊥) × (BelongsTo call m ServerCancel → ⊥)
