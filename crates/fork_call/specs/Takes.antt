-- A message comes to a call: the one transaction that it belongs to takes it (RFC 3261 sections 9.2, 16.7, 17.1.3 and
-- 17.2.3).
use Rattle.std.specs.Prelude.{ℕ}
use Rattle.sip_text.specs.Text.{MessageText}
use Rattle.sip_uri.specs.declared.hop.Hop.{Hop}
use Rattle.call_model.specs.Call.{Call}
use Rattle.call_model.specs.Take.{MatchedTransaction, Taken, TakesAs}
use Rattle.call_state.specs.Matching.{BelongsTo}

abbrev pub Takes : Call → ℕ → MessageText → Hop → Taken → Call → Type 0
Takes call now m source taken new = (to : MatchedTransaction) × BelongsTo call m to × TakesAs call now m source to taken new
