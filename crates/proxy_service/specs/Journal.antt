-- What is written down of a call at its end.
use Rattle.std.specs.Prelude.{◌≡◌, ℕ, List, Some, codes, unwrap_or}
use Rattle.fork_model.specs.Log.{core_of}
use Rattle.sip_text.specs.declared.needed.MandatoryHeader.TheVariants.{CallId, From}
use Rattle.sip_text.specs.Fields.{value_of}
use Rattle.sip_text.specs.Text.{MessageText, method_in}
use Rattle.sip_via.specs.ViaParts.{or_empty}
use Rattle.sip_route.specs.Loop.{request_uri}
use Rattle.call_model.specs.Call.{Call}
use Rattle.call_journal.specs.declared.head.CallRecord.{CallRecord}
use Rattle.call_journal.specs.declared.notes.Note.{Note}
use Rattle.call_journal.specs.Block.{Journals}

-- the line tells of the request that opened the call
pub record IsHeadOf (number : ℕ) (request : MessageText) (time : ℕ) (h : CallRecord) : Type 0 where
  pub time_is : h.time ≡ time
  pub number_is : h.number ≡ number
  pub method : h.method.now ≡ unwrap_or (method_in request.start) (codes "-")
  pub uri : h.uri.now ≡ request_uri request.start
  pub caller : h.caller.now ≡ or_empty (value_of From request.headers)
  pub call_id : value_of CallId request.headers ≡ Some h.call_id.now

abbrev pub WritesDown : Call → ℕ → List Note → List ℕ → List ℕ → Type 0
WritesDown call time notes old new =
    (h : CallRecord) × IsHeadOf call.opened.number call.opened.request time h × Journals h (core_of call.log).table notes old new
