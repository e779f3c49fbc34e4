use Rattle.std.proofs.Common.{◌≡◌, ap, ◌∙◌, subst, sym, refl, codes, unwrap_or}
use Rattle.std.proofs.lemmas.Result.{on_ok_weaker}
use Rattle.fork_model.specs.Core.{Core}
use Rattle.fork_model.specs.Log.{core_of}
use Rattle.sip_text.specs.declared.needed.MandatoryHeader.TheVariants.{CallId, From}
use Rattle.sip_text.specs.Fields.{value_of}
use Rattle.sip_text.specs.Text.{MessageText, method_in}
use Rattle.sip_via.specs.ViaParts.{or_empty}
use Rattle.sip_route.specs.Loop.{request_uri}
use Rattle.call_journal.specs.declared.head.CallRecord.{CallRecord}
use Rattle.call_journal.specs.Block.{Journals}
use Rattle.proxy_service.proofs.journal.append_block.Goals as goal

pub returns-clause-ok : goal.returns-clause-ok
returns-clause-ok g c =
    let of_call = c.request-request.ensures in
    let head : CallRecord = record {
      time = c.args.time;
      number = c.number.result;
      method = c.method_of.result;
      uri = c.request_uri.result;
      caller = c.first_value.result;
      call_id = c.call_id.result;
    } in
    on_ok_weaker c.append_call.result
    (λ journals. (
      head,
      record {
        time_is = refl;
        number_is = c.number.ensures;
        method = c.method_of.ensures ∙ ap (λ (m : MessageText). unwrap_or (method_in m.start) (codes "-")) of_call;
        uri = c.request_uri.ensures ∙ ap (λ (m : MessageText). request_uri m.start) of_call;
        caller = c.first_value.ensures ∙ ap (λ (m : MessageText). or_empty (value_of From m.headers)) of_call;
        call_id = ap (λ (m : MessageText). value_of CallId m.headers) (sym of_call) ∙ c.call_id.ensures;
      },
      subst (λ (core : Core). Journals head core.table c.args.notes.now c.args.block.now.items c.append_call.new.out.items)
          (c.context.ensures.stands ∙ ap core_of c.book.ensures) journals,
    ))
    c.append_call.ensures.ok
