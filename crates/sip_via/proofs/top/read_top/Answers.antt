use Rattle.sip_via.proofs.Common.{Err, Ok, Result}
use Rattle.std.specs.Prelude.{OnErr}
use Rattle.sip_via.specs.Sender.{seen_sender}
use Rattle.sip_via.proofs.laws.ReadTop.{read_by, reads, sender_told}
use Rattle.sip_via.proofs.top.read_top.Goals as goal

-- what holds holds where the allocator refuses
always : {X E : Type 0} (r : Result X E) (P : Type 0) → P → OnErr r P
always (Ok x) P h = tt
always (Err e) P h = h

pub returns-in_err-clone-clause-refused : goal.returns-in_err-clone-clause-refused
returns-in_err-clone-clause-refused g c = always c.from_residual.result _ (reads c.args.message.now c.in-Some.line c.via_line-whole.result.now c.via_line-whole.ensures c.in-Some.ensures.found)

pub returns-in_err-marked-clause-refused : goal.returns-in_err-marked-clause-refused
returns-in_err-marked-clause-refused g c = always c.from_residual-in_err-marked.result _ (reads c.args.message.now c.in-Some.line c.via_line-whole.result.now c.via_line-whole.ensures c.in-Some.ensures.found)

pub returns-clause-top : goal.returns-clause-top
returns-clause-top g c =
    read_by c.args.message.now c.args.source _ c.via_line-whole.result.now c.in-Some.line (seen_sender c.sender_in-sender.result) c.fact_hop.ensures.bounded c.fact_hop.ensures.port c.via_line-whole.ensures c.in-Some.ensures.found
    c.in_ok-marked.ensures c.reply_hop_unmarked-reply.ensures c.sender_in-sender.ensures c.begins_with_cookie-cookie.ensures

pub returns-clause-sender : goal.returns-clause-sender
returns-clause-sender g c =
    sender_told c.args.message.now c.via_line-whole.result.now c.in-Some.line (seen_sender c.sender_in-sender.result) c.via_line-whole.ensures c.in-Some.ensures.found c.sender_in-sender.ensures
