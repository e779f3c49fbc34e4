use Rattle.sip_builders.proofs.Common.{[], along}
use Rattle.sip_builders.proofs.WrittenTexts.{is_written, spelled}
use Rattle.sip_builders.proofs.requests.along.Goals as goal

pub read_written-requires : goal.read_written-requires
read_written-requires g c =
    let m = along c.args.method.now c.args.sent.now c.args.to.now [] in
    let good = c.requires in
    let text = spelled c.new-text.result.items c.append_along.new.out.items c.deref.result.now m c.new-text.ensures.items c.in_ok-append_along.ensures c.deref.ensures.value in
    is_written c.deref.result.now m good text

pub returns-clause-ok : goal.returns-clause-ok
returns-clause-ok g c =
    let m = along c.args.method.now c.args.sent.now c.args.to.now [] in
    let good = c.requires in
    let text = spelled c.new-text.result.items c.append_along.new.out.items c.deref.result.now m c.new-text.ensures.items c.in_ok-append_along.ensures c.deref.ensures.value in
    c.in_ok-read_written.ensures m good text
