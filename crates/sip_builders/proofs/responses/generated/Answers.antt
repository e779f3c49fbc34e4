use Rattle.sip_builders.proofs.Common.{[], refl, generated_of}
use Rattle.sip_builders.proofs.laws.GeneratedGood.{generated_good, no_length}
use Rattle.sip_builders.proofs.WrittenTexts.{is_written, spelled}
use Rattle.sip_builders.proofs.responses.generated.Goals as goal

pub read_written-requires : goal.read_written-requires
read_written-requires g c =
    let m = generated_of c.args.message.now c.args.status [] in
    let good = generated_good c.args.message.now c.args.status [] c.is_message.ensures refl no_length in
    let text = spelled c.new-text.result.items c.write_own_response.new.out.items c.deref.result.now m c.new-text.ensures.items c.in_ok-write_own_response.ensures.ok c.deref.ensures.value in
    is_written c.deref.result.now m good text

pub returns-clause-ok : goal.returns-clause-ok
returns-clause-ok g c =
    let m = generated_of c.args.message.now c.args.status [] in
    let good = generated_good c.args.message.now c.args.status [] c.is_message.ensures refl no_length in
    let text = spelled c.new-text.result.items c.write_own_response.new.out.items c.deref.result.now m c.new-text.ensures.items c.in_ok-write_own_response.ensures.ok c.deref.ensures.value in
    c.in_ok-read_written.ensures m good text
