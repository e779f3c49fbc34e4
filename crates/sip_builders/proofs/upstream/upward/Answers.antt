use Rattle.sip_builders.proofs.Common.{◌≡◌, ◌∙◌, true, Ok, Result, ap, sym, MessageText, has_second, via_values, seen_kept, upward_of, arith}
use Rattle.sip_via.specs.declared.own.BuildFault.{BuildFault}
use Rattle.sip_builders.proofs.UpwardGood.{upward-good}
use Rattle.sip_builders.proofs.WrittenTexts.{is_written, spelled}
use Rattle.sip_builders.proofs.upstream.upward.Goals as goal

pub read_written-requires : goal.read_written-requires
read_written-requires g c =
    let m = upward_of c.args.message.now (seen_kept c.args.kept) c.args.challenges.now in
    let second : has_second (via_values c.args.message.now) ≡ true = grind arith in
    let good = upward-good c.args.message.now (seen_kept c.args.kept) c.args.challenges.now c.is_message.ensures second c.requires.kept c.requires.challenges in
    let text = spelled c.new-text.result.items c.write_forwarded_response.new.out.items c.deref.result.now m c.new-text.ensures.items c.in_ok-write_forwarded_response.ensures.ok c.deref.ensures.value in
    is_written c.deref.result.now m good text

abbrev built : MessageText → Result MessageText BuildFault
built m = Ok m

pub returns-clause-ok : goal.returns-clause-ok
returns-clause-ok g c =
    let m = upward_of c.args.message.now (seen_kept c.args.kept) c.args.challenges.now in
    let second : has_second (via_values c.args.message.now) ≡ true = grind arith in
    let good = upward-good c.args.message.now (seen_kept c.args.kept) c.args.challenges.now c.is_message.ensures second c.requires.kept c.requires.challenges in
    let text = spelled c.new-text.result.items c.write_forwarded_response.new.out.items c.deref.result.now m c.new-text.ensures.items c.in_ok-write_forwarded_response.ensures.ok c.deref.ensures.value in
    c.in_ok-write_forwarded_response.ensures.built ∙ ap built (sym (c.in_ok-read_written.ensures m good text))
