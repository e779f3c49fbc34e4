use Rattle.sip_text.proofs.Common.{◌∙◌, sym, ap, begins_with_space, header_in, headers_at, tail_at}
use Rattle.sip_text.proofs.HeaderPlaces.{header_continued, header_plain, value_front}
use Rattle.sip_text.proofs.head.header_of.Goals as goal

pub returns-then-not-begins_with_space-clause-ok : goal.returns-then-not-begins_with_space-clause-ok
returns-then-not-begins_with_space-clause-ok g c =
    header_plain c.args.kept.now.items c.args.line.now c.args.text.now c.args.at c.in-Some.places c.moved-moved.result c.requires.line c.in-Some.ensures.within c.in-Some.ensures.value (sym c.begins_with_space.ensures ∙ c.if-not-begins_with_space.true) c.moved-moved.ensures

pub with_lines-requires : goal.with_lines-requires
with_lines-requires g c = ap begins_with_space c.part_at.ensures ∙ value_front c.args.line.now (header_in c.args.line.now c.in-Some.places) c.in-Some.ensures.value

pub returns-clause-ok : goal.returns-clause-ok
returns-clause-ok g c =
    header_continued c.args.kept.now.items c.with_lines.new.kept.items c.args.line.now c.args.at c.in-Some.places c.moved-moved.result c.in_ok-value.value (tail_at c.args.text.now) (headers_at c.in_ok-value.rest.now) c.requires.line c.requires.place c.in-Some.ensures.within c.in-Some.ensures.value c.moved-moved.ensures c.in_ok-value.ensures.begins (rw c.part_at.ensures at c.in_ok-value.ensures.ok)
