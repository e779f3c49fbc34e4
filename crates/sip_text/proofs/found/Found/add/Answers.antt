use Rattle.sip_text.proofs.Common.{header_in}
use Rattle.sip_text.proofs.NeededFields.{finds_length, finds_needed, finds_other, got_still, with_length}
use Rattle.sip_text.proofs.found.Found.add.Goals as goal

pub returns-in-Needed : goal.returns-in-Needed
returns-in-Needed c = λ hs f.
    finds_needed c.args.text.now hs (header_in c.args.text.now c.args.line) c.args.self c.add_needed.result c.in-Needed.which (rw c.part_within.ensures at c.in-Needed.ensures.needed) (rw c.part_within.ensures at c.in-Needed.ensures.length) (c.add_needed.ensures.needed c.args.text.now) c.add_needed.ensures.length f

pub returns-in-Length : goal.returns-in-Length
returns-in-Length c = λ hs f.
    finds_length c.args.text.now hs (header_in c.args.text.now c.args.line) c.args.self (with_length c.args.self c.said_then-found.result) (rw c.part_within.ensures at c.in-Length.ensures.needed) (rw c.part_within.ensures at c.in-Length.ensures.length) (got_still c.args.text.now c.args.self c.said_then-found.result) (rw c.part_within-in-Length.ensures at c.said_then-found.ensures) f

pub returns-in-Other : goal.returns-in-Other
returns-in-Other c = λ hs f. finds_other c.args.text.now hs (header_in c.args.text.now c.args.line) c.args.self (rw c.part_within.ensures at c.in-Other.ensures.needed) (rw c.part_within.ensures at c.in-Other.ensures.length) f
