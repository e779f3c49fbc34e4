use Rattle.std.proofs.Common.{sym, ◌∙◌}
use Rattle.bindings.proofs.Steps.{twice_here, twice_later}
use Rattle.bindings.proofs.lists.+has_twice.Goals as goal

pub returns-then-stands_among : goal.returns-then-stands_among
returns-then-stands_among t c =
    twice_here c.in-Some.first.now c.in-Some.others.now c.args.contacts.now c.in-Some.ensures.cases.0 (sym c.stands_among.ensures ∙ c.if-stands_among.true)

pub returns : goal.returns
returns t c =
    c.has_twice.ensures ∙ twice_later c.in-Some.first.now c.in-Some.others.now c.args.contacts.now c.in-Some.ensures.cases.0 (sym c.stands_among.ensures ∙ c.if-stands_among.false)
