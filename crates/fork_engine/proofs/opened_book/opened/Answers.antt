use Rattle.fork_engine.proofs.opened_book.opened.Goals as goal

pub returns-clause-none : goal.returns-clause-none
returns-clause-none g c = (λ h. absurd cc, λ e. absurd (let h = c.in_ok-book.ensures.none.1 e in cc))

pub returns-clause-many : goal.returns-clause-many
returns-clause-many g c = (λ h. absurd cc, λ e. absurd (let h = c.in_ok-book.ensures.many.1 e in cc))

pub returns-clause-twice : goal.returns-clause-twice
returns-clause-twice g c = (λ h. absurd cc, λ e. absurd (let h = c.in_ok-book.ensures.twice.1 e in cc))
