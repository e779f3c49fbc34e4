use Rattle.std.proofs.Common.{inl, inr, refl}
use Rattle.authentication.proofs.decision.of_untrusted.Goals as goal

pub returns-then-is_of_dialog : goal.returns-then-is_of_dialog
returns-then-is_of_dialog g c = inl (c.is_of_dialog.ensures.0 c.if-is_of_dialog.true, refl)

pub returns : goal.returns
returns g c = inr (λ dialog. let yes = c.is_of_dialog.ensures.1 dialog in absurd (cc (yes, c.if-is_of_dialog.false)), c.in_ok-decision.ensures)
