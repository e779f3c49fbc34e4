use Rattle.std.proofs.Common.{◌∙◌, ⊎_elim, inr, sym}
use Rattle.std.proofs.lemmas.Bool.{false≢true}
use Rattle.std.proofs.lemmas.Slice.Eq.{bytes_eq-Decides}
use Rattle.control_socket.proofs.command.read_command.Goals as goal

pub returns-clause-calls : goal.returns-clause-calls
returns-clause-calls c = λ from. (
  (λ e. inr ((c.read_long.ensures.calls from).0 e)),
  (λ is. ⊎_elim
      (λ both. absurd (false≢true (sym c.if-eq-5.false ∙ c.eq-5.ensures ∙ (bytes_eq-Decides c.args.line.now c.as_slice-5.result.now).1 (both.0 ∙ sym c.as_slice-5.ensures))))
      (λ behind. (c.read_long.ensures.calls from).1 behind) is),
)
