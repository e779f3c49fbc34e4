use Rattle.std.proofs.Common.{◌≤◌, ◌++◌, ◌-◌, [], drop, length, sym, ap, ◌∙◌, arith}
use Rattle.control_socket.proofs.Parts.{left_of_text}
use Rattle.control_socket.proofs.answer.ClientAnswer.next.Goals as goal

pub returns-else-self-clause-front : goal.returns-else-self-clause-front
returns-else-self-clause-front c =
    let past : length c.self.inside.front.now ≤ c.self.inside.written = omega arith in
    ([], sym c.self.view_is ∙ left_of_text c.self.inside.front.now c.self.inside.text.items c.self.inside.written past ∙ ap (λ l. l ++ []) (sym (c.behind_first-else-self.ensures ∙ ap (λ l. drop (c.self.inside.written - length c.self.inside.front.now) l) c.as_slice.ensures.value)))
