use Rattle.sip_text.proofs.Common.{◌∙◌, ap, without_line_at}
use Rattle.sip_text.proofs.Places.{gone_is_kept, line_is_gone}
use Rattle.sip_text.proofs.message.Message.remove_header.Goals as goal

pub invariant_of-self : goal.invariant_of-self
invariant_of-self g c =
    let m = c.self.inside in
    rw c.remove.ensures.items (gone_is_kept m.text.items m.start m.lines.items m.body c.args.place c.args.self.now c.self.invariant c.self.view_is c.requires.message)

pub returns : goal.returns
returns g c =
    let m = c.self.inside in
    rw c.remove.ensures.items (line_is_gone m.text.items m.start m.lines.items m.body c.args.place ∙ ap (without_line_at c.args.place) c.self.view_is)
