use Rattle.sip_text.proofs.Common.{◌∙◌, ap, with_value_at}
use Rattle.sip_text.proofs.Places.{lines_length, value_is_kept, value_is_put}
use Rattle.sip_text.proofs.message.Message.set_value.Goals as goal

pub invariant_of-self-2 : goal.invariant_of-self-2
invariant_of-self-2 g c =
    let m = c.self.inside in
    let lt = lines_length m.text.items m.start m.lines.items m.body c.args.self.now c.args.place c.self.view_is c.requires.place in
    rw (c.in_ok-extend_from_slice.ensures.items, c.len-start.ensures ∙ m.text.ok.0) (value_is_kept m.text.items c.args.value.now m.start m.lines.items m.body c.args.place c.index_mut-line.result.now c.args.self.now c.self.invariant c.self.view_is lt c.index_mut-line.ensures.value c.requires.message)

pub returns-clause-ok : goal.returns-clause-ok
returns-clause-ok g c =
    let m = c.self.inside in
    let lt = lines_length m.text.items m.start m.lines.items m.body c.args.self.now c.args.place c.self.view_is c.requires.place in
    rw (c.in_ok-extend_from_slice.ensures.items, c.len-start.ensures ∙ m.text.ok.0) (value_is_put m.text.items c.args.value.now m.start m.lines.items m.body c.args.place c.index_mut-line.result.now c.self.invariant lt c.index_mut-line.ensures.value ∙ ap (with_value_at c.args.place c.args.value.now) c.self.view_is)
