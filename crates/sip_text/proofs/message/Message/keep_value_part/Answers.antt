use Rattle.sip_text.proofs.Common.{◌∙◌, ap, with_part_at}
use Rattle.sip_text.proofs.Places.{lines_length, part_is_kept, part_is_put}
use Rattle.sip_text.proofs.message.Message.keep_value_part.Goals as goal

pub invariant_of-self : goal.invariant_of-self
invariant_of-self g c =
    let m = c.self.inside in
    let lt = lines_length m.text.items m.start m.lines.items m.body c.args.self.now c.args.place c.self.view_is c.requires.place in
    part_is_kept m.text.items m.start m.lines.items m.body c.args.place c.args.start c.args.len c.index_mut-line.result.now c.part-line.result c.args.self.now c.self.invariant c.self.view_is lt c.index_mut-line.ensures.value c.part-line.ensures.part c.part-line.ensures.within c.requires.message

pub returns : goal.returns
returns g c =
    let m = c.self.inside in
    let lt = lines_length m.text.items m.start m.lines.items m.body c.args.self.now c.args.place c.self.view_is c.requires.place in
    part_is_put m.text.items m.start m.lines.items m.body c.args.place c.args.start c.args.len c.index_mut-line.result.now c.part-line.result c.self.invariant lt c.index_mut-line.ensures.value c.part-line.ensures.part ∙ ap (with_part_at c.args.place c.args.start c.args.len) c.self.view_is
