use Rattle.context_values.proofs.Alike.{all_one_group}
use Rattle.context_values.proofs.Common.{◌≡◌, ◌∙◌, sym, in_group, length, numbers_below}
use Rattle.std.proofs.lemmas.Bool.{OnTrue_from}
use Rattle.fork_model.specs.Groups.{numbered}
use Rattle.context_values.proofs.numbering.are_all.Goals as goal

pub returns : goal.returns
returns c = OnTrue_from c.are_equal.result (numbered c.args.qs.now ≡ in_group 0 (numbers_below (length c.args.qs.now))) (λ is. all_one_group c.args.q c.args.qs.now c.requires.some (sym c.are_equal.ensures ∙ is))
