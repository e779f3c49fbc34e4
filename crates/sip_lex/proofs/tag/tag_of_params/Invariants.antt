use Rattle.std.proofs.Common.{◌≡◌}
use Rattle.std.specs.Option.{option_copied}
use Rattle.sip_lex.specs.declared.sheltered.Shelter.TheVariants.{QuotesAndAngles}
use Rattle.sip_lex.specs.Outside.{pieces_outside_behind}
use Rattle.sip_lex.specs.Tag.{tag_of_params}
use Rattle.sip_lex.proofs.Size.{size}
use Rattle.sip_lex.proofs.tag.tag_of_params.Given as goal

abbrev pub invariant-loop-rest : goal.invariant-loop-rest
invariant-loop-rest l = tag_of_params (pieces_outside_behind QuotesAndAngles 59 (option_copied l.rest)) ≡ tag_of_params (pieces_outside_behind QuotesAndAngles 59 (option_copied l.params))

abbrev pub decreases-loop-rest : goal.decreases-loop-rest
decreases-loop-rest l = size (option_copied l.rest)
