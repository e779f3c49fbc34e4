-- The choice, and what goes up, that those of the program stand for.
use Rattle.fork_model.specs.Choice as spec_choice
use Rattle.fork_model.specs.Reply as spec
use Rattle.context_values.specs.declared.reply.Choice.{Choice}
use Rattle.context_values.specs.declared.reply.Choice.TheVariants as choice
use Rattle.context_values.specs.declared.reply.Up.{Up}
use Rattle.context_values.specs.declared.reply.Up.TheVariants as up

abbrev pub choice_of : Choice → spec_choice.Choice
choice_of (choice.Stored n) = spec_choice.Best n
choice_of (choice.Only503 n) = spec_choice.Only503 n
choice_of choice.NoAnswer408 = spec_choice.NoAnswer408

abbrev pub up_of : Up → spec.Up
up_of up.Nothing = spec.Nothing
up_of (up.Provisional n) = spec.Provisional n
up_of (up.Success n) = spec.Success n
up_of (up.Final choice) = spec.Final (choice_of choice)
