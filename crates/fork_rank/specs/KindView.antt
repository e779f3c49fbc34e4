-- The kind that a kind of the program stands for.
use Rattle.fork_model.specs.Table as spec
use Rattle.fork_rank.specs.declared.kind.Kind.{Kind}
use Rattle.fork_rank.specs.declared.kind.Kind.TheVariants as kind

abbrev pub kind_of : Kind → spec.Kind
kind_of kind.Invite = spec.Invite
kind_of kind.Other = spec.Other
