-- A whole listing: its lines in their order, each ended by LF, and what they stand for.
-- Here: what no public contract reaches.
use Rattle.std.specs.Prelude.{ℕ, List, ◌++◌}
use Rattle.std.specs.List.{flat_map}
use Rattle.fork_model.specs.Table.{Rules}
use Rattle.fork_rank.specs.RuleLines.{ended}
use Rattle.fork_listing.specs.declared.line.Version.TheVariants.{Third}
use Rattle.fork_listing.specs.declared.line.ListedTarget.{ListedTarget}
use Rattle.fork_listing.specs.declared.line.Ranked.{Ranked}
use Rattle.fork_listing.specs.Line.{ForkLine, PreferLine, DepthLine, TargetLine, RankLine, line_text}

-- the parts of a listing of the third version
abbrev pub head_text : ℕ → Rules → List ℕ
head_text count rules =
    ended (line_text (ForkLine Third count))
    ++ (ended (line_text (PreferLine rules.preferred)) ++ ended (line_text (DepthLine rules.depth)))

abbrev pub targets_text : List ListedTarget → List ℕ
targets_text targets = flat_map (λ target. ended (line_text (TargetLine target))) targets

abbrev pub ranks_text : List Ranked → List ℕ
ranks_text ranks = flat_map (λ ranked. ended (line_text (RankLine ranked))) ranks
