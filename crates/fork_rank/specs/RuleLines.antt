-- The lines of the rules that an operator may set: which statuses go first, and how deep contacts of contacts are tried
-- (RFC 3261 sections 16.5 and 16.7 steps 4 and 6).
use Rattle.std.specs.Prelude.{ℕ, List, [], ◌∷◌, ◌++◌, codes}
use Rattle.std.specs.Fmt.{decimal}
use Rattle.fork_rank.specs.Preferred.{usual_preferred}
use Rattle.fork_model.specs.Table.{Rules, most_targets}
use Rattle.fork_rank.specs.PreferredText.{list_text}

abbrev pub prefer_text : List ℕ → List ℕ
prefer_text statuses = codes "prefer " ++ list_text statuses

abbrev pub depth_text : ℕ → List ℕ
depth_text depth = codes "depth " ++ decimal depth

-- with its LF
abbrev pub ended : List ℕ → List ℕ
ended line = line ++ 10 ∷ []

-- what holds where no line says otherwise
abbrev pub usual_rules : Rules
usual_rules = record { preferred = usual_preferred; depth = most_targets }
