-- A fork after some group was started, or none.
use Rattle.fork_context.proofs.Common.{◌≡◌, ℕ, Bool, false, List, Option, Some, None, arith, sym, subst, slice_get, IfSome, IfNone, Kind, Row, Table, may_start, Tree, RowExtras, IsFork, IsReady, tried, common_steps}
use Rattle.fork_context.proofs.RowsWithExtras.{with_extras_tried}
use Rattle.fork_context.proofs.ForkRows.{table_of, table_changes, ready_with_extras, none_with_extras, fork_tried}

abbrev pub NoneMay : List Row → Type 0
NoneMay rows = (k : ℕ) (row : Row) → slice_get rows k ≡ Some row → may_start rows row ≡ false

-- what the tree tells of the group that it started
abbrev pub ToldNone : Option (ℕ × ℕ) → Tree → Tree → Type 0
ToldNone o t u = IfNone o ((u ≡ t) × NoneMay t.rows)

abbrev pub ToldSome : Option (ℕ × ℕ) → Tree → Tree → Type 0
ToldSome o t u = IfSome o (λ g. IsReady t.rows g.0 g.1 × (u ≡ record t { rows = tried t.rows g.0 g.1 }))

pub started_fork : (o : Option (ℕ × ℕ)) (t u : Tree) (extras : List RowExtras) (flag : Bool) → IsFork t.rows extras flag → ToldNone o t u → ToldSome o t u
    → IsFork u.rows extras flag
started_fork None t u extras flag fork none some = let P : Tree → Type 0 = λ x. IsFork x.rows extras flag in subst P (sym none.0) fork
started_fork (Some g) t u extras flag fork none some =
    let P : Tree → Type 0 = λ x. IsFork x.rows extras flag in subst P (sym some.1) (fork_tried t.rows extras flag g.0 g.1 fork some.0)

pub started_none : (o : Option (ℕ × ℕ)) (t u : Tree) (extras : List RowExtras) (flag : Bool) (kind : Kind) (closed : Bool) (now : Table)
    → IsFork t.rows extras flag → table_of kind closed extras t ≡ now → ToldNone o t u
    → IfNone o ((table_of kind closed extras u ≡ now) × NoneMay now.rows)
started_none o t u extras flag kind closed now fork is none = grind (arith, common_steps, table_of, none_with_extras)

pub started_some : (o : Option (ℕ × ℕ)) (t u : Tree) (extras : List RowExtras) (flag : Bool) (kind : Kind) (closed : Bool) (now : Table)
    → IsFork t.rows extras flag → table_of kind closed extras t ≡ now → ToldSome o t u
    → IfSome o (λ g. IsReady now.rows g.0 g.1 × (table_of kind closed extras u ≡ record now { rows = tried now.rows g.0 g.1 }))
started_some None t u extras flag kind closed now fork is some = tt
started_some (Some g) t u extras flag kind closed now fork is some =
    let P : Table → Type 0 = λ x. IsReady x.rows g.0 g.1 in (
      subst P is (ready_with_extras t.rows extras g.0 g.1 fork.is_plain some.0),
      table_changes (λ rows. tried rows g.0 g.1) kind closed extras t u now (with_extras_tried t.rows extras g.0 g.1) is some.1,
    )
