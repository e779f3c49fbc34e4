-- How long a branch is waited for (RFC 3261 sections 9.1 and 16.8).
use Rattle.std.specs.Prelude.{ℕ, Option, None, if◌then◌else◌}
use Rattle.fork_model.specs.Table.{is_cancelled}
use Rattle.call_model.specs.Call.{Call, nth_branch, row_passes, runs_timer_c}
use Rattle.call_model.specs.Due.{give_up_at, timer_c_at}

-- until its timer C fires, or, where it was cancelled, until it is given up
abbrev pub waits_until : Call → ℕ → Option ℕ
waits_until call n =
    if row_passes runs_timer_c call n then timer_c_at (nth_branch call n)
    else (if row_passes is_cancelled call n then give_up_at (nth_branch call n) else None)
