-- A tree once its table is closed.
use Rattle.fork_model.specs.Table as spec

-- what waits is never tried
abbrev pub never_tried : spec.State → spec.State
never_tried spec.Idle = spec.Ended spec.Never
never_tried spec.Trying = spec.Trying
never_tried (spec.Rung cancelled) = spec.Rung cancelled
never_tried (spec.Ended end) = spec.Ended end

abbrev pub closed_row : spec.Row → spec.Row
closed_row row = record row { state = never_tried row.state }
