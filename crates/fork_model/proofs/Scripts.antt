-- A worked history computes.
use Rattle.fork_model.proofs.Common.{◌≡◌, map, arith}
use Rattle.fork_model.specs.Worked.{Script, events_of, replies_from, opening_of, end_of, Goes}
use Rattle.fork_model.proofs.ComputedReplies.{replies_to, replies_to_are}

pub goes : (script : Script) → replies_to (opening_of script) 0 (events_of script) ≡ replies_from 0 script.lines
    → map (λ row. row.state) (end_of script).rows ≡ script.states → Goes script
goes script replies states = grind (arith, replies_to_are)
