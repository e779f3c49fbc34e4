use Rattle.std.proofs.Common.{◌≤◌, ℕ, IfSome, length, sym, arith}
use Rattle.std.proofs.lemmas.List.{length-take-le}
use Rattle.serve_command.proofs.receiver.turn.Goals as goal

pub slice_bounds-pass_on-end-in-Some : goal.slice_bounds-pass_on-end-in-Some
slice_bounds-pass_on-end-in-Some g c =
    let fits : c.in-Some.count ≤ length c.receive.new.buffer = grind (arith, c.in_ok-received.ensures.fits, c.in-Some.is) in
    sym (length-take-le c.in-Some.count c.receive.new.buffer fits)
