use Rattle.std.proofs.Common.{◌≡◌, ◌<◌, length, IfNone, IfSome}
use Rattle.sockets.proofs.client.place_of_first.Given as goal

abbrev pub invariant-loop-place : goal.invariant-loop-place
invariant-loop-place g l = IfSome l.first (λ place. place < length l.clients) × IfNone l.first (l.place ≡ 0)
