use Rattle.call_caller.proofs.Common.{◌≡◌, ◌++◌, flat_map, challenge_in}
use Rattle.sip_text.specs.Seen.{views}
use Rattle.call_caller.proofs.response_event.challenges_in.Given as goal

abbrev pub invariant-loop-header : goal.invariant-loop-header
invariant-loop-header g l = l.challenges.items ++ flat_map challenge_in (views l.header-iterator) ≡ flat_map challenge_in (views l.headers)
