use Rattle.sip_uri.proofs.Common.{◌≡◌, take, fold, Begun, progress_after}
use Rattle.sip_uri.proofs.checks.are_params.Given as goal

abbrev pub invariant-loop-byte : goal.invariant-loop-byte
invariant-loop-byte l = l.progress ≡ fold progress_after Begun (take l.byte-index l.text)
