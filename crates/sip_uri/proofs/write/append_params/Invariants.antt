use Rattle.sip_uri.proofs.Common.{◌≡◌, ◌≤◌, ◌++◌, take, vec_len, option_copied, pieces_behind, params_text, without_methods}
use Rattle.std.proofs.Common.{vec_capacity}
use Rattle.sip_uri.proofs.Keys.{size}
use Rattle.sip_uri.proofs.write.append_params.Given as goal

abbrev pub invariant-loop-rest : goal.invariant-loop-rest
invariant-loop-rest g l = record {
  text : l.out.items ++ params_text (without_methods (pieces_behind 59 (option_copied l.rest))) ≡ l.initial.out.items ++ params_text (without_methods (pieces_behind 59 (option_copied l.params)));
  begins : take (vec_len l.initial.out) l.out.items ≡ l.initial.out.items;
  capacity : vec_capacity l.initial.out ≤ vec_capacity l.out;
}

abbrev pub decreases-loop-rest : goal.decreases-loop-rest
decreases-loop-rest g l = size (option_copied l.rest)
