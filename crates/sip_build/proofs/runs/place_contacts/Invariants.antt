use Rattle.sip_build.proofs.Common.{List, ℕ, take, codes, Bor, flat_map, header_text, line, Placed}
use Rattle.sip_build.proofs.runs.place_contacts.Given as goal

abbrev pub invariant-loop-text : goal.invariant-loop-text
invariant-loop-text l = Placed l.fn.out l.out l.at (flat_map (λ (t : Bor (List ℕ)). header_text (line (codes "Contact") t.now)) (take l.text-index l.kept)) l.end
