use Rattle.sip_build.proofs.Common.{◌≡◌, take, length, List, ℕ, codes, Bor, flat_map, header_text, line, saturated}
use Rattle.sip_build.proofs.run_lens.contacts_len.Given as goal

abbrev pub invariant-loop-text : goal.invariant-loop-text
invariant-loop-text l = l.len ≡ saturated (length (flat_map (λ (t : Bor (List ℕ)). header_text (line (codes "Contact") t.now)) (take l.text-index l.kept)))
