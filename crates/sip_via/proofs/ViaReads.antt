-- A text is read exactly where it is a Via value.
use Rattle.sip_via.proofs.Common.{◌≡◌, ℕ, true, false, List, Result, Ok, Err, subst, and_parts, cases_Bool, cond-false, cond-true, ViaFault, BadVia, IsVia, ViaText, is_via, read_via, via_of, arith, common_steps}
use Rattle.std.specs.Prelude.{IfOk}
use Rattle.sip_via.specs.ViaFaults.{Gives}
use Rattle.sip_via.proofs.laws.ViaFound.{via_found}
use Rattle.sip_via.proofs.laws.ViaOnly.{via_again}

abbrev ok : ViaText → Result ViaText ViaFault
ok via = Ok via

ok_is : (x y : ViaText) → ok x ≡ ok y → x ≡ y
ok_is x y e = cc

via_read : (text : List ℕ) (via : ViaText) → read_via text ≡ Ok via → IsVia text via
via_read text via e = grind (arith, common_steps, cases_Bool (is_via text), and_parts, ok_is, cond-true, via_found, cond-false)

pub is_found : (text : List ℕ) (r : Result ViaText ViaFault) → Gives (λ (v : ViaText). v) r (read_via text) → IfOk r (λ via. IsVia text via)
is_found text r e = grind (arith, via_read)

pub only_read : (text : List ℕ) (r : Result ViaText ViaFault) → Gives (λ (v : ViaText). v) r (read_via text) → (via : ViaText) → IsVia text via → Gives (λ (v : ViaText). v) r (Ok via)
only_read text r h via good = subst (λ (x : Result ViaText ViaFault). Gives (λ (v : ViaText). v) r x) (via_again text via good) h

pub is_one : (text : List ℕ) → is_via text ≡ true → IsVia text (via_of text)
is_one text so = via_read text (via_of text) (cond-true (is_via text) (ok (via_of text)) (Err BadVia) so)

pub is_none : (text : List ℕ) → is_via text ≡ false → (via : ViaText) → IsVia text via → ⊥
is_none text other via good = grind (arith, common_steps, via_again text via good, cond-false)
