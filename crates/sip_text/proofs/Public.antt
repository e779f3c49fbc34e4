-- What reading answered, by the relation.
use Rattle.sip_text.proofs.Common.{ℕ, List, Result, Ok, Err, sym, subst, ◌∙◌, FailsAs, Gives, fault_seen, IsText, read_at, Fault, MessageText, arith}
use Rattle.std.specs.Prelude.{IfOk}
use Rattle.sip_text.specs.declared.fault.ReadFault.{ReadFault}
use Rattle.sip_text.proofs.laws.Whole.{text_found, text_read}

pub is_found : {A : Type 0} (text : List ℕ) (r : Result MessageText (ReadFault A)) → Gives (λ m. m) r (read_at text) → IfOk r (λ m. IsText text m)
is_found text r e = grind (arith, text_found)

pub is_only : {A : Type 0} (text : List ℕ) (r : Result MessageText (ReadFault A)) → Gives (λ m. m) r (read_at text) → (m : MessageText) → IsText text m → Gives (λ m. m) r (Ok m)
is_only text (Ok x) e m t = sym (text_read text m t) ∙ e
is_only text (Err f) e m t = subst (λ (r : Result MessageText Fault). FailsAs (fault_seen f) r) (text_read text m t) e
