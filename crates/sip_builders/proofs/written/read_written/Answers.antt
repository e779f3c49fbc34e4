use Rattle.sip_builders.proofs.Common.{◌≡◌, ◌∙◌, Ok, MessageText, arith, ap, sym, subst}
use Rattle.sip_text.specs.Message.{read_at}
use Rattle.sip_text.specs.declared.fault.ReadFault.{ReadFault}
use Rattle.sip_text.specs.declared.fault.ReadFault.TheVariants.{NoMemory}
use Rattle.sip_text.specs.Fault.{Fails}
use Rattle.sip_text.specs.Reading.{Fault}
use Rattle.std.specs.Prelude.{Result}
use Rattle.sip_builders.proofs.written.read_written.Goals as goal

abbrev read : MessageText → Result MessageText Fault
read m = Ok m

same : (x m : MessageText) → read x ≡ read m → x ≡ m
same x m e = cc

-- what spells a message is refused for want of memory alone
only-memory : {A : Type 0} (e : ReadFault A) (m : MessageText) → Fails e (read m) → e ≡ NoMemory
only-memory e m fails = grind arith

pub returns-in-Ok : goal.returns-in-Ok
returns-in-Ok g c m is e = same c.in-Ok.message m (sym c.in-Ok.ensures.exact ∙ ap read_at e ∙ c.round_trip.ensures m is)

pub unreachable-requires : goal.unreachable-requires
unreachable-requires g c =
    let m = c.requires.0 in
    let reads = ap read_at c.requires.2 ∙ c.round_trip.ensures m c.requires.1 in
    c.in_default.not-NoMemory (only-memory c.in-Err.fault m (subst (λ (r : Result MessageText Fault). Fails c.in-Err.fault r) reads c.in-Err.ensures.exact))
