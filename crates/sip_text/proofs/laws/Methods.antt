-- What a method is named.
use Rattle.sip_text.proofs.Common.{◌≡◌, ℕ, Bool, true, false, List, refl}
use Rattle.std.proofs.Common.{codes}
use Rattle.std.proofs.lemmas.Slice.Eq.{bytes_eq-Decides}
use Rattle.std.specs.Prelude.{if◌then◌else◌}
use Rattle.std.specs.Str.{bytes_eq}
use Rattle.sip_text.specs.declared.method.Method.TheVariants.{Invite, Ack, Cancel, Options, Other}
use Rattle.sip_text.specs.Method.{method_named}

-- of four tests the last
last : (a b c d : Bool) → (if a then Invite else (if b then Ack else (if c then Cancel else (if d then Options else Other)))) ≡ Options → d ≡ true
last true b c d e = absurd cc
last false true c d e = absurd cc
last false false true d e = absurd cc
last false false false true e = refl
last false false false false e = absurd cc

pub options_named : (name : List ℕ) → method_named name ≡ Options → name ≡ codes "OPTIONS"
unfolding method_named
options_named name e =
    (bytes_eq-Decides name (codes "OPTIONS")).0
    (last (bytes_eq name (codes "INVITE")) (bytes_eq name (codes "ACK")) (bytes_eq name (codes "CANCEL")) (bytes_eq name (codes "OPTIONS")) e)
