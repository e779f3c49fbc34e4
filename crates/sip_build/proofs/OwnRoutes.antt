-- The proxy's own URI is a header value.
use Rattle.sip_build.proofs.Common.{◌≡◌, ℕ, true, false, not, List, [], ◌∷◌, ◌++◌, refl, ap, arith, codes, decimal, Own, is_value, address_text}
use Rattle.std.proofs.Common.{reverse}
use Rattle.sip_text.proofs.laws.Good.{and_both}
use Rattle.sip_text.specs.Message.{is_line, is_trimmed}
use Rattle.sip_lex.specs.Values.{begins_with_space}
use Rattle.sip_via.specs.OwnVia.{IsOwn}
use Rattle.sip_via.proofs.laws.Marked.{address-line, decimal-line, line-append}
use Rattle.sip_via.proofs.laws.OwnVia.{IsEnd, end-behind}
use Rattle.sip_build.specs.OwnRoute.{own_route}

line-value : (v : List ℕ) → is_line v ≡ true → begins_with_space v ≡ false → IsEnd v → is_value v ≡ true
line-value v line first last = and_both (is_line v) (is_trimmed v) line (and_both (not (begins_with_space v)) (not (begins_with_space (reverse v))) (ap not first) (ap not last.ends))

-- ---- what stands behind the address

abbrev from_port : Own → List ℕ
from_port own = 58 ∷ (decimal own.port ++ codes ";lr>")

port-line : (own : Own) → IsOwn own → is_line (from_port own) ≡ true
port-line own is = line-append (decimal own.port) (codes ";lr>") (decimal-line own.port is.port) refl

port-end : (own : Own) → IsEnd (from_port own)
port-end own = end-behind (58 ∷ []) (decimal own.port ++ codes ";lr>") (end-behind (decimal own.port) (codes ";lr>") (record { some = omega arith; ends = refl }))

pub own_route-good : (own : Own) → IsOwn own → is_value (own_route own) ≡ true
own_route-good own is =
    let rest = address_text own.addr ++ from_port own in
    line-value (own_route own)
    (line-append (codes "<sip:") rest refl (line-append (address_text own.addr) (from_port own) (address-line own.addr is.address) (port-line own is)))
    refl
    (end-behind (codes "<sip:") rest (end-behind (address_text own.addr) (from_port own) (port-end own)))
