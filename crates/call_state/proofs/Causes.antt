-- What a Reason field says of a 6xx is a value that a header field may have.
use Rattle.call_state.proofs.Common.{◌≡◌, ℕ, ◌<◌, ◌++◌, true, false, not, List, ap, refl, and_from, and_parts, is_value}
use Rattle.std.proofs.Common.{◌^◌, codes, reverse}
use Rattle.std.proofs.lemmas.Fmt.{decimal_nonempty}
use Rattle.std.specs.Fmt.{decimal}
use Rattle.sip_lex.specs.Values.{begins_with_space, is_line, is_trimmed}
use Rattle.sip_via.proofs.laws.Marked.{back-of, decimal-line, line-append}
use Rattle.sip_via.proofs.laws.OwnVia.{IsEnd, decimal-value, end-behind}

pub cause-good : (n : ℕ) → n < 2 ^ 64 → is_value (codes "SIP;cause=" ++ decimal n) ≡ true
cause-good n small =
    let parts = and_parts (is_line (decimal n)) (is_trimmed (decimal n)) (decimal-value n small) in
    let end : IsEnd (decimal n) = record { some = decimal_nonempty n small; ends = back-of (decimal n) parts.1 } in
    let value = codes "SIP;cause=" ++ decimal n in
    let lines : is_line value ≡ true = line-append (codes "SIP;cause=") (decimal n) refl (decimal-line n small) in
    let back : begins_with_space (reverse value) ≡ false = (end-behind (codes "SIP;cause=") (decimal n) end).ends in
    and_from (is_line value) (is_trimmed value) lines (and_from (not (begins_with_space value)) (not (begins_with_space (reverse value))) refl (ap not back))
