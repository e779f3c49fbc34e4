-- The URI of the proxy with a token is a header value.
use Rattle.fork_call.proofs.OpeningCommon.{◌≡◌, ℕ, Bool, true, false, List, [], Option, Some, None, refl, ap, arith, codes, Own}
use Rattle.std.specs.Prelude.{◌∷◌, ◌++◌, not, reverse, IfSome}
use Rattle.std.specs.Fmt.{decimal}
use Rattle.sip_lex.specs.Values.{begins_with_space}
use Rattle.sip_text.proofs.laws.Good.{and_both}
use Rattle.sip_text.specs.Message.{is_line, is_trimmed, is_value}
use Rattle.sip_via.specs.Address.{address_text}
use Rattle.sip_via.specs.OwnVia.{IsOwn}
use Rattle.sip_via.proofs.laws.Marked.{address-line, decimal-line, line-append}
use Rattle.sip_via.proofs.laws.OwnVia.{IsEnd, end-behind}
use Rattle.fork_call.specs.Opening.{own_route_with, route_end, transport_text, two_routes}

line_value : (v : List ℕ) → is_line v ≡ true → begins_with_space v ≡ false → IsEnd v → is_value v ≡ true
line_value v line first last = and_both (is_line v) (is_trimmed v) line (and_both (not (begins_with_space v)) (not (begins_with_space (reverse v))) (ap not first) (ap not last.ends))

end_line : (token : Option (List ℕ)) → IfSome token (λ text. is_line text ≡ true) → is_line (route_end token) ≡ true
end_line None h = refl
end_line (Some token) h = line-append (codes ";lr;d=") (token ++ codes ">") refl (line-append token (codes ">") h refl)

end_end : (token : Option (List ℕ)) → IsEnd (route_end token)
end_end None = record { some = omega arith; ends = refl }
end_end (Some token) = end-behind (codes ";lr;d=") (token ++ codes ">") (end-behind token (codes ">") (record { some = omega arith; ends = refl }))

transport_line : (stream : Bool) → is_line (transport_text stream) ≡ true
transport_line false = refl
transport_line true = refl

own_route_line : (own : Own) (stream : Bool) (token : Option (List ℕ)) → IsOwn own → IfSome token (λ text. is_line text ≡ true) → is_line (own_route_with own stream token) ≡ true
own_route_line own stream token is h =
    let tail = transport_text stream ++ route_end token in
    let behind_port = decimal own.port ++ tail in
    let from_port = 58 ∷ behind_port in
    let tail_line = line-append (transport_text stream) (route_end token) (transport_line stream) (end_line token h) in
    let port = line-append (decimal own.port) tail (decimal-line own.port is.port) tail_line in
    line-append (codes "<sip:") (address_text own.addr ++ from_port) refl (line-append (address_text own.addr) from_port (address-line own.addr is.address) port)

own_route_end : (own : Own) (stream : Bool) (token : Option (List ℕ)) → IsEnd (own_route_with own stream token)
own_route_end own stream token =
    let tail = transport_text stream ++ route_end token in
    let behind_port = decimal own.port ++ tail in
    let from_port = 58 ∷ behind_port in
    let tail_end = end-behind (transport_text stream) (route_end token) (end_end token) in
    end-behind (codes "<sip:") (address_text own.addr ++ from_port)
    (end-behind (address_text own.addr) from_port (end-behind (58 ∷ []) behind_port (end-behind (decimal own.port) tail tail_end)))

pub own_route_good : (own : Own) (stream : Bool) (token : Option (List ℕ)) → IsOwn own → IfSome token (λ text. is_line text ≡ true) → is_value (own_route_with own stream token) ≡ true
own_route_good own stream token is h =
    line_value (own_route_with own stream token) (own_route_line own stream token is h) refl (own_route_end own stream token)

-- two of them, with a comma between
pub two_routes_good : (own : Own) (first : Bool) (token : Option (List ℕ)) → IsOwn own → IfSome token (λ text. is_line text ≡ true) → is_value (two_routes own first token) ≡ true
two_routes_good own first token is h =
    let one = own_route_with own first token in
    let other = own_route_with own (not first) token in
    let rest = codes ", " ++ other in
    line_value (one ++ rest)
    (line-append one rest (own_route_line own first token is h) (line-append (codes ", ") other refl (own_route_line own (not first) token is h)))
    refl
    (end-behind one rest (end-behind (codes ", ") other (own_route_end own (not first) token)))
