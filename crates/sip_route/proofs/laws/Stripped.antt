-- A message without the Route value that names the proxy is one.
use Rattle.sip_route.proofs.Common.{◌≡◌, ℕ, List, Option, Some, None, refl, option_map, cond_both, QuotesAndAngles, Plain, trim, cut_outside, IsMessage, first_value, HeaderText, MessageText, Own, replaced, with_headers, names_own, route_name}
use Rattle.sip_route.proofs.Common.{stripped, stripped_at}
use Rattle.sip_via.proofs.laws.TrimmedValues.{others-good}
use Rattle.sip_via.proofs.laws.Replaced.{GoodValue, first-good, with_route-good}

at-good : (m : MessageText) (own : Own) (o : Option (List ℕ)) → IsMessage m → first_value route_name m.headers ≡ o → IsMessage (with_headers m (stripped_at own m.headers o))
at-good m own None good e = good
at-good m own (Some value) good e =
    let c = cut_outside QuotesAndAngles 44 Plain value in
    let others : GoodValue (option_map trim c.1) = others-good QuotesAndAngles value (first-good route_name value m.headers good.head.headers e) in
    cond_both (names_own own c.0) (replaced route_name (option_map trim c.1) m.headers) m.headers (λ (hs : List HeaderText). IsMessage (with_headers m hs))
    (λ t. with_route-good m (option_map trim c.1) good others)
    (λ t. good)

pub stripped-good : (m : MessageText) (own : Own) → IsMessage m → IsMessage (stripped m own)
stripped-good m own good = at-good m own (first_value route_name m.headers) good refl
