use Rattle.sip_uri.proofs.Common.{◌≡◌, ◌∙◌, List, ℕ, ap, drop, take_rest, Parts, is_port_if_any, parts_of, parts}
use Rattle.sip_uri.proofs.laws.Found.{kept_port}
use Rattle.sip_uri.proofs.uri.SipUri.next_hop.Goals as goal

pub hop_of-requires : goal.hop_of-requires
hop_of-requires g c =
    let cut : parts c.cut_body.result ≡ parts_of (drop 4 c.text.result.now) = rw take_rest at c.cut_body.ensures in
    let same = cut ∙ ap (λ (t : List ℕ). parts_of (drop 4 t)) c.text.ensures in
    ap (λ (p : Parts). is_port_if_any p.port) same ∙ kept_port c.self.inside.texts.0 c.self.inside.texts.1 c.self.invariant
