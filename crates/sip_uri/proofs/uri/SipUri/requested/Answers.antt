use Rattle.sip_uri.proofs.Common.{◌≡◌, ◌∙◌, List, ℕ, ap, subst, sym, IsKept, Uri, uri_of, request_uri, requested}
use Rattle.sip_uri.specs.Key.{key_of}
use Rattle.sip_uri.proofs.Requested.{requested_is_kept, requested_view}
use Rattle.sip_uri.proofs.uri.SipUri.requested.Goals as goal

pub invariant_of-result : goal.invariant_of-result
invariant_of-result g c =
    let self = c.self in
    let text = self.inside.texts.0 in
    let kept = requested_is_kept text self.inside.texts.1 self.invariant in
    let keyed = subst (λ (k : List ℕ). IsKept (request_uri (uri_of text)) k) self.invariant.keyed kept in
    let good = subst (λ (u : Uri). IsKept (request_uri u) (key_of u)) self.view_is keyed in
    subst (λ (t : List ℕ × List ℕ). IsKept t.0 t.1) (sym c.in_ok-texts.ensures) good

pub returns : goal.returns
returns g c =
    let self = c.self in
    let text = self.inside.texts.0 in
    ap (λ (t : List ℕ × List ℕ). uri_of t.0) c.in_ok-texts.ensures
    ∙ subst (λ (u : Uri). uri_of (request_uri u) ≡ requested u) self.view_is (requested_view text self.inside.texts.1 self.invariant)
