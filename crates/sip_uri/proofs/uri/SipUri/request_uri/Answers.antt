use Rattle.sip_uri.proofs.Common.{◌≡◌, List, true, sym, subst, ℕ, list_all, IsUri, is_uri_byte, uri_of, Uri, request_uri}
use Rattle.sip_uri.proofs.Requests.{kept_uri, request_bytes}
use Rattle.sip_uri.proofs.uri.SipUri.request_uri.Goals as goal

pub returns-clause-bytes : goal.returns-clause-bytes
returns-clause-bytes g c =
    subst (λ (u : Uri). list_all is_uri_byte (request_uri u) ≡ true) c.self.view_is (request_bytes _ (kept_uri c.self.inside.texts.0 c.self.inside.texts.1 c.self.invariant))

pub append_request_uri-requires-clause-uri : goal.append_request_uri-requires-clause-uri
append_request_uri-requires-clause-uri g c =
    let good = kept_uri c.self.inside.texts.0 c.self.inside.texts.1 c.self.invariant in
    subst (λ (t : List ℕ). IsUri (uri_of t)) (sym c.text.ensures) good
