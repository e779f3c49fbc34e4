use Rattle.sip_uri.proofs.Common.{subst, IsUri, Uri}
use Rattle.sip_uri.proofs.Requests.{kept_uri}
use Rattle.sip_uri.proofs.uri.SipUri.is_uri.Goals as goal

pub returns : goal.returns
returns g c = subst (λ (u : Uri). IsUri u) c.self.view_is (kept_uri c.self.inside.texts.0 c.self.inside.texts.1 c.self.invariant)
