use Rattle.sip_uri.proofs.Common.{subst, IsUri, Uri}
use Rattle.sip_uri.proofs.Requests.{kept_uri}
use Rattle.sip_uri.proofs.uri.SipUri.host.Goals as goal

pub returns-clause-grammar : goal.returns-clause-grammar
returns-clause-grammar g c = subst (λ (u : Uri). IsUri u) c.self.view_is (kept_uri c.self.inside.texts.0 c.self.inside.texts.1 c.self.invariant)
