use Rattle.sip_uri.proofs.Common.{rules}
use Rattle.sip_uri.proofs.Sorted.{key_params_members, key_params_sorted}
use Rattle.sip_uri.proofs.uri.SipUri.target_key.Goals as goal

pub returns-clause-sorted : goal.returns-clause-sorted
returns-clause-sorted g c = key_params_sorted c.args.self.now.params

pub returns-clause-members : goal.returns-clause-members
returns-clause-members g c = key_params_members c.args.self.now.params

pub returns-clause-ok : goal.returns-clause-ok
returns-clause-ok g c = search rules
