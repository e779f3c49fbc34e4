use Rattle.sip_branch.proofs.branch.write_branch.Goals as goal

pub returns-clause-token : goal.returns-clause-token
returns-clause-token g c = c.is_token.ensures
