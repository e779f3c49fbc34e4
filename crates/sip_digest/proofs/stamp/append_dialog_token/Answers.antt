use Rattle.sip_digest.proofs.laws.StampLines.{token_line}
use Rattle.sip_digest.proofs.stamp.append_dialog_token.Goals as goal

pub returns-clause-line : goal.returns-clause-line
returns-clause-line g c = token_line c.args.secret.now c.args.call_id.now c.args.second
