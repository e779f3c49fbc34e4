use Rattle.sip_text.proofs.NeededFields.{needed_alone, needed_no_length}
use Rattle.sip_text.proofs.found.field_named.Goals as goal

pub returns-in-Some-clause-needed : goal.returns-in-Some-clause-needed
returns-in-Some-clause-needed c = needed_alone c.args.name.now c.in-Some.which c.in-Some.ensures

pub returns-in-Some-clause-length : goal.returns-in-Some-clause-length
returns-in-Some-clause-length c = needed_no_length c.args.name.now c.in-Some.which c.in-Some.ensures
