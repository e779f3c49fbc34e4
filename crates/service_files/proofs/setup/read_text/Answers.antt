use Rattle.std.specs.Option.{option_copied}
use Rattle.service_files.specs.Configured.{algorithms_in, IsUsersFaultOf}
use Rattle.service_files.proofs.Faults.{lacks_users}
use Rattle.service_files.proofs.setup.read_text.Goals as goal

pub returns-in-Err-clause-fault : goal.returns-in-Err-clause-fault
returns-in-Err-clause-fault g c =
    let text = c.args.text.now in
    let list = option_copied c.args.users in
    let settings = c.in_ok-settings.settings in
    let lacks : IsUsersFaultOf (algorithms_in settings) list c.in-Err.fault = rw c.algorithms_in-algorithms.ensures at c.in-Err.ensures.fault in
    rw c.from.ensures (lacks_users text list c.args.number c.args.streams settings c.in_ok-settings.ensures.ok c.in_ok-settings.ensures.fits c.in-Err.fault lacks)
