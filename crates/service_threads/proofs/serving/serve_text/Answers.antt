use Rattle.std.proofs.Common.{rules, ◌≤◌, Bool, is_some, length, subst}
use Rattle.std.specs.Option.{option_copied}
use Rattle.service_files.specs.Configured.{IsConfigured}
use Rattle.service_files.specs.Faults.{most_text}
use Rattle.service_threads.proofs.Faults.{configured_spells, system_ends_serve}
use Rattle.service_threads.proofs.serving.serve_text.Goals as goal

pub returns-clause-fault : goal.returns-clause-fault
returns-clause-fault g c =
    let fits : length c.args.text.now ≤ most_text = search rules in
    let P : Bool → Type 0 = λ streams. IsConfigured c.args.text.now (option_copied c.args.users) c.args.number streams c.in_ok-configuration.configuration in
    let configured = subst P c.is_some-streams.ensures c.in_ok-configuration.ensures.ok in
    let spells = configured_spells c.args.text.now (option_copied c.args.users) c.args.number (is_some c.args.options.connections) c.in_ok-configuration.configuration configured in
    system_ends_serve c.args.text.now (option_copied c.args.users) c.args.number (is_some c.args.options.connections) c.serve_configuration.result fits spells c.serve_configuration.ensures
