use Rattle.service_config.proofs.Common.{sym}
use Rattle.proxy_config.proofs.laws.Lines.{read_is_line}
use Rattle.proxy_config.specs.LineView.{line_of}
use Rattle.service_config.proofs.Steps.{location_parts}
use Rattle.service_config.proofs.draft.SettingsDraft.add_of_setup.Goals as goal

pub add_location-requires : goal.add_location-requires
add_location-requires g c =
    location_parts (line_of c.in-Some.line) (c.in-Some-location_in.user.now, c.in-Some-location_in.q, c.in-Some-location_in.rest.now) (sym c.in-Some-location_in.ensures)
    (read_is_line c.args.text.now (line_of c.in-Some.line) c.in-Some.ensures)

pub add-requires : goal.add-requires
add-requires g c = read_is_line c.args.text.now (line_of c.in-Some.line) c.in-Some.ensures
