use Rattle.sip_route.proofs.Common.{sym, view_line, views}
use Rattle.sip_route.proofs.StripPlaces.{leaves-none, leaves-some}
use Rattle.sip_route.proofs.stripping.first_left.Goals as goal

pub returns-in-None : goal.returns-in-None
returns-in-None c = leaves-none c.args.own (views c.args.headers) c.args.place c.requires (sym c.in-None.ensures)

pub returns-in-Some : goal.returns-in-Some
returns-in-Some c =
    leaves-some c.args.own (views c.args.headers) c.args.place (view_line c.in-Some.header) c.left_of.result c.requires (sym c.in-Some.ensures) c.left_of.ensures
