use Rattle.proxy_routing.proofs.Common.{◌∙◌, sym}
use Rattle.proxy_routing.proofs.Admitting.{unread, unread_if_refused}
use Rattle.proxy_routing.proofs.admission.with_source.Goals as goal

pub returns-in-BadVia-clause-refused : goal.returns-in-BadVia-clause-refused
returns-in-BadVia-clause-refused g c =
    let m = c.args.message in
    (unread m (unread_if_refused m c.args.source (c.readable_is_marked.ensures.marked m c.args.source) (sym c.in-Err.ensures.refused ∙ c.in-BadVia.is)), c.in-Err.ensures.err)
