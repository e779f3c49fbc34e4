use Rattle.sip_build.proofs.Common.{◌∙◌, sym, hops_name, view_line, views}
use Rattle.sip_build.proofs.FirstHops.{first-nowhere, first-there}
use Rattle.sip_build.proofs.forwarded_text.value_at.Goals as goal

pub returns-in-None : goal.returns-in-None
returns-in-None c =
    sym (first-nowhere hops_name (views c.args.headers) c.args.place c.requires.place (sym c.in-None.ensures.none ∙ c.split_at.ensures.back))

pub returns-in-Some : goal.returns-in-Some
returns-in-Some c =
    sym (first-there hops_name (views c.args.headers) _ (view_line c.in-Some.line) c.args.place c.requires.place (sym c.in-Some.ensures.some ∙ c.split_at.ensures.back))
