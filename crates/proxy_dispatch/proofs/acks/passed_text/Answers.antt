use Rattle.proxy_dispatch.proofs.Common.{◌∙◌, ap}
use Rattle.sip_via.specs.OwnVia.{over}
use Rattle.proxy_dispatch.proofs.Becoming.{passed_text_so}
use Rattle.proxy_dispatch.proofs.acks.passed_text.Goals as goal

pub returns : goal.returns
returns g c =
    passed_text_so c.args.setup.now c.args.request.now c.args.uri.now c.args.hop _ _ _ _
    c.in_ok-write_forwarded.ensures.ok c.new-text.ensures.items (c.over-own.ensures ∙ ap (λ own. over own c.args.hop.transport) c.own.ensures.value) c.passing_branch-branch.ensures
