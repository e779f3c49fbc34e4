use Rattle.fork_call.proofs.OpeningCommon.{◌∙◌, List, ℕ, Own}
use Rattle.std.proofs.Common.{◌++◌, ap}
use Rattle.std.specs.Option.{option_copied}
use Rattle.sip_text.specs.Text.{spelling}
use Rattle.sip_branch.specs.declared.branch.BranchName.{BranchName}
use Rattle.sip_route.specs.Loop.{loop_key}
use Rattle.sip_build.specs.Forwarding.{forwarded}
use Rattle.fork_call.proofs.large.datagram_of.Goals as goal

pub returns : goal.returns
returns g c =
    let text : Own → BranchName → List ℕ = λ own branch. spelling (forwarded c.args.request.now c.args.uri.now own branch (option_copied c.args.record_route)) in
    let branch : BranchName = record { key = c.loop_key.result; instance = c.instance.result; context = 0; target = 0 } in
    c.in_ok-write_forwarded.ensures.ok
    ∙ ap (λ (xs : List ℕ). xs ++ text c.own.result branch) c.new-bytes.ensures.items
    ∙ ap (λ (o : Own). text o branch) c.own.ensures.value
    ∙ ap (λ (k : List ℕ). text c.args.setup.now.own (record { key = k; instance = c.instance.result; context = 0; target = 0 })) c.loop_key.ensures
    ∙ ap (λ (i : ℕ). text c.args.setup.now.own (record { key = loop_key c.args.request.now; instance = i; context = 0; target = 0 })) c.instance.ensures
