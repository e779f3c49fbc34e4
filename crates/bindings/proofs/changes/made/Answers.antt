use Rattle.std.proofs.Common.{◌≡◌, List, map, take, ap, ◌∙◌, arith}
use Rattle.std.proofs.lemmas.List.{take_all}
use Rattle.bindings.specs.declared.request.RegisterContact.{RegisterContact}
use Rattle.bindings.specs.Bindings.{binding_of}
use Rattle.bindings.specs.Seen.{asked_of, register_of}
use Rattle.bindings.proofs.changes.made.Goals as goal

pub returns : goal.returns
returns g c =
    let all : take c.loop-asked.asked-index c.args.request.now.contacts.now ≡ c.args.request.now.contacts.now = take_all _ _ (omega (arith, c.loop-asked-test.false)) in
    c.loop-asked.invariant ∙ ap (λ (contacts : List RegisterContact). map (λ asked. binding_of (register_of c.args.request.now) (asked_of asked)) contacts) all
