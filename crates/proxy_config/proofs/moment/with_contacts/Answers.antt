use Rattle.std.proofs.Common.{◌≡◌, ◌+◌, arith, fold, take}
use Rattle.std.proofs.lemmas.Grind.{common_steps}
use Rattle.std.proofs.lemmas.List.Sums.{fold_more}
use Rattle.proxy_config.specs.Moment.{with_contact}
use Rattle.proxy_config.proofs.moment.with_contacts.Goals as goal

pub loop-contact-preserved : goal.loop-contact-preserved
loop-contact-preserved g c =
    let targets : c.add_contact.new.locations
    ≡ fold (with_contact c.args.streams c.args.user.now c.args.longest) c.args.locations (take (c.loop-contact.contact-index + 1) c.args.contacts.now) =
    grind (arith, common_steps, fold_more) in
    (targets, c.in_ok-add_contact.ensures.keeps c.loop-contact.invariant.1)
