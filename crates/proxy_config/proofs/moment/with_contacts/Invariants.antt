use Rattle.std.proofs.Common.{◌≡◌, fold, take}
use Rattle.proxy_config.specs.Moment.{with_contact}
use Rattle.proxy_config.specs.Setup.{KeepsRulesWith}
use Rattle.proxy_config.proofs.moment.with_contacts.Given as goal

abbrev pub invariant-loop-contact : goal.invariant-loop-contact
invariant-loop-contact g l =
    (l.locations ≡ fold (with_contact l.streams l.user l.longest) l.initial.locations (take l.contact-index l.contacts)) × KeepsRulesWith l.streams l.locations
