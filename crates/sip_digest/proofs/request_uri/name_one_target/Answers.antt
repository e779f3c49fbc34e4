use Rattle.sip_digest.proofs.Common.{◌≡◌, rules, sym, ◌∙◌}
use Rattle.std.specs.Prelude.{IsTrue, ◌↔◌}
use Rattle.sip_uri.specs.Key.{key_of}
use Rattle.sip_digest.proofs.Targets.{both_read, first_unread, second_unread}
use Rattle.sip_digest.proofs.request_uri.name_one_target.Goals as goal

pub returns-in_default : goal.returns-in_default
returns-in_default g c = first_unread c.args.text.now c.args.other.now (sym c.in_default.is ∙ c.in_ok-uri.ensures)

pub returns-in_default-2 : goal.returns-in_default-2
returns-in_default-2 g c = second_unread c.args.text.now c.args.other.now (sym c.in_default-2.is ∙ c.in_ok-other.ensures)

pub returns : goal.returns
returns g c =
    let keys : IsTrue c.same_target.result ↔ (key_of c.in-Some.uri ≡ key_of c.in-Some-2.other) = search rules in
    both_read c.args.text.now c.args.other.now c.in-Some.uri c.in-Some-2.other c.same_target.result (sym c.in-Some.is ∙ c.in_ok-uri.ensures) (sym c.in-Some-2.is ∙ c.in_ok-other.ensures) keys
