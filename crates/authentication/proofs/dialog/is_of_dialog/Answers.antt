use Rattle.std.proofs.Common.{◌≡◌, true, false, sym, ap, ◌∙◌, rules}
use Rattle.std.specs.Prelude.{is_some}
use Rattle.sip_text.specs.declared.needed.MandatoryHeader.TheVariants.{To}
use Rattle.sip_text.specs.Fields.{value_of}
use Rattle.sip_lex.specs.Tag.{tag_in}
use Rattle.sip_via.specs.ViaParts.{or_empty}
use Rattle.authentication.proofs.Tokens.{by_route, no_route, no_tag}
use Rattle.authentication.proofs.dialog.is_of_dialog.Goals as goal

pub returns-then-is_none : goal.returns-then-is_none
returns-then-is_none g c =
    let no : is_some (tag_in (value_of To c.args.message.now.headers)) ≡ false = search rules in
    no_tag c.args.secret.now c.args.own c.args.route c.args.second c.args.message.now no

pub returns-in-None : goal.returns-in-None
returns-in-None g c = no_route c.args.secret.now c.args.own c.args.route c.args.second c.args.message.now (sym c.in-None.ensures)

pub returns-in-Some : goal.returns-in-Some
returns-in-Some g c =
    let tag : is_some (tag_in (value_of To c.args.message.now.headers)) ≡ true = search rules in
    by_route c.args.secret.now c.args.own c.args.route c.args.second c.args.message.now c.call_id.result.now c.in-Some.value.now c.is_own_with_token.result tag (sym c.in-Some.ensures)
    (sym (ap or_empty c.call_id.ensures)) c.is_own_with_token.ensures
