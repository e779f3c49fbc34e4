use Rattle.std.proofs.Common.{sym, ◌∙◌}
use Rattle.authentication.proofs.Tokens.{no_token, not_own, with_token}
use Rattle.authentication.proofs.dialog.is_own_with_token.Goals as goal

pub returns-then-not-names_home : goal.returns-then-not-names_home
returns-then-not-names_home c =
    not_own c.args.secret.now c.args.own c.args.route c.args.second c.args.call_id.now c.args.value.now (sym c.names_home.ensures ∙ c.if-not-names_home.true)

pub returns-in-None : goal.returns-in-None
returns-in-None c = no_token c.args.secret.now c.args.own c.args.route c.args.second c.args.call_id.now c.args.value.now (sym c.in-None.ensures)

pub returns-in-Some : goal.returns-in-Some
returns-in-Some c =
    with_token c.args.secret.now c.args.own c.args.route c.args.second c.args.call_id.now c.args.value.now c.in-Some.token.now c.is_good_dialog_token.result
    (sym c.names_home.ensures ∙ c.if-not-names_home.false) (sym c.in-Some.ensures) c.is_good_dialog_token.ensures
