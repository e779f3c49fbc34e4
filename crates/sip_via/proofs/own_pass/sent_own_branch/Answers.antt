use Rattle.sip_via.proofs.Common.{◌<◌, ◌^◌, ◌∙◌, arith, rules, sym}
use Rattle.sip_via.proofs.OwnSent.{sent_other, sent_own}
use Rattle.sip_via.proofs.laws.PlainVia.{own-one}
use Rattle.sip_via.proofs.own_pass.sent_own_branch.Goals as goal

pub returns-in_err-rest-clause-only : goal.returns-in_err-rest-clause-only
returns-in_err-rest-clause-only c = λ b is own.
    absurd (sent_other c.args.own c.args.value.now c.args.sent.now c.requires (sym c.begins_with_space.ensures ∙ c.if-begins_with_space.false) c.in_err-rest.ensures b own)

pub returns-in-Some-clause-found : goal.returns-in-Some-clause-found
returns-in-Some-clause-found c =
    let own = c.args.own in
    sent_own own c.in-Some.name c.args.value.now c.args.sent.now c.in_ok-rest.rest.now c.is_own_address.ensures c.in-Some.ensures.bounded (let h : own.port < 2 ^ 16 = search rules in omega (arith, h)) c.requires c.in_ok-rest.ensures c.in-Some.ensures.found

pub returns-in-Some-clause-only : goal.returns-in-Some-clause-only
returns-in-Some-clause-only c = λ b is own.
    own-one c.args.own c.args.value.now c.in-Some.name b c.in-Some.ensures.bounded is (returns-in-Some-clause-found c) own
