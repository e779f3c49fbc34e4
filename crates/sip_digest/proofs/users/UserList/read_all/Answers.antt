use Rattle.sip_digest.proofs.UsersCommon.{◌≡◌, Bool, true, false, subst, sym, ◌∙◌, arith}
use Rattle.sip_digest.specs.inner.Added.{IsWithText}
use Rattle.sip_digest.proofs.Steps.{begun, refused_line, taken_line, unended}
use Rattle.sip_digest.proofs.users.UserList.read_all.Goals as goal

pub loop-after-init : goal.loop-after-init
loop-after-init g c = begun c.args.algorithms c.args.text.now c.new-list.result c.new-list.ensures

pub returns-in_default : goal.returns-in_default
returns-in_default g c =
    unended c.args.algorithms c.args.text.now c.loop-after.list c.loop-after.number c.loop-after.rest.now c.cut_at.result.0.now c.cut_at.result.1 c.loop-after.invariant c.in_default.is c.cut_at.ensures.value
    (sym c.is_empty.ensures ∙ c.if-is_empty.false)

pub returns-then-not-branch : goal.returns-then-not-branch
returns-then-not-branch g c =
    let no : c.in_ok-add.field-0 ≡ false = grind (arith, c.if-not-branch.true) in
    refused_line c.args.algorithms c.args.text.now c.loop-after.list c.loop-after.number c.loop-after.rest.now c.cut_at.result.0.now c.cut_at.result.1 c.in-Some.after c.add.new.self c.loop-after.invariant c.in-Some.is c.cut_at.ensures.value
    (λ users has. subst (λ (b : Bool). IsWithText c.args.algorithms users c.cut_at.result.0.now b c.add.new.self) no (c.in_ok-add.ensures users has))

pub loop-after-preserved : goal.loop-after-preserved
loop-after-preserved g c =
    let yes : c.in_ok-add.field-0 ≡ true = grind (arith, c.if-not-branch.false) in
    (taken_line c.args.algorithms c.args.text.now c.loop-after.list c.loop-after.number c.loop-after.rest.now c.cut_at.result.0.now c.cut_at.result.1 c.in-Some.after c.add.new.self c.loop-after.invariant c.in-Some.is c.cut_at.ensures.value
    (λ users has. subst (λ (b : Bool). IsWithText c.args.algorithms users c.cut_at.result.0.now b c.add.new.self) yes (c.in_ok-add.ensures users has))).0
