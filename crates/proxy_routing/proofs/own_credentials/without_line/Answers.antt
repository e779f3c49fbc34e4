use Rattle.proxy_routing.proofs.Common.{◌≡◌, arith, false, refl, true}
use Rattle.proxy_routing.proofs.GoodLeft.{good_left}
use Rattle.proxy_routing.proofs.TakenOff.{further_kept, further_taken, named_there}
use Rattle.proxy_routing.proofs.own_credentials.without_line.Goals as goal

pub returns-then-not-branch : goal.returns-then-not-branch
returns-then-not-branch g c = λ initial so_far.
    let none : c.in_ok-is_taken_off_at.field-0 ≡ false = grind (arith, c.if-not-branch.true) in
    further_kept c.args.realm.now initial c.args.message c.args.place _ c.in_ok-is_taken_off_at.field-0 c.in_ok-is_taken_off_at.ensures none c.requires refl so_far

pub remove_header-requires-clause-message : goal.remove_header-requires-clause-message
remove_header-requires-clause-message g c =
    let some : c.in_ok-is_taken_off_at.field-0 ≡ true = grind (arith, c.if-not-branch.false) in
    let there = named_there c.args.realm.now c.args.message c.args.place c.in_ok-is_taken_off_at.field-0 c.in_ok-is_taken_off_at.ensures some c.requires in
    good_left c.args.message c.args.place there.0 there.1 there.2.0 c.is_message.ensures

pub returns : goal.returns
returns g c = λ initial so_far.
    let some : c.in_ok-is_taken_off_at.field-0 ≡ true = grind (arith, c.if-not-branch.false) in
    further_taken c.args.realm.now initial c.args.message c.remove_header.new.self c.args.place c.in_ok-is_taken_off_at.field-0 c.in_ok-is_taken_off_at.ensures some c.requires c.remove_header.ensures so_far
