use Rattle.sip_route.proofs.Common.{◌≡◌, ℕ, List, sym, subst, arith, IsMessage, views, HeaderText, MessageText, Own, stripped}
use Rattle.sip_text.specs.Change.{with_part_at, without_line_at}
use Rattle.sip_route.specs.declared.stripping.Left.TheVariants.{Nothing, Part}
use Rattle.sip_route.specs.inner.Stripping.{Leaves}
use Rattle.sip_route.proofs.laws.Stripped.{stripped-good}
use Rattle.sip_route.proofs.stripping.strip.Goals as goal

-- what is left is the message without the value
gone : (m : MessageText) (own : Own) (hs : List HeaderText) (n : ℕ) → hs ≡ m.headers → Leaves own hs n Nothing → without_line_at n m ≡ stripped m own
gone m own hs n is left = grind arith

shorter : (m : MessageText) (own : Own) (hs : List HeaderText) (n start len : ℕ) → hs ≡ m.headers → Leaves own hs n (Part start len) → with_part_at n start len m ≡ stripped m own
shorter m own hs n start len is left = grind arith

pub remove_header-requires-clause-message : goal.remove_header-requires-clause-message
remove_header-requires-clause-message g c =
    let m = c.args.message in
    let own = c.args.own in
    subst IsMessage (sym (gone m own (views c.headers-2.result) c.header_index-place.result c.headers-2.ensures c.in-Nothing.ensures)) (stripped-good m own c.is_message.ensures)

pub keep_value_part-requires-clause-message : goal.keep_value_part-requires-clause-message
keep_value_part-requires-clause-message g c =
    let m = c.args.message in
    let own = c.args.own in
    subst IsMessage (sym (shorter m own (views c.headers-2.result) c.header_index-place.result c.in-Part.start c.in-Part.len c.headers-2.ensures c.in-Part.ensures)) (stripped-good m own c.is_message.ensures)
