use Rattle.call_caller.proofs.Common.{◌≡◌, ◌≤◌, ◌∙◌, suc, ap, arith, length, refl, table_of, count_in, without}
use Rattle.call_caller.proofs.NewDestinations.{count_most, count_without, finds, go_on, one_branch_more, one_more}
use Rattle.call_caller.proofs.rows.add_rows.Goals as goal

pub loop-n-init : goal.loop-n-init
loop-n-init g c =
    let most : count_in c.args.contacts.items ≤ length c.args.contacts.items = count_most c.args.contacts.items in
    let destinations = c.requires.destinations_room in
    let branches = c.requires.branches_room in
    record { have = c.requires.there; destinations = refl; branches = refl; destinations_room = omega arith; branches_room = omega arith }

pub take_destination-requires : goal.take_destination-requires
take_destination-requires g c =
    record { there = finds c.loop-n.left.items (table_of c.args.book.now).rows c.loop-n.n c.row_place-place.result c.row_place-place.ensures c.loop-n.invariant.have }

pub push_reserved-requires : goal.push_reserved-requires
push_reserved-requires g c =
    let fewer : suc (count_in (without c.loop-n.left.items c.row_place-place.result)) ≡ count_in c.loop-n.left.items = count_without c.loop-n.left.items c.row_place-place.result c.take_destination.result c.take_destination.ensures.destination in
    let room = c.loop-n.invariant.destinations_room in
    omega arith

pub push_reserved-requires-in-loop-n : goal.push_reserved-requires-in-loop-n
push_reserved-requires-in-loop-n g c =
    let fewer : suc (count_in (without c.loop-n.left.items c.row_place-place.result)) ≡ count_in c.loop-n.left.items = count_without c.loop-n.left.items c.row_place-place.result c.take_destination.result c.take_destination.ensures.destination in
    let room = c.loop-n.invariant.branches_room in
    omega arith

pub loop-n-preserved : goal.loop-n-preserved
loop-n-preserved g c =
    let rows = (table_of c.args.book.now).rows in
    let destinations = c.loop-n.left.items in
    let left = c.take_destination.new.destinations.items in
    let place = c.row_place-place.result in
    let fewer : suc (count_in (without destinations place)) ≡ count_in destinations = count_without destinations place c.take_destination.result c.take_destination.ensures.destination in
    let same : count_in left ≡ count_in (without destinations place) = ap count_in c.take_destination.ensures.left in
    let destinations_room = c.loop-n.invariant.destinations_room in
    let branches_room = c.loop-n.invariant.branches_room in
    record {
      have = go_on destinations left rows c.loop-n.n place c.row_place-place.ensures c.take_destination.ensures.left c.loop-n.invariant.have;
      destinations = one_more c.loop-n.destinations.items c.push_reserved.new.self.items destinations left rows c.loop-n.n place c.take_destination.result c.row_place-place.ensures c.take_destination.ensures.left c.loop-n.invariant.have c.take_destination.ensures.destination c.push_reserved.ensures.items
          ∙ c.loop-n.invariant.destinations;
      branches = one_branch_more c.loop-n.branches.items c.push_reserved-in-loop-n.new.self.items rows c.loop-n.n place c.row_place-place.ensures c.push_reserved-in-loop-n.ensures.items
          ∙ c.loop-n.invariant.branches;
      destinations_room = omega (arith, c.push_reserved.ensures.len, c.push_reserved.ensures.capacity);
      branches_room = omega (arith, c.push_reserved-in-loop-n.ensures.len, c.push_reserved-in-loop-n.ensures.capacity);
    }
