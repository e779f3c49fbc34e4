use Rattle.fork_tree.proofs.Common.{List, map, ap, ◌∙◌, Row, rows_of, closed_row, length, arith, sym, subst, AreKnown, AreMet}
use Rattle.fork_tree.proofs.ClosesAll.{whole_closed}
use Rattle.fork_tree.proofs.Ways.{met_closed}
use Rattle.fork_tree.proofs.Trees.{tree_closed, value_after}
use Rattle.fork_tree.proofs.tree.ForkTree.close.Goals as goal

pub invariant_of-self : goal.invariant_of-self
invariant_of-self g c = record {
  tree = tree_closed c.self.inside.rules c.self.inside.places.items c.self.inside.root c.close-ended.new.self c.self.inside.summary c.close-ended.result
      c.self.invariant.tree c.close-ended.ensures.closed c.close-ended.ensures.counted;
  together = c.self.invariant.together;
  path_room = c.self.invariant.path_room;
  places_room = c.self.invariant.places_room;
  recent_room = omega (arith, c.self.invariant.recent_room, c.clear.ensures.capacity);
  recent_few = omega (arith, c.self.invariant.recent_few, ap length c.clear.ensures.items);
  known = subst (AreKnown (length c.self.inside.places.items)) (sym c.clear.ensures.items) tt;
  met = subst (AreMet (rows_of c.self.inside.places.items c.close-ended.new.self)) (sym c.clear.ensures.items)
      (met_closed (rows_of c.self.inside.places.items c.self.inside.root) (rows_of c.self.inside.places.items c.close-ended.new.self)
      (ap (rows_of c.self.inside.places.items) c.close-ended.ensures.closed ∙ whole_closed c.self.inside.places.items c.self.inside.root));
}

pub returns : goal.returns
returns g c =
    value_after c.self.inside.rules (rows_of c.self.inside.places.items c.self.inside.root) (rows_of c.self.inside.places.items c.close-ended.new.self) c.args.self.now
    (λ (r : List Row). map closed_row r) c.self.view_is
    (ap (rows_of c.self.inside.places.items) c.close-ended.ensures.closed ∙ whole_closed c.self.inside.places.items c.self.inside.root)
