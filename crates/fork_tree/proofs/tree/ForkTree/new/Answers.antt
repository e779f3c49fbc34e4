use Rattle.fork_tree.proofs.Common.{◌≡◌, ◌++◌, List, None, length, map, arith, ap, sym, subst, ◌∙◌, Row, NodePlace, Entry, new_rows_of, waiting_row, place_in, AreTogether, NewRow, rows_of, IsTree, [], ◌∷◌, ℕ, Option, length-map, AreKnown, AreMet}
use Rattle.fork_tree.proofs.GroupNumbers.{new_rows_together}
use Rattle.fork_tree.proofs.Ways.{met_new}
use Rattle.fork_tree.proofs.Opening.{AreRising, new_rows_rise, new_rows_count, rows_opened, tree_opened}
use Rattle.fork_tree.proofs.tree.ForkTree.new.Goals as goal
use Rattle.fork_tree.proofs.Ends.{added}

pub add_places-requires : goal.add_places-requires
add_places-requires g c = grind (arith, new_rows_count)

pub invariant_of-result : goal.invariant_of-result
invariant_of-result g c =
    let rise : AreRising c.in_ok-root.new_rows.items = subst AreRising (sym c.in_ok-root.ensures.new_rows) (new_rows_rise None 0 0 c.args.qs.now) in
    let many : length c.in_ok-root.new_rows.items ≡ length c.args.qs.now = ap length c.in_ok-root.ensures.new_rows ∙ new_rows_count None 0 0 c.args.qs.now in
    let places : c.add_places.new.places.items ≡ map (place_in None) c.in_ok-root.new_rows.items =
    added None _ _ [] _ _ c.add_places.ensures.items c.in_ok-places.ensures.no_places c.deref.ensures.value in
    let P : List NodePlace → Type 0 = λ x. IsTree c.args.rules x c.in_ok-root.root c.waiting-summary.result in
    let Q : List Entry → Type 0 = λ x. IsTree c.args.rules (map (place_in None) c.in_ok-root.new_rows.items) x c.waiting-summary.result in
    let T : List NewRow → Type 0 = λ x. AreTogether (map (place_in None) x) in
    let recent : c.push_reserved.new.self.items ≡ None ∷ [] =
    c.push_reserved.ensures.items ∙ ap (λ (x : List (Option ℕ)). x ++ None ∷ []) c.in_ok-places.ensures.no_recent in
    let count : length c.add_places.new.places.items ≡ length c.args.qs.now = ap length places ∙ length-map c.in_ok-root.new_rows.items (place_in None) ∙ many in
    record {
      tree = subst P (sym places) (subst Q (sym c.in_ok-root.ensures.level)
          (tree_opened c.args.rules c.in_ok-root.new_rows.items c.waiting-summary.result rise (omega (arith, many, c.requires.few)) (ap (λ x. x.kept) c.waiting-summary.ensures) (ap (λ x. x.open_count) c.waiting-summary.ensures ∙ sym many)));
      together = subst AreTogether (sym places) (subst T (sym c.in_ok-root.ensures.new_rows) (new_rows_together None c.args.qs.now));
      places_room = omega (arith, count, c.in_ok-places.ensures.places, c.add_places.ensures.capacity);
      path_room = omega (arith, count, c.in_ok-places.ensures.path);
      recent_room = omega (arith, count, c.in_ok-places.ensures.recent, c.push_reserved.ensures.capacity);
      recent_few = omega (arith, ap length recent, ap (λ x. x.open_count) c.waiting-summary.ensures, many, ap length places, length-map c.in_ok-root.new_rows.items (place_in None));
      known = subst (AreKnown (length c.add_places.new.places.items)) (sym recent) (tt, tt);
      met = subst (AreMet (rows_of c.add_places.new.places.items c.in_ok-root.root)) (sym recent)
          (met_new (rows_of c.add_places.new.places.items c.in_ok-root.root) c.in_ok-root.new_rows.items
          (ap (λ x. rows_of x c.in_ok-root.root) places ∙ ap (rows_of (map (place_in None) c.in_ok-root.new_rows.items)) c.in_ok-root.ensures.level
          ∙ rows_opened c.in_ok-root.new_rows.items rise));
    }

pub returns : goal.returns
returns g c =
    let rise : AreRising c.in_ok-root.new_rows.items = subst AreRising (sym c.in_ok-root.ensures.new_rows) (new_rows_rise None 0 0 c.args.qs.now) in
    let places : c.add_places.new.places.items ≡ map (place_in None) c.in_ok-root.new_rows.items =
    added None _ _ [] _ _ c.add_places.ensures.items c.in_ok-places.ensures.no_places c.deref.ensures.value in
    let rows : rows_of c.add_places.new.places.items c.in_ok-root.root ≡ map (waiting_row None) (new_rows_of c.args.qs.now) =
    ap (λ x. rows_of x c.in_ok-root.root) places ∙ ap (rows_of (map (place_in None) c.in_ok-root.new_rows.items)) c.in_ok-root.ensures.level
    ∙ rows_opened c.in_ok-root.new_rows.items rise ∙ ap (map (waiting_row None)) c.in_ok-root.ensures.new_rows in
    ap (λ (r : List Row). record { rules = c.args.rules; rows = r }) rows
