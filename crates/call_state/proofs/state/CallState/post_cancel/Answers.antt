use Rattle.call_state.proofs.Common.{◌≡◌, ◌∙◌, ◌∷◌, ◌++◌, [], ap, refl, sym, subst, true, length, List, None, slice_get, Cancel, Up, Table, table_of, up_of, Call, owed_by, CancelOk, Owed, IsSound, CancelledBy, Posted, cancels, closing_of, ByCancel}
use Rattle.call_state.proofs.Cancels.{cancel_posts, owed_both}
use Rattle.call_state.proofs.state.CallState.post_cancel.Goals as goal

pub invariant_of-self-2 : goal.invariant_of-self-2
invariant_of-self-2 g c =
    let is = c.in-Ok.ensures.added in
    let same : length (table_of c.self.inside.book).rows ≡ length (table_of c.post.new.self).rows =
    sym (ap (λ (t : Table). length t.rows) is.1.goes_on ∙ c.new_rows_are_contacts.ensures.none (table_of c.self.inside.book) Cancel (length c.self.inside.book.history) refl) in
    record { each_destination = c.self.invariant.each_destination ∙ same; each_branch = c.self.invariant.each_branch ∙ same }

pub returns-clause-ok : goal.returns-clause-ok
returns-clause-ok g c =
    let call : Call = record {
      opened = c.self.inside.opened;
      log = c.self.inside.book;
      closing = closing_of c.self.inside.closing;
      destinations = c.self.inside.destinations.items;
      branches = c.self.inside.branches.items;
      server = record { machine = c.self.inside.served; owed = c.self.inside.owed.items; last = c.self.inside.last.items };
    } in
    let new : Call = record call {
      log = c.post.new.self;
      closing = ByCancel c.in_ok-reasons.reasons;
      server = record call.server { owed = c.enqueue_if.new.self.items };
    } in
    let is = c.in-Ok.ensures.added in
    let up : up_of c.up_at-up.result ≡ is.0.up =
    c.up_at-up.ensures is.0 (ap (slice_get c.post.new.self.replies) c.in-Ok.ensures.at ∙ is.1.placed) in
    let owed : c.enqueue_if.new.self.items ≡ (c.self.inside.owed.items ++ CancelOk c.args.cancel c.args.to ∷ []) ++ owed_by is.0.up None =
    owed_both c.self.inside.owed.items c.reserve.new.self.items c.enqueue.new.self.items c.enqueue_if.new.self.items _ (owed_by is.0.up None) (CancelOk c.args.cancel c.args.to)
    c.reserve.ensures.items c.enqueue.ensures.items c.enqueue_if.ensures.items (c.response_for.ensures ∙ ap (λ (u : Up). owed_by u None) up) in
    let closes : cancels call ≡ true = subst (λ (x : Call). cancels x ≡ true) (sym c.self.view_is) c.requires.cancels in
    let sound : IsSound call = subst IsSound (sym c.self.view_is) c.requires.sound in
    let none = c.new_rows_are_contacts.ensures.none (table_of c.self.inside.book) Cancel (length c.self.inside.book.history) refl in
    let P : Call → Type 0 = λ x. CancelledBy x c.args.cancel c.args.to (Posted c.in-Ok.at) new in
    subst P c.self.view_is
    (cancel_posts c.open_branches_take_events.ensures.never_refused call new c.args.cancel c.args.to is.0 c.post.new.self c.in-Ok.at closes sound is.1 none c.in-Ok.ensures.at (rw (owed, c.in_ok-reasons.ensures) refl))
