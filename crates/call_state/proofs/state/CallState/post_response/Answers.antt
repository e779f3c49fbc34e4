use Rattle.call_state.proofs.Common.{◌≡◌, ◌≤◌, ◌∙◌, ℕ, ◌++◌, ap, drop, false, length, map, slice_get, subst, sym, List, Option, filter_map, Core, is_full, Up, Table, core_of, table_of, event_of, up_of, Call, HaveDestinations, PostsSaid, destination_for}
use Rattle.call_state.proofs.Common.{closing_of, no_branch, owed_by, destination_of_contact, Destination, Branch, Owed}
use Rattle.call_caller.specs.Queue.{owed_in}
use Rattle.call_state.proofs.NewRows.{said_posts, sized_more}
use Rattle.call_state.proofs.state.CallState.post_response.Goals as goal

pub invariant_of-self-2 : goal.invariant_of-self-2
invariant_of-self-2 g c =
    let old = c.self.inside.book in
    let t = table_of old in
    let at = length old.history in
    let is = c.in-Ok.ensures.added in
    let first : c.count-first.result ≡ length t.rows = c.count-first.ensures.value ∙ ap (λ (x : Core). length x.table.rows) c.context-2.ensures.stands in
    let longer : length t.rows ≤ length (table_of c.post.new.self).rows =
    subst (λ (u : Table). length t.rows ≤ length u.rows) (sym is.1.goes_on) (c.rows_keep_their_numbers.ensures.by_event t (event_of c.args.new_event.event) at).length in
    let have : HaveDestinations c.args.new_event.destinations.items (drop c.count-first.result (table_of c.post.new.self).rows) =
    subst (λ (n : ℕ). HaveDestinations c.args.new_event.destinations.items (drop n (table_of c.post.new.self).rows)) (sym first)
    (subst (λ (u : Table). HaveDestinations c.args.new_event.destinations.items (drop (length t.rows) u.rows)) (sym is.1.goes_on) (c.requires.gives t at)) in
    sized_more old c.post.new.self c.self.inside.destinations.items c.add_rows.new.destinations.items c.self.inside.branches.items c.add_rows.new.branches.items
    c.args.new_event.destinations.items c.count-first.result c.self.invariant first longer have
    (c.add_rows.ensures.destinations ∙ ap (λ (ws : List Destination). ws ++ filter_map (destination_for c.args.new_event.destinations.items) (drop c.count-first.result (table_of c.post.new.self).rows)) c.reserve-2.ensures.items)
    (c.add_rows.ensures.branches ∙ ap (λ (ls : List (Option Branch)). ls ++ map no_branch (drop c.count-first.result (table_of c.post.new.self).rows)) c.reserve-3.ensures.items)

pub add_rows-requires-clause-there : goal.add_rows-requires-clause-there
add_rows-requires-clause-there g c =
    let t = table_of c.self.inside.book in
    let is = c.in-Ok.ensures.added in
    let first : c.count-first.result ≡ length t.rows = c.count-first.ensures.value ∙ ap (λ (x : Core). length x.table.rows) c.context-2.ensures.stands in
    subst (λ (n : ℕ). HaveDestinations c.args.new_event.destinations.items (drop n (table_of c.post.new.self).rows)) (sym first)
    (subst (λ (u : Table). HaveDestinations c.args.new_event.destinations.items (drop (length t.rows) u.rows)) (sym is.1.goes_on) (c.requires.gives t (length c.self.inside.book.history)))

pub returns-clause-ok : goal.returns-clause-ok
returns-clause-ok g c = λ contacts made.
    let old = c.self.inside.book in
    let is = c.in-Ok.ensures.added in
    let call : Call = record {
      opened = c.self.inside.opened;
      log = old;
      closing = closing_of c.self.inside.closing;
      destinations = c.self.inside.destinations.items;
      branches = c.self.inside.branches.items;
      server = record { machine = c.self.inside.served; owed = c.self.inside.owed.items; last = c.self.inside.last.items };
    } in
    let new : Call = record call {
      log = c.post.new.self;
      destinations = c.add_rows.new.destinations.items;
      branches = c.add_rows.new.branches.items;
      server = record call.server { owed = c.enqueue_if.new.self.items };
    } in
    let first : c.count-first.result ≡ length (table_of old).rows = c.count-first.ensures.value ∙ ap (λ (x : Core). length x.table.rows) c.context-2.ensures.stands in
    let taken : is_full (core_of old) (event_of c.args.new_event.event) ≡ false =
    ap (λ (x : Core). is_full x (event_of c.args.new_event.event)) (sym c.context.ensures.stands) ∙ sym c.is_full.ensures ∙ c.if-is_full.false in
    let up : up_of c.up_at-up.result ≡ is.0.up = c.up_at-up.ensures is.0 (ap (slice_get c.post.new.self.replies) c.in-Ok.ensures.at ∙ is.1.placed) in
    let owed : c.enqueue_if.new.self.items ≡ c.self.inside.owed.items ++ owed_by is.0.up c.args.response =
    c.enqueue_if.ensures.items
    ∙ ap (λ (os : List Owed). os ++ owed_in c.response_for.result) c.reserve.ensures.items
    ∙ ap (λ (os : List Owed). c.self.inside.owed.items ++ os) (c.response_for.ensures ∙ ap (λ (u : Up). owed_by u c.args.response) up) in
    let same : c.args.new_event.destinations.items ≡ map (destination_of_contact call.opened) contacts =
    made ∙ ap (λ (x : Call). map (destination_of_contact x.opened) contacts) (sym c.self.view_is) in
    let P : Call → Type 0 = λ x. PostsSaid x (event_of c.args.new_event.event) contacts c.args.response c.in-Ok.at new in
    subst P c.self.view_is
    (said_posts call (event_of c.args.new_event.event) contacts c.args.response is.0 c.post.new.self c.add_rows.new.destinations.items c.add_rows.new.branches.items c.enqueue_if.new.self.items
    c.args.new_event.destinations.items c.count-first.result c.in-Ok.at taken is.1 first same
    (c.add_rows.ensures.destinations ∙ ap (λ (ws : List Destination). ws ++ filter_map (destination_for c.args.new_event.destinations.items) (drop c.count-first.result (table_of c.post.new.self).rows)) c.reserve-2.ensures.items)
    (c.add_rows.ensures.branches ∙ ap (λ (ls : List (Option Branch)). ls ++ map no_branch (drop c.count-first.result (table_of c.post.new.self).rows)) c.reserve-3.ensures.items)
    owed c.in-Ok.ensures.at)
