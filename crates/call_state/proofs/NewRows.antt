-- A response that is posted, with the rows that it adds.
use Rattle.call_state.proofs.Common.{◌≡◌, ◌∙◌, ℕ, ◌+◌, ◌≤◌, ap, sym, arith, false, List, ◌++◌, drop, map, length, Option, filter_map, is_full, Event, Reply, Row, IsAdded, Log, added, core_of, table_of, MessageText, ContactText, Call, Destination}
use Rattle.call_state.proofs.Common.{Branch, HaveDestinations, PostsSaid, destination_for, IsSized, call_tag, gone_on, no_branch, owed_by, owes, rows_more, destination_of_contact, destinations_of, Owed}
use Rattle.std.proofs.Common.{◌-◌, length-append, length-drop}
use Rattle.std.proofs.lemmas.List.{length-map}
use Rattle.call_caller.proofs.laws.Destinations.{each_goes, destinations_are}

-- each row has its destination and room for its part, those that were added too
pub sized_more : (old new : Log) (destinations all_destinations : List Destination) (branches all_branches : List (Option Branch)) (made : List (Option Destination)) (first : ℕ)
    → IsSized old destinations branches
    → first ≡ length (table_of old).rows
    → length (table_of old).rows ≤ length (table_of new).rows
    → HaveDestinations made (drop first (table_of new).rows)
    → all_destinations ≡ destinations ++ filter_map (destination_for made) (drop first (table_of new).rows)
    → all_branches ≡ branches ++ map no_branch (drop first (table_of new).rows)
    → IsSized new all_destinations all_branches
sized_more old new destinations all_destinations branches all_branches made first sized first_is le have destinations_is branches_is =
    let rows = (table_of new).rows in
    let more = drop first rows in
    let behind : length more ≡ length rows - first = length-drop first rows in
    let old_destinations : length destinations ≡ length (table_of old).rows = sized.each_destination in
    let old_branches : length branches ≡ length (table_of old).rows = sized.each_branch in
    let new_destinations : length (filter_map (destination_for made) more) ≡ length more = each_goes made more have.each in
    let new_branches : length (map no_branch more) ≡ length more = length-map more no_branch in
    let sum_destinations : length (destinations ++ filter_map (destination_for made) more) ≡ length destinations + length (filter_map (destination_for made) more) = length-append destinations (filter_map (destination_for made) more) in
    let sum_branches : length (branches ++ map no_branch more) ≡ length branches + length (map no_branch more) = length-append branches (map no_branch more) in
    let same_destinations : length all_destinations ≡ length (destinations ++ filter_map (destination_for made) more) = ap (λ (ws : List Destination). length ws) destinations_is in
    let same_branches : length all_branches ≡ length (branches ++ map no_branch more) = ap (λ (ls : List (Option Branch)). length ls) branches_is in
    record { each_destination = omega arith; each_branch = omega arith }

pub said_posts : (call : Call) (event : Event) (contacts : List ContactText) (response : Option MessageText) (reply : Reply) (log : Log)
    (destinations : List Destination) (branches : List (Option Branch)) (owed : List Owed) (made : List (Option Destination)) (first at : ℕ)
    → is_full (core_of call.log) event ≡ false
    → IsAdded call.log call_tag event reply log
    → first ≡ length (table_of call.log).rows
    → made ≡ map (destination_of_contact call.opened) contacts
    → destinations ≡ call.destinations ++ filter_map (destination_for made) (drop first (table_of log).rows)
    → branches ≡ call.branches ++ map no_branch (drop first (table_of log).rows)
    → owed ≡ call.server.owed ++ owed_by reply.up response
    → at ≡ length call.log.history
    → PostsSaid call event contacts response at (record call { log = log; destinations = destinations; branches = branches; server = record call.server { owed = owed } })
said_posts call event contacts response reply log destinations branches owed made first at taken is first_is made_is destinations_is branches_is owed_is at_is =
    let more = added call.log call_tag event reply in
    let rows_are : drop first (table_of log).rows ≡ rows_more call.log more =
    ap (λ (n : ℕ). drop n (table_of log).rows) first_is ∙ ap (λ (l : Log). drop (length (table_of call.log).rows) (table_of l).rows) is.whole in
    let all_destinations : destinations ≡ call.destinations ++ destinations_of call.opened contacts (rows_more call.log more) =
    destinations_is
    ∙ ap (λ (rs : List Row). call.destinations ++ filter_map (destination_for made) rs) rows_are
    ∙ ap (λ (ms : List (Option Destination)). call.destinations ++ filter_map (destination_for ms) (rows_more call.log more)) made_is
    ∙ ap (λ (ws : List Destination). call.destinations ++ ws) (destinations_are call.opened contacts (rows_more call.log more)) in
    let all_branches : branches ≡ call.branches ++ map no_branch (rows_more call.log more) = branches_is ∙ ap (λ (rs : List Row). call.branches ++ map no_branch rs) rows_are in
    let follows : record call { log = log; destinations = destinations; branches = branches; server = record call.server { owed = owed } } ≡ owes (gone_on call contacts more) (owed_by reply.up response) =
    ap (λ (l : Log). record call { log = l; destinations = destinations; branches = branches; server = record call.server { owed = owed } }) is.whole
    ∙ ap (λ (ws : List Destination). record call { log = more; destinations = ws; branches = branches; server = record call.server { owed = owed } }) all_destinations
    ∙ ap (λ (ls : List (Option Branch)). record call { log = more; destinations = call.destinations ++ destinations_of call.opened contacts (rows_more call.log more); branches = ls; server = record call.server { owed = owed } }) all_branches
    ∙ ap (λ (os : List Owed). record call { log = more; destinations = call.destinations ++ destinations_of call.opened contacts (rows_more call.log more); branches = call.branches ++ map no_branch (rows_more call.log more); server = record call.server { owed = os } }) owed_is in
    (reply, is.replied.position ∙ sym at_is, record { taken = taken; reply_is = is.replied; follows = follows })
