use Rattle.call_state.proofs.Common.{◌≡◌, ◌∙◌, ℕ, ◌<◌, ap, sym, subst, List, [], ◌++◌, map, length, Option, Some, None, slice_get, Event, Reply, added, MessageText, ContactText, ClientTransaction, Branch, Call, found, nth_branch, set_branch, with_branch}
use Rattle.call_state.proofs.Common.{changed_branch, responded, PostsBare, Posts, call_tag, gone_on, no_branch, owed_by, owes, rows_more, OnPart}
use Rattle.call_state.proofs.Common.{Closing, Destination, Log, OpenedRequest, Server, closed_by}
use Rattle.std.proofs.Common.{get_or, slice_set}
use Rattle.call_branch.proofs.laws.BranchLists.{changed_is, changed_none, changed_some, found_is, get_below, get_is, get_more, get_with, with_more, with_twice}

-- ---- a branch changed in its place

module _ (f : Branch → Branch) (branches : List (Option Branch)) (n : ℕ) (place : Option Branch) (lt : n < length branches) (is : place ≡ get_or branches n place) where
  here : slice_get branches n ≡ Some place
  here = get_is branches n place lt is

  -- where the branch stands there
  pub changed_at : (branch new : Branch) → place ≡ Some branch → new ≡ f branch → slice_set branches n (Some new) ≡ changed_branch f branches n
  changed_at branch new there e = changed_some f branches n branch new (here ∙ ap Some there) e

  -- and where none does
  pub unchanged_at : place ≡ None → slice_set branches n place ≡ changed_branch f branches n
  unchanged_at none = ap (slice_set branches n) none ∙ changed_none f branches n (here ∙ ap Some none)

-- a call of these parts
abbrev pub call_of : OpenedRequest → Log → Closing → List Destination → List (Option Branch) → Server → Call
call_of opened log closing destinations branches server =
    record { opened = opened; log = log; closing = closing; destinations = destinations; branches = branches; server = server }

-- of a call it is the branches that change
pub branches_changed : (f : Branch → Branch) (opened : OpenedRequest) (log : Log) (closing : Closing) (destinations : List Destination) (branches after : List (Option Branch)) (server : Server) (call : Call) (n : ℕ)
    → call_of opened log closing destinations branches server ≡ call
    → after ≡ changed_branch f branches n
    → call_of opened log closing destinations after server ≡ record call { branches = changed_branch f call.branches n }
branches_changed f opened log closing destinations branches after server call n is e =
    let P : Call → Type 0 = λ x. call_of opened log closing destinations after server ≡ record x { branches = changed_branch f x.branches n } in
    let make : List (Option Branch) → Call = λ ls. call_of opened log closing destinations ls server in
    subst P is (ap make e)

-- the part of a branch changed in its place is another part of it
pub changed_part : (f : Branch → Branch) (call : Call) (n : ℕ) (branch : Branch) → nth_branch call n ≡ Some branch → record call { branches = changed_branch f call.branches n } ≡ set_branch call n (f branch)
changed_part f call n branch there =
    ap (λ (ls : List (Option Branch)). record call { branches = ls }) (changed_is f call.branches n branch (found_is (slice_get call.branches n) branch there))

pub branch_below : (call : Call) (n : ℕ) (branch : Branch) → nth_branch call n ≡ Some branch → n < length call.branches
branch_below call n branch there = get_below call.branches n branch (found_is (slice_get call.branches n) branch there)

pub at_set : (call : Call) (n : ℕ) (branch new : Branch) → nth_branch call n ≡ Some branch → nth_branch (set_branch call n new) n ≡ Some new
at_set call n branch new there = ap found (get_with call.branches n new (branch_below call n branch there))

pub set_twice : (call : Call) (n : ℕ) (a b : Branch) → set_branch (set_branch call n a) n b ≡ set_branch call n b
set_twice call n a b = ap (λ (ls : List (Option Branch)). record call { branches = ls }) (with_twice call.branches n a b)

-- ---- a part and an event that is posted

module _ (call mid : Call) (event : Event) (contacts : List ContactText) (response : Option MessageText) (reply : Reply) (posts : Posts call event contacts response reply mid) where
  -- the part is there after it as before
  pub still_there : (n : ℕ) (branch : Branch) → nth_branch call n ≡ Some branch → nth_branch mid n ≡ Some branch
  still_there n branch there =
      let fresh = map no_branch (rows_more call.log (added call.log call_tag event reply)) in
      let branches : mid.branches ≡ call.branches ++ fresh = ap (λ (x : Call). x.branches) posts.follows in
      let P : List (Option Branch) → Type 0 = λ ls. slice_get ls n ≡ Some (Some branch) in
      ap found (subst P (sym branches) (get_more call.branches fresh n branch (found_is (slice_get call.branches n) branch there)))

  -- changed after it is changed before it
  pub posts_part : (n : ℕ) (branch new : Branch) → nth_branch call n ≡ Some branch → Posts (set_branch call n new) event contacts response reply (set_branch mid n new)
  posts_part n branch new there =
      let fresh = map no_branch (rows_more call.log (added call.log call_tag event reply)) in
      let set : set_branch mid n new ≡ set_branch (owes (gone_on call contacts (added call.log call_tag event reply)) (owed_by reply.up response)) n new =
      ap (λ (x : Call). set_branch x n new) posts.follows in
      let moved : with_branch (call.branches ++ fresh) n new ≡ with_branch call.branches n new ++ fresh = with_more call.branches fresh n new (branch_below call n branch there) in
      record {
        taken = posts.taken;
        reply_is = posts.reply_is;
        follows = set ∙ ap (λ (ls : List (Option Branch)). record (owes (gone_on call contacts (added call.log call_tag event reply)) (owed_by reply.up response)) { branches = ls }) moved;
      }

  -- what closed the table noted after it is noted before it
  pub posts_closed : (closing : Closing) → Posts (closed_by closing call) event contacts response reply (closed_by closing mid)
  posts_closed closing = record { taken = posts.taken; reply_is = posts.reply_is; follows = ap (closed_by closing) posts.follows }

-- the transaction of a branch goes on with an event that is posted
pub ended_part : (call mid last : Call) (n : ℕ) (branch : Branch) (client : ClientTransaction) (event : Event)
    → nth_branch call n ≡ Some branch
    → PostsBare call event mid
    → last ≡ record mid { branches = changed_branch (responded client None) mid.branches n }
    → OnPart call n (λ l. PostsBare (set_branch call n (record l { client = client })) event last)
ended_part call mid last n branch client event there (reply, posts) e =
    let l : Branch = record branch { client = client } in
    let later : nth_branch mid n ≡ Some branch = still_there call mid event [] None reply posts n branch there in
    let set : last ≡ set_branch mid n l = e ∙ changed_part (responded client None) mid n branch later in
    let P : Call → Type 0 = λ x. Posts (set_branch call n l) event [] None reply x in
    (branch, there, (reply, subst P (sym set) (posts_part call mid event [] None reply posts n branch l there)))
