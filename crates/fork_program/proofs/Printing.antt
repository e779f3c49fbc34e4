-- What is appended in steps, where each step may be refused.
use Rattle.fork_program.proofs.Common.{◌≡◌, ◌&&◌, ℕ, Bool, true, false, not, cond, List, [], ◌++◌, Some, Result, Ok, Err, refl, sym, ap, subst, ◌∙◌, Verdict, ◌↔◌, OnOk, IsErrOf, IsTrue, Table, is_finished, is_succeeded, Event, challenge_list, Core, core_offered}
use Rattle.fork_program.proofs.Common.{IsListingOf, Unfinished, Listed, added_lines, ending_lines, EndsWith, AddsOutcome, ended, arith}
use Rattle.std.specs.Prelude.{is_ok}
use Rattle.fork_model.specs.Reply.{Reply, IsReply}
use Rattle.fork_model.specs.Core.{Replied, is_full, core_next}
use Rattle.fork_model.specs.Choice as spec
use Rattle.fork_model.specs.Chosen.{is_due, IsChosen}
use Rattle.fork_listing.specs.declared.lister.ListFault.{ListFault}
use Rattle.fork_listing.specs.declared.lister.ListFault.TheVariants as list
use Rattle.fork_listing.specs.Listed.{Appends}
use Rattle.fork_listing.specs.Accepted.{IsRightText, AppendsRight}
use Rattle.fork_program.specs.Replay.{branches_left, reply_text}

module _ {T E : Type 0} where
  pub ends_unfinished : (r : Result T E) (t : Table) (old new : List ℕ) → (is_finished t.rows ≡ false) × (is_succeeded t.rows ≡ false) → OnOk r (new ≡ old ++ ending_lines t (Unfinished (branches_left t.rows))) → OnOk r (EndsWith t old new)
  ends_unfinished (Ok x) t old new open_ h = record { ending = Unfinished (branches_left t.rows); right = (open_.1, open_.0, refl); accepted = tt; spelled = h }
  ends_unfinished (Err e) t old new open_ h = h

  pub ends_listed : (r : Result T E) (t : Table) (text old new : List ℕ) → is_succeeded t.rows ≡ false → is_finished t.rows ≡ true → IsListingOf t text → (verdict : Verdict) × IsRightText text verdict → ((choice : spec.Choice) → IsChosen t (Some choice) → OnOk r (new ≡ old ++ (added_lines (challenge_list t.rows choice) ++ text))) → OnOk r (EndsWith t old new)
  ends_listed (Ok x) t text old new failed done is accepted h =
      let due : is_due t.rows ≡ true = ap (λ b. b && not (is_succeeded t.rows)) done ∙ ap not failed in
      record {
        ending = Listed is.ranks is.choice;
        right = (failed, done, is.ranking, is.chosen);
        accepted = (accepted.0, subst (λ (listed : List ℕ). IsRightText listed accepted.0) is.spelled accepted.1);
        spelled = h is.choice (due, is.chosen) ∙ ap (λ (listed : List ℕ). old ++ (added_lines (challenge_list t.rows is.choice) ++ listed)) is.spelled;
      }
  ends_listed (Err e) t text old new failed done is accepted h = tt

  pub adds_reply : (r : Result T E) (before after : Core) (event : Event) (reply : Reply) (old new : List ℕ) → (IsTrue (is_full before event) → ⊥) → IsReply before.table event before.taken reply → after ≡ core_next before event → OnOk r (new ≡ old ++ ended (reply_text after.table.rows reply)) → OnOk r (AddsOutcome before after event old new)
  adds_reply (Ok x) before after event reply old new room is e h =
      let full : is_full before event ≡ false = not_full (is_full before event) room in
      let offered : core_offered before event ≡ core_next before event = ap (λ t. cond t before (core_next before event)) full in
      let same : after ≡ core_offered before event = e ∙ sym offered in
      record {
        outcome = Replied reply;
        right = (full, is);
        next = same;
        spelled = h ∙ ap (λ (core : Core). old ++ ended (reply_text core.table.rows reply)) same;
      }
    where
      not_full : (b : Bool) → (IsTrue b → ⊥) → b ≡ false
      not_full true never = absurd (never refl)
      not_full false never = refl
  adds_reply (Err x) before after event reply old new room is e h = h

ok_is : {T : Type 0} {made : T} {fault : ListFault} → Ok made ≡ Err fault → ⊥
ok_is e = absurd cc

is_false : (b : Bool) → (b ≡ true → ⊥) → b ≡ false
is_false b never = grind arith

is_true : (b : Bool) → (b ≡ false → ⊥) → b ≡ true
is_true b never = grind arith

-- a fork that is listed has finished without a 2xx
pub listed_failed : {T : Type 0} (made : T) (succeeded : Bool) → (IsErrOf (Ok made) list.Succeeded ↔ (succeeded ≡ true)) → succeeded ≡ false
listed_failed made succeeded due = is_false succeeded (λ e. ok_is (due.1 e))

pub listed_finished : {T : Type 0} (made : T) (finished succeeded : Bool) → (IsErrOf (Ok made) list.NotFinished ↔ ((finished ≡ false) × (succeeded ≡ false))) → succeeded ≡ false → finished ≡ true
listed_finished made finished succeeded due failed = is_true finished (λ e. ok_is (due.1 (e, failed)))

pub listed_alone : (t : Table) (old new shown : List ℕ) → old ≡ [] → Appends t old new → shown ≡ new → IsListingOf t shown
listed_alone t old new shown none listed seen = grind arith

pub right_alone : (old new shown : List ℕ) → old ≡ [] → AppendsRight old new → shown ≡ new → (verdict : Verdict) × IsRightText shown verdict
right_alone old new shown none right seen =
    let whole : right.0 ≡ shown = sym (seen ∙ right.2 ∙ ap (λ (front : List ℕ). front ++ right.0) none) in
    (right.1, subst (λ (text : List ℕ). IsRightText text right.1) whole right.3)

-- what stands alone may be appended
pub ends_behind : (t : Table) (old lines shown new : List ℕ) → EndsWith t [] lines → shown ≡ lines → new ≡ old ++ shown → EndsWith t old new
ends_behind t old lines shown new ends seen grown = record {
  ending = ends.ending;
  right = ends.right;
  accepted = ends.accepted;
  spelled = grown ∙ ap (λ (text : List ℕ). old ++ text) (seen ∙ ends.spelled);
}

module _ {T E : Type 0} where
  pub ends_appended : (r : Result T E) (t : Table) (old lines shown new : List ℕ) → EndsWith t [] lines → shown ≡ lines → new ≡ cond (is_ok r) (old ++ shown) old → OnOk r (EndsWith t old new)
  ends_appended (Ok x) t old lines shown new ends seen grown = ends_behind t old lines shown new ends seen grown
  ends_appended (Err e) t old lines shown new ends seen grown = tt
