-- Reading a list of users from one line to the next.
use Rattle.sip_digest.proofs.UsersCommon.{◌≡◌, ℕ, ◌+◌, ◌<◌, ◌≤◌, true, false, List, [], length, Option, Some, None, Err, refl, sym, ◌∙◌, arith, option_copied, cut, is, Algorithms, User, finished, with_text, ◌∷◌}
use Rattle.std.proofs.Common.{eqb}
use Rattle.std.proofs.Common.{Bor}
use Rattle.fork_rank.proofs.laws.Lines.{at_last_line, at_wrong_line, behind_line}
use Rattle.sip_digest.specs.declared.users.UserList.{UserList}
use Rattle.sip_digest.specs.UserView.{Has}
use Rattle.sip_digest.specs.inner.Added.{IsWithText}
use Rattle.sip_digest.specs.inner.UsersReading.{read_users}
use Rattle.sip_digest.specs.inner.SoFar.{IsSoFar}
use Rattle.sip_digest.proofs.Indexed.{is_with, not_with}

module _ {A : Type 0} where
  pub begun : (algorithms : Algorithms) (text : List ℕ) (list : UserList A) → Has list [] → IsSoFar algorithms text list 1 text
  unfolding read_users
  begun algorithms text list has = record { users = []; has = has; reads = refl; counted = omega arith }

  module _ (algorithms : Algorithms) (text : List ℕ) (list : UserList A) (number : ℕ) (rest line : List ℕ) (more : Option (Bor (List ℕ))) where
    -- something stands behind the last LF
    pub unended : IsSoFar algorithms text list number rest → more ≡ None → (line, option_copied more) ≡ cut (is 10) rest → eqb (length line) 0 ≡ false → read_users algorithms text ≡ Err number
    unended h last seen full = sym (at_last_line (with_text algorithms) finished number h.users rest line more (read_users algorithms text) last seen h.reads) ∙ refused line full
      where
        refused : (l : List ℕ) → eqb (length l) 0 ≡ false → finished number h.users l ≡ Err number
        refused [] f = absurd cc
        refused (b ∷ bs) f = refl

    module _ (after : Bor (List ℕ)) (new : UserList A) where
      -- a line that may not stand here
      pub refused_line : IsSoFar algorithms text list number rest → more ≡ Some after → (line, option_copied more) ≡ cut (is 10) rest
          → ((users : List User) → Has list users → IsWithText algorithms users line false new) → read_users algorithms text ≡ Err number
      refused_line h there seen with =
          at_wrong_line (with_text algorithms) finished number h.users rest line more after (read_users algorithms text) there seen (not_with (with_text algorithms h.users line) new (with h.users h.has)) h.reads

      -- a line that may
      pub taken_line : IsSoFar algorithms text list number rest → more ≡ Some after → (line, option_copied more) ≡ cut (is 10) rest
          → ((users : List User) → Has list users → IsWithText algorithms users line true new) → IsSoFar algorithms text new (number + 1) after.now × (length after.now < length rest)
      taken_line h there seen with =
          let next = is_with (with_text algorithms h.users line) new (with h.users h.has) in
          let behind = behind_line (with_text algorithms) finished number h.users next.users rest line more after (read_users algorithms text) there seen next.are h.reads in
          let shorter : length after.now < length rest = behind.1 in
          let before : number + length rest ≤ 1 + length text = h.counted in (
            record { users = next.users; has = next.has; reads = behind.0; counted = omega arith },
            shorter,
          )
