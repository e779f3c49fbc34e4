-- Users are read of exactly the texts that list them, and any other text is refused by its first malformed line.
use Rattle.sip_digest.proofs.UsersCommon.{◌≡◌, ℕ, ◌+◌, ◌<◌, Bool, true, false, cond, List, [], ◌∷◌, ◌++◌, length, Option, Some, None, Result, Ok, Err, refl, sym, ap, subst, ◌∙◌, arith, append-nil, append_assoc, option_and_then, same_Some, AllByRecursion, list_any, slice_split, is, Algorithms}
use Rattle.sip_digest.proofs.UsersCommon.{AreApartFrom, Comment, IsLine, Line, User, UserLine, finished, is_named, line_text, read_from, read_line, text_of, users_of, with_line, with_text}
use Rattle.std.specs.Prelude.{IfOk, IfErr}
use Rattle.std.proofs.lemmas.List.Splits.{join_with_byte-slice_split, length-slice_split}
use Rattle.sip_lex.proofs.laws.Splits.{pieces_lack}
use Rattle.fork_rank.specs.LineByLine.{drafted_lines}
use Rattle.fork_rank.proofs.laws.Lines.{IsReader, all_back, drafted_append, found, malformed, next_piece, read_lines}
use Rattle.sip_digest.specs.declared.user_fault.UserFault.{UserFault}
use Rattle.sip_digest.specs.declared.user_fault.UserFault.TheVariants as fault
use Rattle.sip_digest.specs.declared.users.UserList.{UserList}
use Rattle.sip_digest.specs.Users.{IsMalformedAt, ListsUsers}
use Rattle.sip_digest.specs.UserView.{GivesUsers, Has, HasListed, IsFaultOf}
use Rattle.sip_digest.specs.inner.Added.{GivesRead}
use Rattle.sip_digest.specs.inner.UsersReading.{read_users}
use Rattle.sip_digest.proofs.UserLines.{line_found, line_lacks, line_read}

abbrev read_as : List User → Result (List User) ℕ
read_as users = Ok users

abbrev refused_as : ℕ → Result (List User) ℕ
refused_as n = Err n

ok_is : {x y : List User} → read_as x ≡ read_as y → x ≡ y
ok_is e = cc

ok_err : {users : List User} {n : ℕ} → read_as users ≡ refused_as n → ⊥
ok_err e = absurd cc

-- a list of users is read one line at a time
reader : (algorithms : Algorithms) → IsReader (IsLine algorithms) (IsLine algorithms) line_text (read_line algorithms) with_line (read_from algorithms)
reader algorithms = record {
  lacks = line_lacks algorithms;
  line_read = line_read algorithms;
  line_found = line_found algorithms;
  none = λ number draft. refl;
  unended = λ number draft b bs. refl;
  at_end = λ number draft m e. absurd (ok_err e);
  goes_on = λ number draft text pieces next more due. next_piece (with_text algorithms) finished number draft text pieces (Some next) more due;
  stops = λ number draft text pieces more none. next_piece (with_text algorithms) finished number draft text pieces None more none;
}

abbrev all_due : List User → List Line → Option (List User)
all_due users lines = drafted_lines with_line users lines

-- ---- names that stand once

apart_due : (earlier : List User) (lines : List Line) → AreApartFrom earlier (users_of lines) → all_due earlier lines ≡ Some (earlier ++ users_of lines)
apart_due earlier [] h = ap (λ (us : List User). Some us) (sym (append-nil earlier))
apart_due earlier (Comment text ∷ lines) h = apart_due earlier lines h
apart_due earlier (UserLine user ∷ lines) h =
    ap (λ b. option_and_then (λ next. all_due next lines) (cond b None (Some (earlier ++ user ∷ [])))) h.0
    ∙ apart_due (earlier ++ user ∷ []) lines h.1
    ∙ ap (λ (us : List User). Some us) (append_assoc earlier (user ∷ []) (users_of lines))

record Due (earlier : List User) (lines : List Line) (end : List User) : Type 0 where
  apart : AreApartFrom earlier (users_of lines)
  end_is : end ≡ earlier ++ users_of lines

due_apart : (earlier : List User) (lines : List Line) (end : List User) → all_due earlier lines ≡ Some end → Due earlier lines end
due_apart earlier [] end e = record { apart = tt; end_is = sym (same_Some _ _ e) ∙ sym (append-nil earlier) }
due_apart earlier (Comment text ∷ lines) end e =
    let rest = due_apart earlier lines end e in
    record { apart = rest.apart; end_is = rest.end_is }
due_apart earlier (UserLine user ∷ lines) end e = one (list_any (is_named user.name) earlier) refl e (λ due. due_apart (earlier ++ user ∷ []) lines end due)
  where
    one : (b : Bool) → list_any (is_named user.name) earlier ≡ b → option_and_then (λ next. all_due next lines) (cond b None (Some (earlier ++ user ∷ []))) ≡ Some end
        → (all_due (earlier ++ user ∷ []) lines ≡ Some end → Due (earlier ++ user ∷ []) lines end) → Due earlier (UserLine user ∷ lines) end
    one true t h again = absurd cc
    one false t h again =
        let rest = again h in
        record { apart = (t, rest.apart); end_is = rest.end_is ∙ append_assoc earlier (user ∷ []) (users_of lines) }

-- ---- what is listed is read

listed_read : (algorithms : Algorithms) (text : List ℕ) (users : List User) → ListsUsers algorithms text users → read_users algorithms text ≡ Ok users
unfolding read_users
listed_read algorithms text users h =
    ap (λ (t : List ℕ). read_from algorithms 1 [] (slice_split (is 10) t)) (h.spelled ∙ sym (append-nil (text_of h.lines)))
    ∙ read_lines (reader algorithms) 1 [] h.lines [] (users_of h.lines) h.are.each (apart_due [] h.lines h.are.apart)
    ∙ ap read_as h.users_are

-- ---- what is read is listed

read_listed : (algorithms : Algorithms) (text : List ℕ) (users : List User) → read_users algorithms text ≡ Ok users → ListsUsers algorithms text users
unfolding read_users
read_listed algorithms text users e =
    let f = found (reader algorithms) 1 [] (slice_split (is 10) text) users e in
    let due = due_apart [] f.lines f.next f.due in
    record {
      lines = f.lines;
      are = record { each = f.right; apart = due.apart };
      spelled = sym (join_with_byte-slice_split 10 text) ∙ f.spelled;
      users_are = sym due.end_is ∙ ok_is f.end;
    }

-- ---- what is refused

none_some : (o : Option (List User)) (users : List User) → o ≡ None → o ≡ Some users → ⊥
none_some o users e f = absurd cc

last_due : (o : Option (List User)) (users : List User) → option_and_then (λ next. all_due next []) o ≡ Some users → o ≡ Some users
last_due None users e = absurd cc
last_due (Some next) users e = e

malformed_found : (algorithms : Algorithms) (text : List ℕ) (number : ℕ) → read_users algorithms text ≡ Err number → IsMalformedAt algorithms text number
unfolding read_users
malformed_found algorithms text number e =
    let some : 0 < length (slice_split (is 10) text) = omega (arith, length-slice_split (is 10) text) in
    let h = malformed (reader algorithms) 1 [] (slice_split (is 10) text) number some (pieces_lack 10 text) e in
    let due = due_apart [] h.lines h.end h.due in
    record {
      lines = h.lines;
      rest = h.rest;
      number = let c : number ≡ 1 + length h.lines = h.counted in omega arith;
      are = record { each = h.right; apart = due.apart };
      spelled = sym (join_with_byte-slice_split 10 text) ∙ h.whole;
      wrong = λ line more at are.
          let whole : all_due [] (h.lines ++ line ∷ []) ≡ Some (users_of (h.lines ++ line ∷ [])) = apart_due [] (h.lines ++ line ∷ []) are.apart in
          let last : all_due h.end (line ∷ []) ≡ Some (users_of (h.lines ++ line ∷ [])) = sym (drafted_append with_line [] h.lines (line ∷ []) h.end h.due) ∙ whole in
          let is_line : AllByRecursion (IsLine algorithms) (line ∷ []) = all_back (IsLine algorithms) h.lines (line ∷ []) are.each in
          none_some (with_line h.end line) (users_of (h.lines ++ line ∷ [])) (h.none line more is_line.0 at) (last_due (with_line h.end line) (users_of (h.lines ++ line ∷ [])) last);
      more = λ empty. ok_err (h.ends empty);
    }

-- ---- so what a call gives says which text it was

module _ {A : Type 0} where
  pub gives_found : (algorithms : Algorithms) (text : List ℕ) (r : Result (UserList A) UserFault) → GivesRead (read_users algorithms text) r → IfOk r (HasListed algorithms text)
  gives_found algorithms text (Ok list) h = (h.0, read_listed algorithms text h.0 h.1, h.2)
  gives_found algorithms text (Err f) h = tt

  pub gives_only : (algorithms : Algorithms) (text : List ℕ) (r : Result (UserList A) UserFault) → GivesRead (read_users algorithms text) r → (users : List User) → ListsUsers algorithms text users → GivesUsers users r
  gives_only algorithms text (Ok list) h users is =
      let same : h.0 ≡ users = ok_is (sym h.1 ∙ listed_read algorithms text users is) in
      subst (λ (us : List User). Has list us) same h.2
  gives_only algorithms text (Err (fault.Line number)) h users is = ok_err (sym (listed_read algorithms text users is) ∙ h)
  gives_only algorithms text (Err fault.NoMemory) h users is = tt

  pub gives_fault : (algorithms : Algorithms) (text : List ℕ) (r : Result (UserList A) UserFault) → GivesRead (read_users algorithms text) r → IfErr r (IsFaultOf algorithms text)
  gives_fault algorithms text (Ok list) h = tt
  gives_fault algorithms text (Err (fault.Line number)) h = malformed_found algorithms text number h
  gives_fault algorithms text (Err fault.NoMemory) h = tt
