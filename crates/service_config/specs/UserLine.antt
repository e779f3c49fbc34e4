-- The line of a user, made of a password that was typed.
use Rattle.std.specs.Prelude.{◌≡◌, ℕ, ◌-◌, not, List, [], ◌∷◌, length, take, nat_eq, Option, Some, None, Result, Ok, Err, if◌then◌else◌, Vec}
use Rattle.std.specs.List.{ends_with}
use Rattle.fork_rank.specs.RuleLines.{ended}
use Rattle.sip_digest.specs.Secrets.{secrets_of}
use Rattle.sip_lex.specs.Cut.{cut, is}
use Rattle.sip_digest.specs.User.{is_name, user_of, user_text}
use Rattle.sip_digest.specs.Users.{is_empty}
use Rattle.service_config.specs.Line.{is_realm}
use Rattle.service_config.specs.declared.password_line.UserLineFault.{UserLineFault}
use Rattle.service_config.specs.declared.password_line.UserLineFault.TheVariants as fault

-- without the CR at its end, if there is one
abbrev pub without_cr : List ℕ → List ℕ
without_cr line = if ends_with nat_eq line (13 ∷ []) then take (length line - 1) line else line

abbrev pub of_line : List ℕ × Option (List ℕ) → List ℕ
of_line (line, None) = line
of_line (line, Some rest) = without_cr line

-- the first line of what was typed
abbrev pub password_in : List ℕ → List ℕ
password_in input = of_line (cut (is 10) input)

abbrev pub checked : List ℕ → List ℕ → List ℕ → Result (List ℕ) UserLineFault
checked name realm password =
    if not (is_name name) then Err fault.Name
    else (if not (is_realm realm) then Err fault.Realm
    else (if is_empty password then Err fault.Password
    else Ok (ended (user_text (user_of name (secrets_of name realm password))))))

-- the line with its LF, or what it cannot be made of
abbrev pub line_of_user : (name realm input : List ℕ) → Result (List ℕ) UserLineFault
line_of_user name realm input = checked name realm (password_in input)

-- want of memory aside
abbrev pub GivesLine : {A : Type 0} → Result (List ℕ) UserLineFault → Result (Vec ℕ A) UserLineFault → Type 0
GivesLine expected (Ok line) = expected ≡ Ok line.items
GivesLine expected (Err fault.Name) = expected ≡ Err fault.Name
GivesLine expected (Err fault.Realm) = expected ≡ Err fault.Realm
GivesLine expected (Err fault.Password) = expected ≡ Err fault.Password
GivesLine expected (Err fault.NoMemory) = Unit {0}
