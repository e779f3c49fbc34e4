-- The answer to a REGISTER request that was taken (RFC 3261 sections 10.3 step 8 and 20.17).
use Rattle.std.specs.Prelude.{◌≡◌, ℕ, ◌+◌, ◌-◌, ◌/◌, ◌%◌, min, Bool, ◌&&◌, not, List, ◌++◌, fold, codes, if◌then◌else◌}
use Rattle.std.specs.Fmt.{decimal}
use Rattle.httpdate.specs.declared.date.HttpDate.{HttpDate}
use Rattle.httpdate.specs.Date.{date_text, unix_secs}
use Rattle.sip_lex.specs.Values.{begins_with_space, is_line}
use Rattle.sip_text.specs.Text.{HeaderText}
use Rattle.sip_via.specs.Edits.{line}
use Rattle.sip_build.specs.declared.responses.OwnStatus.TheVariants.{Okay}
use Rattle.authentication.specs.Answer.{Answer, plain, with_line}
use Rattle.bindings.specs.Bindings.{Binding, there}

-- the time left, rounded up
abbrev pub seconds_left : (moment ends : ℕ) → ℕ
seconds_left moment ends = (ends - moment) / 1000 + min 1 ((ends - moment) % 1000)

-- it may stand in a header line, as each item of a message does
abbrev pub is_item : List ℕ → Bool
is_item item = is_line item && not (begins_with_space item)

abbrev pub is_shown : Binding → Bool
is_shown binding = is_item binding.contact.item

abbrev pub contact_text : (moment : ℕ) → Binding → List ℕ
contact_text moment binding = binding.contact.item ++ (codes ";expires=" ++ decimal (seconds_left moment binding.ends))

abbrev pub contact_line : (moment : ℕ) → Binding → HeaderText
contact_line moment binding = line (codes "Contact") (contact_text moment binding)

-- with the line of a binding whose item may stand in one
abbrev pub with_contact : (moment : ℕ) → Answer → Binding → Answer
with_contact moment answer binding = if is_shown binding then with_line answer (contact_line moment binding) else answer

-- a line for each binding that is there, in their order, and behind them the date
abbrev pub okay : (moment : ℕ) → (date : List ℕ) → List Binding → Answer
okay moment date bindings = with_line (fold (with_contact moment) (plain Okay) (there moment bindings)) (line (codes "Date") date)

-- with the date of a second since 1970
abbrev pub IsOkay : (moment second : ℕ) → List Binding → Answer → Type 0
IsOkay moment second bindings answer = (date : HttpDate) × (unix_secs date ≡ second) × (answer ≡ okay moment (date_text date) bindings)
