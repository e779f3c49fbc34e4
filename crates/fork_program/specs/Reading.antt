-- Reading one line: the word before its first space says which line it is.
use Rattle.std.specs.Prelude.{ℕ, Bool, true, false, bytes_eq, List, codes, Option, Some, None, option_and_then, if◌then◌else◌}
use Rattle.std.specs.Option.{option_map}
use Rattle.sip_lex.specs.Cut.{cut, is}
use Rattle.sip_lex.specs.Number.{plain_number_within}
use Rattle.fork_model.specs.Table.{Kind, Invite, Other, most_targets}
use Rattle.fork_model.specs.Event.{Ring, Answer, Timeout, Fault, TimerC, GiveUp, Cancel}
use Rattle.fork_rank.specs.Field.{most_q, most_number, number_before, number_from}
use Rattle.fork_rank.specs.PreferredText.{read_preferred}
use Rattle.fork_program.specs.declared.line.ScriptWord.{ScriptWord}
use Rattle.fork_program.specs.declared.line.ScriptWord.TheVariants as word
use Rattle.fork_program.specs.Line.{Line, KindLine, PreferLine, DepthLine, TargetLine, EventLine, ContactLine, OtherLine, ChallengeLine, is_name, is_text, bare}

abbrev pub word_of : List ℕ → Option ScriptWord
word_of text =
    if bytes_eq text (codes "kind") then Some word.Kind
    else (if bytes_eq text (codes "prefer") then Some word.Prefer
    else (if bytes_eq text (codes "depth") then Some word.Depth
    else (if bytes_eq text (codes "target") then Some word.Target
    else (if bytes_eq text (codes "ring") then Some word.Ring
    else (if bytes_eq text (codes "answer") then Some word.Answer
    else (if bytes_eq text (codes "timeout") then Some word.Timeout
    else (if bytes_eq text (codes "fault") then Some word.Fault
    else (if bytes_eq text (codes "timerc") then Some word.TimerC
    else (if bytes_eq text (codes "giveup") then Some word.GiveUp
    else (if bytes_eq text (codes "cancel") then Some word.Cancel
    else (if bytes_eq text (codes "contact") then Some word.Contact
    else (if bytes_eq text (codes "other") then Some word.Other
    else (if bytes_eq text (codes "challenge") then Some word.Challenge
    else None)))))))))))))

abbrev pub read_kind : List ℕ → Option Kind
read_kind text =
    if bytes_eq text (codes "INVITE") then Some Invite
    else (if bytes_eq text (codes "OTHER") then Some Other
    else None)

abbrev pub ring_of : ℕ × List ℕ → Option Line
ring_of (n, digits) = option_map (λ status. EventLine (Ring n status)) (number_from 100 199 digits)

abbrev pub answer_of : ℕ × List ℕ → Option Line
answer_of (n, digits) = option_map (λ status. EventLine (Answer n (bare status))) (number_from 200 699 digits)

-- a q and a name; a q and a text
abbrev pub named : ℕ × List ℕ → Option (ℕ × List ℕ)
named (q, name) = if is_name name then Some (q, name) else None

abbrev pub texted : ℕ × List ℕ → Option (ℕ × List ℕ)
texted (q, text) = if is_text text then Some (q, text) else None

abbrev pub read_named : List ℕ → Option (ℕ × List ℕ)
read_named text = option_and_then named (number_before most_q text)

abbrev pub read_texted : List ℕ → Option (ℕ × List ℕ)
read_texted text = option_and_then texted (number_before most_q text)

abbrev pub read_row : List ℕ → Option ℕ
read_row digits = plain_number_within most_number digits

-- whose challenge it is; `true`: a proxy's
abbrev pub read_asker : List ℕ → Option Bool
read_asker text =
    if bytes_eq text (codes "W") then Some false
    else (if bytes_eq text (codes "P") then Some true
    else None)

abbrev pub challenge_of : List ℕ → Bool → Option Line
challenge_of value proxy = if is_text value then Some (ChallengeLine proxy value) else None

abbrev pub challenge_cut : List ℕ × Option (List ℕ) → Option Line
challenge_cut (asker, None) = None
challenge_cut (asker, Some value) = option_and_then (challenge_of value) (read_asker asker)

abbrev pub read_challenge : List ℕ → Option Line
read_challenge text = challenge_cut (cut (is 32) text)

-- what stands behind the word and its space
abbrev pub read_rest : ScriptWord → List ℕ → Option Line
read_rest word.Kind rest = option_map KindLine (read_kind rest)
read_rest word.Prefer rest = option_map PreferLine (read_preferred rest)
read_rest word.Depth rest = option_map DepthLine (plain_number_within most_targets rest)
read_rest word.Target rest = option_map (λ p. TargetLine p.0 p.1) (read_named rest)
read_rest word.Ring rest = option_and_then ring_of (number_before most_number rest)
read_rest word.Answer rest = option_and_then answer_of (number_before most_number rest)
read_rest word.Timeout rest = option_map (λ n. EventLine (Timeout n)) (read_row rest)
read_rest word.Fault rest = option_map (λ n. EventLine (Fault n)) (read_row rest)
read_rest word.TimerC rest = option_map (λ n. EventLine (TimerC n)) (read_row rest)
read_rest word.GiveUp rest = option_map (λ n. EventLine (GiveUp n)) (read_row rest)
read_rest word.Cancel rest = None
read_rest word.Contact rest = option_map (λ p. ContactLine p.0 p.1) (read_named rest)
read_rest word.Other rest = option_map (λ p. OtherLine p.0 p.1) (read_texted rest)
read_rest word.Challenge rest = read_challenge rest

-- a line of one word
abbrev pub read_alone : ScriptWord → Option Line
read_alone word.Cancel = Some (EventLine Cancel)
read_alone _ = None

abbrev pub read_worded : ScriptWord → Option (List ℕ) → Option Line
read_worded word None = read_alone word
read_worded word (Some rest) = read_rest word rest

abbrev pub read_cut : List ℕ × Option (List ℕ) → Option Line
read_cut (word, rest) = option_and_then (λ w. read_worded w rest) (word_of word)

abbrev pub read_line : List ℕ → Option Line
read_line line = read_cut (cut (is 32) line)
