-- Each spelling of a line is read as that line, and has no LF.
use Rattle.fork_program.proofs.Common.{◌≡◌, ℕ, ◌≤◌, Bool, true, not, eqb, List, [], ◌∷◌, ◌++◌, length, Option, Some, None, refl, sym, ap, ◌∙◌, arith, option_and_then, IfSome, codes, ◌&&◌, option_map, decimal, is, Kind, Event, Ring, Answer, Timeout}
use Rattle.fork_program.proofs.Common.{Fault, TimerC, GiveUp, Cancel, Line, KindLine, PreferLine, DepthLine, TargetLine, EventLine, ContactLine, OtherLine, ChallengeLine, kind_text, asker_text, line_text, is_name, is_text, IsLine, IsSpelledBy}
use Rattle.fork_program.proofs.Common.{numbered_text, most_q, most_number, read_named, read_texted, read_line, common_steps}
use Rattle.std.specs.Prelude.{nat_le}
use Rattle.std.specs.List.{list_all}
use Rattle.std.proofs.lemmas.Bool.{eqb-false, and_parts}
use Rattle.sip_lex.specs.Cut.{Lacks}
use Rattle.sip_lex.proofs.laws.Cuts.{Lacks-append, Lacks-pass}
use Rattle.fork_rank.proofs.laws.Field.{number_before_read, number_from_read}
use Rattle.fork_rank.proofs.laws.Preferred.{preferred_read, list_lacks}
use Rattle.fork_program.specs.Line.{event_text, is_visible, is_printable}
use Rattle.sip_lex.proofs.laws.Numbers.{number_read, decimal_lacks}
use Rattle.fork_program.proofs.laws.LineLaws.{line_found}

named_read : (q : ℕ) (name : List ℕ) → q ≤ most_q → is_name name ≡ true → read_named (numbered_text q name) ≡ Some (q, name)
named_read q name within is = grind (arith, common_steps, option_and_then, number_before_read)

texted_read : (q : ℕ) (text : List ℕ) → q ≤ most_q → is_text text ≡ true → read_texted (numbered_text q text) ≡ Some (q, text)
texted_read q text within is = grind (arith, common_steps, option_and_then, number_before_read)

event_read : (event : Event) → IsLine (EventLine event) → read_line (line_text (EventLine event)) ≡ Some (EventLine event)
event_read event h = grind (arith, common_steps, option_and_then, number_before_read, number_from_read, number_read)

pub line_read : (line : Line) → IsLine line → read_line (line_text line) ≡ Some line
line_read line h = grind (arith, common_steps, preferred_read, number_read, named_read, event_read, texted_read)

-- so what is read of such a text is that line, and a line is read of such texts alone
module _ {T : Type 0} where
  pub reads_only : (r : Option T) (view : T → Line) (text : List ℕ) → option_map view r ≡ read_line text → (line : Line) → IsSpelledBy text line → option_map view r ≡ Some line
  reads_only r view text exact line is = exact ∙ ap read_line is.0 ∙ line_read line is.1

  pub reads_found : (r : Option T) (view : T → Line) (text : List ℕ) → option_map view r ≡ read_line text → IfSome (option_map view r) (IsSpelledBy text)
  reads_found None view text exact = tt
  reads_found (Some line) view text exact = line_found text (view line) (sym exact)

-- ---- no LF stands in it

abbrev is_plain : ℕ → Bool
is_plain b = not (eqb b 10)

worded : (front back : List ℕ) → list_all is_plain front ≡ true → Lacks 10 back → Lacks 10 (front ++ back)
worded front back plain b = Lacks-append 10 front back (Lacks-pass is_plain 10 front refl plain) b

numbered_lacks : (n : ℕ) (text : List ℕ) → n ≤ most_number → Lacks 10 text → Lacks 10 (numbered_text n text)
numbered_lacks n text small h = Lacks-append 10 (decimal n) (32 ∷ text) (decimal_lacks 10 n refl (omega arith)) (eqb-false 32 10 refl, h)

name_lacks : (name : List ℕ) → is_name name ≡ true → Lacks 10 name
name_lacks name h =
    let parts = and_parts (nat_le 1 (length name) && nat_le (length name) 64) (list_all is_visible name) h in
    Lacks-pass is_visible 10 name refl parts.1

text_lacks : (text : List ℕ) → is_text text ≡ true → Lacks 10 text
text_lacks text h = Lacks-pass is_printable 10 text refl (and_parts (nat_le 1 (length text)) (list_all is_printable text) h).1

kind_lacks : (kind : Kind) → Lacks 10 (kind_text kind)
kind_lacks kind = grind arith

asker_lacks : (proxy : Bool) → Lacks 10 (asker_text proxy)
asker_lacks proxy = grind arith

event_lacks : (event : Event) → IsLine (EventLine event) → Lacks 10 (event_text event)
event_lacks (Ring n status) h = worded (codes "ring ") _ refl (numbered_lacks n (decimal status) h.0 (decimal_lacks 10 status refl (omega arith)))
event_lacks (Answer n answer) h =
    worded (codes "answer ") _ refl (numbered_lacks n (decimal answer.status) h.0 (decimal_lacks 10 answer.status refl (omega arith)))
event_lacks (Timeout n) h = worded (codes "timeout ") _ refl (decimal_lacks 10 n refl (omega arith))
event_lacks (Fault n) h = worded (codes "fault ") _ refl (decimal_lacks 10 n refl (omega arith))
event_lacks (TimerC n) h = worded (codes "timerc ") _ refl (decimal_lacks 10 n refl (omega arith))
event_lacks (GiveUp n) h = worded (codes "giveup ") _ refl (decimal_lacks 10 n refl (omega arith))
event_lacks Cancel h = worded (codes "cancel") [] refl tt

pub line_lacks : (line : Line) → IsLine line → Lacks 10 (line_text line)
line_lacks (KindLine kind) h = worded (codes "kind ") _ refl (kind_lacks kind)
line_lacks (PreferLine statuses) h = worded (codes "prefer ") _ refl (list_lacks statuses h.client_errors)
line_lacks (DepthLine depth) h = worded (codes "depth ") _ refl (decimal_lacks 10 depth refl (omega arith))
line_lacks (TargetLine q name) h = worded (codes "target ") _ refl (numbered_lacks q name (omega arith) (name_lacks name h.1))
line_lacks (EventLine event) h = event_lacks event h
line_lacks (ContactLine q name) h = worded (codes "contact ") _ refl (numbered_lacks q name (omega arith) (name_lacks name h.1))
line_lacks (OtherLine q text) h = worded (codes "other ") _ refl (numbered_lacks q text (omega arith) (text_lacks text h.1))
line_lacks (ChallengeLine proxy value) h = grind (arith, common_steps, worded, asker_lacks, eqb-false, text_lacks)
