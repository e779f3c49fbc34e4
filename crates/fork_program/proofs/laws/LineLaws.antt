-- A line is read exactly where it is the spelling of a line: what is read is spelled so.
use Rattle.fork_program.proofs.Common.{◌≡◌, ℕ, ◌≤◌, Bool, true, cond, List, [], ◌∷◌, ◌++◌, Option, Some, None, refl, ap, ◌∙◌, arith, codes, IsTrue, cut, is, Kind, Ring, Answer, found_then, preferred_found, Line, PreferLine, EventLine, kind_text}
use Rattle.fork_program.proofs.Common.{asker_text, line_text, is_name, is_text, bare, IsLine, numbered_text, most_q, most_number, ring_of, answer_of, read_named, read_texted, read_line, common_steps}
use Rattle.std.proofs.lemmas.Slice.Eq.{bytes_eq-Decides}
use Rattle.sip_lex.specs.Cut.{behind}
use Rattle.sip_lex.proofs.laws.Cuts.{cut_joins}
use Rattle.std.proofs.lemmas.Option.{cond_some}
use Rattle.fork_rank.proofs.laws.Field.{found_map, number_before_found, number_from_found}
use Rattle.fork_program.specs.declared.line.ScriptWord.{ScriptWord}
use Rattle.fork_program.specs.declared.line.ScriptWord.TheVariants as word
use Rattle.fork_rank.specs.PreferredText.{read_preferred}
use Rattle.fork_rank.specs.Field.{number_before, number_from}
use Rattle.fork_program.specs.Reading.{word_of, read_kind, read_asker, read_challenge, read_rest, read_alone, read_worded, read_cut}
use Rattle.sip_lex.proofs.laws.Numbers.{number_spelled}

abbrev word_text : ScriptWord → List ℕ
word_text word.Kind = codes "kind"
word_text word.Prefer = codes "prefer"
word_text word.Depth = codes "depth"
word_text word.Target = codes "target"
word_text word.Ring = codes "ring"
word_text word.Answer = codes "answer"
word_text word.Timeout = codes "timeout"
word_text word.Fault = codes "fault"
word_text word.TimerC = codes "timerc"
word_text word.GiveUp = codes "giveup"
word_text word.Cancel = codes "cancel"
word_text word.Contact = codes "contact"
word_text word.Other = codes "other"
word_text word.Challenge = codes "challenge"

word_step : (b : Bool) (text : List ℕ) (w v : ScriptWord) (r : Option ScriptWord) → (b ≡ true → text ≡ word_text w) → (r ≡ Some v → text ≡ word_text v) → cond b (Some w) r ≡ Some v → text ≡ word_text v
word_step b text w v r same others e = grind arith

word_found : (text : List ℕ) (v : ScriptWord) → word_of text ≡ Some v → text ≡ word_text v
word_found text v = grind (arith, common_steps, word_step, bytes_eq-Decides)

kind_step : (b : Bool) (text : List ℕ) (k v : Kind) (r : Option Kind) → (b ≡ true → text ≡ kind_text k) → (r ≡ Some v → text ≡ kind_text v) → cond b (Some k) r ≡ Some v → text ≡ kind_text v
kind_step b text k v r same others e = grind arith

kind_found : (text : List ℕ) (kind : Kind) → read_kind text ≡ Some kind → text ≡ kind_text kind
kind_found text kind = grind (arith, common_steps, kind_step, bytes_eq-Decides)

asker_step : (b : Bool) (text : List ℕ) (k v : Bool) (r : Option Bool) → (b ≡ true → text ≡ asker_text k) → (r ≡ Some v → text ≡ asker_text v) → cond b (Some k) r ≡ Some v → text ≡ asker_text v
asker_step b text k v r same others e = grind arith

asker_found : (text : List ℕ) (proxy : Bool) → read_asker text ≡ Some proxy → text ≡ asker_text proxy
asker_found text proxy = grind (arith, common_steps, asker_step, bytes_eq-Decides)

named_found : (text : List ℕ) (p : ℕ × List ℕ) → read_named text ≡ Some p → (text ≡ numbered_text p.0 p.1) × (p.0 ≤ most_q) × IsTrue (is_name p.1)
named_found text p e = grind (arith, common_steps, found_then, number_before_found, cond_some)

texted_found : (text : List ℕ) (p : ℕ × List ℕ) → read_texted text ≡ Some p → (text ≡ numbered_text p.0 p.1) × (p.0 ≤ most_q) × IsTrue (is_text p.1)
texted_found text p e = grind (arith, common_steps, found_then, number_before_found, cond_some)

abbrev Found : List ℕ → Line → Type 0
Found text line = (text ≡ line_text line) × IsLine line

challenge_found : (text : List ℕ) (line : Line) → read_challenge text ≡ Some line → Found (codes "challenge" ++ 32 ∷ text) line
challenge_found text line e = grind (arith, common_steps, cut_joins 32 text, found_then, cond_some, asker_found)

-- behind a word and its space
rest_found : (w : ScriptWord) (rest : List ℕ) (line : Line) → read_rest w rest ≡ Some line → Found (word_text w ++ 32 ∷ rest) line
rest_found word.Kind rest line e = grind (arith, common_steps, found_map, kind_found)
rest_found word.Prefer rest line e =
    found_map PreferLine (read_preferred rest) line (Found (codes "prefer" ++ 32 ∷ rest))
    (λ statuses at. let h = preferred_found rest statuses at in (ap (λ (text : List ℕ). codes "prefer " ++ text) h.0, h.1)) e
rest_found word.Depth rest line e = grind (arith, common_steps, found_map, number_spelled)
rest_found word.Target rest line e = grind (arith, common_steps, found_map, named_found)
rest_found word.Ring rest line e =
    found_then ring_of (number_before most_number rest) line (Found (codes "ring" ++ 32 ∷ rest) line)
    (λ p at is. found_map (λ status. EventLine (Ring p.0 status)) (number_from 100 199 p.1) line (Found (codes "ring" ++ 32 ∷ rest))
    (λ status of_.
    let h = number_before_found most_number rest p (omega arith) at in
    let s = number_from_found 100 199 p.1 status (omega arith) of_ in
    (ap (λ (text : List ℕ). codes "ring " ++ text) (h.0 ∙ ap (numbered_text p.0) s.0), (h.1, s.1, omega arith))) is) e
rest_found word.Answer rest line e =
    found_then answer_of (number_before most_number rest) line (Found (codes "answer" ++ 32 ∷ rest) line)
    (λ p at is. found_map (λ status. EventLine (Answer p.0 (bare status))) (number_from 200 699 p.1) line (Found (codes "answer" ++ 32 ∷ rest))
    (λ status of_.
    let h = number_before_found most_number rest p (omega arith) at in
    let s = number_from_found 200 699 p.1 status (omega arith) of_ in
    (ap (λ (text : List ℕ). codes "answer " ++ text) (h.0 ∙ ap (numbered_text p.0) s.0), (h.1, s.1, omega arith, refl))) is) e
rest_found word.Timeout rest line e = grind (arith, common_steps, found_map, number_spelled)
rest_found word.Fault rest line e = grind (arith, common_steps, found_map, number_spelled)
rest_found word.TimerC rest line e = grind (arith, common_steps, found_map, number_spelled)
rest_found word.GiveUp rest line e = grind (arith, common_steps, found_map, number_spelled)
rest_found word.Cancel rest line e = absurd cc
rest_found word.Contact rest line e = grind (arith, common_steps, found_map, named_found)
rest_found word.Other rest line e = grind (arith, common_steps, found_map, texted_found)
rest_found word.Challenge rest line e = challenge_found rest line e

alone_found : (w : ScriptWord) (line : Line) → read_alone w ≡ Some line → Found (word_text w ++ []) line
alone_found w line e = grind arith

worded_found : (w : ScriptWord) (rest : Option (List ℕ)) (line : Line) → read_worded w rest ≡ Some line → Found (word_text w ++ behind 32 rest) line
worded_found w None line e = alone_found w line e
worded_found w (Some rest) line e = rest_found w rest line e

-- what is read is the spelling of a line
pub line_found : (text : List ℕ) (line : Line) → read_line text ≡ Some line → Found text line
line_found text line e = parts (cut (is 32) text) (cut_joins 32 text) e
  where
    parts : (c : List ℕ × Option (List ℕ)) → text ≡ c.0 ++ behind 32 c.1 → read_cut c ≡ Some line → Found text line
    parts (front, rest) whole e =
        found_then (λ w. read_worded w rest) (word_of front) line (Found text line)
        (λ w at is.
        let h = worded_found w rest line is in
        (whole ∙ ap (λ (word : List ℕ). word ++ behind 32 rest) (word_found front w at) ∙ h.0, h.1))
        e
