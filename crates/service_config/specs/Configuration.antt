-- The text that sets a service up: a line for each thing that it says, each ended by LF; an empty line and one that begins with
-- `#` say nothing.
--
--     # the office
--     own 192.0.2.9 5060
--     domain example.com
--     ring 20
--     realm example.com
--     trust 192.0.2.0/24
--     gateway 1000 sip:192.0.2.20
--     location bob 1000 sip:bob@192.0.2.4 15
use Rattle.std.specs.Prelude.{◌≡◌, ℕ, suc, Bool, true, List, [], ◌∷◌, ◌++◌, length, Option, Some, None, if◌then◌else◌}
use Rattle.std.specs.List.{AllByRecursion}
use Rattle.std.specs.Option.{option_map}
use Rattle.fork_rank.specs.LineByLine.{drafted_lines, lines_text}
use Rattle.fork_rank.specs.RuleLines.{ended}
use Rattle.service_config.specs.Kind.{is_whole, kind_of, may_follow}
use Rattle.service_config.specs.Line.{IsLine, Line, line_text}
use Rattle.service_config.specs.Settings.{Settings, no_settings, with_line}
use Rattle.service_config.specs.declared.kind.LineKind.{LineKind}

-- what lines have said, and the kind of the last that said something
pub record Draft : Type 0 where
  pub last : Option LineKind
  pub settings : Settings

-- before the first line, for a run with this number, of a proxy that has connections or none
abbrev pub no_draft : ℕ → (streams : Bool) → Draft
no_draft number streams = record { last = None; settings = no_settings number streams }

abbrev pub of_kind : LineKind → Settings → Draft
of_kind kind settings = record { last = Some kind; settings = settings }

abbrev pub with_kind : Draft → Line → Option LineKind → Option Draft
with_kind draft line None = Some draft
with_kind draft line (Some kind) = if may_follow draft.last kind then option_map (of_kind kind) (with_line draft.settings line) else None

-- with one more line, where it may come
abbrev pub with_draft : Draft → Line → Option Draft
with_draft draft line = with_kind draft line (kind_of line)

abbrev pub text_of : List Line → List ℕ
text_of lines = lines_text line_text lines

-- these lines, each of which may come, say this
pub record AreLines (number : ℕ) (streams : Bool) (lines : List Line) (draft : Draft) : Type 0 where
  pub each : AllByRecursion IsLine lines
  pub leads : drafted_lines with_draft (no_draft number streams) lines ≡ Some draft

-- the text sets a service up so, in a run with this number, which is its instance where no line says one, and whose proxy has connections or none
pub record IsServiceConfiguration (number : ℕ) (streams : Bool) (text : List ℕ) (settings : Settings) : Type 0 where
  pub lines : List Line
  pub draft : Draft
  pub are : AreLines number streams lines draft
  pub whole : is_whole draft.last ≡ true
  pub says : draft.settings ≡ settings
  pub spelled : text ≡ text_of lines

-- line n is the first that is malformed or missing: those before it may come, the one that stands there may not follow them, and
-- the text is no whole one
pub record IsMalformedAt (number : ℕ) (streams : Bool) (text : List ℕ) (n : ℕ) : Type 0 where
  pub lines : List Line
  pub draft : Draft
  pub rest : List ℕ
  pub counted : n ≡ suc (length lines)
  pub are : AreLines number streams lines draft
  pub spelled : text ≡ text_of lines ++ rest
  pub wrong : (line : Line) (more : List ℕ) → IsLine line → rest ≡ ended (line_text line) ++ more → with_draft draft line ≡ None
  pub partial : (settings : Settings) → IsServiceConfiguration number streams text settings → ⊥
