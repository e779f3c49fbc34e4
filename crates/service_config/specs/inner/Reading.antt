-- Reading a whole configuration, a line after the other.
use Rattle.std.specs.Prelude.{◌≡◌, ◌≤◌, ◌&&◌, ℕ, Bool, true, is_some, List, Option, Some, None, Result, Ok, Err, option_and_then, if◌then◌else◌}
use Rattle.std.specs.List.{slice_split}
use Rattle.sip_lex.specs.Cut.{is}
use Rattle.fork_rank.specs.LineByLine.{lines_from}
use Rattle.fork_rank.specs.Pieces.{is_empty}
use Rattle.sip_uri.specs.Host.{is_host}
use Rattle.proxy_config.specs.Setup.{KeepsRulesWith}
use Rattle.service_config.specs.Configuration.{Draft, no_draft, with_draft}
use Rattle.service_config.specs.Kind.{is_whole}
use Rattle.service_config.specs.Settings.{Settings}
use Rattle.service_config.specs.inner.LineReading.{read_line}

-- with one more line, where it is one and may come
abbrev pub with_text : Draft → List ℕ → Option Draft
with_text draft text = option_and_then (with_draft draft) (read_line text)

-- behind the last LF nothing stands
abbrev pub finished : ℕ → Draft → List ℕ → Result Settings ℕ
finished number draft rest = if is_empty rest && is_whole draft.last then Ok draft.settings else Err number

abbrev pub read_from : ℕ → Draft → List (List ℕ) → Result Settings ℕ
read_from number draft lines = lines_from with_text finished number draft lines

-- the settings, or the number of the first malformed line; a line that is missing has the number that it would have
unfoldable pub read_settings : ℕ → (streams : Bool) → List ℕ → Result Settings ℕ
read_settings instance streams text = read_from 1 (no_draft instance streams) (slice_split (is 10) text)

-- what lines one after another keep: once the own address was said it has a port, and once the domain was said it is a host
pub record IsSound (draft : Draft) : Type 0 where
  pub port : is_some draft.last ≡ true → 1 ≤ draft.settings.setup.own.port
  pub domain : is_whole draft.last ≡ true → is_host draft.settings.setup.domain ≡ true
  pub locations : KeepsRulesWith draft.settings.setup.streams draft.settings.setup.locations
