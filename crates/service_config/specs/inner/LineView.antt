-- The line that a line of the program stands for.
use Rattle.std.specs.Prelude.{◌≡◌, ℕ, List, Option, Some, option_and_then}
use Rattle.std.specs.Borrow.{Bor}
use Rattle.std.specs.Option.{option_map}
use Rattle.proxy_config.specs.LineReading as setup_line
use Rattle.service_config.specs.declared.line.SettingsLine.{SettingsLine}
use Rattle.service_config.specs.declared.line.SettingsLine.TheVariants as line
use Rattle.service_config.specs.declared.line.LineReading.{LineReading}
use Rattle.service_config.specs.declared.line.LineReading.TheVariants as reading
use Rattle.service_config.specs.Line as spec
use Rattle.service_config.specs.inner.LineReading.{of_setup}

abbrev pub line_of : SettingsLine → spec.Line
line_of (line.Ring seconds) = spec.RingLine seconds
line_of line.Large = spec.LargeLine
line_of (line.Realm realm algorithms) = spec.RealmLine realm.now algorithms
line_of (line.Expires times) = spec.ExpiresLine times
line_of line.Strangers = spec.StrangersLine
line_of (line.Trust net) = spec.TrustLine net
line_of (line.Gateway q uri) = spec.GatewayLine q uri.now
line_of (line.Location user q uri seconds) = spec.LocationLine user.now q uri.now seconds
line_of (line.Comment text) = spec.CommentLine text.now

-- the line that was read of a text
abbrev pub reading_in : List ℕ → LineReading → Option spec.Line
reading_in text (reading.Own own) = Some (line_of own)
reading_in text reading.OfSetup = option_and_then of_setup (setup_line.read_line text)

abbrev pub seen_location : Option (Bor (List ℕ) × ℕ × Bor (List ℕ)) → Option (List ℕ × ℕ × List ℕ)
seen_location found = option_map (λ p. (p.0.now, p.1, p.2.now)) found
