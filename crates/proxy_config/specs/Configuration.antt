-- The text that sets a proxy up: a line for each thing that it says, each ended by LF.
--
--     own 192.0.2.9 5060
--     instance 7
--     domain example.com
--     prefer 401,407,415,420,484
--     depth 256
--     location bob 1000 sip:bob@192.0.2.4
--
-- Where `prefer` or `depth` is left out, the usual one holds. There may be any number of locations. The own address is not 0.0.0.0.
use Rattle.std.specs.Prelude.{◌≡◌, ◌≤◌, ℕ, suc, Bool, true, false, IsTrue, List, [], ◌∷◌, ◌++◌, map, length, None}
use Rattle.std.specs.List.{AllByRecursion}
use Rattle.fork_model.specs.Table.{Rules, most_targets}
use Rattle.fork_rank.specs.Preferred.{IsPreferredList, usual_preferred}
use Rattle.fork_rank.specs.LineByLine.{lines_text}
use Rattle.fork_rank.specs.RuleLines.{ended}
use Rattle.sip_uri.specs.Grammar.{IsUri}
use Rattle.sip_uri.specs.Host.{is_host}
use Rattle.sip_uri.specs.Uri.{spelling}
use Rattle.proxy_config.specs.Line.{Line, OwnLine, InstanceLine, DomainLine, PreferLine, DepthLine, LocationLine, IsOwn, is_user, line_text, most_instance}
use Rattle.proxy_config.specs.Setup.{Setup, Location, KeepsRules, usual_longest}

-- ---- the lines

-- which of the two lines on the rules are written
pub record Shown : Type 0 where
  pub prefer : Bool
  pub depth : Bool

abbrev pub line_if : Bool → Line → List Line
line_if true line = line ∷ []
line_if false line = []

abbrev pub location_line : Location → Line
location_line location = LocationLine location.user location.q (spelling location.uri)

abbrev pub lines_of : Shown → Setup → List Line
lines_of shown setup =
    OwnLine setup.own
    ∷ InstanceLine setup.instance
    ∷ DomainLine setup.domain
    ∷ (line_if shown.prefer (PreferLine setup.rules.preferred)
    ++ (line_if shown.depth (DepthLine setup.rules.depth)
    ++ map location_line setup.locations))

abbrev pub text_of : List Line → List ℕ
text_of lines = lines_text line_text lines

-- ---- what may stand in them

pub record AreRules (shown : Shown) (rules : Rules) : Type 0 where
  pub preferred : IsPreferredList rules.preferred
  pub depth : rules.depth ≤ most_targets
  pub usual_preferred : shown.prefer ≡ false → rules.preferred ≡ usual_preferred
  pub usual_depth : shown.depth ≡ false → rules.depth ≡ most_targets

pub record IsLocation (location : Location) : Type 0 where
  pub user : IsTrue (is_user location.user)
  pub uri : IsUri location.uri
  -- no line says these
  pub no_hop : location.hop ≡ None
  pub longest : location.longest ≡ usual_longest

pub record IsSetup (shown : Shown) (setup : Setup) : Type 0 where
  pub own : IsOwn setup.own
  pub instance : setup.instance ≤ most_instance
  pub domain : IsTrue (is_host setup.domain)
  pub rules : AreRules shown setup.rules
  pub locations : AllByRecursion IsLocation setup.locations
  pub kept : KeepsRules setup.locations
  -- no line says these
  pub by_port : setup.by_port ≡ false
  pub for_service : setup.for_service ≡ false
  pub ring : setup.ring ≡ usual_longest
  pub records : setup.records ≡ false
  pub stamps : setup.stamps ≡ false
  pub reasons : setup.reasons ≡ false
  pub streams : setup.streams ≡ false
  pub large : setup.large ≡ false
  pub ways : setup.ways ≡ []
  pub realm : setup.realm ≡ None
  pub token : setup.token ≡ None
  pub route : setup.route ≡ None

-- ---- the text

abbrev pub IsConfiguration : List ℕ → Setup → Type 0
IsConfiguration text setup = (shown : Shown) × IsSetup shown setup × (text ≡ text_of (lines_of shown setup))

-- some configuration begins with these lines
pub record Begins (lines : List Line) : Type 0 where
  pub shown : Shown
  pub setup : Setup
  pub more : List Line
  pub is : IsSetup shown setup
  pub whole : lines_of shown setup ≡ lines ++ more

-- line n is the first that is malformed or missing: some configuration begins with the lines before it, none begins with
-- these and the line that stands there, and the text is no whole one
pub record IsMalformedAt (text : List ℕ) (n : ℕ) : Type 0 where
  pub lines : List Line
  pub rest : List ℕ
  pub number : n ≡ suc (length lines)
  pub text_is : text ≡ text_of lines ++ rest
  pub begins : Begins lines
  pub wrong : (line : Line) (more : List ℕ) → rest ≡ ended (line_text line) ++ more → Begins (lines ++ line ∷ []) → ⊥
  pub partial : (setup : Setup) → IsConfiguration text setup → ⊥
