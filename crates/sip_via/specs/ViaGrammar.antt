-- Which texts are Via values (RFC 3261 sections 20.42 and 25.1: via-parm).
use Rattle.std.specs.Prelude.{◌≡◌, ◌≢◌, ◌⊎◌, ℕ, List, [], ◌∷◌, ◌++◌, map, Option, Some, None, IfSome, IsTrue, codes}
use Rattle.std.specs.Char.{to_ascii_lowercase}
use Rattle.std.specs.List.{list_all, AllByRecursion, flat_map}
use Rattle.sip_lex.specs.Bytes.{is_space, is_token, trim}
use Rattle.sip_lex.specs.Quoted.{IsQuoted}
pub use Rattle.sip_lex.specs.Params.{param_text}
use Rattle.sip_uri.specs.Host.{IsHost, IsPort}
use Rattle.sip_via.specs.ViaParts.{ViaText, is_value_byte}

-- SWS: any spaces and tabs; a folded line has been joined before
abbrev pub IsSpace : List ℕ → Type 0
IsSpace gap = IsTrue (list_all is_space gap)

-- a mark with space round it (SLASH, COLON, EQUAL), and what stands behind
abbrev pub spaced : ℕ → List ℕ → List ℕ → List ℕ → List ℕ
spaced mark before after rest = before ++ (mark ∷ (after ++ rest))

-- ---- via-params: a name, or a name and a value (generic-param)

-- bytes without space, `,`, `;` and `"`
abbrev pub IsPlainValue : List ℕ → Type 0
IsPlainValue value = (value ≢ []) × IsTrue (list_all is_value_byte value)

-- or one quoted text
abbrev pub IsValue : List ℕ → Type 0
IsValue value = IsPlainValue value ⊎ ((inside : List ℕ) × IsQuoted value inside [])

-- the space round a parameter
pub record ParamGaps : Type 0 where
  pub before : List ℕ
  pub behind_name : List ℕ
  pub before_value : List ℕ
  pub behind_value : List ℕ

abbrev pub value_spelling : ParamGaps → Option (List ℕ) → List ℕ
value_spelling g None = g.behind_name
value_spelling g (Some value) = spaced 61 g.behind_name g.before_value (value ++ g.behind_value)

abbrev pub param_spelling : ParamGaps → List ℕ → Option (List ℕ) → List ℕ
param_spelling g name value = g.before ++ (name ++ value_spelling g value)

pub record AreParamGaps (g : ParamGaps) : Type 0 where
  pub before : IsSpace g.before
  pub behind_name : IsSpace g.behind_name
  pub before_value : IsSpace g.before_value
  pub behind_value : IsSpace g.behind_value

pub record IsViaParam (param : List ℕ) : Type 0 where
  pub gaps : ParamGaps
  pub name : List ℕ
  pub value : Option (List ℕ)
  pub spelled : param ≡ param_spelling gaps name value
  pub spaces : AreParamGaps gaps
  pub token : IsTrue (is_token name)
  pub valued : IfSome value IsValue

-- ---- the whole: sent-protocol LWS sent-by *(SEMI via-params)

-- the protocol's name as written, and the space in a value
pub record ViaGaps : Type 0 where
  pub name : List ℕ
  pub before_version : List ℕ × List ℕ
  pub before_transport : List ℕ × List ℕ
  pub before_host : List ℕ
  pub before_port : List ℕ × List ℕ
  pub before_params : List ℕ

abbrev pub params_spelling : List ℕ → List (List ℕ) → List ℕ
params_spelling gap params = gap ++ flat_map param_text params

-- behind the host: `:` and the port, if there is one, and the parameters
abbrev pub tail_spelling : List ℕ × List ℕ → List ℕ → Option (List ℕ) → List (List ℕ) → List ℕ
tail_spelling before_port gap None params = params_spelling gap params
tail_spelling before_port gap (Some port) params = spaced 58 before_port.0 before_port.1 (port ++ params_spelling gap params)

-- sent-protocol (a name, the version and the transport, `/` between two), space, sent-by, parameters
abbrev pub spelling : ViaGaps → ViaText → List ℕ
spelling g via =
    g.name
    ++ spaced 47 g.before_version.0 g.before_version.1 (codes "2.0"
    ++ spaced 47 g.before_transport.0 g.before_transport.1 (via.transport
    ++ (g.before_host
    ++ (via.host
    ++ tail_spelling g.before_port g.before_params via.port via.params))))

pub record AreViaGaps (g : ViaGaps) : Type 0 where
  -- in any case
  pub sip : map to_ascii_lowercase g.name ≡ codes "sip"
  pub before_version : IsSpace g.before_version.0 × IsSpace g.before_version.1
  pub before_transport : IsSpace g.before_transport.0 × IsSpace g.before_transport.1
  -- one or more
  pub before_host : (g.before_host ≢ []) × IsSpace g.before_host
  pub before_port : IsSpace g.before_port.0 × IsSpace g.before_port.1
  pub before_params : IsSpace g.before_params

-- the text is a Via value of these parts
pub record IsVia (text : List ℕ) (via : ViaText) : Type 0 where
  pub gaps : ViaGaps
  pub spelled : text ≡ spelling gaps via
  pub spaces : AreViaGaps gaps
  -- no space stands at its end
  pub trimmed : trim text ≡ text
  pub transport : IsTrue (is_token via.transport)
  pub host : IsHost via.host
  pub port : IfSome via.port IsPort
  pub params : AllByRecursion IsViaParam via.params
