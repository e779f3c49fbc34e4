-- Which requests may open calls, and what is decided of them (RFC 3261 sections 10.2, 12.2, 16.3 and 22.3).
use Rattle.std.specs.Prelude.{◌≡◌, ℕ, Bool, false, ◌&&◌, List, Option, Some, None, Result, Ok, Err, codes, if◌then◌else◌}
use Rattle.std.specs.Str.{bytes_eq}
use Rattle.sip_text.specs.declared.needed.MandatoryHeader.TheVariants.{To}
use Rattle.sip_text.specs.Fields.{value_of}
use Rattle.sip_lex.specs.Tag.{tag_in}
use Rattle.sip_text.specs.Text.{MessageText, method_in}
use Rattle.sip_uri.specs.declared.fault.UriFault.{UriFault}
use Rattle.sip_uri.specs.declared.hop.Hop.{Hop}
use Rattle.sip_uri.specs.Uri.{Uri}
use Rattle.sip_via.specs.ViaParts.{or_empty}
use Rattle.authentication.specs.Answer.{Answer}
use Rattle.proxy_config.specs.Setup.{Setup}
use Rattle.proxy_routing.specs.Admission.{target_uri}
use Rattle.proxy_routing.specs.Targets.{is_domain}
use Rattle.proxy_dispatch.specs.declared.admission.Opener.{Opener}
use Rattle.proxy_dispatch.specs.declared.admission.Opener.TheVariants.{OutsideDialog, WithinDialog, Registering}

-- ---- which request it is

abbrev pub is_domain_if_read : Setup → Result Uri UriFault → Bool
is_domain_if_read setup (Ok uri) = is_domain setup uri
is_domain_if_read setup (Err fault) = false

-- a REGISTER for the domain (section 10.2)
abbrev pub is_for_registrar : Setup → MessageText → Bool
is_for_registrar setup m = bytes_eq (or_empty (method_in m.start)) (codes "REGISTER") && is_domain_if_read setup (target_uri m)

-- by the tag of its To
abbrev pub opener_by : Option (List ℕ) → Opener
opener_by None = OutsideDialog
opener_by (Some tag) = WithinDialog

abbrev pub opener_of : (registrar : Bool) → Setup → MessageText → Opener
opener_of registrar setup m = if registrar && is_for_registrar setup m then Registering else opener_by (tag_in (value_of To m.headers))

-- ---- what is decided of it

pub data Decision : Type 0 where
  -- it is opened by this setup: the one that stands, or one of the moment
  Opens : Setup → Decision
  -- it opens nothing, and is answered so
  Answers : Answer → Decision
  -- it opens nothing, and another answers it, or nobody
  Leaves : Decision

-- what is said of requests: which may open calls now; what is decided of one that may, which came from there then; whether there is a
-- registrar, and how it answers a REGISTER for the domain, if it does
pub record Serving : Type 1 where
  pub admits : Opener → Bool → Type 0
  pub decides : Setup → MessageText → Hop → (now : ℕ) → Decision → Type 0
  pub registrar : Bool
  pub registers : Setup → MessageText → Hop → (now : ℕ) → Option Answer → Type 0

-- where nothing is said of them: each is opened by the setup as it stands, and there is no registrar
abbrev pub open_all : Serving
open_all = record {
  admits = λ opener admitted. Unit {0};
  decides = λ setup m source now decision. decision ≡ Opens setup;
  registrar = false;
  registers = λ setup m source now answer. answer ≡ None;
}
