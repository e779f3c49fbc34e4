-- Parameters in memory, as lists.
use Rattle.std.specs.Prelude.{ℕ, false, List, if◌then◌else◌}
use Rattle.std.specs.Borrow.{Bor}
use Rattle.std.specs.Option.{option_map}
use Rattle.sip_digest.specs.declared.element.WrittenValue.{WrittenValue}
use Rattle.sip_digest.specs.declared.fields.Fields.{Fields}
use Rattle.sip_digest.specs.AuthParam.{AuthParam, unescaped}
use Rattle.sip_digest.specs.Credentials.{Named}

abbrev pub seen_value : WrittenValue → List ℕ
seen_value w = if w.is_quoted then unescaped false w.text.now else w.text.now

abbrev pub seen_param : Bor (List ℕ) × WrittenValue → AuthParam
seen_param p = record { name = p.0.now; value = seen_value p.1 }

abbrev pub seen_fields : Fields → Named
seen_fields f = record {
  username = option_map seen_value f.username;
  realm = option_map seen_value f.realm;
  nonce = option_map seen_value f.nonce;
  uri = option_map seen_value f.uri;
  response = option_map seen_value f.response;
  algorithm = option_map seen_value f.algorithm;
  qop = option_map seen_value f.qop;
  nc = option_map seen_value f.nc;
  cnonce = option_map seen_value f.cnonce;
}
