-- A Via line, cut at its first comma.
use Rattle.std.specs.Prelude.{◌≡◌, ℕ, true, List, drop, length}
use Rattle.std.specs.Option.{option_copied}
use Rattle.sip_lex.specs.declared.sheltered.Shelter.TheVariants.{Quotes}
use Rattle.sip_lex.specs.declared.sheltered.ShelterState.TheVariants.{Plain}
use Rattle.sip_lex.specs.Bytes.{trim, trim_end}
use Rattle.sip_lex.specs.Sheltered.{cut_outside}
use Rattle.sip_via.specs.declared.first_line.CutLine.{CutLine}
use Rattle.sip_via.specs.inner.SeenParts.{seen_parts}
use Rattle.sip_via.specs.ViaParts.{is_via, parts_of}

-- its first value is one, and these are the parts of both
pub record IsCutLine (parts : CutLine) (line : List ℕ) : Type 0 where
  pub via : is_via parts.value.now ≡ true
  pub cut : seen_parts parts.cut ≡ parts_of parts.value.now
  pub value : parts.value.now ≡ trim (cut_outside Quotes 44 Plain line).0
  pub space : parts.space.now ≡ drop (length (trim_end (cut_outside Quotes 44 Plain line).0)) (cut_outside Quotes 44 Plain line).0
  pub others : option_copied parts.others ≡ (cut_outside Quotes 44 Plain line).1
