use Rattle.std.proofs.Common.{◌∙◌, map, sym, ap, List, ℕ, ◌∷◌}
use Rattle.std.specs.Option.{option_copied}
use Rattle.sip_lex.specs.Bytes.{trim}
use Rattle.sip_uri.specs.Contact.{items_behind}
use Rattle.authentication.proofs.laws.Pieces.{next_piece}
use Rattle.registrar.proofs.items.cut_item.Goals as goal

pub returns : goal.returns
returns c =
    ap (map trim) (next_piece 44 c.args.text.now c.cut_outside.result c.cut_outside.ensures.value)
    ∙ ap (λ (item : List ℕ). item ∷ items_behind (option_copied c.cut_outside.result.1)) (sym c.trim.ensures)
