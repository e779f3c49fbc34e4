-- The pieces between line feeds give the text back.
use Rattle.sip_text.proofs.Common.{◌≡◌, ℕ, List, join_with_byte, pieces}
use Rattle.std.proofs.lemmas.List.Splits.{join_with_byte-slice_split}

pub join_pieces : (bs : List ℕ) → join_with_byte 10 (pieces 10 bs) ≡ bs
join_pieces bs = join_with_byte-slice_split 10 bs
