-- Lines of a name among header lines are header lines.
use Rattle.sip_build.proofs.Common.{◌≡◌, ℕ, true, List, [], ◌∷◌, take, refl, arith, codes, list_all, and_parts, and_both, cond_both, HeaderText, MessageText, lines_among, timestamp_lines, common_steps}
use Rattle.sip_text.specs.Message.{is_header}
use Rattle.sip_build.specs.Requests.{reason_lines}

among-good : (name : List ℕ) (hs : List HeaderText) → list_all is_header hs ≡ true → list_all is_header (lines_among name hs) ≡ true
among-good name [] h = refl
among-good name (x ∷ hs) h =
    let each = and_parts (is_header x) (list_all is_header hs) h in
    grind (arith, common_steps, among-good name hs each.1, cond_both, and_both)

one-good : (hs : List HeaderText) → list_all is_header hs ≡ true → list_all is_header (take 1 hs) ≡ true
one-good hs h = grind arith

pub timestamp-good : (m : MessageText) → list_all is_header m.headers ≡ true → list_all is_header (timestamp_lines m) ≡ true
timestamp-good m h = one-good (lines_among (codes "timestamp") m.headers) (among-good (codes "timestamp") m.headers h)

pub reasons-good : (m : MessageText) → list_all is_header m.headers ≡ true → list_all is_header (reason_lines m) ≡ true
reasons-good m h = among-good (codes "reason") m.headers h
