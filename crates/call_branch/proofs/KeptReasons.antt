-- The Reason lines of a message are those of that name, and each may be a header line.
use Rattle.std.proofs.Common.{◌≡◌, ◌∙◌, ◌++◌, Bool, true, false, List, [], ◌∷◌, ap, refl, cond, filter, map}
use Rattle.std.specs.List.{flat_map, list_all}
use Rattle.std.proofs.lemmas.Bool.{and_from, and_parts}
use Rattle.sip_build.specs.Requests.{reason_lines}
use Rattle.sip_text.specs.Text.{MessageText}
use Rattle.std.proofs.Common.{codes}
use Rattle.sip_text.specs.Message.{is_header}
use Rattle.sip_text.specs.Name.{same_name}
use Rattle.sip_text.specs.Text.{HeaderText}
use Rattle.sip_route.specs.Lines.{has_name, lines_among}
use Rattle.call_branch.specs.inner.Reasons.{reason_in}

among : (hs : List HeaderText) → flat_map reason_in hs ≡ lines_among (codes "reason") hs
among [] = refl
among (h ∷ hs) = by (same_name (codes "reason") h.name) (among hs)
  where
    by : (b : Bool) → flat_map reason_in hs ≡ lines_among (codes "reason") hs → cond {A = List HeaderText} b (h ∷ []) [] ++ flat_map reason_in hs ≡ cond {A = List HeaderText} b (h ∷ lines_among (codes "reason") hs) (lines_among (codes "reason") hs)
    by true rest = ap (λ (xs : List HeaderText). h ∷ xs) rest
    by false rest = rest

pub reasons_are : (m : MessageText) → flat_map reason_in m.headers ≡ reason_lines m
reasons_are m = among m.headers

lines_pass : (hs : List HeaderText) → list_all is_header hs ≡ true → list_all is_header (lines_among (codes "reason") hs) ≡ true
lines_pass [] e = refl
lines_pass (h ∷ hs) e =
    let each = and_parts (is_header h) (list_all is_header hs) e in
    pass (same_name (codes "reason") h.name) each.0 (lines_pass hs each.1)
  where
    pass : (b : Bool) → is_header h ≡ true → list_all is_header (lines_among (codes "reason") hs) ≡ true
        → list_all is_header (cond {A = List HeaderText} b (h ∷ lines_among (codes "reason") hs) (lines_among (codes "reason") hs)) ≡ true
    pass true first rest = and_from (is_header h) (list_all is_header (lines_among (codes "reason") hs)) first rest
    pass false first rest = rest

pub reasons_pass : (m : MessageText) → list_all is_header m.headers ≡ true → list_all is_header (reason_lines m) ≡ true
reasons_pass m e = lines_pass m.headers e
