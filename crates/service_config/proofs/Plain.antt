-- A text without an LF is read as a line.
use Rattle.service_config.proofs.Common.{◌≡◌, ℕ, Bool, true, cond, List, [], ◌∷◌, Option, None, refl, ap, not, and_from, list_all, Lacks, is_no_lf, Line}
use Rattle.std.proofs.lemmas.Bool.{ne_eqb}
use Rattle.service_config.specs.inner.LineReading.{read_line, read_plain}

pub no_lf : (text : List ℕ) → Lacks 10 text → list_all is_no_lf text ≡ true
no_lf [] h = refl
no_lf (b ∷ bs) h = and_from (is_no_lf b) (list_all is_no_lf bs) (ap not (ne_eqb b 10 h.0)) (no_lf bs h.1)

pub plain_is_line : (text : List ℕ) → Lacks 10 text → read_line text ≡ read_plain text
plain_is_line text h = ap (λ (b : Bool). cond b (read_plain text) None) (no_lf text h)
