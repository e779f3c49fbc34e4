-- Header lines of which none has a name.
use Rattle.sip_build.proofs.Common.{◌≡◌, ℕ, List, [], None, sym, HeaderText, first_of, first_value, arith}
use Rattle.sip_text.specs.Name.{values_of}

no-first : (vs : List (List ℕ)) → first_of vs ≡ None → vs ≡ []
no-first vs e = grind arith

pub none-named : (name : List ℕ) (hs : List HeaderText) → first_value name hs ≡ None → values_of name [] ≡ values_of name hs
unfolding values_of
none-named name hs e = sym (no-first (values_of name hs) e)
