-- A message without a line with credentials is one.
use Rattle.proxy_routing.proofs.Common.{◌≡◌, ◌∙◌, Bool, true, false, List, ℕ, zero, suc, Option, Some, refl, sym, ap, codes, list_all, MessageText}
use Rattle.std.proofs.Common.{None, [], ◌∷◌, cond}
use Rattle.std.specs.Prelude.{is_none, remove, slice_get}
use Rattle.std.proofs.lemmas.Bool.{and_from, and_parts, cond-false}
use Rattle.std.proofs.lemmas.Option.{same_Some}
use Rattle.sip_text.specs.Change.{without_line_at}
use Rattle.sip_text.specs.declared.needed.MandatoryHeader.{MandatoryHeader}
use Rattle.sip_text.specs.declared.needed.MandatoryHeader.TheVariants.{Via}
use Rattle.sip_text.specs.Fields.{length_name, missing}
use Rattle.sip_text.specs.Message.{IsMessage, is_header}
use Rattle.sip_text.specs.Name.{first_of, first_value, full_name, same_name, values_of}
use Rattle.sip_text.specs.Text.{HeaderText}
use Rattle.sip_via.proofs.laws.Replaced.{SameOthers, apart, edited-good}
use Rattle.proxy_routing.proofs.laws.OwnCredentials.{credentials}

values_gone : (name : List ℕ) (hs : List HeaderText) (place : ℕ) (h : HeaderText) → slice_get hs place ≡ Some h → same_name name h.name ≡ false → values_of name (remove hs place) ≡ values_of name hs
unfolding values_of
values_gone name [] place h e differ = absurd cc
values_gone name (x ∷ hs) zero h e differ =
    sym (cond-false (same_name name x.name) (x.value ∷ values_of name hs) (values_of name hs) (ap (λ (y : HeaderText). same_name name y.name) (same_Some _ _ e) ∙ differ))
values_gone name (x ∷ hs) (suc place) h e differ =
    ap (λ (vs : List (List ℕ)). cond (same_name name x.name) (x.value ∷ vs) vs) (values_gone name hs place h e differ)

all_gone : (hs : List HeaderText) (place : ℕ) (h : HeaderText) → slice_get hs place ≡ Some h → list_all is_header hs ≡ true → list_all is_header (remove hs place) ≡ true
all_gone [] place h e all = absurd cc
all_gone (x ∷ hs) zero h e all = (and_parts (is_header x) (list_all is_header hs) all).1
all_gone (x ∷ hs) (suc place) h e all =
    let both = and_parts (is_header x) (list_all is_header hs) all in
    and_from _ _ both.0 (all_gone hs place h e both.1)

some_none : (b : Bool) (which : MandatoryHeader) (rest : Option MandatoryHeader) → cond b (Some which) rest ≡ None → b ≡ false
some_none true which rest e = absurd cc
some_none false which rest e = refl

has_via : (hs : List HeaderText) → missing hs ≡ None → is_none (first_value (codes "via") hs) ≡ false
has_via hs e = some_none (is_none (first_value (codes "via") hs)) Via _ e

module _ (m : MessageText) (place : ℕ) (h : HeaderText) (at : slice_get m.headers place ≡ Some h) (named : same_name credentials h.name ≡ true) where
  stays : (name : List ℕ) → same_name credentials name ≡ false → values_of name (remove m.headers place) ≡ values_of name m.headers
  stays name differ = values_gone name m.headers place h at (apart credentials name h.name differ named)

  others : SameOthers (remove m.headers place) m.headers
  unfolding full_name
  others = record {
    from = stays (codes "from") refl;
    to = stays (codes "to") refl;
    call_id = stays (codes "call-id") refl;
    cseq = stays (codes "cseq") refl;
    length = stays length_name refl;
  }

  via_stays : values_of (codes "via") (remove m.headers place) ≡ values_of (codes "via") m.headers
  unfolding full_name
  via_stays = stays (codes "via") refl

  pub good_left : IsMessage m → IsMessage (without_line_at place m)
  good_left good =
      edited-good m (remove m.headers place) good (all_gone m.headers place h at good.head.headers)
      (ap (λ (vs : List (List ℕ)). is_none (first_of vs)) via_stays ∙ has_via m.headers good.head.needed) others
