-- Two texts spell URIs of one target exactly where both are read, with the same key.
use Rattle.sip_digest.proofs.Common.{◌≡◌, ℕ, Bool, false, List, Option, Some, None, sym, ap, ◌∙◌}
use Rattle.std.proofs.Common.{Result, Ok, Err}
use Rattle.std.specs.Prelude.{IsTrue, ◌↔◌}
use Rattle.sip_uri.specs.Grammar.{IsUri}
use Rattle.sip_uri.specs.Key.{key_of}
use Rattle.sip_uri.specs.Reading.{read_uri}
use Rattle.sip_uri.specs.Uri.{Uri, spelling}
use Rattle.sip_uri.specs.declared.fault.UriFault.{UriFault}
use Rattle.sip_uri.proofs.laws.Found.{found}
use Rattle.sip_uri.proofs.laws.Only.{read_again}
use Rattle.sip_digest.specs.Right.{NameOneTarget}
use Rattle.sip_digest.specs.inner.Targets.{uri_if}

-- a text that spells a URI is read
spelled_read : (text : List ℕ) (uri : Uri) → IsUri uri → text ≡ spelling uri → uri_if (read_uri text) ≡ Some uri
spelled_read text uri h e = ap (λ (t : List ℕ). uri_if (read_uri t)) e ∙ ap uri_if (read_again uri h)

none_some : (o : Option Uri) (uri : Uri) → None ≡ o → o ≡ Some uri → ⊥
none_some o uri e f = absurd cc

some_some : (o : Option Uri) (u v : Uri) → Some u ≡ o → o ≡ Some v → u ≡ v
some_some o u v e f = cc

false_true : IsTrue false → ⊥
false_true e = absurd cc

pub first_unread : (text other : List ℕ) → None ≡ uri_if (read_uri text) → IsTrue false ↔ NameOneTarget text other
first_unread text other none = (λ t. absurd (false_true t), λ h. absurd (none_some (uri_if (read_uri text)) h.first none (spelled_read text h.first h.first_is h.first_text)))

pub second_unread : (text other : List ℕ) → None ≡ uri_if (read_uri other) → IsTrue false ↔ NameOneTarget text other
second_unread text other none = (λ t. absurd (false_true t), λ h. absurd (none_some (uri_if (read_uri other)) h.second none (spelled_read other h.second h.second_is h.second_text)))

read_ok : (r : Result Uri UriFault) (uri : Uri) → Some uri ≡ uri_if r → r ≡ Ok uri
read_ok (Ok other) uri e = cc
read_ok (Err fault) uri e = absurd cc

pub both_read : (text other : List ℕ) (u v : Uri) (same : Bool) → Some u ≡ uri_if (read_uri text) → Some v ≡ uri_if (read_uri other) → IsTrue same ↔ (key_of u ≡ key_of v) → IsTrue same ↔ NameOneTarget text other
both_read text other u v same first second keys =
    let one = found text u (read_ok (read_uri text) u first) in
    let two = found other v (read_ok (read_uri other) v second) in (
      λ t. record { first = u; second = v; first_is = one.0; second_is = two.0; first_text = one.1; second_text = two.1; same = keys.0 t },
      λ h.
          let left : u ≡ h.first = some_some (uri_if (read_uri text)) u h.first first (spelled_read text h.first h.first_is h.first_text) in
          let right : v ≡ h.second = some_some (uri_if (read_uri other)) v h.second second (spelled_read other h.second h.second_is h.second_text) in
          keys.1 (ap key_of left ∙ h.same ∙ sym (ap key_of right)),
    )
