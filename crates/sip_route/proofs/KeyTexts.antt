-- Two keys against one another.
use Rattle.sip_route.proofs.Common.{◌≡◌, ℕ, Bool, true, eqb, List, Option, Some, None, sym, ap, ◌∙◌, ◌↔◌, ◌&&◌, IsTrue, bytes_eq, str_to_ascii_lowercase, and_parts, eqb-true}
use Rattle.sip_route.proofs.Common.{MessageText, IsSameSender, via_key, ◌==◌, eq-eqb, bytes_eq-Decides, arith}
use Rattle.sip_via.specs.TopVia.{top_value}
use Rattle.sip_route.specs.RequestKey.{HaveSameKey}
use Rattle.sip_route.specs.inner.RequestKey.{IsSentBy}
use Rattle.sip_route.proofs.KeyLaws.{same_sender}

abbrev some_key : List ℕ → Option (List ℕ)
some_key key = Some key

same_parts : (m n : MessageText) (h k x y : List ℕ) (p q : ℕ) (s : IsSentBy m h p x) (t : IsSentBy n k q y) → IsSameSender s.via t.via → (str_to_ascii_lowercase h ≡ str_to_ascii_lowercase k) × (p ≡ q) × (x ≡ y)
same_parts m n h k x y p q s t same = grind arith

same_senders : (m n : MessageText) (h k x y : List ℕ) (p q : ℕ) (s : IsSentBy m h p x) (t : IsSentBy n k q y) → str_to_ascii_lowercase h ≡ str_to_ascii_lowercase k → p ≡ q → x ≡ y → IsSameSender s.via t.via
same_senders m n h k x y p q s t hosts ports branches = grind arith

of_senders : (m n : MessageText) (h k x y : List ℕ) (p q : ℕ) (s : IsSentBy m h p x) (t : IsSentBy n k q y) → IsSameSender s.via t.via → HaveSameKey m n
of_senders m n h k x y p q s t same = grind arith

to_senders : (m n : MessageText) (h k x y : List ℕ) (p q : ℕ) (s : IsSentBy m h p x) (t : IsSentBy n k q y) → HaveSameKey m n → IsSameSender s.via t.via
to_senders m n h k x y p q s t same =
    let left : via_key s.via ≡ some_key same.0 = sym s.key ∙ same.1 in
    let right : via_key t.via ≡ some_key same.0 = sym t.key ∙ same.2 in
    same_sender (top_value m) (top_value n) s.via t.via s.grammar t.grammar (λ none. let wrong : some_key same.0 ≡ None = sym left ∙ none in absurd cc) (left ∙ sym right)

pub are_same : (m n : MessageText) (h k x y : List ℕ) (p q : ℕ) (r : Bool) → IsSentBy m h p x → IsSentBy n k q y → r ≡ (bytes_eq (str_to_ascii_lowercase h) (str_to_ascii_lowercase k) && p == q && bytes_eq x y) → IsTrue r ↔ HaveSameKey m n
are_same m n h k x y p q r s t is =
    let hosts = bytes_eq (str_to_ascii_lowercase h) (str_to_ascii_lowercase k) in
    let branches = bytes_eq x y in (
      λ e.
          let all = and_parts (hosts && eqb p q) branches (sym is ∙ e) in
          let sent = and_parts hosts (eqb p q) all.0 in
          of_senders m n h k x y p q s t (same_senders m n h k x y p q s t ((bytes_eq-Decides (str_to_ascii_lowercase h) (str_to_ascii_lowercase k)).0 sent.0) (eqb-true p q sent.1) ((bytes_eq-Decides x y).0 all.1)),
      λ same.
          let parts = same_parts m n h k x y p q s t (to_senders m n h k x y p q s t same) in
          is
          ∙ ap (λ z. (z && eqb p q) && branches) ((bytes_eq-Decides (str_to_ascii_lowercase h) (str_to_ascii_lowercase k)).1 parts.0)
          ∙ ap (λ z. z && branches) (eq-eqb p q parts.1)
          ∙ (bytes_eq-Decides x y).1 parts.2,
    )
