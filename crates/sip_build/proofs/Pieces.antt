-- Texts that grow by pieces.
use Rattle.sip_via.specs.OwnVia.{word_of}
use Rattle.sip_build.proofs.Common.{◌≡◌, ℕ, List, [], ◌∷◌, ◌++◌, sym, ap, ◌∙◌, append_assoc, header_text, codes, decimal, Own, BranchName, address_text, branch_text, line, own_via, common_steps, arith}

abbrev pub Text : Type 0
Text = List ℕ

-- ---- in pieces

pub joined : (old mid new a b all : Text) → mid ≡ old ++ a → new ≡ mid ++ b → a ++ b ≡ all → new ≡ old ++ all
joined old mid new a b all e h k = h ∙ ap (λ (x : Text). x ++ b) e ∙ append_assoc old a b ∙ ap (λ (x : Text). old ++ x) k

pub three : (old n1 n2 n3 a b d all : Text) → n1 ≡ old ++ a → n2 ≡ n1 ++ b → n3 ≡ n2 ++ d → a ++ (b ++ d) ≡ all → n3 ≡ old ++ all
three old n1 n2 n3 a b d all e1 e2 e3 k = grind (arith, common_steps)

-- ---- the proxy's own Via line

-- the line up to the branch
abbrev pub own_front : Own → Text
own_front proxy = codes "Via: SIP/2.0/" ++ (word_of proxy.transport ++ (32 ∷ (address_text proxy.addr ++ (58 ∷ (decimal proxy.port ++ codes ";branch=")))))

pub own_line : (proxy : Own) (b : BranchName) → own_front proxy ++ (branch_text b ++ 13 ∷ 10 ∷ []) ≡ header_text (line (codes "Via") (own_via proxy b))
own_line proxy b =
    let word = word_of proxy.transport in
    let addr = address_text proxy.addr in
    let port = decimal proxy.port in
    let before = codes ";branch=" in
    let branch = branch_text b in
    let tail = 13 ∷ 10 ∷ [] in
    let joint = append_assoc port before (branch ++ tail) ∙ sym (append_assoc port (before ++ branch) tail) in
    let from_addr =
    append_assoc addr (58 ∷ (port ++ before)) (branch ++ tail)
    ∙ ap (λ (x : Text). addr ++ (58 ∷ x)) joint
    ∙ sym (append_assoc addr (58 ∷ (port ++ (before ++ branch))) tail) in
    ap (λ (x : Text). codes "Via: SIP/2.0/" ++ x)
    (append_assoc word (32 ∷ (addr ++ (58 ∷ (port ++ before)))) (branch ++ tail)
    ∙ ap (λ (x : Text). word ++ (32 ∷ x)) from_addr
    ∙ sym (append_assoc word (32 ∷ (addr ++ (58 ∷ (port ++ (before ++ branch))))) tail))
