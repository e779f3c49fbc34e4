-- Whether a Via value that begins as the proxy's own is one, by what stands behind its transport.
use Rattle.sip_via.proofs.Common.{◌≡◌, ℕ, ◌<◌, ◌≤◌, false, List, ◌∷◌, ◌++◌, take, drop, Option, Some, None, Result, Ok, refl, sym, ap, ◌∙◌, codes, decimal, trim_end, trim_end-whole, begins_with_space, host_len, Own, ViaFault, ViaText, BranchName}
use Rattle.sip_via.proofs.Common.{IsBranch, IsOwn, Parts, address_text, behind_address, branch_text, parts_of, read_via, via_of, IsOwnBranch, common_steps, arith}
use Rattle.sip_via.proofs.FrontLaws.{address_front, address_rest}
use Rattle.sip_via.proofs.SentLaws.{parts_behind}
use Rattle.sip_via.proofs.laws.PlainVia.{no-front, plain-read}

abbrev ok : ViaText → Result ViaText ViaFault
ok via = Ok via

ok_is : (x y : ViaText) → ok x ≡ ok y → x ≡ y
ok_is x y e = cc

abbrev some : List ℕ → Option (List ℕ)
some text = Some text

via_is : (text : List ℕ) (via : ViaText) → read_via text ≡ Ok via → via_of text ≡ via
via_is text via e = grind arith

-- the host stands first
host_first : (host sent : List ℕ) (n : ℕ) → trim_end (take n sent) ≡ host → sent ≡ host ++ ((trim_end-whole (take n sent)).gap ++ drop n sent)
host_first host sent n e = grind (arith, common_steps)

host_behind : (sent : List ℕ) → begins_with_space sent ≡ false → (parts_of (codes "SIP/2.0/UDP " ++ sent)).host ≡ trim_end (take (host_len false sent) sent)
host_behind sent front = ap (λ (p : Parts). p.host) (parts_behind sent) ∙ ap (λ (s : List ℕ). trim_end (take (host_len false s) s)) (no-front sent front)

-- another address is not the proxy's
pub sent_other : (proxy : Own) (value sent : List ℕ) → value ≡ codes "SIP/2.0/UDP " ++ sent → begins_with_space sent ≡ false → None ≡ behind_address proxy.addr sent → (b : BranchName) → IsOwnBranch proxy value b → ⊥
sent_other proxy value sent whole front none b (via, read, is) =
    let address = address_text proxy.addr in
    let n = host_len false sent in
    let host : trim_end (take n sent) ≡ address =
    sym (host_behind sent front) ∙ ap (λ (t : List ℕ). (parts_of t).host) (sym whole) ∙ ap (λ (v : ViaText). v.host) (via_is value via read) ∙ is.host in
    grind (arith, common_steps, trim_end-whole (take n sent), host_first address sent n host, address_rest)

-- the proxy's own spelling is the proxy's
pub sent_own : (proxy : Own) (b : BranchName) (value sent rest : List ℕ) → IsOwn proxy → IsBranch b → proxy.port ≤ 65535 → value ≡ codes "SIP/2.0/UDP " ++ sent → Some rest ≡ behind_address proxy.addr sent → (0 < proxy.port) × (rest ≡ 58 ∷ (decimal proxy.port ++ (codes ";branch=" ++ branch_text b))) → IsOwnBranch proxy value b
sent_own proxy b value sent rest is named within whole behind (some_port, spelled) =
    plain-read proxy b value sent (codes ";branch=" ++ branch_text b) (branch_text b) is named some_port within whole
    (address_front proxy.addr sent rest (sym behind) ∙ ap (λ (x : List ℕ). address_text proxy.addr ++ x) spelled)
    refl
    refl
