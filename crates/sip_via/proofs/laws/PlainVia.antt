-- The proxy's own Via value is read with the branch that was written, and no value with two.
use Rattle.sip_via.proofs.Common.{◌≡◌, ◌≢◌, ℕ, ◌<◌, ◌≤◌, ◌^◌, Bool, true, false, not, cond, eqb, List, [], ◌∷◌, ◌++◌, length, take, drop, Option, Some, None, Result, Ok, refl, sym, ap, subst, ◌∙◌, arith, inl, codes, is_ascii_digit, decimal, list_all}
use Rattle.sip_via.proofs.Common.{bytes_eq, and_parts, eqb-true, false_from_ne_true, false≢true, digits_decimal, length-decimal-le, append-nil, bytes_eq-Decides, is_token_byte, trim, trim_start, token_byte-space, number_read, own, is_value}
use Rattle.sip_via.proofs.Common.{begins_with_space, IsHost, IsPort, is_host_byte, Own, ViaFault, BranchName, address_text, IsBranch, branch_text, IsOwn, own_via, IsVia, IsViaParam, ViaText, is_value_byte, IsOwnBranch, common_steps}
use Rattle.sip_lex.specs.Bytes.{is_token}
use Rattle.sip_uri.specs.declared.hop.Transport.{Transport}
use Rattle.sip_uri.specs.declared.hop.Transport.TheVariants.{Udp, Tcp, Back}
use Rattle.sip_via.specs.OwnVia.{over, word_of}
use Rattle.std.proofs.lemmas.Fmt.{digits_value-decimal}
use Rattle.sip_lex.specs.Number.{number}
use Rattle.sip_lex.proofs.laws.Trims.{trim_end-token}
use Rattle.sip_uri.specs.Host.{is_port}
use Rattle.sip_via.specs.Received.{port_or_default}
use Rattle.sip_branch.proofs.BranchLaws.{branch_again, number_same}
use Rattle.sip_via.proofs.laws.ViaOnly.{via_again}
use Rattle.sip_branch.proofs.laws.HexLaws.{hex_text_one}
use Rattle.sip_via.proofs.laws.OwnVia.{own_via-good}
use Rattle.sip_branch.proofs.laws.Tokens.{all_pass, branch_token}

-- ---- the address

digit-host : (b : ℕ) → is_ascii_digit b ≡ true → is_host_byte b ≡ true
digit-host b h = grind arith

number-host : (n : ℕ) → n < 2 ^ 64 → list_all is_host_byte (decimal n) ≡ true
number-host n small = all_pass is_ascii_digit is_host_byte (decimal n) digit-host (digits_decimal own n small)

some-text : (xs : List ℕ) (y : ℕ) (ys : List ℕ) → xs ++ (y ∷ ys) ≢ []
some-text [] y ys = λ e. absurd cc
some-text (x ∷ xs) y ys = λ e. absurd cc

address-host : (proxy : Own) → IsOwn proxy → IsHost (address_text proxy.addr)
address-host proxy is = grind (arith, common_steps, number-host, some-text)

-- ---- the port

port-text : (n : ℕ) → 0 < n → n ≤ 65535 → IsPort (decimal n)
port-text n some within = grind (arith, common_steps, digits_value-decimal, own, digits_decimal, length-decimal-le)

port-read : (n : ℕ) → 0 < n → n ≤ 65535 → port_or_default (cond (is_port (decimal n)) (Some (number (decimal n))) None) ≡ n
port-read n some within = grind (arith, port-text, digits_value-decimal, own)

-- ---- the branch

other : (mark b : ℕ) → is_token_byte mark ≡ false → is_token_byte b ≡ true → eqb b mark ≡ false
other mark b none h = false_from_ne_true (eqb b mark) (λ e. false≢true (sym none ∙ subst (λ x. is_token_byte x ≡ true) (eqb-true b mark e) h))

token-value : (b : ℕ) → is_token_byte b ≡ true → is_value_byte b ≡ true
token-value b h = grind (arith, common_steps, token_byte-space b h, other 44 b refl h, other 59 b refl h, other 34 b refl h)

branch-whole : (b : BranchName) → IsBranch b → trim (branch_text b) ≡ branch_text b
branch-whole b named = grind (arith, branch_token, trim_end-token)

-- ---- the whole is trimmed

pub is-not : (t : Bool) → not t ≡ true → t ≡ false
is-not t e = grind arith

pub no-front : (bs : List ℕ) → begins_with_space bs ≡ false → trim_start bs ≡ bs
no-front bs h = grind arith

own-trimmed : (proxy : Own) (b : BranchName) → is_value (own_via proxy b) ≡ true → trim (own_via proxy b) ≡ own_via proxy b
own-trimmed proxy b h = grind (arith, common_steps, and_parts)

-- ---- the parameter

abbrev branch_param : BranchName → List ℕ
branch_param b = codes "branch=" ++ branch_text b

branch-is-param : (b : BranchName) → IsBranch b → IsViaParam (branch_param b)
branch-is-param b named = record {
  gaps = record { before = []; behind_name = []; before_value = []; behind_value = [] };
  name = codes "branch";
  value = Some (branch_text b);
  spelled = ap (λ (x : List ℕ). codes "branch=" ++ x) (sym (append-nil (branch_text b)));
  spaces = record { before = refl; behind_name = refl; before_value = refl; behind_value = refl };
  token = refl;
  valued = inl ((λ e. absurd cc), all_pass is_token_byte is_value_byte (branch_text b) token-value (branch_token b named));
}

-- ---- the whole

abbrev own_parts : Own → BranchName → ViaText
own_parts proxy b = record { transport = word_of proxy.transport; host = address_text proxy.addr; port = Some (decimal proxy.port); params = branch_param b ∷ [] }

word-token : (t : Transport) → is_token (word_of t) ≡ true
word-token Udp = refl
word-token Tcp = refl
word-token (Back sent_by) = refl

own-is-via : (proxy : Own) (b : BranchName) → IsOwn proxy → IsBranch b → 0 < proxy.port → proxy.port ≤ 65535 → IsVia (own_via proxy b) (own_parts proxy b)
own-is-via proxy b is named some within = record {
  gaps = record { name = codes "SIP"; before_version = ([], []); before_transport = ([], []); before_host = 32 ∷ []; before_port = ([], []); before_params = [] };
  spelled = ap (λ (x : List ℕ). codes "SIP/2.0/" ++ (word_of proxy.transport ++ (32 ∷ (address_text proxy.addr ++ (58 ∷ (decimal proxy.port ++ (codes ";branch=" ++ x))))))) (sym (append-nil (branch_text b)));
  spaces = record { sip = refl; before_version = (refl, refl); before_transport = (refl, refl); before_host = ((λ e. absurd cc), refl); before_port = (refl, refl); before_params = refl };
  trimmed = own-trimmed proxy b (own_via-good proxy b is (branch_token b named));
  transport = word-token proxy.transport;
  host = address-host proxy is;
  port = port-text proxy.port some within;
  params = (branch-is-param b named, tt);
}

pub own-read : (proxy : Own) (b : BranchName) → IsOwn proxy → IsBranch b → 0 < proxy.port → proxy.port ≤ 65535 → IsOwnBranch proxy (own_via proxy b) b
own-read proxy b is named some within = (
  own_parts proxy b,
  via_again (own_via proxy b) (own_parts proxy b) (own-is-via proxy b is named some within),
  record {
    host = refl;
    port = port-read proxy.port some within;
    branch = ap Some (branch-whole b named);
  },
)

-- ---- from its front

pub begins : (front text rest : List ℕ) → bytes_eq (take (length front) text) front ≡ true → rest ≡ drop (length front) text → text ≡ front ++ rest
begins front text rest same behind = grind (arith, common_steps, bytes_eq-Decides)

pub plain-read : (proxy : Own) (b : BranchName) (value sent_by rest text : List ℕ) → IsOwn proxy → IsBranch b → 0 < proxy.port → proxy.port ≤ 65535 → value ≡ codes "SIP/2.0/UDP " ++ sent_by → sent_by ≡ address_text proxy.addr ++ (58 ∷ (decimal proxy.port ++ rest)) → rest ≡ codes ";branch=" ++ text → text ≡ branch_text b → IsOwnBranch proxy value b
plain-read proxy b value sent_by rest text is named some within e1 e2 e3 e4 =
    let address = address_text proxy.addr in
    let r = own-read (over proxy Udp) b (record { address = is.address; port = is.port }) named some within in
    let whole : value ≡ own_via (over proxy Udp) b =
    e1 ∙ ap (λ (x : List ℕ). codes "SIP/2.0/UDP " ++ x) (e2 ∙ ap (λ (x : List ℕ). address ++ (58 ∷ (decimal proxy.port ++ x))) (e3 ∙ ap (λ (x : List ℕ). codes ";branch=" ++ x) e4)) in
    subst (λ (x : List ℕ). IsOwnBranch proxy x b) (sym whole) (r.0, r.1, record { host = r.2.host; port = r.2.port; branch = r.2.branch })

-- ---- no value has two

decimal-one : (m n : ℕ) → m < 2 ^ 64 → n < 2 ^ 64 → decimal m ≡ decimal n → m ≡ n
decimal-one m n small-m small-n e =
    number_same (2 ^ 64) (decimal m) m n (omega (arith, small-n)) small-n (sym (number_read (2 ^ 64) m (omega (arith, small-m)) small-m)) e

abbrev some_text : List ℕ → Option (List ℕ)
some_text text = Some text

abbrev ok : ViaText → Result ViaText ViaFault
ok via = Ok via

branch-one : (a b : BranchName) → IsBranch a → IsBranch b → branch_text a ≡ branch_text b → Some a ≡ Some b
branch-one a b is-a is-b e = grind (arith, common_steps, branch_again, hex_text_one, decimal-one)

pub own-one : (proxy : Own) (value : List ℕ) (a b : BranchName) → IsBranch a → IsBranch b → IsOwnBranch proxy value a → IsOwnBranch proxy value b → Some a ≡ Some b
own-one proxy value a b is-a is-b fact other = grind (arith, branch-one)
