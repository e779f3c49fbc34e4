-- The token that a text begins with.
use Rattle.sip_lex.proofs.Common.{◌≡◌, ℕ, suc, ◌+◌, ◌++◌, true, false, List, [], ◌∷◌, length, take, drop, ap, sym, ◌∙◌, refl, arith, list_all, and_parts, cases_Bool, cond-true, cond-false, common_steps, take_at}
use Rattle.std.proofs.Common.{drop_at}
use Rattle.std.specs.List.{prefix_len}
use Rattle.sip_lex.specs.Bytes.{is_token, is_token_byte}
use Rattle.sip_lex.proofs.laws.Trims.{token_bytes}

pub front_passes : (bs : List ℕ) → list_all is_token_byte (take (prefix_len is_token_byte bs) bs) ≡ true
front_passes [] = refl
front_passes (b ∷ bs) =
    let n = prefix_len is_token_byte bs in
    let k : suc n ≡ 1 + n = omega arith in
    grind (arith, common_steps, cases_Bool, cond-true, cond-false, front_passes bs)

front_len : (mark : ℕ) (token behind : List ℕ) → list_all is_token_byte token ≡ true → is_token_byte mark ≡ false → prefix_len is_token_byte (token ++ mark ∷ behind) ≡ length token
front_len mark [] behind h other = cond-false (is_token_byte mark) (1 + prefix_len is_token_byte behind) 0 other
front_len mark (b ∷ token) behind h other =
    let both = and_parts (is_token_byte b) (list_all is_token_byte token) h in
    let e = front_len mark token behind both.1 other in
    let k : 1 + prefix_len is_token_byte (token ++ mark ∷ behind) ≡ suc (length token) = omega arith in
    cond-true (is_token_byte b) (1 + prefix_len is_token_byte (token ++ mark ∷ behind)) 0 both.0 ∙ k

-- where a token stands at the front, and behind it a byte of no token, that is what the text begins with
pub the_token : (text token behind : List ℕ) (mark : ℕ) → is_token token ≡ true → is_token_byte mark ≡ false → text ≡ token ++ mark ∷ behind → take (prefix_len is_token_byte text) text ≡ token
the_token text token behind mark h other e =
    let n = ap (prefix_len is_token_byte) e ∙ front_len mark token behind (token_bytes token h) other in
    ap (take (prefix_len is_token_byte text)) e ∙ take_at token (mark ∷ behind) (prefix_len is_token_byte text) (sym n)

pub the_rest : (text token behind : List ℕ) (mark : ℕ) → is_token token ≡ true → is_token_byte mark ≡ false → text ≡ token ++ mark ∷ behind → drop (prefix_len is_token_byte text) text ≡ mark ∷ behind
the_rest text token behind mark h other e =
    let n = ap (prefix_len is_token_byte) e ∙ front_len mark token behind (token_bytes token h) other in
    ap (drop (prefix_len is_token_byte text)) e ∙ drop_at token (mark ∷ behind) (prefix_len is_token_byte text) (sym n)
