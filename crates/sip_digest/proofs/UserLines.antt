-- A line is read exactly where it is one.
use Rattle.sip_digest.proofs.UsersCommon.{◌≡◌, ℕ, ◌<◌, Bool, true, false, cond, List, ◌∷◌, ◌++◌, length, Option, Some, None, refl, ap, subst, ◌∙◌, arith, codes, not, option_and_then, option_map, same_Some, and_parts, eqb-false, eqb-true, list_all}
use Rattle.sip_digest.proofs.UsersCommon.{◌&&◌, bytes_eq, bytes_eq-Decides, Lacks, behind, cut, is, Lacks-append, Lacks-pass, cut_again, cut_joins, Algorithms, Secrets, ◌≢◌}
use Rattle.sip_digest.proofs.UsersCommon.{Comment, IsLine, IsUser, Line, User, UserLine, digest_text, begins_with_hash, digests_cut, has_needed, is_comment, is_digest, is_lower_hexadecimal, is_name, is_name_byte, is_no_lf, line_text, read_digest, read_line, read_secrets, read_user, secrets_of, user_cut, user_if, user_text}
use Rattle.std.specs.Prelude.{◌==◌}
use Rattle.std.proofs.Common.{lit<}
use Rattle.sip_digest.proofs.Comments.{named_is_none}

abbrev Cut : Type 0
Cut = List ℕ × Option (List ℕ)

-- ---- what a line lacks

name_bytes : (name : List ℕ) → is_name name ≡ true → list_all is_name_byte name ≡ true
name_bytes name h = (and_parts _ (list_all is_name_byte name) (and_parts _ (not (begins_with_hash name)) h).0).1

digest_lacks : (mark n : ℕ) (o : Option (List ℕ)) → is_lower_hexadecimal mark ≡ false → 45 ≢ mark → is_digest n o ≡ true → Lacks mark (digest_text o)
digest_lacks mark n None fails other h = (other, tt)
digest_lacks mark n (Some digits) fails other h = Lacks-pass is_lower_hexadecimal mark digits fails (and_parts (length digits == n) (list_all is_lower_hexadecimal digits) h).1

user_lacks : (algorithms : Algorithms) (user : User) → IsUser algorithms user → Lacks 10 (user_text user)
user_lacks algorithms user h =
    Lacks-append 10 user.name (32 ∷ (digest_text user.secrets.md5 ++ 32 ∷ digest_text user.secrets.sha256)) (Lacks-pass is_name_byte 10 user.name refl (name_bytes user.name h.name)) (
      eqb-false 32 10 refl,
      Lacks-append 10 (digest_text user.secrets.md5) (32 ∷ digest_text user.secrets.sha256) (digest_lacks 10 32 user.secrets.md5 refl (eqb-false 45 10 refl) h.md5)
          (eqb-false 32 10 refl, digest_lacks 10 64 user.secrets.sha256 refl (eqb-false 45 10 refl) h.sha256),
    )

pub line_lacks : (algorithms : Algorithms) (line : Line) → IsLine algorithms line → Lacks 10 (line_text line)
line_lacks algorithms (UserLine user) h = user_lacks algorithms user h
line_lacks algorithms (Comment text) h = Lacks-pass is_no_lf 10 text refl (and_parts _ (list_all is_no_lf text) h).1

-- ---- digests

told_false : (b : Bool) → (b ≡ true → ⊥) → b ≡ false
told_false true never = absurd (never refl)
told_false false never = refl

not_dash : (n : ℕ) (digits : List ℕ) → 1 < n → length digits ≡ n → bytes_eq digits (codes "-") ≡ false
not_dash n digits long len =
    told_false (bytes_eq digits (codes "-"))
    (λ e.
    let same : digits ≡ codes "-" = (bytes_eq-Decides digits (codes "-")).0 e in
    let one : length digits ≡ 1 = ap length same in
    absurd (omega arith))

digest_again : (n : ℕ) (o : Option (List ℕ)) → 1 < n → is_digest n o ≡ true → read_digest n (digest_text o) ≡ Some o
digest_again n None long h = refl
digest_again n (Some digits) long h =
    let parts = and_parts (length digits == n) (list_all is_lower_hexadecimal digits) h in
    ap (λ b. cond b (Some None) (cond (length digits == n && list_all is_lower_hexadecimal digits) (Some (Some digits)) None)) (not_dash n digits long (eqb-true (length digits) n parts.0))
    ∙ ap (λ b. cond b (Some (Some digits)) None) h

record IsRead (n : ℕ) (text : List ℕ) (o : Option (List ℕ)) : Type 0 where
  spelled : text ≡ digest_text o
  is : is_digest n o ≡ true

digest_found : (n : ℕ) (text : List ℕ) (o : Option (List ℕ)) → read_digest n text ≡ Some o → IsRead n text o
digest_found n text o e = one (bytes_eq text (codes "-")) refl e
  where
    two : (b : Bool) → (length text == n && list_all is_lower_hexadecimal text) ≡ b → cond b (Some (Some text)) None ≡ Some o → IsRead n text o
    two false t h = absurd cc
    two true t h =
        let same : Some text ≡ o = same_Some _ _ h in
        subst (λ (x : Option (List ℕ)). IsRead n text x) same (record { spelled = refl; is = t })

    one : (b : Bool) → bytes_eq text (codes "-") ≡ b → cond b (Some None) (cond (length text == n && list_all is_lower_hexadecimal text) (Some (Some text)) None) ≡ Some o → IsRead n text o
    one true t h =
        let same : None ≡ o = same_Some _ _ h in
        subst (λ (x : Option (List ℕ)). IsRead n text x) same (record { spelled = (bytes_eq-Decides text (codes "-")).0 t; is = refl })
    one false t h = two (length text == n && list_all is_lower_hexadecimal text) refl h

record AreSecrets (md5 sha256 : List ℕ) (secrets : Secrets) : Type 0 where
  md5_read : IsRead 32 md5 secrets.md5
  sha256_read : IsRead 64 sha256 secrets.sha256

secrets_found : (md5 sha256 : List ℕ) (secrets : Secrets) → read_secrets md5 sha256 ≡ Some secrets → AreSecrets md5 sha256 secrets
secrets_found md5 sha256 secrets e = one (read_digest 32 md5) refl e
  where
    two : (m : Option (List ℕ)) → read_digest 32 md5 ≡ Some m → (o : Option (Option (List ℕ))) → read_digest 64 sha256 ≡ o → option_map (secrets_of m) o ≡ Some secrets → AreSecrets md5 sha256 secrets
    two m at None other h = absurd cc
    two m at (Some s) other h =
        let same : secrets_of m s ≡ secrets = same_Some _ _ h in
        subst (λ (x : Secrets). AreSecrets md5 sha256 x) same (record { md5_read = digest_found 32 md5 m at; sha256_read = digest_found 64 sha256 s other })

    one : (o : Option (Option (List ℕ))) → read_digest 32 md5 ≡ o → option_and_then (λ m. option_map (secrets_of m) (read_digest 64 sha256)) o ≡ Some secrets → AreSecrets md5 sha256 secrets
    one None at h = absurd cc
    one (Some m) at h = two m at (read_digest 64 sha256) refl h

-- ---- users

pub record FoundUser (algorithms : Algorithms) (text : List ℕ) (user : User) : Type 0 where
  pub spelled : text ≡ user_text user
  pub is : IsUser algorithms user

user_found : (algorithms : Algorithms) (text : List ℕ) (user : User) → read_user algorithms text ≡ Some user → FoundUser algorithms text user
user_found algorithms text user e = of_cut (cut (is 32) text) (cut_joins 32 text) e
  where
    made : (name md5 sha256 : List ℕ) → text ≡ name ++ 32 ∷ (md5 ++ 32 ∷ sha256) → is_name name ≡ true → (secrets : Secrets) → AreSecrets md5 sha256 secrets → (b : Bool) → has_needed algorithms secrets ≡ b
        → cond b (Some (record { name = name; secrets = secrets })) None ≡ Some user → FoundUser algorithms text user
    made name md5 sha256 join named secrets s false needed h = absurd cc
    made name md5 sha256 join named secrets s true needed h =
        let same : record { name = name; secrets = secrets } ≡ user = same_Some _ _ h in
        subst (λ (x : User). FoundUser algorithms text x) same
        (record {
          spelled = join ∙ ap (λ (m : List ℕ). name ++ 32 ∷ (m ++ 32 ∷ sha256)) s.md5_read.spelled ∙ ap (λ (d : List ℕ). name ++ 32 ∷ (digest_text secrets.md5 ++ 32 ∷ d)) s.sha256_read.spelled;
          is = record { name = named; md5 = s.md5_read.is; sha256 = s.sha256_read.is; needed = needed };
        })

    with_secrets : (name md5 sha256 : List ℕ) → text ≡ name ++ 32 ∷ (md5 ++ 32 ∷ sha256) → is_name name ≡ true → (o : Option Secrets) → read_secrets md5 sha256 ≡ o
        → option_and_then (user_if algorithms name) o ≡ Some user → FoundUser algorithms text user
    with_secrets name md5 sha256 join named None at h = absurd cc
    with_secrets name md5 sha256 join named (Some secrets) at h = made name md5 sha256 join named secrets (secrets_found md5 sha256 secrets at) (has_needed algorithms secrets) refl h

    with_digests : (name digests : List ℕ) → text ≡ name ++ 32 ∷ digests → is_name name ≡ true → (c : Cut) → digests ≡ c.0 ++ behind 32 c.1 → digests_cut algorithms name c ≡ Some user → FoundUser algorithms text user
    with_digests name digests join named (md5, None) whole h = absurd cc
    with_digests name digests join named (md5, Some sha256) whole h =
        with_secrets name md5 sha256 (join ∙ ap (λ (d : List ℕ). name ++ 32 ∷ d) whole) named (read_secrets md5 sha256) refl h

    with_name : (name digests : List ℕ) → text ≡ name ++ 32 ∷ digests → (b : Bool) → is_name name ≡ b → cond b (digests_cut algorithms name (cut (is 32) digests)) None ≡ Some user → FoundUser algorithms text user
    with_name name digests join false named h = absurd cc
    with_name name digests join true named h = with_digests name digests join named (cut (is 32) digests) (cut_joins 32 digests) h

    of_cut : (c : Cut) → text ≡ c.0 ++ behind 32 c.1 → user_cut algorithms c ≡ Some user → FoundUser algorithms text user
    of_cut (name, None) join h = absurd cc
    of_cut (name, Some digests) join h = with_name name digests join (is_name name) refl h

user_again : (algorithms : Algorithms) (user : User) → IsUser algorithms user → read_user algorithms (user_text user) ≡ Some user
user_again algorithms user h =
    let md5 = digest_text user.secrets.md5 in
    let sha256 = digest_text user.secrets.sha256 in
    let name : Lacks 32 user.name = Lacks-pass is_name_byte 32 user.name refl (name_bytes user.name h.name) in
    let first : Lacks 32 md5 = digest_lacks 32 32 user.secrets.md5 refl (eqb-false 45 32 refl) h.md5 in
    let read : read_secrets md5 sha256 ≡ Some user.secrets =
    ap (λ (o : Option (Option (List ℕ))). option_and_then (λ m. option_map (secrets_of m) (read_digest 64 sha256)) o) (digest_again 32 user.secrets.md5 (lit< tt) h.md5)
    ∙ ap (λ (o : Option (Option (List ℕ))). option_map (secrets_of user.secrets.md5) o) (digest_again 64 user.secrets.sha256 (lit< tt) h.sha256) in
    ap (user_cut algorithms) (cut_again 32 user.name (Some (md5 ++ 32 ∷ sha256)) name)
    ∙ ap (λ b. cond b (digests_cut algorithms user.name (cut (is 32) (md5 ++ 32 ∷ sha256))) None) h.name
    ∙ ap (digests_cut algorithms user.name) (cut_again 32 md5 (Some sha256) first)
    ∙ ap (option_and_then (user_if algorithms user.name)) read
    ∙ ap (λ b. cond b (Some user) None) h.needed

-- ---- lines

pub line_found : (algorithms : Algorithms) (text : List ℕ) (line : Line) → read_line algorithms text ≡ Some line → (text ≡ line_text line) × IsLine algorithms line
line_found algorithms text line e = one (is_comment text) refl e
  where
    two : (o : Option User) → read_user algorithms text ≡ o → option_map UserLine o ≡ Some line → (text ≡ line_text line) × IsLine algorithms line
    two None at h = absurd cc
    two (Some user) at h =
        let same : UserLine user ≡ line = same_Some _ _ h in
        let f = user_found algorithms text user at in
        subst (λ (x : Line). (text ≡ line_text x) × IsLine algorithms x) same (f.spelled, f.is)

    one : (b : Bool) → is_comment text ≡ b → cond b (Some (Comment text)) (option_map UserLine (read_user algorithms text)) ≡ Some line → (text ≡ line_text line) × IsLine algorithms line
    one true t h =
        let same : Comment text ≡ line = same_Some _ _ h in
        subst (λ (x : Line). (text ≡ line_text x) × IsLine algorithms x) same (refl, t)
    one false t h = two (read_user algorithms text) refl h

pub line_read : (algorithms : Algorithms) (line : Line) → IsLine algorithms line → read_line algorithms (line_text line) ≡ Some line
line_read algorithms (Comment text) h = ap (λ b. cond b (Some (Comment text)) (option_map UserLine (read_user algorithms text))) h
line_read algorithms (UserLine user) h =
    ap (λ b. cond b (Some (Comment (user_text user))) (option_map UserLine (read_user algorithms (user_text user)))) (named_is_none user.name (32 ∷ (digest_text user.secrets.md5 ++ 32 ∷ digest_text user.secrets.sha256)) h.name)
    ∙ ap (λ (o : Option User). option_map UserLine o) (user_again algorithms user h)
