-- Credentials are read exactly where the grammar has them.
use Rattle.sip_digest.proofs.Common.{◌≡◌, ℕ, Bool, true, false, cond, List, Option, Some, None, refl, sym, ap, ◌∙◌, codes, cond-true, same_Some, option_and_then, bytes_eq-Decides}
use Rattle.sip_digest.proofs.Common.{AuthParam, Credentials, IsOfRealm, credentials_in, credentials_of, first_named, named_in, behind_scheme, is_text, list_of_realm, read_list}
use Rattle.std.proofs.Common.{Result, Ok, Err}
use Rattle.std.specs.Prelude.{IfOk}
use Rattle.sip_digest.specs.declared.reading.ReadCredentials.{ReadCredentials}
use Rattle.sip_digest.specs.declared.reading.ReadCredentials.TheVariants as reading
use Rattle.sip_digest.specs.SeenCredentials.{IsReadingOf, seen_credentials, seen_reading}
use Rattle.sip_digest.specs.inner.Reading.{read_credentials}
use Rattle.sip_digest.proofs.Listed.{is_listed, listed_again}
use Rattle.sip_digest.proofs.Schemes.{scheme_again, scheme_found}

abbrev Params : Type 0
Params = List AuthParam × Bool

-- the parameters of this realm that are there are these
pub record FoundOf (value realm : List ℕ) (c : Option Credentials) : Type 0 where
  pub params : List AuthParam
  pub whole : Bool
  pub is : IsOfRealm value realm params whole
  pub gives : credentials_in params whole ≡ c

-- ---- what is of the realm is read

realm_again : (realm : List ℕ) (o : Option (List ℕ)) → o ≡ Some realm → is_text realm o ≡ true
realm_again realm o e = ap (is_text realm) e ∙ (bytes_eq-Decides realm realm).1 refl

pub of_realm_read : (value realm : List ℕ) (params : List AuthParam) (whole : Bool) → IsOfRealm value realm params whole → read_credentials value realm ≡ Some (credentials_in params whole)
unfolding read_credentials
of_realm_read value realm params whole h =
    let scheme : behind_scheme value ≡ Some h.text = ap behind_scheme h.spelled ∙ scheme_again h.scheme h.space h.text h.digest h.no_space h.is_space_behind in
    ap (option_and_then (λ text. list_of_realm realm (read_list (Some text)))) scheme
    ∙ ap (list_of_realm realm) (listed_again (Some h.text) params whole h.listed)
    ∙ cond-true (is_text realm (first_named (codes "realm") params)) (Some (credentials_in params whole)) None (realm_again realm (first_named (codes "realm") params) h.realm_is)

-- ---- what is read is of the realm

realm_found : (realm : List ℕ) (o : Option (List ℕ)) → is_text realm o ≡ true → o ≡ Some realm
realm_found realm None e = absurd cc
realm_found realm (Some other) e = ap Some ((bytes_eq-Decides other realm).0 e)

read_found : (value realm : List ℕ) (c : Option Credentials) → read_credentials value realm ≡ Some c → FoundOf value realm c
unfolding read_credentials
read_found value realm c e = one (behind_scheme value) refl e
  where
    two : (text : List ℕ) → behind_scheme value ≡ Some text → (b : Bool) → is_text realm (first_named (codes "realm") (read_list (Some text)).0) ≡ b
        → cond b (Some (credentials_in (read_list (Some text)).0 (read_list (Some text)).1)) None ≡ Some c → FoundOf value realm c
    two text at false t h = absurd cc
    two text at true t h =
        let s = scheme_found value text at in
        record {
          params = (read_list (Some text)).0;
          whole = (read_list (Some text)).1;
          is = record {
            scheme = s.scheme;
            space = s.at.space;
            text = text;
            spelled = s.at.whole;
            digest = s.digest;
            no_space = s.at.no_space;
            is_space_behind = s.at.is_space_behind;
            listed = is_listed (Some text);
            realm_is = realm_found realm (first_named (codes "realm") (read_list (Some text)).0) t;
          };
          gives = same_Some _ _ h;
        }

    one : (o : Option (List ℕ)) → behind_scheme value ≡ o → option_and_then (λ text. list_of_realm realm (read_list (Some text))) o ≡ Some c → FoundOf value realm c
    one None at h = absurd cc
    one (Some text) at h = two text at (is_text realm (first_named (codes "realm") (read_list (Some text)).0)) refl h

-- ---- so for what a call gives

none_some : {X : Type 0} (o : Option X) (x : X) → o ≡ None → o ≡ Some x → ⊥
none_some o x e f = absurd cc

whole_read : (value realm : List ℕ) (params : List AuthParam) (whole : Bool) (c : Credentials) → IsOfRealm value realm params whole → credentials_in params whole ≡ Some c
    → (ps : List AuthParam) × IsOfRealm value realm ps true × (credentials_of (named_in ps) ≡ Some c)
whole_read value realm params true c is e = (params, is, e)
whole_read value realm params false c is e = absurd cc

module _ {A : Type 0} where
  reading_of : (value realm : List ℕ) (r : ReadCredentials A) → seen_reading r ≡ read_credentials value realm → IsReadingOf value realm r
  reading_of value realm reading.OtherRealm e = λ params whole is. none_some (read_credentials value realm) (credentials_in params whole) (sym e) (of_realm_read value realm params whole is)
  reading_of value realm reading.Unreadable e = let f = read_found value realm None (sym e) in (f.params, f.whole, f.is, f.gives)
  reading_of value realm (reading.Read c) e =
      let f = read_found value realm (Some (seen_credentials c)) (sym e) in
      whole_read value realm f.params f.whole (seen_credentials c) f.is f.gives

  module _ {E : Type 0} where
    pub gives_found : (value realm : List ℕ) (r : Result (ReadCredentials A) E) → IfOk r (λ reading. seen_reading reading ≡ read_credentials value realm) → IfOk r (IsReadingOf value realm)
    gives_found value realm (Ok r) h = reading_of value realm r h
    gives_found value realm (Err e) h = tt

    pub gives_only : (value realm : List ℕ) (r : Result (ReadCredentials A) E) → IfOk r (λ reading. seen_reading reading ≡ read_credentials value realm)
        → (params : List AuthParam) (whole : Bool) → IsOfRealm value realm params whole → IfOk r (λ reading. seen_reading reading ≡ Some (credentials_in params whole))
    gives_only value realm (Ok r) h params whole is = h ∙ of_realm_read value realm params whole is
    gives_only value realm (Err e) h params whole is = tt
