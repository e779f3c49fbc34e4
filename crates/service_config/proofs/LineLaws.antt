-- A line is read exactly where it is the spelling of a line: what is read is spelled so.
use Rattle.service_config.proofs.Common.{◌≡◌, ℕ, ◌≤◌, Bool, true, false, cond, List, [], ◌∷◌, ◌++◌, Option, Some, None, refl, ap, sym, subst, ◌∙◌, arith, codes, option_map, option_and_then, bytes_eq, bytes_eq-Decides, cond_some, same_Some, eqb-true, list_all, decimal}
use Rattle.service_config.proofs.Common.{Lacks, Lacks-pass, behind, cut, is, cut_joins, cut_lacks, number_spelled, plain_number_within, most_q, number_before, number_from, found_map, found_one, found_then, number_before_found, number_from_found, is_no_lf, ◌==◌, ◌%◌}
use Rattle.service_config.proofs.Common.{Algorithms, algorithms_named, AreExpirations, Expirations, CommentLine, GatewayLine, HasParts, IsLine, IsNet, Line, LocationLine, Net, RealmLine, RingLine, SetupLine, LargeLine, StrangersLine, TrustLine, ExpiresLine}
use Rattle.service_config.proofs.Common.{address_number, algorithms_text, are_expirations, block, expirations_text, is_realm, line_text, most_expiration, most_ring, net_text, says_nothing}
use Rattle.sip_digest.specs.declared.algorithm.Algorithms.TheVariants as algorithms
use Rattle.sip_via.specs.Address.{address_text}
use Rattle.proxy_config.proofs.laws.Lines as setup_laws
use Rattle.proxy_config.specs.Line as setup
use Rattle.proxy_config.specs.LineReading as setup_line
use Rattle.service_config.specs.declared.line.SettingsWord.{SettingsWord}
use Rattle.service_config.specs.declared.line.SettingsWord.TheVariants as word
use Rattle.service_config.specs.inner.LineReading.{expirations_if, gateway_of, location_cut, net_at, net_cut, net_if, of_setup, read_cut, read_expirations, read_line, read_net, read_plain, read_worded, realm_cut, second_expiration, third_expiration, word_of}

abbrev Found : List ℕ → Line → Type 0
Found text line = (text ≡ line_text line) × HasParts line

cond_then : {X : Type 0} (b : Bool) (r : Option X) (x : X) → cond b r None ≡ Some x → (b ≡ true) × (r ≡ Some x)
cond_then true r x e = (refl, e)
cond_then false r x e = absurd cc

-- ---- realm

algorithms_found : (names : List ℕ) (them : Algorithms) → algorithms_named names ≡ Some them → names ≡ algorithms_text them
algorithms_found names them =
    let P : Algorithms → Type 0 = λ a. names ≡ algorithms_text a in
    found_one (bytes_eq names (codes "MD5")) algorithms.Md5 them _ P (bytes_eq-Decides names (codes "MD5")).0
    (found_one (bytes_eq names (codes "SHA-256")) algorithms.Sha256 them _ P (bytes_eq-Decides names (codes "SHA-256")).0
    (found_one (bytes_eq names (codes "SHA-256,MD5")) algorithms.Sha256AndMd5 them _ P (bytes_eq-Decides names (codes "SHA-256,MD5")).0
    (found_one (bytes_eq names (codes "MD5,SHA-256")) algorithms.Md5AndSha256 them _ P (bytes_eq-Decides names (codes "MD5,SHA-256")).0
    (λ e. absurd cc))))

realm_found : (rest : List ℕ) (line : Line) → realm_cut (cut (is 32) rest) ≡ Some line → Found (codes "realm " ++ rest) line
realm_found rest line e = parts (cut (is 32) rest) (cut_joins 32 rest) e
  where
    parts : (c : List ℕ × Option (List ℕ)) → rest ≡ c.0 ++ behind 32 c.1 → realm_cut c ≡ Some line → Found (codes "realm " ++ rest) line
    parts (realm, None) whole e =
        let g = cond_some (is_realm realm) (RealmLine realm None) line e in
        subst (λ (l : Line). Found (codes "realm " ++ rest) l) g.1 (ap (λ (t : List ℕ). codes "realm " ++ t) whole, g.0)
    parts (realm, Some names) whole e =
        let g = cond_then (is_realm realm) (option_map (λ them. RealmLine realm (Some them)) (algorithms_named names)) line e in
        found_map (λ them. RealmLine realm (Some them)) (algorithms_named names) line (λ l. Found (codes "realm " ++ rest) l)
        (λ them at. (ap (λ (t : List ℕ). codes "realm " ++ t) (whole ∙ ap (λ (t : List ℕ). realm ++ 32 ∷ t) (algorithms_found names them at)), g.0))
        g.1

-- ---- expires

abbrev IsExpirationsOf : List ℕ → Expirations → Type 0
IsExpirationsOf text times = (text ≡ expirations_text times) × AreExpirations times

expirations_found : (text : List ℕ) (times : Expirations) → read_expirations text ≡ Some times → IsExpirationsOf text times
expirations_found text times e =
    found_then second_expiration (number_before most_expiration text) times (IsExpirationsOf text times)
    (λ p at1 is1. found_then (third_expiration p.0) (number_before most_expiration p.1) times (IsExpirationsOf text times)
    (λ q at2 is2. found_then (expirations_if p.0 q.0) (plain_number_within most_expiration q.1) times (IsExpirationsOf text times)
    (λ n at3 is3.
    let a = number_before_found most_expiration text p (omega arith) at1 in
    let b = number_before_found most_expiration p.1 q (omega arith) at2 in
    let c = number_spelled most_expiration q.1 n (omega arith) at3 in
    let made : Expirations = record { least = p.0; usual = q.0; most = n } in
    let g = cond_some (are_expirations p.0 q.0 n) made times is3 in
    subst (λ (t : Expirations). IsExpirationsOf text t) g.1 (
      a.0
          ∙ ap (λ (t : List ℕ). decimal p.0 ++ 32 ∷ t) b.0
          ∙ ap (λ (t : List ℕ). decimal p.0 ++ 32 ∷ (decimal q.0 ++ 32 ∷ t)) c.spelled,
      record { rising = g.0; within = c.within },
    )) is2) is1)
    e

-- ---- trust

abbrev IsNetOf : List ℕ → Net → Type 0
IsNetOf text net = (text ≡ net_text net) × IsNet net

net_found : (text : List ℕ) (net : Net) → read_net text ≡ Some net → IsNetOf text net
net_found text net e = parts (cut (is 47) text) (cut_joins 47 text) e
  where
    parts : (c : List ℕ × Option (List ℕ)) → text ≡ c.0 ++ behind 47 c.1 → net_cut c ≡ Some net → IsNetOf text net
    parts (front, None) whole e = absurd cc
    parts (front, Some digits) whole e =
        found_then (net_at digits) (setup_line.read_octets front) net (IsNetOf text net)
        (λ addr at is. found_then (net_if addr) (plain_number_within 32 digits) net (IsNetOf text net)
        (λ bits of_ made.
        let a = setup_laws.octets_found front addr at in
        let n = number_spelled 32 digits bits (omega arith) of_ in
        let one : Net = record { addr = addr; bits = bits } in
        let g = cond_some (address_number addr % block bits == 0) one net made in
        subst (λ (x : Net). IsNetOf text x) g.1 (
          whole ∙ ap (λ (t : List ℕ). t ++ 47 ∷ digits) a.spelled ∙ ap (λ (t : List ℕ). address_text addr ++ 47 ∷ t) n.spelled,
          record { four = a.four; bytes = a.bytes; bits = n.within; plain = eqb-true (address_number addr % block bits) 0 g.0 },
        )) is)
        e

-- ---- those of a setup

setup_found : (text : List ℕ) (s : setup.Line) (line : Line) → text ≡ setup.line_text s → setup.IsLine s → of_setup s ≡ Some line → Found text line
setup_found text (setup.OwnLine own) line spelled h e = subst (λ (l : Line). Found text l) (same_Some _ _ e) (spelled, (h, refl))
setup_found text (setup.InstanceLine n) line spelled h e = subst (λ (l : Line). Found text l) (same_Some _ _ e) (spelled, (h, refl))
setup_found text (setup.DomainLine host) line spelled h e = subst (λ (l : Line). Found text l) (same_Some _ _ e) (spelled, (h, refl))
setup_found text (setup.PreferLine statuses) line spelled h e = subst (λ (l : Line). Found text l) (same_Some _ _ e) (spelled, (h, refl))
setup_found text (setup.DepthLine depth) line spelled h e = subst (λ (l : Line). Found text l) (same_Some _ _ e) (spelled, (h, refl))
setup_found text (setup.LocationLine user q rest) line spelled h e = parts (cut (is 32) rest) (cut_joins 32 rest) (cut_lacks 32 rest) e
  where
    parts : (c : List ℕ × Option (List ℕ)) → rest ≡ c.0 ++ behind 32 c.1 → Lacks 32 c.0 → location_cut user q c ≡ Some line → Found text line
    parts (uri, None) whole lacks e =
        subst (λ (l : Line). Found text l) (same_Some _ _ e)
        (spelled ∙ ap (λ (t : List ℕ). setup.line_text (setup.LocationLine user q t)) whole, record { user_is = h.0; q_within = h.1; word = lacks; ring = tt })
    parts (uri, Some digits) whole lacks e =
        found_map (λ seconds. LocationLine user q uri (Some seconds)) (number_from 1 most_ring digits) line (λ l. Found text l)
        (λ seconds at.
        let f = number_from_found 1 most_ring digits seconds (omega arith) at in (
          spelled ∙ ap (λ (t : List ℕ). setup.line_text (setup.LocationLine user q t)) (whole ∙ ap (λ (t : List ℕ). uri ++ 32 ∷ t) f.0),
          record { user_is = h.0; q_within = h.1; word = lacks; ring = (f.1, f.2) },
        ))
        e

-- ---- by its word

abbrev IsWord : SettingsWord → List ℕ → Type 0
IsWord word.Ring text = text ≡ codes "ring"
IsWord word.Realm text = text ≡ codes "realm"
IsWord word.Expires text = text ≡ codes "expires"
IsWord word.Trust text = text ≡ codes "trust"
IsWord word.Gateway text = text ≡ codes "gateway"
IsWord word.OfSetup text = Unit {0}

word_step : (text : List ℕ) (b : Bool) (w r : SettingsWord) → (b ≡ true → IsWord w text) → IsWord r text → IsWord (cond b w r) text
word_step text true w r same others = same refl
word_step text false w r same others = others

word_found : (text : List ℕ) → IsWord (word_of text) text
word_found text =
    word_step text _ word.Ring _ (bytes_eq-Decides text (codes "ring")).0
    (word_step text _ word.Realm _ (bytes_eq-Decides text (codes "realm")).0
    (word_step text _ word.Expires _ (bytes_eq-Decides text (codes "expires")).0
    (word_step text _ word.Trust _ (bytes_eq-Decides text (codes "trust")).0
    (word_step text _ word.Gateway _ (bytes_eq-Decides text (codes "gateway")).0
    tt))))

abbrev at_front : List ℕ → List ℕ → List ℕ
at_front rest word = word ++ 32 ∷ rest

worded_found : (w : SettingsWord) (text front rest : List ℕ) (line : Line) → text ≡ front ++ 32 ∷ rest → IsWord w front → read_worded text rest w ≡ Some line → Found text line
worded_found word.Ring text front rest line whole is e =
    found_map RingLine (number_from 1 most_ring rest) line (λ l. Found text l)
    (λ n at. let f = number_from_found 1 most_ring rest n (omega arith) at in (whole ∙ ap (at_front rest) is ∙ ap (λ (t : List ℕ). codes "ring " ++ t) f.0, (f.1, f.2))) e
worded_found word.Realm text front rest line whole is e =
    let f = realm_found rest line e in
    (whole ∙ ap (at_front rest) is ∙ f.0, f.1)
worded_found word.Expires text front rest line whole is e =
    found_map ExpiresLine (read_expirations rest) line (λ l. Found text l)
    (λ times at. let f = expirations_found rest times at in (whole ∙ ap (at_front rest) is ∙ ap (λ (t : List ℕ). codes "expires " ++ t) f.0, f.1)) e
worded_found word.Trust text front rest line whole is e =
    found_map TrustLine (read_net rest) line (λ l. Found text l)
    (λ net at. let f = net_found rest net at in (whole ∙ ap (at_front rest) is ∙ ap (λ (t : List ℕ). codes "trust " ++ t) f.0, f.1)) e
worded_found word.Gateway text front rest line whole is e =
    found_map gateway_of (number_before most_q rest) line (λ l. Found text l)
    (λ p at. let f = number_before_found most_q rest p (omega arith) at in (whole ∙ ap (at_front rest) is ∙ ap (λ (t : List ℕ). codes "gateway " ++ t) f.0, f.1)) e
worded_found word.OfSetup text front rest line whole is e =
    found_then of_setup (setup_line.read_line text) line (Found text line)
    (λ s at of_. let f = setup_laws.line_found text s at in setup_found text s line f.0 f.1 of_) e

cut_found : (text : List ℕ) (line : Line) → read_cut text (cut (is 32) text) ≡ Some line → Found text line
cut_found text line e = parts (cut (is 32) text) (cut_joins 32 text) e
  where
    parts : (c : List ℕ × Option (List ℕ)) → text ≡ c.0 ++ behind 32 c.1 → read_cut text c ≡ Some line → Found text line
    parts (front, None) whole e = absurd cc
    parts (front, Some rest) whole e = worded_found (word_of front) text front rest line whole (word_found front) e

plain_found : (text : List ℕ) (line : Line) → read_plain text ≡ Some line → Found text line
plain_found text line =
    found_one (says_nothing text) (CommentLine text) line _ (λ l. Found text l) (λ t. (refl, t))
    (found_one (bytes_eq text (codes "strangers")) StrangersLine line _ (λ l. Found text l) (λ t. ((bytes_eq-Decides text (codes "strangers")).0 t, tt))
    (found_one (bytes_eq text (codes "large tcp")) LargeLine line _ (λ l. Found text l) (λ t. ((bytes_eq-Decides text (codes "large tcp")).0 t, tt))
    (cut_found text line)))

-- what is read is the spelling of a line
pub line_found : (text : List ℕ) (line : Line) → read_line text ≡ Some line → (text ≡ line_text line) × IsLine line
line_found text line e =
    let g = cond_then (list_all is_no_lf text) (read_plain text) line e in
    let f = plain_found text line g.1 in
    let lacks : Lacks 10 text = Lacks-pass is_no_lf 10 text refl g.0 in
    (f.0, record { parts = f.1; within = subst (λ (t : List ℕ). Lacks 10 t) f.0 lacks })

-- what was read has the parts of a line
pub read_has_parts : (text : List ℕ) (line : Line) → Some line ≡ read_line text → HasParts line
read_has_parts text line e = (line_found text line (sym e)).1.parts

-- what was cut has the parts of a line
pub cut_has_parts : (user : List ℕ) (q : ℕ) (rest : List ℕ) (line : Line) → setup.is_user user ≡ true → q ≤ most_q → Some line ≡ location_cut user q (cut (is 32) rest) → HasParts line
cut_has_parts user q rest line is within e = (setup_found _ (setup.LocationLine user q rest) line refl (is, within) (sym e)).1
