-- A line is read exactly where it is the spelling of a line: what is read is spelled so.
use Rattle.proxy_config.proofs.Common.{◌≡◌, ℕ, ◌≤◌, Bool, true, false, cond, List, [], ◌∷◌, ◌++◌, length, Option, Some, None, refl, ap, sym, subst, ◌∙◌, arith, codes, option_map, AllByRecursion, decimal, bytes_eq-Decides, cond_some}
use Rattle.proxy_config.proofs.Common.{same_Some, is, most_targets, most_q, number_before, found_map, found_then, preferred_found, is_host, address_text, Own, Line, OwnLine, InstanceLine, DomainLine, PreferLine, DepthLine, own_text}
use Rattle.proxy_config.proofs.Common.{line_text, IsOwn, is_user, most_port, most_instance, IsLine, octet_cut, octet_before, fourth, third, second, read_octets, own_at, own_cut, read_own, location_of, location_cut, read_location, read_line}
use Rattle.sip_lex.specs.Cut.{cut, behind}
use Rattle.sip_lex.specs.Number.{plain_number_within}
use Rattle.sip_lex.proofs.laws.Cuts.{cut_joins}
use Rattle.sip_lex.proofs.laws.Numbers.{number_spelled}
use Rattle.fork_rank.specs.Field.{number_from}
use Rattle.fork_rank.specs.PreferredText.{read_preferred}
use Rattle.fork_rank.proofs.laws.Field.{number_before_found, number_from_found}
use Rattle.std.specs.Prelude.{bytes_eq}
use Rattle.sip_uri.specs.declared.hop.Transport.TheVariants.{Udp}
use Rattle.proxy_config.specs.Line.{no_host}
use Rattle.proxy_config.specs.declared.line.SetupWord.{SetupWord}
use Rattle.proxy_config.specs.declared.line.SetupWord.TheVariants as word
use Rattle.proxy_config.specs.LineReading.{read_host, word_of, read_rest, read_cut}

abbrev word_text : SetupWord → List ℕ
word_text word.Own = codes "own"
word_text word.Instance = codes "instance"
word_text word.Domain = codes "domain"
word_text word.Prefer = codes "prefer"
word_text word.Depth = codes "depth"
word_text word.Location = codes "location"

word_step : (b : Bool) (text : List ℕ) (w v : SetupWord) (r : Option SetupWord) → (b ≡ true → text ≡ word_text w) → (r ≡ Some v → text ≡ word_text v) → cond b (Some w) r ≡ Some v → text ≡ word_text v
word_step true text w v r same others e = same refl ∙ ap word_text (same_Some _ _ e)
word_step false text w v r same others e = others e

word_found : (text : List ℕ) (v : SetupWord) → word_of text ≡ Some v → text ≡ word_text v
word_found text v =
    word_step _ text word.Own v _ (bytes_eq-Decides text (codes "own")).0
    (word_step _ text word.Instance v _ (bytes_eq-Decides text (codes "instance")).0
    (word_step _ text word.Domain v _ (bytes_eq-Decides text (codes "domain")).0
    (word_step _ text word.Prefer v _ (bytes_eq-Decides text (codes "prefer")).0
    (word_step _ text word.Depth v _ (bytes_eq-Decides text (codes "depth")).0
    (word_step _ text word.Location v _ (bytes_eq-Decides text (codes "location")).0
    (λ e. absurd cc))))))

-- ---- the own address

octet_found : (text : List ℕ) (p : ℕ × List ℕ) → octet_before text ≡ Some p → (text ≡ decimal p.0 ++ 46 ∷ p.1) × (p.0 ≤ 255)
octet_found text p e = parts (cut (is 46) text) (cut_joins 46 text) e
  where
    parts : (c : List ℕ × Option (List ℕ)) → text ≡ c.0 ++ behind 46 c.1 → octet_cut c ≡ Some p → (text ≡ decimal p.0 ++ 46 ∷ p.1) × (p.0 ≤ 255)
    parts (digits, None) whole e = absurd cc
    parts (digits, Some rest) whole e =
        let P : ℕ × List ℕ → Type 0 = λ q. (text ≡ decimal q.0 ++ 46 ∷ q.1) × (q.0 ≤ 255) in
        found_map (λ n. (n, rest)) (plain_number_within 255 digits) p P
        (λ n at. let h = number_spelled 255 digits n (omega arith) at in (whole ∙ ap (λ (ds : List ℕ). ds ++ 46 ∷ rest) h.spelled, h.within))
        e

pub record IsAddressOf (text addr : List ℕ) : Type 0 where
  pub spelled : text ≡ address_text addr
  pub four : length addr ≡ 4
  pub bytes : AllByRecursion (λ byte. byte ≤ 255) addr

pub octets_found : (text addr : List ℕ) → read_octets text ≡ Some addr → IsAddressOf text addr
octets_found text addr e =
    found_then second (octet_before text) addr (IsAddressOf text addr)
    (λ p at1 is1. found_then (third p.0) (octet_before p.1) addr (IsAddressOf text addr)
    (λ q at2 is2. found_then (fourth p.0 q.0) (octet_before q.1) addr (IsAddressOf text addr)
    (λ r at3 is3. found_map (λ d. p.0 ∷ q.0 ∷ r.0 ∷ d ∷ []) (plain_number_within 255 r.1) addr (IsAddressOf text)
    (λ d at4.
    let a = octet_found text p at1 in
    let b = octet_found p.1 q at2 in
    let c = octet_found q.1 r at3 in
    let h = number_spelled 255 r.1 d (omega arith) at4 in
    record {
      spelled = a.0
          ∙ ap (λ (t : List ℕ). decimal p.0 ++ 46 ∷ t) b.0
          ∙ ap (λ (t : List ℕ). decimal p.0 ++ 46 ∷ (decimal q.0 ++ 46 ∷ t)) c.0
          ∙ ap (λ (t : List ℕ). decimal p.0 ++ 46 ∷ (decimal q.0 ++ 46 ∷ (decimal r.0 ++ 46 ∷ t))) h.spelled;
      four = refl;
      bytes = (a.1, (b.1, (c.1, (h.within, tt))));
    }) is3) is2) is1)
    e

cond_else : (b : Bool) (r : Option Own) (own : Own) → cond b None r ≡ Some own → (b ≡ false) × (r ≡ Some own)
cond_else true r own e = absurd cc
cond_else false r own e = (refl, e)

own_found : (text : List ℕ) (own : Own) → read_own text ≡ Some own → (text ≡ own_text own) × IsOwn own
own_found text own e = parts (cut (is 32) text) (cut_joins 32 text) e
  where
    parts : (c : List ℕ × Option (List ℕ)) → text ≡ c.0 ++ behind 32 c.1 → own_cut c ≡ Some own → (text ≡ own_text own) × IsOwn own
    parts (front, None) whole e = absurd cc
    parts (front, Some digits) whole e =
        let P : Own → Type 0 = λ o. (text ≡ own_text o) × IsOwn o in
        found_then (own_at digits) (read_octets front) own (P own)
        (λ addr at is.
        let g = cond_else (bytes_eq addr no_host) (option_map (λ port. record { addr = addr; port = port; transport = Udp }) (number_from 1 most_port digits)) own is in
        found_map (λ port. record { addr = addr; port = port; transport = Udp }) (number_from 1 most_port digits) own P
        (λ port of_.
        let a = octets_found front addr at in
        let n = number_from_found 1 most_port digits port (omega arith) of_ in (
          whole ∙ ap (λ (t : List ℕ). t ++ 32 ∷ digits) a.spelled ∙ ap (λ (t : List ℕ). address_text addr ++ 32 ∷ t) n.0,
          record { four = a.four; bytes = a.bytes; host = g.0; port = n.1; port_within = n.2; transport = refl },
        )) g.1)
        e

-- ---- the others

abbrev Found : List ℕ → Line → Type 0
Found text line = (text ≡ line_text line) × IsLine line

host_found : (text host : List ℕ) → read_host text ≡ Some host → Found (codes "domain " ++ text) (DomainLine host)
host_found text host e =
    let g = cond_some (is_host text) text host e in
    let P : List ℕ → Type 0 = λ h. Found (codes "domain " ++ text) (DomainLine h) in
    subst P g.1 (refl, g.0)

cond_then : (b : Bool) (r : Option Line) (line : Line) → cond b r None ≡ Some line → (b ≡ true) × (r ≡ Some line)
cond_then true r line e = (refl, e)
cond_then false r line e = absurd cc

location_found : (text : List ℕ) (line : Line) → read_location text ≡ Some line → Found (codes "location " ++ text) line
location_found text line e = parts (cut (is 32) text) (cut_joins 32 text) e
  where
    parts : (c : List ℕ × Option (List ℕ)) → text ≡ c.0 ++ behind 32 c.1 → location_cut c ≡ Some line → Found (codes "location " ++ text) line
    parts (user, None) whole e = absurd cc
    parts (user, Some rest) whole e =
        let g = cond_then (is_user user) (option_map (location_of user) (number_before most_q rest)) line e in
        found_map (location_of user) (number_before most_q rest) line (Found (codes "location " ++ text))
        (λ p at.
        let h = number_before_found most_q rest p (omega arith) at in
        (ap (λ (t : List ℕ). codes "location " ++ t) (whole ∙ ap (λ (t : List ℕ). user ++ 32 ∷ t) h.0), (g.0, h.1)))
        g.1

-- behind a word and its space
rest_found : (w : SetupWord) (rest : List ℕ) (line : Line) → read_rest w rest ≡ Some line → Found (word_text w ++ 32 ∷ rest) line
rest_found word.Own rest line e =
    found_map OwnLine (read_own rest) line (Found (codes "own" ++ 32 ∷ rest))
    (λ own at. let h = own_found rest own at in (ap (λ (text : List ℕ). codes "own " ++ text) h.0, h.1)) e
rest_found word.Instance rest line e =
    found_map InstanceLine (plain_number_within most_instance rest) line (Found (codes "instance" ++ 32 ∷ rest))
    (λ n at. let h = number_spelled most_instance rest n (omega arith) at in (ap (λ (text : List ℕ). codes "instance " ++ text) h.spelled, h.within)) e
rest_found word.Domain rest line e =
    found_map DomainLine (read_host rest) line (Found (codes "domain" ++ 32 ∷ rest)) (λ host at. host_found rest host at) e
rest_found word.Prefer rest line e =
    found_map PreferLine (read_preferred rest) line (Found (codes "prefer" ++ 32 ∷ rest))
    (λ statuses at. let h = preferred_found rest statuses at in (ap (λ (text : List ℕ). codes "prefer " ++ text) h.0, h.1)) e
rest_found word.Depth rest line e =
    found_map DepthLine (plain_number_within most_targets rest) line (Found (codes "depth" ++ 32 ∷ rest))
    (λ n at. let h = number_spelled most_targets rest n (omega arith) at in (ap (λ (text : List ℕ). codes "depth " ++ text) h.spelled, h.within)) e
rest_found word.Location rest line e = location_found rest line e

-- what is read is the spelling of a line
pub line_found : (text : List ℕ) (line : Line) → read_line text ≡ Some line → (text ≡ line_text line) × IsLine line
line_found text line e = parts (cut (is 32) text) (cut_joins 32 text) e
  where
    parts : (c : List ℕ × Option (List ℕ)) → text ≡ c.0 ++ behind 32 c.1 → read_cut c ≡ Some line → Found text line
    parts (front, None) whole e = absurd cc
    parts (front, Some rest) whole e =
        found_then (λ w. read_rest w rest) (word_of front) line (Found text line)
        (λ w at is.
        let h = rest_found w rest line is in
        (whole ∙ ap (λ (word : List ℕ). word ++ 32 ∷ rest) (word_found front w at) ∙ h.0, h.1))
        e

-- what was read is a line
pub read_is_line : (text : List ℕ) (line : Line) → Some line ≡ read_line text → IsLine line
read_is_line text line e = (line_found text line (sym e)).1
