-- A Via value by its front and its parameters, and where it is cut.
use Rattle.sip_via.proofs.Common.{◌≡◌, ℕ, ◌≤◌, true, List, [], ◌∷◌, ◌++◌, length, Option, Some, None, refl, sym, ap, ◌∙◌, append_assoc, arith, IfSome, codes, flat_map, list_all, and_parts, Quotes, Plain, is_token, Lacks, cut_outside, cut_outside_again}
use Rattle.sip_via.proofs.Common.{IsHost, IsPort, AreViaGaps, IsSpace, ViaGaps, param_text, spaced, spelling, ViaText, are_parts, is_via, parts_of, via_of, ◌+◌, behind, length-append, params_of, take, pieces_from_join, common_steps}
use Rattle.sip_via.specs.ViaParts.{is_trimmed}
use Rattle.sip_via.proofs.laws.ViaFound.{via_found}
use Rattle.sip_via.proofs.laws.ViaOnly.{all_joined, unsplit_all, class_unsplit, neither, on_some, semicolon, sip_lacks, space_unsplit, with_params}

-- ---- the parameters

abbrev pub spelled : List (List ℕ) → List ℕ
spelled params = flat_map param_text params

-- ---- what stands before them

abbrev pub sender : ViaGaps → ViaText → List ℕ → List ℕ
sender g via tail = g.before_host ++ (via.host ++ tail)

abbrev pub behind_name : ViaGaps → ViaText → List ℕ → List ℕ
behind_name g via tail = spaced 47 g.before_version.0 g.before_version.1 (codes "2.0" ++ spaced 47 g.before_transport.0 g.before_transport.1 (via.transport ++ sender g via tail))

abbrev body : ViaGaps → ViaText → List ℕ → List ℕ
body g via tail = g.name ++ behind_name g via tail

abbrev pub port_spelling : List ℕ × List ℕ → Option (List ℕ) → List ℕ
port_spelling gaps None = []
port_spelling gaps (Some port) = spaced 58 gaps.0 gaps.1 port

-- all but the parameters and the space before them
abbrev pub core : ViaGaps → ViaText → List ℕ
core g via = body g via (port_spelling g.before_port via.port)

pub spelling-split : (g : ViaGaps) (via : ViaText) (params : List (List ℕ)) → spelling g (with_params via params) ≡ core g via ++ (g.before_params ++ spelled params)
spelling-split g via params = grind (arith, common_steps)

pub record IsFront (g : ViaGaps) (via : ViaText) : Type 0 where
  pub spaces : AreViaGaps g
  pub transport : is_token via.transport ≡ true
  pub host : IsHost via.host
  pub port : IfSome via.port IsPort

lacks-unsplit : (bs : List ℕ) → Lacks 59 bs → Lacks 44 bs → Lacks 34 bs → list_all neither bs ≡ true
lacks-unsplit [] h k l = refl
lacks-unsplit (b ∷ bs) h k l = grind (arith, lacks-unsplit bs h.1 k.1 l.1)

port-unsplit : (gaps : List ℕ × List ℕ) (port : Option (List ℕ)) → IsSpace gaps.0 × IsSpace gaps.1 → IfSome port IsPort → list_all neither (port_spelling gaps port) ≡ true
port-unsplit gaps port spaces h = grind (arith, common_steps, class_unsplit)

pub core-unsplit : (g : ViaGaps) (via : ViaText) → IsFront g via → list_all neither (core g via) ≡ true
core-unsplit g via f = grind (arith, common_steps, lacks-unsplit, sip_lacks, port-unsplit, class_unsplit)

-- ---- a value is cut at its parameters

params_join : (text : Option (List ℕ)) → flat_map param_text (params_of text) ≡ behind 59 text
params_join None = refl
params_join (Some bs) = pieces_from_join Quotes 59 Plain bs

-- the first `;` outside quotes stands before the parameters
pub record CutsAtParams (value : List ℕ) : Type 0 where
  pub within : length (behind 59 (parts_of value).params) ≤ length value
  pub cuts : (n : ℕ) → n + length (behind 59 (parts_of value).params) ≡ length value → cut_outside Quotes 59 Plain value ≡ (take n value, (parts_of value).params)

cuts-at : (value front : List ℕ) (params : Option (List ℕ)) → value ≡ front ++ behind 59 params → cut_outside Quotes 59 Plain value ≡ (front, params) → (n : ℕ) → n + length (behind 59 params) ≡ length value → cut_outside Quotes 59 Plain value ≡ (take n value, params)
cuts-at value front params joins cuts n e = grind (arith, common_steps)

pub cuts-at-params : (value : List ℕ) → is_via value ≡ true → CutsAtParams value
cuts-at-params value h =
    let both = and_parts (is_trimmed value) (are_parts (parts_of value)) h in
    let via = via_of value in
    let params = (parts_of value).params in
    let found = via_found value both.0 both.1 in
    let g = found.gaps in
    let f : IsFront g via = record { spaces = found.spaces; transport = found.transport; host = found.host; port = found.port } in
    let front = core g via ++ g.before_params in
    let joins : value ≡ front ++ behind 59 params = found.spelled ∙ spelling-split g via via.params ∙ sym (append_assoc (core g via) g.before_params (spelled via.params)) ∙ ap (λ (x : List ℕ). front ++ x) (params_join params) in
    let unsplit = unsplit_all 59 semicolon front (all_joined neither (core g via) g.before_params (core-unsplit g via f) (space_unsplit g.before_params found.spaces.before_params)) in
    let cuts : cut_outside Quotes 59 Plain value ≡ (front, params) = ap (cut_outside Quotes 59 Plain) joins ∙ cut_outside_again Quotes 59 Plain front params unsplit.lacks (on_some params _ unsplit.ends) in
    let long : length value ≡ length front + length (behind 59 params) = ap (λ (x : List ℕ). length x) joins ∙ length-append front (behind 59 params) in
    record {
      within = omega (arith, long);
      cuts = cuts-at value front params joins cuts;
    }
