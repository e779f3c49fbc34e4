use Rattle.sip_build.proofs.Common.{◌<◌, ◌≤◌, ◌∙◌, [], ◌++◌, ◌∷◌, length, map, sym, arith, None, Some, codes, if◌then◌else◌, flat_map, option_copied, same_name, place_of, replaced, exchanged, lines_of, under, texts, view_line, views}
use Rattle.sip_build.proofs.Common.{HeaderText, List, ap, challenge_line, contact_lines, common_steps}
use Rattle.sip_build.proofs.laws.Exchanged.{parted_at, round-later, round-none, round-sooner, via-is-no-contact}
use Rattle.sip_build.proofs.HeaderRunTexts.{other-lines}
use Rattle.sip_build.proofs.UpwardTexts.{row-later, row-sooner, row-three}
use Rattle.sip_build.proofs.upward_text.kept_runs.Goals as goal

pub returns-in_default : goal.returns-in_default
returns-in_default g c =
    let hs = views c.args.headers in
    let o = option_copied c.args.others in
    let lines = contact_lines (texts c.args.kept.now) in
    let front = views c.split_at.result.0 in
    let parted = parted_at (codes "via") hs front [] c.header_index.result c.header_index.ensures.value c.split_at.ensures.front (sym c.in_default.ensures.none ∙ c.split_at.ensures.back) in
    grind (arith, common_steps, row-three, round-none (codes "via") (codes "contact") o lines hs front c.header_index.result parted)

pub returns-then-header_index-len : goal.returns-then-header_index-len
returns-then-header_index-len g c =
    let hs = views c.args.headers in
    let o = option_copied c.args.others in
    let lines = contact_lines (texts c.args.kept.now) in
    let n = c.header_index.result in
    let front = views c.split_at.result.0 in
    let top = view_line c.in-Some.top in
    let after = views c.in-Some.after in
    let parted = parted_at (codes "via") hs front (top ∷ after) n c.header_index.ensures.value c.split_at.ensures.front (sym c.in-Some.ensures.some ∙ c.split_at.ensures.back) in
    let sooner : place_of (codes "contact") front < length front = omega (arith, c.if-header_index-len.true, c.len.ensures, c.header_index-2.ensures.value) in
    let rest = flat_map (λ h. under h.value (if same_name (codes "contact") h.name then None else Some h.name)) after in
    row-sooner (lines_of c.exchanged_runs-then-header_index-len.result.0) (lines_of c.exchanged_runs-then-header_index-len.result.1) (lines_of c.exchanged_runs-then-header_index-len.result.2) (lines_of c.run_if_any-top.result) rest (map challenge_line c.args.challenges.now) (exchanged (codes "contact") lines front) (exchanged (codes "contact") lines (replaced (codes "via") o hs))
    c.exchanged_runs-then-header_index-len.ensures
    ((λ i. exchanged (codes "contact") lines front ++ (c.run_if_any-top.ensures i ++ other-lines (codes "contact") after i))
    ∙ round-sooner (codes "via") (codes "contact") o lines hs front after top n via-is-no-contact parted sooner)

pub returns-else-header_index-len : goal.returns-else-header_index-len
returns-else-header_index-len g c =
    let hs = views c.args.headers in
    let o = option_copied c.args.others in
    let lines = contact_lines (texts c.args.kept.now) in
    let n = c.header_index.result in
    let front = views c.split_at.result.0 in
    let top = view_line c.in-Some.top in
    let after = views c.in-Some.after in
    let parted = parted_at (codes "via") hs front (top ∷ after) n c.header_index.ensures.value c.split_at.ensures.front (sym c.in-Some.ensures.some ∙ c.split_at.ensures.back) in
    let later : length front ≤ place_of (codes "contact") front = omega (arith, c.if-header_index-len.false, c.len.ensures, c.header_index-2.ensures.value) in
    row-later (lines_of c.kept_run.result) (lines_of c.run_if_any-top.result) (lines_of c.exchanged_runs-else-header_index-len.result.0) (lines_of c.exchanged_runs-else-header_index-len.result.1) (lines_of c.exchanged_runs-else-header_index-len.result.2) (map challenge_line c.args.challenges.now) (exchanged (codes "contact") lines after) (exchanged (codes "contact") lines (replaced (codes "via") o hs))
    c.exchanged_runs-else-header_index-len.ensures
    (ap (λ (x : List HeaderText). x ++ (lines_of c.run_if_any-top.result ++ exchanged (codes "contact") lines after)) c.kept_run.ensures
    ∙ (λ i. front ++ (c.run_if_any-top.ensures i ++ exchanged (codes "contact") lines after))
    ∙ round-later (codes "via") (codes "contact") o lines hs front after top n via-is-no-contact parted later)
