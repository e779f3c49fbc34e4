-- The order of stored answers (RFC 3261 section 16.7 step 6): first every 6xx, then the lowest class; which
-- status goes first within a class is the proxy's choice.
use Rattle.std.specs.Prelude.{◌≡◌, ◌<◌, ◌⊎◌, ℕ, ◌==◌, nat_le, Bool, if◌then◌else◌}
use Rattle.std.specs.List.{list_any}
use Rattle.fork_model.specs.Table.{Rules}

-- what an answer is ranked by, the smaller first: its class, its part within the class, its arrival
pub record Rank : Type 0 where
  pub class : ℕ
  pub part : ℕ
  pub arrival : ℕ

-- a status with its arrival
pub record Score : Type 0 where
  pub status : ℕ
  pub arrival : ℕ

-- 6xx, then 3xx, then 4xx, then 5xx
abbrev pub class_of : ℕ → ℕ
class_of status =
    if nat_le 600 status then 0
    else (if nat_le 500 status then 3
    else (if nat_le 400 status then 2
    else 1))

abbrev pub is_preferred : Rules → ℕ → Bool
is_preferred rules status = list_any (λ preferred. preferred == status) rules.preferred

-- among 4xx the preferred statuses go first, among 5xx a 503 goes last
abbrev pub part_of : Rules → ℕ → ℕ
part_of rules status =
    if nat_le 600 status then 0
    else (if nat_le 500 status then (if status == 503 then 1 else 0)
    else (if nat_le 400 status then (if is_preferred rules status then 0 else 1)
    else 0))

unfoldable pub rank_of : Rules → Score → Rank
rank_of rules score =
    record { class = class_of score.status; part = part_of rules score.status; arrival = score.arrival }

-- the triples in dictionary order
abbrev pub RanksBefore : Rank → Rank → Type 0
RanksBefore a b =
    (a.class < b.class)
    ⊎ ((a.class ≡ b.class) × ((a.part < b.part) ⊎ ((a.part ≡ b.part) × (a.arrival < b.arrival))))

-- the first answer goes up rather than the second
unfoldable pub Before : Rules → Score → Score → Type 0
Before rules a b = RanksBefore (rank_of rules a) (rank_of rules b)
