-- How much memory a process has, and how much a machine or a control group, by what the system says of it.
use Rattle.std.specs.Prelude.{◌-◌, ◌^◌, ◌*◌, ◌/◌, ℕ, List, Option, Some, None, bytes_eq, codes, drop, max, min, nat_eq, if◌then◌else◌}
use Rattle.std.specs.List.{starts_with}
use Rattle.std.specs.Option.{option_map}
use Rattle.sip_lex.specs.Bytes.{trim_start}
use Rattle.sip_lex.specs.Cut.{cut, is}
use Rattle.sip_lex.specs.Number.{plain_number_within}

abbrev pub pages_in : Option (List ℕ) → Option ℕ
pages_in None = None
pages_in (Some rest) = plain_number_within (2 ^ 64 - 1) (cut (is 32) rest).0

-- how many pages are in memory, by the line of /proc/self/statm (proc(5)), numbers with one space between: the second number
abbrev pub resident_pages : List ℕ → Option ℕ
resident_pages statm = pages_in (cut (is 32) statm).1

-- a number of units of 1,024 bytes, behind spaces, as bytes, within 64 bits
abbrev pub total_in : Option (List ℕ) → Option ℕ
total_in None = None
total_in (Some rest) = option_map (λ (n : ℕ). min (n * 1024) (2 ^ 64 - 1)) (plain_number_within (2 ^ 64 - 1) (cut (is 32) (trim_start rest)).0)

-- how many bytes of memory a machine has, by /proc/meminfo (proc(5)), whose first line is `MemTotal: NUMBER kB`
abbrev pub memory_total : List ℕ → Option ℕ
memory_total meminfo = if bytes_eq (cut (is 58) meminfo).0 (codes "MemTotal") then total_in (cut (is 58) meminfo).1 else None

-- how many bytes a control group may have, by its memory.max: a number, or a word where there is no limit
abbrev pub group_limit : List ℕ → Option ℕ
group_limit text = plain_number_within (2 ^ 64 - 1) (cut (is 10) text).0

-- the path of a process's control group, by the line of /proc/self/cgroup (cgroups(7)): `0::PATH`
abbrev pub group_path : List ℕ → Option (List ℕ)
group_path cgroup = if starts_with nat_eq (cut (is 10) cgroup).0 (codes "0::") then Some (drop 3 (cut (is 10) cgroup).0) else None

-- how many calls of 12,000 bytes fit into half of so many bytes, at least 1,000 and at most 1,000,000
abbrev pub calls_within : ℕ → ℕ
calls_within bytes = min (max (bytes / 24000) 1000) 1000000
