-- Reading one line: the word before its first space says which line it is.
use Rattle.std.specs.Prelude.{ℕ, ◌&&◌, ◌||◌, ◌==◌, Bool, true, false, bytes_eq, List, codes, Option, Some, None, option_and_then, if◌then◌else◌}
use Rattle.std.specs.Option.{option_map}
use Rattle.sip_lex.specs.Cut.{cut, is}
use Rattle.sip_lex.specs.Number.{plain_number_within}
use Rattle.fork_model.specs.Table.{most_targets}
use Rattle.fork_rank.specs.Field.{most_q, most_number, before, number_from}
use Rattle.fork_rank.specs.PreferredText.{read_preferred}
use Rattle.fork_listing.specs.declared.line.ListingWord.{ListingWord}
use Rattle.fork_listing.specs.declared.line.ListingWord.TheVariants as word
use Rattle.fork_listing.specs.declared.line.Version.{Version}
use Rattle.fork_listing.specs.declared.line.Version.TheVariants.{First, Second, Third}
use Rattle.fork_tree.specs.declared.row.End.{End}
use Rattle.fork_tree.specs.declared.row.End.TheVariants.{Stored, Taken, Silent, Never}
use Rattle.fork_listing.specs.declared.line.ListedTarget.{ListedTarget}
use Rattle.fork_listing.specs.declared.line.Ranked.{Ranked}
use Rattle.fork_listing.specs.declared.line.Final.{Final}
use Rattle.fork_listing.specs.Line.{Line, ForkLine, PreferLine, DepthLine, TargetLine, RankLine, FinalLine, most_arrival, most_listed}

abbrev pub word_of : List ℕ → Option ListingWord
word_of text =
    if bytes_eq text (codes "fork") then Some word.Fork
    else (if bytes_eq text (codes "prefer") then Some word.Prefer
    else (if bytes_eq text (codes "depth") then Some word.Depth
    else (if bytes_eq text (codes "target") then Some word.Target
    else (if bytes_eq text (codes "rank") then Some word.Rank
    else (if bytes_eq text (codes "final") then Some word.Final
    else None)))))

abbrev pub read_status : List ℕ → Option ℕ
read_status digits = number_from 300 699 digits

abbrev pub read_parent : List ℕ → Option (Option ℕ)
read_parent text = if bytes_eq text (codes "-") then Some None else option_map Some (plain_number_within most_number text)

abbrev pub read_version : List ℕ → Option Version
read_version text =
    if bytes_eq text (codes "1") then Some First
    else (if bytes_eq text (codes "2") then Some Second
    else (if bytes_eq text (codes "3") then Some Third
    else None))

abbrev pub read_count : Version → List ℕ → Option ℕ
read_count version digits = number_from 1 (most_listed version) digits

abbrev pub may_be_assumed : ℕ → Bool
may_be_assumed status = status == 408 || status == 503

abbrev pub stored_as : ℕ → ℕ → List ℕ → Option End
stored_as status arrival how =
    if bytes_eq how (codes "received") then Some (Stored status arrival true)
    else (if bytes_eq how (codes "assumed") && may_be_assumed status then Some (Stored status arrival false)
    else None)

abbrev pub read_stored : List ℕ → Option End
read_stored text =
    option_and_then (λ s. option_and_then (λ a. stored_as s.0 a.0 a.1) (before (plain_number_within most_arrival) s.1))
    (before read_status text)

abbrev pub read_end_cut : List ℕ × Option (List ℕ) → Option End
read_end_cut (word, None) = if bytes_eq word (codes "never") then Some Never else None
read_end_cut (word, Some rest) =
    if bytes_eq word (codes "stored") then read_stored rest
    else (if bytes_eq word (codes "taken") then option_map Taken (plain_number_within most_arrival rest)
    else (if bytes_eq word (codes "silent") then option_map Silent (plain_number_within most_arrival rest)
    else None))

abbrev pub read_end : List ℕ → Option End
read_end text = read_end_cut (cut (is 32) text)

abbrev pub target_with : ℕ → Option ℕ → ℕ → End → ListedTarget
target_with number parent q end = record { number = number; parent = parent; q = q; end = end }

abbrev pub read_target : List ℕ → Option ListedTarget
read_target text =
    option_and_then (λ n.
    option_and_then (λ p.
    option_and_then (λ q.
    option_map (target_with n.0 p.0 q.0) (read_end q.1))
    (before (plain_number_within most_q) p.1))
    (before read_parent n.1))
    (before (plain_number_within most_number) text)

abbrev pub ranked_with : ℕ → ℕ → ℕ → Ranked
ranked_with status number arrival = record { status = status; number = number; arrival = arrival }

abbrev pub read_ranked : List ℕ → Option Ranked
read_ranked text =
    option_and_then (λ s.
    option_and_then (λ n.
    option_map (ranked_with s.0 n.0) (plain_number_within most_arrival n.1))
    (before (plain_number_within most_number) s.1))
    (before read_status text)

abbrev pub final_with : ℕ → Option ℕ → Final
final_with status number = record { status = status; number = number }

abbrev pub read_final : List ℕ → Option Final
read_final text = option_and_then (λ s. option_map (final_with s.0) (read_parent s.1)) (before read_status text)

abbrev pub read_fork : List ℕ → Option Line
read_fork text = option_and_then (λ v. option_map (ForkLine v.0) (read_count v.0 v.1)) (before read_version text)

-- what stands behind the word and its space
abbrev pub read_rest : ListingWord → List ℕ → Option Line
read_rest word.Fork rest = read_fork rest
read_rest word.Prefer rest = option_map PreferLine (read_preferred rest)
read_rest word.Depth rest = option_map DepthLine (plain_number_within most_targets rest)
read_rest word.Target rest = option_map TargetLine (read_target rest)
read_rest word.Rank rest = option_map RankLine (read_ranked rest)
read_rest word.Final rest = option_map FinalLine (read_final rest)

abbrev pub read_line : List ℕ → Option Line
read_line line = option_and_then (λ w. read_rest w.0 w.1) (before word_of line)
