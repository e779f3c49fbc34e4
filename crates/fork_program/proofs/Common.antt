-- The names that most proofs of this crate cite, passed on from one place. Declares nothing.
pub use Rattle.std.proofs.Common.{Bool, Err, IfOk, IfSome, IsErrOf, IsTrue, List, None, Ok, OnOk, Option, Result, Some, [], ap, append-nil, append_assoc, arith, codes, cond, count_by, eqb, false, filter, length, map, not, option_and_then, refl}
pub use Rattle.std.proofs.Common.{slice_get, subst, suc, sym, take, true, ℕ, ◌&&◌, ◌++◌, ◌+◌, ◌<◌, ◌↔◌, ◌∙◌, ◌∷◌, ◌≡◌, ◌≢◌, ◌≤◌, rules}
pub use Rattle.std.proofs.lemmas.List.{map_push}
pub use Rattle.std.proofs.lemmas.Option.{same_Some}
pub use Rattle.std.specs.Fmt.{decimal}
pub use Rattle.std.specs.Io.KnownBytes.{Consumes}
pub use Rattle.std.specs.List.{AllByRecursion, flat_map, slice_split}
pub use Rattle.std.specs.Option.{option_map}
pub use Rattle.std.proofs.lemmas.Grind.{common_steps}
pub use Rattle.context_values.specs.EventView.{event_of}
pub use Rattle.fork_rank.specs.KindView.{kind_of}
pub use Rattle.fork_listing.specs.Listed.{IsListingOf, targets_of}
pub use Rattle.fork_listing.specs.Meaning.{RightTellsTheChoice, TheChoiceIsFirst}
pub use Rattle.fork_listing.specs.Ranking.{IsRanking}
pub use Rattle.fork_listing.specs.declared.refusal.CheckFault.{CheckFault}
pub use Rattle.fork_listing.specs.declared.refusal.Verdict.{Verdict}
pub use Rattle.fork_model.proofs.laws.Headline.{one_choice}
pub use Rattle.fork_model.specs.Challenges.{challenge_list}
pub use Rattle.fork_model.specs.Choice.{IsChoice}
pub use Rattle.fork_model.specs.Core.{Core, core_offered}
pub use Rattle.fork_model.specs.Event.{Answer, Cancel, Event, Fault, FinalAnswer, GiveUp, Ring, Timeout, TimerC}
pub use Rattle.fork_model.specs.Groups.{numbers_below}
pub use Rattle.fork_model.specs.History.{Target}
pub use Rattle.fork_model.specs.OneReply.{AreArrivals}
pub use Rattle.fork_model.specs.StrictOrder.{Irreflexive}
pub use Rattle.fork_model.specs.Table.{Challenge, Invite, Kind, Offer, Other, Table, is_ended, is_finished, is_row, is_succeeded, is_trying, most_targets}
pub use Rattle.fork_rank.specs.Preferred.{usual_preferred}
pub use Rattle.fork_rank.proofs.laws.Field.{found_then}
pub use Rattle.fork_rank.proofs.laws.Lines.{all_back}
pub use Rattle.fork_rank.proofs.laws.Preferred.{preferred_found}
pub use Rattle.fork_rank.specs.Field.{most_number, most_q, numbered_text}
pub use Rattle.fork_rank.specs.RuleLines.{ended}
pub use Rattle.sip_lex.specs.Cut.{cut, is}
pub use Rattle.fork_program.specs.Answer.{IsAnswer}
pub use Rattle.fork_program.specs.Faults.{IsForkReplay, most_text}
pub use Rattle.fork_program.specs.Headline.{IsDone, TellsOneFinal}
pub use Rattle.fork_program.specs.Line.{ChallengeLine, ContactLine, DepthLine, EventLine, IsLine, KindLine, Line, OtherLine, PreferLine, TargetLine, asker_text, bare, is_name, is_text, kind_text, line_text}
pub use Rattle.fork_program.specs.ReadView.{GivesScript}
pub use Rattle.fork_program.specs.Reading.{answer_of, named, read_line, read_named, read_texted, ring_of, texted}
pub use Rattle.fork_program.specs.Replay.{Ending, EndsWith, IsEnding, Listed, Succeeded, Unfinished, added_lines, closed, ending_lines, opened, opening_text, outcomes_text, replay_text}
pub use Rattle.fork_program.specs.Script.{Draft, Script, drafted, drafted_line, finished_draft, has_kind, last_changed, no_draft, read_from, with_challenge, with_contact}
pub use Rattle.fork_program.specs.Spelling.{ChallengeDetail, ContactDetail, Detail, IsSpelledAs, IsSpelling, MayStandBehind, OtherDetail, Spelling, Spells, Told, challenges_said, depth_lines, depth_said, detail_line, event_said, lines_of}
pub use Rattle.fork_program.specs.Spelling.{offers_said, prefer_lines, preferred_said, script_of, target_line, text_of, told_lines}
pub use Rattle.fork_program.specs.inner.Line.{IsSpelledBy}
pub use Rattle.fork_program.specs.inner.Replay.{AddsOutcome, AddsOutcomes}
