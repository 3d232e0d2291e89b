-- How many visits stand so or so: of a client, and of all of them.
use Rattle.std.specs.Prelude.{ℕ, List, Bool, sum_by}
use Rattle.std.specs.Option.{option_map_or}
use Rattle.std.specs.Result.{is_ok}
use Rattle.conflict_desk.specs.Desk.{Books, book_of}
use Rattle.conflict_desk.specs.declared.decided.Standing.{Standing}
use Rattle.conflict_desk.specs.declared.decided.Standing.TheVariants.{Waiting}
use Rattle.warp_run.specs.declared.repaired.PutDecision.{PutDecision}
use Rattle.warp_run.specs.declared.repaired.Repaired.{Repaired}
use Rattle.review_state.specs.Counts.{how_many}

-- none of a client that the desk doesn't have
abbrev pub how_many_of : Books → List ℕ → Standing → ℕ
how_many_of desk client standing = option_map_or (λ book. how_many book standing) (book_of client desk) 0

abbrev pub was_made : PutDecision → Bool
was_made put = is_ok put.answer

abbrev pub all_waiting : Repaired → ℕ
all_waiting repaired = sum_by (λ client. how_many_of repaired.desk client.client Waiting) repaired.clients
