-- What wants the administrator's attention before any conflict.
use Rattle.std.specs.Prelude.{ℕ, List, [], ◌++◌, codes, count_by, nat_lt, Bool, true, false, not, ◌==◌, if◌then◌else◌, Option, Some}
use Rattle.upload_reader.specs.declared.ending.Ending.{Ending}
use Rattle.upload_reader.specs.declared.ending.Ending.TheVariants.{Over}
use Rattle.upload_reader.specs.declared.lane_fault.LaneEnd.TheVariants.{Bye, Fault}
use Rattle.upload_reader.specs.declared.lane_fault.LaneFault.TheVariants.{Truncated}
use Rattle.lanes_in_turn.specs.declared.gathered.Stop.{Stop}
use Rattle.lanes_in_turn.specs.declared.gathered.Stop.TheVariants as stop
use Rattle.warp_run.specs.declared.repaired.ClientSummary.{ClientSummary}
use Rattle.warp_run.specs.declared.repaired.Repaired.{Repaired}
use Rattle.replay_folder.specs.declared.ends.UploadEnd.{UploadEnd}
use Rattle.replay_folder.specs.declared.ends.UploadEnd.TheVariants.{Taken}
use Rattle.replay_folder.specs.declared.replayed.ToldUploads.{ToldUploads}
use Rattle.review_pieces.specs.Pieces.{closed_html, note_html}
use Rattle.review_lists.specs.Standings.{was_made}
use Rattle.review_lists.specs.Words.{counted_words}
use Rattle.review_lists.specs.declared.attention.TheConstants.{STOPPED, ONE_UNTAKEN, MORE_UNTAKEN, ONE_LOSES, MORE_LOSE, ONE_FAILS, MORE_FAIL, ONE_UNMADE, MORE_UNMADE}

-- it was taken, however it ended
abbrev pub was_taken : UploadEnd → Bool
was_taken (Taken client taken end) = true
was_taken other = false

-- it ended with its bye, or where it was cut off (E3)
abbrev pub ends_well : Option Ending → Bool
ends_well (Some (Over Bye)) = true
ends_well (Some (Over (Fault line Truncated))) = true
ends_well other = false

abbrev pub loses_visits : ClientSummary → Bool
loses_visits client = nat_lt 0 client.lost

abbrev pub ends_oddly : ClientSummary → Bool
ends_oddly client = not (ends_well client.end)

-- nothing of none
unfoldable pub counted_note : ℕ → List ℕ → List ℕ → List ℕ
counted_note count one several =
    if count == 0 then [] else note_html (codes "note") (counted_words count one several)

abbrev pub closed_note : Bool → List ℕ
closed_note is_closed = if is_closed then closed_html else []

abbrev pub stop_note : Stop → List ℕ
stop_note stop.Memory = note_html (codes "alert") STOPPED.now
stop_note other = []

-- The site's file is closed; memory was refused; uploads that weren't taken; clients with lost visits; clients whose
-- last upload ended otherwise than by its bye or by being cut off; decisions that the desk refused.
abbrev pub attention_html : ToldUploads → Repaired → Bool → List ℕ
attention_html told repaired is_closed =
    closed_note is_closed
    ++ (stop_note repaired.stop
    ++ (counted_note (count_by (λ end. not (was_taken end)) told.ends) ONE_UNTAKEN.now MORE_UNTAKEN.now
    ++ (counted_note (count_by loses_visits repaired.clients) ONE_LOSES.now MORE_LOSE.now
    ++ (counted_note (count_by ends_oddly repaired.clients) ONE_FAILS.now MORE_FAIL.now
    ++ counted_note (count_by (λ put. not (was_made put)) repaired.decided) ONE_UNMADE.now MORE_UNMADE.now))))
