use Rattle.std.proofs.Common.{◌≡◌, ℕ, List, Option, map, take}
use Rattle.std.specs.List.{AllByRecursion}
use Rattle.upload_reader.specs.Upload.{UploadState, IsUntouched}
use Rattle.lanes_in_turn.specs.Round.{AreTakenInTurn, entries_of}
use Rattle.lanes_in_turn.specs.Taking.{begun_lane}
use Rattle.lanes_in_turn.specs.inside.{HaveFewTaken, AreTogether}
use Rattle.lanes_in_turn.specs.declared.gathered.LaneResult.{LaneResult}
use Rattle.lanes_in_turn.proofs.RoundLaws.{none}
use Rattle.lanes_in_turn.proofs.in_turn.take_all.Given as goal

abbrev pub invariant-loop-k : goal.invariant-loop-k
invariant-loop-k g l = record {
  few : HaveFewTaken l.lanes;
  together : AreTogether l.lanes;
  lanes : (known : List ℕ → Option (LaneResult g.row.R.Denot)) (quota : ℕ) (uploads : List (UploadState g.row.R.Denot)) → AllByRecursion IsUntouched uploads → l.initial.lanes ≡ map (begun_lane known quota) uploads
      → AreTakenInTurn known quota uploads (entries_of (take l.k-index l.schedule)) none l.lanes;
}
