-- The words of lists.
use Rattle.std.specs.Prelude.{ℕ, List, [], ◌++◌, codes, decimal, ◌==◌, if◌then◌else◌, Option, Some, None}
use Rattle.std.specs.Option.{option_map_or}
use Rattle.std.specs.List.{join_with_byte}
use Rattle.visit_replay.specs.Conflict.{conflict_code}
use Rattle.visit_replay.specs.declared.outcome.ConflictKind.{ConflictKind}
use Rattle.visit_replay.specs.declared.outcome.Outcome.{Outcome}
use Rattle.visit_replay.specs.declared.outcome.Outcome.TheVariants.{Conflict}
use Rattle.replay_folder.specs.FolderReport.{end_words}
use Rattle.replay_folder.specs.declared.ends.UploadEnd.{UploadEnd}

-- at which event a visit stopped, and why
abbrev pub conflict_in : Outcome → Option (ℕ × ConflictKind)
conflict_in (Conflict requests at kind) = Some (at, kind)
conflict_in other = None

-- as `K5 at event 2`
abbrev pub conflict_text : ℕ × ConflictKind → List ℕ
conflict_text conflict = conflict_code conflict.1 ++ (codes " at event " ++ decimal conflict.0)

-- nothing of an outcome that is none
abbrev pub outcome_text : Outcome → List ℕ
outcome_text outcome = option_map_or conflict_text (conflict_in outcome) []

-- what became of an upload, in the words of the report behind its name
abbrev pub upload_words : UploadEnd → List ℕ
upload_words end = join_with_byte 32 (end_words end)

-- a sentence for one, or what stands behind the number of several
abbrev pub counted_words : ℕ → List ℕ → List ℕ → List ℕ
counted_words count one several = if count == 1 then one else decimal count ++ several
