-- The lines of uploads, one after another.
use Rattle.std.proofs.Common.{◌≡◌, ℕ, ◌+◌, ◌<◌, List, [], ◌∷◌, ◌++◌, codes, length, drop, get_or, refl, append_assoc}
use Rattle.replay_workers.proofs.ByClient.{drop_here}
use Rattle.warp_run.specs.Report.{report_line}
use Rattle.replay_folder.specs.FolderReport.{upload_line, upload_lines}
use Rattle.replay_folder.specs.declared.ends.UploadEnd.{UploadEnd}
use Rattle.replay_folder.specs.declared.names.Named.{Named}

pub lines_here : (named : List Named) (ends : List UploadEnd) (k : ℕ) (one : Named) (end : UploadEnd) → k < length named → k < length ends → one ≡ get_or named k one → end ≡ get_or ends k end
    → upload_lines (drop k named) (drop k ends) ≡ upload_line (one, end) ++ upload_lines (drop (k + 1) named) (drop (k + 1) ends)
lines_here named ends k one end below also is is_end = rw (drop_here named k one below is, drop_here ends k end also is_end) refl

-- a line in the pieces in which it is added
pub taken_line : (name client taken end : List ℕ)
    → (codes "upload " ++ name) ++ (codes " client " ++ (client ++ ((codes " taken " ++ taken) ++ (codes " end " ++ (end ++ 10 ∷ [])))))
    ≡ report_line (codes "upload" ∷ name ∷ codes "client" ∷ client ∷ codes "taken" ∷ taken ∷ codes "end" ∷ end ∷ [])
taken_line name client taken end = simp append_assoc
