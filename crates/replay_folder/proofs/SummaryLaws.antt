-- The last end of each client's uploads.
use Rattle.std.proofs.Common.{◌≡◌, ℕ, List, ◌∷◌, Bool, true, false, cond, fold, if◌then◌else◌, unwrap_or, Option, Some, refl}
use Rattle.upload_reader.specs.declared.ending.Ending.{Ending}
use Rattle.replay_folder.specs.FolderReport.{told_of, last_told}
use Rattle.replay_folder.specs.declared.ends.UploadEnd.{UploadEnd}

-- where one more is put
pub put_told : {X : Type 0} (is_client : Bool) (now none : X) (before : Option X) → unwrap_or (cond is_client (Some now) before) none ≡ (if is_client then now else unwrap_or before none)
put_told true now none before = refl
put_told false now none before = refl

-- with what the ends that are left tell, it comes to what all of them tell
abbrev pub ToldSoFar : List UploadEnd → List UploadEnd → List ℕ → ℕ × Option Ending → Type 0
ToldSoFar all left client told = fold (told_of client) told left ≡ last_told all client

pub end_told : (all before left : List UploadEnd) (client : List ℕ) (end : UploadEnd) (told now : ℕ × Option Ending) → before ≡ end ∷ left → now ≡ told_of client told end
    → ToldSoFar all before client told → ToldSoFar all left client now
end_told all before left client end told now is next so_far = rw next (rw is at so_far)
