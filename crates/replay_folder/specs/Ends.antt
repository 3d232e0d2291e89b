-- What became of the uploads of a folder: this project's own rule.
use Rattle.std.specs.Prelude.{◌≡◌, ◌≢◌, ℕ, List, [], ◌∷◌, ◌++◌, Bool, true, false, if◌then◌else◌, Option, Result, Ok, Err, ⊤}
use Rattle.std.specs.List.{AllByRecursion, list_any}
use Rattle.std.specs.IoError.{error_kind}
use Rattle.std.specs.declared.io.Error.{Error}
use Rattle.std.specs.declared.io.ErrorKind.TheVariants as kinds
use Rattle.byte_streams.specs.Answers.{Answer}
use Rattle.byte_streams.specs.Reading.{Reading}
use Rattle.upload_reader.specs.Upload.{UploadState, Refuses}
use Rattle.upload_reader.specs.declared.ending.Ending.{Ending}
use Rattle.upload_reader.specs.declared.hello_fault.HelloFault.{HelloFault}
use Rattle.upload_reader.specs.declared.hello_fault.HelloFault.TheVariants as hello
use Rattle.warp_run.specs.Run.{fresh_lines, IsReadOf}
use Rattle.warp_run.specs.declared.status.Status.{Status}
use Rattle.warp_run.specs.declared.status.Status.TheVariants.{Done, BadHello}
use Rattle.replay_folder.specs.declared.ends.UploadEnd.{UploadEnd}
use Rattle.replay_folder.specs.declared.ends.UploadEnd.TheVariants as told
use Rattle.replay_folder.specs.declared.names.Named.{Named}
use Rattle.replay_folder.specs.declared.names.Named.TheVariants.{File, Unlisted}

-- An upload that was taken: as it began, how many messages were taken of it, and how it ended.
pub record TakenUpload (R : Type 0) : Type 0 where
  pub upload : UploadState R
  pub taken : ℕ
  pub end : Option Ending

-- it can't be opened; it begins with no hello; it was taken; or nothing was taken of it, as memory was refused before
pub data FileEnd (R : Type 0) : Type 0 where
  unopened : FileEnd R
  no_greeting : R → HelloFault → FileEnd R
  taken_so : TakenUpload R → FileEnd R
  left_unread : FileEnd R

module _ {R : Type 0} where
  -- as the report tells it
  abbrev pub told_end : FileEnd R → UploadEnd
  told_end unopened = told.Unopened
  told_end (no_greeting first fault) = told.NoHello fault
  told_end (taken_so one) = told.Taken one.upload.client one.taken one.end
  told_end left_unread = told.Unread

  abbrev pub taken_upload : FileEnd R → List (TakenUpload R)
  taken_upload (taken_so one) = one ∷ []
  taken_upload other = []

  -- ---- the file of a name

  -- the source doesn't begin with a hello, for that reason
  pub record RefusesHello (was_read : R → R → List Answer → Type 0) (first : R) (fault : HelloFault) : Type 0 where
    pub read : Reading R
    pub refuses : Refuses (fresh_lines first) read fault
    pub not_memory : fault ≢ hello.NoMemory
    pub now : R
    pub is_read : IsReadOf was_read first now read.answers

  -- What became of a name. `opened` says what to open the file at a path gave, and `was_read` which reads were made of
  -- one. Want of memory is no reason to tell one as unopened. What was taken of it is said round by round.
  abbrev pub IsEndOf : (List ℕ → Result R Error → Type 0) → (R → R → List Answer → Type 0) → Named → FileEnd R → Type 0
  IsEndOf opened was_read (File name) unopened =
      (error : Error) × opened name (Err error) × (error_kind error ≢ kinds.OutOfMemory)
  IsEndOf opened was_read (File name) (no_greeting first fault) =
      opened name (Ok first) × RefusesHello was_read first fault
  IsEndOf opened was_read (File name) (taken_so one) = opened name (Ok one.upload.lines.first)
  IsEndOf opened was_read (File name) left_unread = ⊤
  IsEndOf opened was_read (Unlisted word) unopened = ⊤
  IsEndOf opened was_read (Unlisted word) left_unread = ⊤
  IsEndOf opened was_read (Unlisted word) other = ⊥

-- ---- how the program ends by them

abbrev pub is_unread : UploadEnd → Bool
is_unread told.Unread = true
is_unread other = false

-- those of which nothing was read are the last ones
pub record AreUnreadLast (ends : List UploadEnd) : Type 0 where
  pub read : List UploadEnd
  pub unread : List UploadEnd
  pub are : ends ≡ read ++ unread
  pub each_read : list_any is_unread read ≡ false
  pub none_read : AllByRecursion (λ end. is_unread end ≡ true) unread

-- it begins with no hello (`U1` to `U3`), or can't be opened (`U5`)
abbrev pub is_refused : UploadEnd → Bool
is_refused told.Unopened = true
is_refused (told.NoHello fault) = true
is_refused other = false

-- by how the taking of uploads ended
abbrev pub folder_status : Status → List UploadEnd → Status
folder_status Done ends = if list_any is_refused ends then BadHello else Done
folder_status status ends = status
