-- What replaying a folder answers and writes, by what its files gave: this project's own rules.
use Rattle.std.specs.Prelude.{◌≡◌, ◌≢◌, ℕ, List, [], map, Option, Some, None, Result, Ok, Err, ◌⊎◌}
use Rattle.std.specs.IoError.{error_kind}
use Rattle.std.specs.declared.io.Error.{Error}
use Rattle.std.specs.declared.io.ErrorKind.TheVariants as kinds
use Rattle.byte_streams.specs.Answers.{Answer}
use Rattle.byte_streams.specs.Reading.{MadeWhile}
use Rattle.byte_streams.specs.Writing.{CallWrites, Takes, TakesPart, WritesNothing}
use Rattle.byte_streams.specs.declared.fault.LineFault.{LineFault}
use Rattle.byte_streams.specs.declared.fault.LineFault.TheVariants.{ReadFailed}
use Rattle.own_pages.specs.OwnPages.{own_page_at}
use Rattle.site_line.specs.Reading.{site_quota, site_decisions}
use Rattle.site_file.specs.Kept.{file_site, file_own, AnswersAsFile}
use Rattle.site_file.specs.SiteFile.{FileSite, IsSiteFile, HasWrong, FileIsUndecided}
use Rattle.site_file.specs.declared.file.SiteFile.{SiteFile}
use Rattle.site_file.specs.declared.wrong.FileWrong.{FileWrong}
use Rattle.lanes_in_turn.specs.declared.gathered.Gathered.{Gathered}
use Rattle.warp_run.specs.Conclusion.{repaired_site}
use Rattle.warp_run.specs.Repair.{docket_with_own, new_repaired}
use Rattle.warp_run.specs.Report.{report_with}
use Rattle.warp_run.specs.Run.{Reads}
use Rattle.warp_run.specs.Settle.{after_decisions}
use Rattle.warp_run.specs.Shortage.{status_of}
use Rattle.warp_run.specs.declared.repaired.Repaired.{Repaired}
use Rattle.warp_run.specs.declared.status.Status.{Status}
use Rattle.warp_run.specs.declared.status.Status.TheVariants.{Done, BadSite, BadHello, OutOfMemory, InputOutput}
use Rattle.warp_server.specs.declared.program.call.Replaying.{Replaying}
use Rattle.replay_folder.specs.Names.{NamesAll}
use Rattle.replay_folder.specs.Ends.{TakenUpload, folder_status}
use Rattle.replay_folder.specs.Taking.{TakesFiles, HeadlineOfFolder}
use Rattle.replay_folder.specs.FolderReport.{upload_lines, last_summary}
use Rattle.replay_folder.specs.declared.names.Named.{Named}
use Rattle.replay_folder.specs.declared.ends.UploadEnd.{UploadEnd}

-- what replaying on that site makes of what was gathered, with the site's decisions made
abbrev pub folder_repaired : {R : Type 0} → SiteFile → List UploadEnd → Gathered R → Repaired
folder_repaired site ends gathered =
    let dockets = map (docket_with_own (repaired_site (file_site site)) (own_page_at (file_own site))) in
    after_decisions (site_decisions (file_site site)) (new_repaired gathered.stop
    (map (last_summary ends) gathered.clients.entries) (dockets gathered.clients.entries))

-- ---- the site's file

-- What was read of the file holds so. Each read was made where those before it left something undecided, and none
-- behind the file's end.
abbrev pub ReadsSite : {F : Type 0} → (F → F → List Answer → Type 0) → F → (List ℕ → Option LineFault → Type 0) → Type 0
ReadsSite {F} was_read file P =
    Reads (λ reads. (now : F) × was_read file now reads) (MadeWhile FileIsUndecided []) P

-- the file says that site
abbrev pub SaysFileSite : SiteFile → List ℕ → Option LineFault → Type 0
SaysFileSite site input ending = (file : FileSite) × IsSiteFile input ending file × AnswersAsFile site file

-- ---- all uploads

-- `opened` says what to open the file at a path gave, `listed` what was answered of what stands at a path, and
-- `was_read` which reads were made of a file.
module _ {F : Type 0} (opened : List ℕ → Result F Error → Type 0)
    (listed : List ℕ → Result (Option (List (List ℕ))) Error → Type 0) (was_read : F → F → List Answer → Type 0) where
  -- the file at that path was opened, and what was read of it holds so
  abbrev pub ReadsAt : List ℕ → (List ℕ → Option LineFault → Type 0) → Type 0
  ReadsAt path P = (file : F) × opened path (Ok file) × ReadsSite was_read file P

  module _ (site : SiteFile) (words : List (List ℕ)) where
    -- That text reports all uploads that the words name, on that site.
    pub record HasReplayed (status : Status) (text : List ℕ) : Type 0 where
      pub named : List Named
      pub named_are : NamesAll listed words named
      pub ends : List UploadEnd
      pub rounds : List (List (TakenUpload F))
      pub gathered : Gathered F
      pub takes : TakesFiles opened was_read named ends rounds gathered
      pub headline : HeadlineOfFolder was_read (site_quota (file_site site)) (repaired_site (file_site site))
          (own_page_at (file_own site)) rounds gathered (folder_repaired site ends gathered)
      pub status_is : status ≡ folder_status (status_of gathered) ends
      pub text_is : text ≡ report_with (upload_lines named ends) (folder_repaired site ends gathered)

    module _ (call : CallWrites) where
      -- the text that goes with the status was written whole
      abbrev pub WritesReplayed : Status → Type 0
      WritesReplayed status = (text : List ℕ) × HasReplayed status text × Takes call text 0

      -- else nothing was written, or a part of it from its front, and then a write failed or took nothing
      abbrev pub ReplaysOn : Status → Type 0
      ReplaysOn Done = WritesReplayed Done
      ReplaysOn BadHello = WritesReplayed BadHello
      ReplaysOn OutOfMemory = WritesNothing call ⊎ WritesReplayed OutOfMemory
      ReplaysOn InputOutput = (status : Status) × (text : List ℕ) × HasReplayed status text × TakesPart call text
      ReplaysOn BadSite = ⊥

  module _ (asked : Replaying) (call : CallWrites) where
    -- Why nothing is replayed, and then nothing was written: a line of the site's file is wrong, the file can't be
    -- opened, and not for want of memory, or a read of it failed; where memory is refused nothing is said.
    abbrev pub ReplaysNothing : Status → Option FileWrong → Type 0
    ReplaysNothing BadSite (Some wrong) = ReadsAt asked.site_file (λ input ending. HasWrong input ending wrong)
    ReplaysNothing InputOutput None =
        ((error : Error) × opened asked.site_file (Err error) × (error_kind error ≢ kinds.OutOfMemory))
        ⊎ ReadsAt asked.site_file (λ input ending. ending ≡ Some ReadFailed)
    ReplaysNothing OutOfMemory None = Unit {0}
    ReplaysNothing status wrong = ⊥

    -- what replaying does
    abbrev pub Replays : Status → Option FileWrong → Type 0
    Replays status wrong = (WritesNothing call × ReplaysNothing status wrong)
        ⊎ ((site : SiteFile) × ReadsAt asked.site_file (SaysFileSite site) × (wrong ≡ None)
        × ReplaysOn site asked.uploads call status)
