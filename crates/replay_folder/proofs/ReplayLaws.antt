-- What is read of the site's file, and how replaying ends where it says no site.
use Rattle.std.proofs.Common.{◌≡◌, ◌≢◌, ℕ, List, Option, None, Result, Ok, Err, inl, inr, ap, subst, ◌∙◌}
use Rattle.std.specs.IoError.{error_kind}
use Rattle.std.specs.declared.io.Error.{Error}
use Rattle.std.specs.declared.io.ErrorKind.{ErrorKind}
use Rattle.std.specs.declared.io.ErrorKind.TheVariants as error
use Rattle.byte_streams.specs.Answers.{Answer}
use Rattle.byte_streams.specs.Cutting.{ending_of, StopsAtEnd}
use Rattle.byte_streams.specs.Reading.{Reading, ReadsWhile, MadeWhile, input}
use Rattle.byte_streams.specs.Writing.{CallWrites}
use Rattle.byte_streams.specs.declared.fault.LineFault.{LineFault}
use Rattle.site_file.specs.Kept.{SaysNoFile}
use Rattle.site_file.specs.SiteFile.{FileIsUndecided}
use Rattle.site_file.specs.declared.file.NoSiteFile.{NoSiteFile}
use Rattle.site_file.specs.declared.file.NoSiteFile.TheVariants as none
use Rattle.warp_run.specs.Run.{fresh_lines}
use Rattle.warp_server.specs.program.Listen.{unopened_status}
use Rattle.warp_server.specs.declared.program.call.Replaying.{Replaying}
use Rattle.replay_folder.specs.Replays.{ReadsSite, ReplaysNothing}
use Rattle.replay_folder.specs.inside.{no_site_end}

module _ {F : Type 0} (was_read : F → F → List Answer → Type 0) (file back : F) (old new : Reading F) where
  -- all that was read of the file
  pub site_given : old ≡ fresh_lines file → ReadsWhile FileIsUndecided old new → was_read new.first back new.answers → StopsAtEnd new.answers
      → (P : List ℕ → Option LineFault → Type 0) → P (input new) (ending_of new.answers) → ReadsSite was_read file P
  site_given fresh reads told ends P holds = record {
    more = new.answers;
    told = (back, subst (λ f. was_read f back new.answers) (reads.first ∙ ap (λ lines. lines.first) fresh) told);
    needed = subst (λ lines. MadeWhile FileIsUndecided lines.answers new.answers) fresh reads.needed;
    ends = ends;
    holds = holds;
  }

module _ {F : Type 0} (opened : List ℕ → Result F Error → Type 0) (listed : List ℕ → Result (Option (List (List ℕ))) Error → Type 0) (was_read : F → F → List Answer → Type 0)
    (asked : Replaying) (call : CallWrites) where
  pub no_file : (kind : ErrorKind) (e : Error) → kind ≡ error_kind e → opened asked.site_file (Err e) → ReplaysNothing opened listed was_read asked call (unopened_status kind) None
  no_file error.OutOfMemory e is opens = tt
  no_file kind e is opens = inl (e, opens, λ memory. let other : kind ≡ error.OutOfMemory = is ∙ memory in cc)

  pub no_site : (why : NoSiteFile) (file : F) → opened asked.site_file (Ok file) → (why ≢ none.NoMemory → ReadsSite was_read file (λ input ending. SaysNoFile input ending why))
      → ReplaysNothing opened listed was_read asked call (no_site_end why).status (no_site_end why).wrong
  no_site (none.Wrong wrong) file opens reads = (file, opens, reads (λ is. cc))
  no_site none.ReadFailed file opens reads = inr (file, opens, reads (λ is. cc))
  no_site none.NoMemory file opens reads = tt
