-- What listening reads of its file, and how it ends.
use Rattle.std.proofs.Common.{◌≡◌, ℕ, List, Option, Result, Ok, Err, inr, ap, subst, ◌∙◌}
use Rattle.std.specs.Prelude.{IfOk, IfErr, MatchResult, ◌⊎◌}
use Rattle.byte_streams.specs.Answers.{Answer}
use Rattle.byte_streams.specs.Cutting.{ending_of, StopsAtEnd}
use Rattle.byte_streams.specs.Reading.{Reading, ReadsWhile, MadeWhile, NoLineYet, input}
use Rattle.byte_streams.specs.declared.fault.LineFault.{LineFault}
use Rattle.site_line.specs.declared.site.Site.{Site}
use Rattle.warp_run.specs.Intake.{IsBehindSite, SaysNoSite}
use Rattle.warp_run.specs.Run.{max_site_bytes, fresh_lines}
use Rattle.warp_run.specs.declared.status.Status.{Status}
use Rattle.warp_run.specs.declared.status.Status.TheVariants.{OutOfMemory}
use Rattle.warp_server.specs.program.Listen.{ReadsFile, SaysSite}

module _ {F : Type 0} (was_read : F → F → List Answer → Type 0) (file back : F) (old new : Reading F) where
  -- all that was read of the file, up to its first line
  abbrev Given : Type 1
  Given = (P : List ℕ → Option LineFault → Type 0) → P (input new) (ending_of new.answers) → ReadsFile was_read file P

  given : old ≡ fresh_lines file → ReadsWhile (NoLineYet max_site_bytes old.place) old new → was_read new.first back new.answers → StopsAtEnd new.answers → Given
  given fresh reads told ends P holds = record {
    more = new.answers;
    told = (back, subst (λ f. was_read f back new.answers) (reads.first ∙ ap (λ lines. lines.first) fresh) told);
    needed = subst (λ lines. MadeWhile (NoLineYet max_site_bytes lines.place) lines.answers new.answers) fresh reads.needed;
    ends = ends;
    holds = holds;
  }

  by_result : (result : Result Site Status) → Given → IfOk result (IsBehindSite new) → IfErr result (λ status. SaysNoSite status (input new) (ending_of new.answers))
      → MatchResult result (λ site. ReadsFile was_read file (SaysSite site)) (λ status. (status ≡ OutOfMemory) ⊎ ReadsFile was_read file (SaysNoSite status))
  by_result (Ok site) gives behind none = gives (SaysSite site) (new.line, behind.cut_is, (behind.plain, behind.site_is, behind.stands))
  by_result (Err status) gives behind none = inr (gives (SaysNoSite status) none)

  pub site_read : (result : Result Site Status) → old ≡ fresh_lines file → ReadsWhile (NoLineYet max_site_bytes old.place) old new → was_read new.first back new.answers → StopsAtEnd new.answers
      → IfOk result (IsBehindSite new) → IfErr result (λ status. SaysNoSite status (input new) (ending_of new.answers))
      → MatchResult result (λ site. ReadsFile was_read file (SaysSite site)) (λ status. (status ≡ OutOfMemory) ⊎ ReadsFile was_read file (SaysNoSite status))
  site_read result fresh reads told ends = by_result result (given fresh reads told ends)
