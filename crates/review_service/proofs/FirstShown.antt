-- What is shown at the start is what the file says.
use Rattle.std.proofs.Common.{◌≡◌, ℕ, List, [], length, Bool, false, Some, sym, ap, ◌∙◌, subst, append-nil}
use Rattle.byte_streams.specs.declared.fault.LineFault.TheVariants.{Truncated}
use Rattle.conflict_desk.specs.declared.decision.Decision.{Decision}
use Rattle.site_line.specs.Reading.{site_decisions}
use Rattle.site_file.specs.SiteFile.{FileSite, IsSiteFile}
use Rattle.site_file.specs.Kept.{AnswersAsFile, file_site}
use Rattle.site_opening.specs.Opening.{IsSiteInFile}
use Rattle.site_opening.specs.declared.opening.SiteInFile.{SiteInFile}
use Rattle.warp_run.specs.Settle.{after_decisions}
use Rattle.warp_run.specs.declared.repaired.Repaired.{Repaired}
use Rattle.decision_file.specs.Keeping.{HasKept, IsShown}
use Rattle.decision_file.specs.Line.{with_more}
use Rattle.decision_file.specs.declared.keeping.DecisionFile.{DecisionFile}

module _ {F : Type 0} (seen : F → List ℕ) (durable : F → ℕ) (lost : F → Bool) where
  no_more : (first : FileSite) → with_more first [] ≡ first
  no_more first = ap (λ (ds : List Decision). record first { site = record first.site { decisions = ds } }) (append-nil first.site.decisions)

  pub first_shown : (opened : SiteInFile F) (keeper : DecisionFile F) (shown undecided : Repaired) → IsSiteInFile seen durable lost opened
      → ((bytes : List ℕ) → seen opened.file ≡ bytes → opened.whole ≡ length bytes → durable opened.file ≡ length bytes → lost opened.file ≡ false → HasKept seen durable lost keeper bytes)
      → shown ≡ after_decisions (site_decisions (file_site opened.site)) undecided
      → (first : FileSite) × AnswersAsFile opened.site first × IsShown seen durable lost first undecided keeper shown
  first_shown opened keeper shown undecided is keeps decided = (
    is.first,
    is.answers,
    record {
      bytes = is.bytes;
      kept = keeps is.bytes is.has is.whole is.stays is.sound;
      made = [];
      says = subst (IsSiteFile is.bytes (Some Truncated)) (sym (no_more is.first)) is.says;
      decided = decided ∙ ap (λ ds. after_decisions ds undecided) (is.answers.site.decisions ∙ sym (append-nil is.first.site.decisions));
    },
  )
