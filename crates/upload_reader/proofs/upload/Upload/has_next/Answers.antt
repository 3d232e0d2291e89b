use Rattle.std.proofs.Common.{◌≡◌, ◌∙◌, ℕ, List, true, false, None, Some, Ok, refl, subst, sym}
use Rattle.byte_streams.specs.Cutting.{cut}
use Rattle.byte_streams.specs.Reading.{uncut_bytes}
use Rattle.upload_reader.specs.Limits.{max_line_bytes}
use Rattle.upload_reader.specs.Message.{is_blank}
use Rattle.upload_reader.specs.Upload.{UploadState, NothingMore}
use Rattle.upload_reader.proofs.LaneLaws.{more_told, none_left, not_blank}
use Rattle.upload_reader.proofs.Uncut.{has_end}
use Rattle.upload_reader.proofs.upload.Upload.has_next.Goals as goal

pub returns-in-Some-clause-told : goal.returns-in-Some-clause-told
returns-in-Some-clause-told g c = λ told. subst (λ (upload : UploadState _). NothingMore upload upload.lines.answers → ⊥) c.self.view_is
    (more_told _ _ c.self.invariant (none_left _ (sym c.is_some.ensures ∙ c.if-is_some.false)) c.in-Some.ensures.line.0 c.in-Some.line.now c.in-Some.ensures.line.1 (not_blank _ _ c.is_blank.ensures told))

pub returns-in-None-clause-none : goal.returns-in-None-clause-none
returns-in-None-clause-none g c =
    subst (λ (upload : UploadState _). false ≡ false → upload.ending ≡ None → upload.lines.fault ≡ None → (line : List ℕ) → cut max_line_bytes (uncut_bytes upload.lines) None ≡ Some (Ok line) → is_blank line ≡ true)
    c.self.view_is (λ _ _ calm line is. absurd (has_end max_line_bytes _ line is (c.in-None.ensures.none refl calm)))
