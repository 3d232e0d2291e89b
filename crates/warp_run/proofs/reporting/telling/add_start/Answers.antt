use Rattle.std.proofs.Common.{decimal, ◌∙◌}
use Rattle.warp_run.specs.Report.{json_string}
use Rattle.warp_run.proofs.BufferLaws.{adds_as, ◌>>◌}
use Rattle.warp_run.proofs.EncodedLaws.{start_posted, start_got}
use Rattle.warp_run.proofs.reporting.telling.add_start.Goals as goal

pub returns-then-form : goal.returns-then-form
returns-then-form g c =
    let form = c.args.form.now in
    adds_as (c.add_with_number.ensures >> c.add.ensures >> c.add_quoted.ensures >> c.add-then-form.ensures)
    (start_posted form.post (decimal form.number) (json_string form.action.now) _ c.if-form.true)

pub returns-else-form : goal.returns-else-form
returns-else-form g c =
    let form = c.args.form.now in
    adds_as (c.add_with_number-else-form.ensures >> c.add-else-form.ensures >> c.add_escaped.ensures >> c.add-else-form-2.ensures)
    (start_got form.post (decimal form.number) form.action.now c.as_bytes.result.now _ c.if-form.false (c.as_bytes.ensures.value ∙ c.start.ensures))
