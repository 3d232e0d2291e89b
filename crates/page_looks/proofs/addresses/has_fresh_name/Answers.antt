use Rattle.std.proofs.Common.{sym, ◌∙◌, ap}
use Rattle.std.specs.Str.Lossy.{utf8_lossy}
use Rattle.form_urlencoded.specs.Form.{decode}
use Rattle.page_looks.specs.Outline.{is_one_of}
use Rattle.page_looks.proofs.AddressLaws.{is_read_as_written}
use Rattle.page_looks.proofs.addresses.has_fresh_name.Goals as goal

pub returns-then-is_plain : goal.returns-then-is_plain
returns-then-is_plain c =
    let read = is_read_as_written c.written_name-name.result.now c.written_name-name.utf8 (sym c.is_plain.ensures ∙ c.if-is_plain.true) in
    c.is_fresh.ensures ∙ ap (is_one_of c.args.fresh.now) (sym read ∙ ap (λ l. utf8_lossy (decode l)) c.written_name-name.ensures)
