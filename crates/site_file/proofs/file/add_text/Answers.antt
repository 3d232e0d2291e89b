use Rattle.std.proofs.lemmas.Result.{err_from_is_err_and}
use Rattle.json_document.specs.Standing.{data_of}
use Rattle.site_file.proofs.AddedLaws.{text_unread, text_read}
use Rattle.site_file.proofs.file.add_text.Goals as goal

pub returns-in_err-document : goal.returns-in_err-document
returns-in_err-document c =
    let p = err_from_is_err_and c.from_residual.result c.from_residual.ensures.1 in
    rw (p.1, p.2) (text_unread data_of c.args.line.now c.in_err-document.field-0.0 c.args.growing.now c.in_err-document.ensures)

pub returns : goal.returns
returns c = text_read c.args.line.now (data_of c.in_ok-document.document) (data_of c.root.result) c.args.growing.now c.add_line.new.site c.add_line.result c.in_ok-document.ensures c.root.ensures c.add_line.ensures
