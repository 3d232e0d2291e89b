use Rattle.site_file.proofs.AddedLaws.{line_wrong}
use Rattle.site_file.proofs.file.add_one.Goals as goal

pub returns-in-Err : goal.returns-in-Err
returns-in-Err c = rw c.nothing_added.ensures (line_wrong c.args.number c.args.line.now c.in-Err.none c.args.growing.now c.add_text.new.growing c.in-Err.ensures)
