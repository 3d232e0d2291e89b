use Rattle.std.proofs.lemmas.Result.{on_ok_weaker}
use Rattle.markup.specs.Drawing.{facets_seen}
use Rattle.page_drawing.proofs.Adds.{begins}
use Rattle.page_drawing.proofs.notes.begin.Goals as goal

pub returns : goal.returns
returns c = on_ok_weaker c.open.result (begins _ _ c.args.layout (facets_seen c.args.facets.now)) c.open.ensures
