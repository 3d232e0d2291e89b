use Rattle.std.proofs.Common.{sym, ◌∙◌, ap}
use Rattle.byte_streams.specs.Reading.{uncut_bytes}
use Rattle.byte_streams.proofs.lines.Lines.uncut.Goals as goal

pub returns : goal.returns
returns g c = c.kept.ensures ∙ sym c.self.invariant.2 ∙ ap uncut_bytes c.self.view_is
