use Rattle.std.proofs.Common.{◌<◌, ℕ, length}
use Rattle.site_hooks.specs.Sets.{Has, IsOfBits}
use Rattle.site_hooks.proofs.WordNotes.{NotedBut}
use Rattle.site_hooks.proofs.findings.Findings.note_each.Given as goal

abbrev pub invariant-loop-left : goal.invariant-loop-left
invariant-loop-left l = record {
  noted : NotedBut l.index l.bits l.at l.left l.fn.self l.self;
  reached : (k : ℕ) → IsOfBits l.index l.left k → k < length l.self.found.items → Has l.self.reached.items k;
}

abbrev pub decreases-loop-left : goal.decreases-loop-left
decreases-loop-left l = l.left
