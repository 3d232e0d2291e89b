use Rattle.std.proofs.Common.{◌≡◌, length, take}
use Rattle.site_hooks.specs.Findings.{Grows}
use Rattle.site_hooks.proofs.EndLaws.{NotedFor}
use Rattle.site_hooks.proofs.walk.Walk.note.Given as goal

abbrev pub invariant-loop-word : goal.invariant-loop-word
invariant-loop-word l = record {
  len : length l.found.found.items ≡ length l.self.paths.now;
  grows : Grows l.self.page.now l.self.paths.now l.fn.found l.found;
  noted : NotedFor l.self l.at l.alive (take l.word-index l.words) l.found;
}
