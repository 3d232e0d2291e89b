use Rattle.std.proofs.Common.{◌≡◌, All, length, take}
use Rattle.page_tree.specs.Tree.{Tree}
use Rattle.visit_replay.specs.inside.Deeds.{IsDeedOn, text_behind, is_on_behind}
use Rattle.visit_replay.specs.inside.KeptFields.{Hold}
use Rattle.visit_replay.proofs.fields.Fields.take_all.Given as goal

abbrev pub invariant-loop-place : goal.invariant-loop-place
invariant-loop-place l = record {
  held : (page : Tree) → All (IsDeedOn page) l.deeds.items → Hold l.fn.self page (text_behind page (take l.from l.deeds.items)) (is_on_behind page (take l.from l.deeds.items))
      → Hold l.self page (text_behind page (take l.place l.deeds.items)) (is_on_behind page (take l.place l.deeds.items));
  long : length l.self.texts.items ≡ length l.fn.self.texts.items;
  wide : length l.self.turned.items ≡ length l.fn.self.turned.items;
}
