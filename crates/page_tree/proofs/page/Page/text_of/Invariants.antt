use Rattle.std.proofs.Common.{◌≡◌, ◌-◌, ◌++◌, string_bytes}
use Rattle.page_tree.specs.Look.{text_at}
use Rattle.page_tree.specs.Number.{place_numbered}
use Rattle.page_tree.specs.inside.TextWalk.{texts_in}
use Rattle.page_tree.proofs.page.Page.text_of.Given as goal

abbrev pub invariant-loop-below : goal.invariant-loop-below
invariant-loop-below l = string_bytes l.joined ++ texts_in l.self l.below (l.below-end - l.below) ≡ text_at (place_numbered l.number l.self) l.self
