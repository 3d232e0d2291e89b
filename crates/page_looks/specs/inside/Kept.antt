-- What is kept of a page, and what one more page adds to it.
use Rattle.std.specs.Prelude.{ℕ, List, ◌++◌}
use Rattle.page_tree.specs.Tree.{Tree}
use Rattle.page_looks.specs.inside.Numbers.{AreApart}
use Rattle.page_looks.specs.inside.Shapes.{Knows}
use Rattle.page_looks.specs.inside.Ranks.{IsRanked}
use Rattle.page_looks.specs.inside.Numbering.{KnowsAll}
use Rattle.page_looks.specs.inside.Sends.{AreSent}
use Rattle.page_looks.specs.declared.shapes.Shapes.{Shapes}
use Rattle.page_looks.specs.declared.ranks.Ranked.{Ranked}
use Rattle.page_looks.specs.declared.sent_numbers.SentNumbers.{SentNumbers}

-- the trees that are known are those of the keys, and the page's looks are among them
abbrev pub AreLooksOf : Tree → Shapes → Ranked → Type 0
AreLooksOf t shapes ranked = (known : List Tree) × Knows shapes.texts shapes.keys known × IsRanked t known ranked

-- the same of what its nodes send
abbrev pub AreSendsOf : List (List ℕ) → Tree → Shapes → Ranked → SentNumbers → Type 0
AreSendsOf fresh t shapes ranked sent = (known : List Tree) × Knows shapes.texts shapes.keys known
    × AreSent fresh t known ranked.looks.items sent

-- the looks of a page are known besides
pub record RanksPage (below new : Shapes) (known : List Tree) (t : Tree) (r : Ranked) : Type 0 where
  pub more : List Tree
  pub knows : KnowsAll below new (known ++ more)
  pub ranked : IsRanked t (known ++ more) r

-- and what its nodes send
pub record SendsPage (below new : Shapes) (known : List Tree) (fresh : List (List ℕ)) (t : Tree) (looks : List ℕ)
    (sent : SentNumbers) : Type 0 where
  pub more : List Tree
  pub knows : KnowsAll below new (known ++ more)
  pub holds : AreSent fresh t (known ++ more) looks sent

-- of two pages, the looks by one numbering, and what is sent by another one
abbrev pub AreBeside : List (List ℕ) → Tree → Tree → Ranked → Ranked → SentNumbers → SentNumbers → Type 0
AreBeside fresh old new o w was is =
    ((known : List Tree) × AreApart known × IsRanked old known o × IsRanked new known w)
    × ((known : List Tree) × AreApart known × AreSent fresh old known o.looks.items was
    × AreSent fresh new known w.looks.items is)
