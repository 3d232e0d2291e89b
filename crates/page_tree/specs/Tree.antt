-- A page as a plain tree (XPath 1.0, section 5): what every contract sees of a `Page`.
use Rattle.std.specs.Prelude.{ℕ, List}

abbrev pub Attribute : Type 0
Attribute = List ℕ × List ℕ

mutual
  -- an element with its name, its attributes and its children, or a text
  pub data Tree : Type 0 where
    element : List ℕ → List Attribute → Trees → Tree
    words : List ℕ → Tree

  -- children, in document order
  pub data Trees : Type 0 where
    no_trees : Trees
    tree : Tree → Trees → Trees
