-- What numbering the looks of a page adds to the texts and the keys that are kept.
use Rattle.std.specs.Prelude.{◌≡◌, ℕ, suc, List, [], ◌∷◌, ◌++◌, length, slice_get, Some}
use Rattle.page_tree.specs.Tree.{Attribute, Tree, element, words, Trees}
use Rattle.page_looks.specs.Outline.{outline}
use Rattle.page_looks.specs.inside.Numbers.{AreApart, StandFor}
use Rattle.page_looks.specs.inside.Shapes.{told_texts, listed, Knows}
use Rattle.page_looks.specs.inside.Ranks.{subtrees, subtrees_in}
use Rattle.page_looks.specs.declared.shapes.Shapes.{Shapes}

-- the trees whose keys are kept, of those below and of those added
abbrev pub KnowsAll : Shapes → Shapes → List Tree → Type 0
KnowsAll below own known = Knows (below.texts ++ own.texts) (below.keys ++ own.keys) known

-- the numbers of some texts were pushed
pub record PushesTexts (below old new : Shapes) (key next : List ℕ) (xs : List (List ℕ)) : Type 0 where
  pub numbers : List ℕ
  pub pushed : next ≡ key ++ numbers
  pub more : List (List ℕ)
  pub grown : below.texts ++ new.texts ≡ (below.texts ++ old.texts) ++ more
  pub apart : AreApart (below.texts ++ old.texts) → AreApart (below.texts ++ new.texts)
  pub stand : StandFor (below.texts ++ new.texts) numbers xs
  pub keys : new.keys ≡ old.keys

-- no number was, but further texts are kept
abbrev pub GrowsTexts : Shapes → Shapes → Shapes → Type 0
GrowsTexts below old new = PushesTexts below old new [] [] []

-- how the key of a node begins, of whose elements that is told
abbrev pub key_head : (Tree → List Attribute) → Tree → ℕ
key_head told (element name attributes children) = suc (length (told (element name attributes children)))
key_head told (words text) = 0

abbrev pub key_texts : (Tree → List Attribute) → Tree → List (List ℕ)
key_texts told (element name attributes children) = name ∷ told_texts (told (element name attributes children))
key_texts told (words text) = text ∷ []

-- so begins it
abbrev pub BeginsNode : (Tree → List Attribute) → Shapes → Shapes → Shapes → List ℕ → Tree → Type 0
BeginsNode told below old new key m = PushesTexts below old new (key_head told m ∷ []) key (key_texts told m)

-- the numbers of some outlines were pushed
pub record PushesLooks (below old new : Shapes) (known : List Tree) (looks next : List ℕ) (xs : List Tree) : Type 0
  where
    pub more : List Tree
    pub knows : KnowsAll below new (known ++ more)
    pub texts : List (List ℕ)
    pub grown : below.texts ++ new.texts ≡ (below.texts ++ old.texts) ++ texts
    pub numbers : List ℕ
    pub pushed : next ≡ looks ++ numbers
    pub stand : StandFor (known ++ more) numbers xs

-- those at and under a node, of which this is the number of its own
abbrev pub NumbersNode : (Tree → List Attribute) → Shapes → Shapes → Shapes → List ℕ → List ℕ → ℕ → Tree → Type 0
NumbersNode told below old new looks next n m = (known : List Tree) → KnowsAll below old known
    → (w : PushesLooks below old new known looks next (subtrees (outline told m)))
    × (slice_get (known ++ w.more) n ≡ Some (outline told m))

-- those at and under some outlines, of which the numbers of their own were pushed on a key
abbrev pub NumbersParts : Shapes → Shapes → Shapes → List ℕ → List ℕ → List ℕ → List ℕ → Trees → Type 0
NumbersParts below old new looks next key longer ts = (known : List Tree) → KnowsAll below old known
    → (w : PushesLooks below old new known looks next (subtrees_in ts))
    × ((parts : List ℕ) × (longer ≡ key ++ parts) × StandFor (known ++ w.more) parts (listed ts))
