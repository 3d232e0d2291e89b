-- Which fault an input has that is no page, and its code: this project's own order. Each node has at most one fault of
-- its own, by the order of the checks there, and the fault of the input is the first one in document order, a node
-- before its children.
use Rattle.std.specs.Prelude.{◌≡◌, ◌≢◌, MatchResult, ℕ, zero, suc, List, [], ◌∷◌, ◌++◌, false, nat_lt, Option, Some, None, is_some, Result, Ok, Err, codes}
use Rattle.std.specs.Option.{option_or, option_map_or}
use Rattle.std.specs.Result.{result_ok}
use Rattle.serde_json.specs.Data.{Data, string, array, object, Items, no_items, item, Members, no_members, member}
use Rattle.serde_json.specs.Find.{as_object}
use Rattle.page_tree.specs.Name.{is_name}
use Rattle.page_tree.specs.Tree.{Attribute, Tree, element, words, Trees, no_trees, tree}
use Rattle.page_tree.specs.Limits.{max_depth, max_nodes, have_ascending_names}
use Rattle.page_tree.specs.Value.{name_in, attributes_in, children_in, tree_in}
use Rattle.page_tree.specs.FirstFault.{unless, ok_unless}
use Rattle.page_tree.specs.declared.fault.PageFault.{PageFault}
use Rattle.page_tree.specs.declared.fault.PageFault.TheVariants.{NotAnElement, BadName, BadAttribute, BadChildren, TooDeep, TooMany, NoMemory}

-- ---- the first of many

-- The first fault of nodes in document order, of which each has its own or none, where so many nodes stand before them.
-- Being one node too many (P6) comes before a node's own fault.
abbrev pub first_fault : ℕ → List (Option PageFault) → Option PageFault
first_fault before [] = None
first_fault before (own ∷ rest) =
    option_or (unless (nat_lt before max_nodes) TooMany own) (first_fault (suc before) rest)

-- ---- a JSON value

-- a node's own fault: a string has none, an object that is no element has P5, P2, P3 or P4, the first in this order,
-- and nothing else is a node (P4)
abbrev pub own_fault : ℕ → Data → Option PageFault
own_fault levels (string text) = None
own_fault levels (object ms) = unless (nat_lt 0 levels) TooDeep
    (unless (option_map_or is_name (name_in (object ms)) false) BadName
    (unless (option_map_or have_ascending_names (attributes_in (object ms)) false) BadAttribute
    (unless (is_some (children_in (object ms))) BadChildren None)))
own_fault levels other = Some BadChildren

-- those of several values, in document order
abbrev pub all_faults : (Data → List (Option PageFault)) → Items → List (Option PageFault)
all_faults one no_items = []
all_faults one (item d ds) = one d ++ all_faults one ds

-- those of a value's nodes, where so many levels of elements are left for it
unfoldable pub value_faults : ℕ → Data → List (Option PageFault)
value_faults zero d = own_fault zero d ∷ []
value_faults (suc levels) d =
    own_fault (suc levels) d ∷ option_map_or (all_faults (value_faults levels)) (children_in d) []

-- the fault of a value that stands for no page; one that is no object is P1
abbrev pub fault_of_value : Data → Option PageFault
fault_of_value d = unless (is_some (as_object d)) NotAnElement (first_fault 0 (value_faults max_depth d))

-- the page that a value stands for, or its fault
unfoldable pub page_or_fault : Data → Result Tree PageFault
page_or_fault d = ok_unless (fault_of_value d) (tree_in max_depth d)

unfoldable pub page_in : Data → Option Tree
page_in d = result_ok (page_or_fault d)

-- ---- what the code answers of a value, want of memory left aside

-- the page that the value stands for; a fault where it stands for none
abbrev pub FindsPage : Data → Result Tree PageFault → Type 0
FindsPage d said = MatchResult said (λ page. page_in d ≡ Some page) (λ e. e ≢ NoMemory → page_in d ≡ None)

abbrev pub GivesPage : Result Tree PageFault → Result Tree PageFault → Type 0
GivesPage (Ok page) said = said ≡ Ok page
GivesPage (Err NoMemory) said = Unit {0}
GivesPage (Err fault) said = said ≡ Err fault

-- ---- a tree

abbrev pub attribute_members : List Attribute → Members
attribute_members [] = no_members
attribute_members (a ∷ rest) = member a.0 (string a.1) (attribute_members rest)

abbrev mutual
  -- the value that stands for a tree
  pub data_of : Tree → Data
  data_of (words text) = string text
  data_of (element name attributes children) = object
      (member (codes "n") (string name) (member (codes "a") (object (attribute_members attributes))
      (member (codes "c") (array (data_of_all children)) no_members)))

  pub data_of_all : Trees → Items
  data_of_all no_trees = no_items
  data_of_all (tree t ts) = item (data_of t) (data_of_all ts)

-- the fault of a tree that is no page: that of its value; so a text is P1
abbrev pub fault_of_tree : Tree → Option PageFault
fault_of_tree t = fault_of_value (data_of t)

-- ---- its code

abbrev pub page_fault_code : PageFault → List ℕ
page_fault_code NotAnElement = codes "P1"
page_fault_code BadName = codes "P2"
page_fault_code BadAttribute = codes "P3"
page_fault_code BadChildren = codes "P4"
page_fault_code TooDeep = codes "P5"
page_fault_code TooMany = codes "P6"
page_fault_code NoMemory = codes "P7"
