-- A value has no fault where it stands for a page, and only there; so a tree has none where it is one.
use Rattle.std.proofs.Common.{◌≡◌, ℕ, zero, suc, ◌+◌, ◌-◌, ◌<◌, ◌≤◌, List, [], ◌∷◌, ◌++◌, Bool, true, false, nat_lt, Option, Some, None, is_some, Result, Ok, Err, IfOk, IfErr, ◌≢◌, refl, sym, ◌∙◌, ap, subst, arith, append_assoc, append-nil, add-zero}
use Rattle.std.specs.Option.{option_map_or}
use Rattle.std.proofs.lemmas.Bool.{ltb-true}
use Rattle.serde_json.specs.Data.{Data, string, object, Items, no_items, item, Members}
use Rattle.page_tree.specs.Name.{is_name}
use Rattle.page_tree.specs.Tree.{Attribute, Tree, element, words, Trees, no_trees, tree}
use Rattle.page_tree.specs.Limits.{max_depth, max_nodes, have_ascending_names, depth, depth_of_all, nodes, nodes_of_all, is_element, IsNamed, AreNamed, IsPage}
use Rattle.page_tree.specs.Value.{texts_of, name_in, attributes_in, children_in, StandsFor, AllStandFor, IsPageOf, trees_in, tree_in}
use Rattle.page_tree.specs.FirstFault.{unless}
use Rattle.page_tree.specs.Fault.{first_fault, own_fault, all_faults, value_faults, fault_of_value, attribute_members, data_of, data_of_all, fault_of_tree}
use Rattle.page_tree.specs.inside.Reading.{Judges}
use Rattle.page_tree.specs.declared.fault.PageFault.{PageFault}
use Rattle.page_tree.specs.declared.fault.PageFault.TheVariants.{BadName, BadAttribute, BadChildren, TooDeep, TooMany, NoMemory}
use Rattle.page_tree.proofs.FirstFault.{option_or-none, unless-none}
use Rattle.page_tree.proofs.Faults.{cut, text_passes, object_passes, element_passes, of_root}

-- ---- a value without a fault

test_there : {X : Type 0} (test : X → Bool) (o : Option X) → option_map_or test o false ≡ true → (x : X) × (o ≡ Some x) × (test x ≡ true)
test_there test None passed = cc
test_there test (Some x) passed = (x, refl, passed)

some_there : {X : Type 0} (o : Option X) → is_some o ≡ true → (x : X) × (o ≡ Some x)
some_there None passed = cc
some_there (Some x) passed = (x, refl)

-- it stands for that tree, which is within the limits where n nodes stand before, and nothing behind it has a fault
record Free (levels n : ℕ) (d : Data) (later : List (Option PageFault)) (t : Tree) : Type 0 where
  pub stands : StandsFor d t
  pub deep : depth t ≤ levels
  pub many : n + nodes t ≤ max_nodes
  pub named : IsNamed t
  pub rest : first_fault (n + nodes t) later ≡ None

record AllFree (levels n : ℕ) (ds : Items) (later : List (Option PageFault)) (ts : Trees) : Type 0 where
  pub stand : AllStandFor ds ts
  pub deep : depth_of_all ts ≤ levels
  pub many : n + nodes_of_all ts ≤ max_nodes
  pub named : AreNamed ts
  pub rest : first_fault (n + nodes_of_all ts) later ≡ None

-- the first of some nodes has no fault, then
own_free : (n : ℕ) (own : Option PageFault) (rest : List (Option PageFault)) → first_fault n (own ∷ rest) ≡ None
    → (n < max_nodes) × (own ≡ None) × (first_fault (suc n) rest ≡ None)
own_free n own rest none =
    let here = option_or-none (unless (nat_lt n max_nodes) TooMany own) (first_fault (suc n) rest) none in
    let few = unless-none (nat_lt n max_nodes) TooMany own here.0 in
    (ltb-true n max_nodes few.0, few.1, here.1)

value_free : (levels n : ℕ) (d : Data) (later : List (Option PageFault)) → first_fault n (value_faults levels d ++ later) ≡ None
    → (n < max_nodes) × (own_fault levels d ≡ None)
value_free levels n d later none =
    let (rest, is) = cut levels d in
    let (few, own, behind) = own_free n (own_fault levels d) (rest ++ later) (rw is at none) in
    (few, own)

all_free : (levels : ℕ) → ((n : ℕ) (d : Data) (later : List (Option PageFault)) → first_fault n (value_faults levels d ++ later) ≡ None
    → Free levels n d later (tree_in levels d)) → (n : ℕ) (ds : Items) (later : List (Option PageFault)) → n ≤ max_nodes
    → first_fault n (all_faults (value_faults levels) ds ++ later) ≡ None → AllFree levels n ds later (trees_in (tree_in levels) ds)
all_free levels one n no_items later room none = record { stand = tt; deep = omega arith; many = omega arith; named = tt; rest = rw add-zero none }
all_free levels one n (item d ds) later room none =
    let here = one n d (all_faults (value_faults levels) ds ++ later) (rw append_assoc at none) in
    let there = all_free levels one (n + nodes (tree_in levels d)) ds later here.many here.rest in
    let size : n + nodes (tree_in levels d) + nodes_of_all (trees_in (tree_in levels) ds) ≡ n + (nodes (tree_in levels d) + nodes_of_all (trees_in (tree_in levels) ds)) = omega arith in
    record {
      stand = (here.stands, there.stand);
      deep = omega (arith, here.deep, there.deep);
      many = omega (arith, there.many);
      named = (here.named, there.named);
      rest = rw size at there.rest;
    }

text_tree : (levels : ℕ) (text : List ℕ) → tree_in levels (string text) ≡ words text
unfolding tree_in
text_tree zero text = refl
text_tree (suc levels) text = refl

element_tree : (levels : ℕ) (ms : Members) (name : List ℕ) (attributes : List Attribute) (ds : Items)
    → name_in (object ms) ≡ Some name → attributes_in (object ms) ≡ Some attributes → children_in (object ms) ≡ Some ds
    → tree_in (suc levels) (object ms) ≡ element name attributes (trees_in (tree_in levels) ds)
unfolding tree_in
element_tree levels ms name attributes ds named given are = rw (named, given, are) refl

free : (levels n : ℕ) (d : Data) (later : List (Option PageFault)) → first_fault n (value_faults levels d ++ later) ≡ None → Free levels n d later (tree_in levels d)
free levels n (string text) later none =
    let (few, own) = value_free levels n (string text) later none in
    let on : n + 1 ≡ suc n = omega arith in
    rw (text_tree levels text) (record {
      stands = refl;
      deep = omega arith;
      many = omega (arith, few);
      named = tt;
      rest = rw on (sym (text_passes levels n text later few) ∙ none);
    })
free zero n (object ms) later none =
    let (few, own) = value_free zero n (object ms) later none in
    cc
free (suc levels) n (object ms) later none =
    let (few, own) = value_free (suc levels) n (object ms) later none in
    let deep = unless-none (nat_lt 0 (suc levels)) TooDeep _ own in
    let name_is = unless-none (option_map_or is_name (name_in (object ms)) false) BadName _ deep.1 in
    let ascend = unless-none (option_map_or have_ascending_names (attributes_in (object ms)) false) BadAttribute _ name_is.1 in
    let listed = unless-none (is_some (children_in (object ms))) BadChildren None ascend.1 in
    let (name, named, name_passed) = test_there is_name (name_in (object ms)) name_is.0 in
    let (attributes, given, ascending) = test_there have_ascending_names (attributes_in (object ms)) ascend.0 in
    let (ds, are) = some_there (children_in (object ms)) listed.0 in
    let less : suc levels - 1 ≡ levels = omega arith in
    let under = rw less at (object_passes (suc levels) n ms ds later few (omega arith) own are) in
    let there = all_free levels (free levels) (suc n) ds later (omega (arith, few)) (sym under ∙ none) in
    let on : n + suc (nodes_of_all (trees_in (tree_in levels) ds)) ≡ suc n + nodes_of_all (trees_in (tree_in levels) ds) = omega arith in
    rw (element_tree levels ms name attributes ds named given are) (record {
      stands = (ms, refl, named, given, (ds, are, there.stand));
      deep = omega (arith, there.deep);
      many = omega (arith, there.many);
      named = (name_passed, ascending, there.named);
      rest = rw on there.rest;
    })
free levels n d later none =
    let (few, own) = value_free levels n d later none in
    cc

of_object : (ms : Members) (t : Tree) → StandsFor (object ms) t → is_element t ≡ true
of_object ms (element name attributes children) stands = refl
of_object ms (words text) stands = cc

-- it stands for a page
pub sound : (d : Data) → fault_of_value d ≡ None → IsPageOf d (tree_in max_depth d)
sound (object ms) none =
    let f = free max_depth 0 (object ms) [] (rw append-nil none) in
    record { stands = f.stands; page = record { element = of_object ms _ f.stands; deep = f.deep; many = omega (arith, f.many); named = f.named } }
sound d none = cc

-- ---- a value that stands for a page

mutual
  passes : (t : Tree) (d : Data) (levels n : ℕ) (later : List (Option PageFault)) → StandsFor d t → depth t ≤ levels → n + nodes t ≤ max_nodes → IsNamed t
      → first_fault n (value_faults levels d ++ later) ≡ first_fault (n + nodes t) later
  passes (words text) d levels n later is deep many named =
      let on : n + 1 ≡ suc n = omega arith in
      rw (is, on) (text_passes levels n text later (omega arith))
  passes (element name attributes children) d levels n later (ms, is, named, given, (ds, are, below)) deep many (name_is, ascend, all) =
      let on : suc n + nodes_of_all children ≡ n + suc (nodes_of_all children) = omega arith in
      element_passes levels (omega arith) name name_is attributes ascend d (rw is refl) named given n ds later (omega arith) are
      ∙ all_pass children ds (levels - 1) (suc n) later below (omega arith) (omega arith) all ∙ ap (λ k. first_fault k later) on

  all_pass : (ts : Trees) (ds : Items) (levels n : ℕ) (later : List (Option PageFault)) → AllStandFor ds ts → depth_of_all ts ≤ levels
      → n + nodes_of_all ts ≤ max_nodes → AreNamed ts → first_fault n (all_faults (value_faults levels) ds ++ later) ≡ first_fault (n + nodes_of_all ts) later
  all_pass no_trees no_items levels n later stand deep many named = rw add-zero refl
  all_pass no_trees (item d ds) levels n later stand deep many named = absurd stand
  all_pass (tree t ts) no_items levels n later stand deep many named = absurd stand
  all_pass (tree t ts) (item d ds) levels n later (stands, stand) deep many (is, are) =
      let on : n + nodes t + nodes_of_all ts ≡ n + (nodes t + nodes_of_all ts) = omega arith in
      rw append_assoc (passes t d levels n (all_faults (value_faults levels) ds ++ later) stands (omega arith) (omega arith) is)
      ∙ all_pass ts ds levels (n + nodes t) later stand (omega arith) (omega arith) are ∙ ap (λ k. first_fault k later) on

-- it has no fault
pub complete : (d : Data) (t : Tree) → IsPageOf d t → fault_of_value d ≡ None
complete d (words text) page = let not : false ≡ true = page.page.element in cc
complete d (element name attributes children) page =
    of_root d (rw page.stands.1 refl)
    ∙ passes (element name attributes children) d max_depth 0 [] page.stands page.page.deep (omega (arith, page.page.many)) page.page.named

-- ---- it stands for one page at the most

mutual
  pub stands_once : (t u : Tree) (d : Data) → StandsFor d t → StandsFor d u → t ≡ u
  stands_once (words s) (words r) d is also = let same : string s ≡ string r = cc in cc
  stands_once (words s) (element m ys us) d is (ms, also, named, given, below) = let same : string s ≡ object ms = cc in cc
  stands_once (element n xs ts) (words r) d (ms, is, named, given, below) also = let same : object ms ≡ string r = cc in cc
  stands_once (element n xs ts) (element m ys us) d (ms, is, named, given, (ds, are, below)) (ns, also, named', given', (es, are', below')) =
      let names : n ≡ m = cc (named, named') in
      let attributes : xs ≡ ys = cc (given, given') in
      let items : es ≡ ds = cc (are, are') in
      let children : ts ≡ us = all_stand_once ts us ds below (rw items at below') in
      cc

  all_stand_once : (ts us : Trees) (ds : Items) → AllStandFor ds ts → AllStandFor ds us → ts ≡ us
  all_stand_once no_trees no_trees no_items is also = refl
  all_stand_once no_trees (tree u us) no_items is also = absurd also
  all_stand_once (tree t ts) us no_items is also = absurd is
  all_stand_once no_trees us (item d ds) is also = absurd is
  all_stand_once (tree t ts) no_trees (item d ds) is also = absurd also
  all_stand_once (tree t ts) (tree u us) (item d ds) is also =
      let first : t ≡ u = stands_once t u d is.0 also.0 in
      let rest : ts ≡ us = all_stand_once ts us ds is.1 also.1 in
      cc

-- it is a page, if the value has no fault
pub page_of : (d : Data) (t : Tree) → StandsFor d t → fault_of_value d ≡ None → IsPageOf d t
page_of d t stands none =
    let page = sound d none in
    subst (IsPageOf d) (stands_once (tree_in max_depth d) t d page.stands stands) page

-- ---- trees

pub attributes_stand : (attributes : List Attribute) → texts_of (attribute_members attributes) ≡ Some attributes
attributes_stand [] = refl
attributes_stand (a ∷ rest) = rw (attributes_stand rest) refl

mutual
  data_stands : (t : Tree) → StandsFor (data_of t) t
  data_stands (words text) = refl
  data_stands (element name attributes children) = (_, refl, refl, attributes_stand attributes, (data_of_all children, refl, all_data_stand children))

  all_data_stand : (ts : Trees) → AllStandFor (data_of_all ts) ts
  all_data_stand no_trees = tt
  all_data_stand (tree t ts) = (data_stands t, all_data_stand ts)

pub page_without_fault : (t : Tree) → fault_of_tree t ≡ None → IsPage t
page_without_fault t none = (page_of (data_of t) t (data_stands t) none).page

pub no_fault_of_page : (t : Tree) → IsPage t → fault_of_tree t ≡ None
no_fault_of_page t page = complete (data_of t) t (record { stands = data_stands t; page = page })

-- what was said of a root's nodes
pub judged_root : (t : Tree) (said : Result ℕ PageFault) → is_element t ≡ true → Judges (λ n. n) said 0 (value_faults max_depth (data_of t))
    → IfOk said (λ _. fault_of_tree t ≡ None) × IfErr said (λ e. e ≢ NoMemory → fault_of_tree t ≡ Some e)
judged_root (element name attributes children) (Ok n) is judged = (of_root (data_of (element name attributes children)) refl ∙ judged [], tt)
judged_root (element name attributes children) (Err e) is judged = (tt, λ real. of_root (data_of (element name attributes children)) refl ∙ judged real [])
judged_root (words text) said is judged = cc
