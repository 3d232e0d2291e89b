-- The first fault of a value's nodes, in front of those of later ones: by what the checks of its first node said.
use Rattle.std.proofs.Common.{◌≡◌, ℕ, zero, suc, ◌-◌, ◌<◌, ◌≤◌, List, [], ◌∷◌, ◌++◌, IsSome, true, false, Option, Some, None, Result, Ok, Err, refl, ◌∙◌, arith, sub-one, append-nil}
use Rattle.std.specs.Option.{option_map_or}
use Rattle.std.proofs.lemmas.Bool.{lt-ltb, le-ltb}
use Rattle.serde_json.specs.Data.{Data, string, object, Items, Members}
use Rattle.serde_json.specs.Find.{as_str, as_object}
use Rattle.page_tree.specs.Name.{is_name}
use Rattle.page_tree.specs.Tree.{Attribute}
use Rattle.page_tree.specs.Limits.{max_depth, max_nodes, have_ascending_names}
use Rattle.page_tree.specs.Value.{name_in, attributes_in, children_in}
use Rattle.page_tree.specs.Fault.{first_fault, own_fault, all_faults, value_faults, fault_of_value}
use Rattle.page_tree.specs.inside.Reading.{Judges}
use Rattle.page_tree.specs.declared.fault.PageFault.{PageFault}
use Rattle.page_tree.specs.declared.fault.PageFault.TheVariants.{BadName, BadAttribute, BadChildren, TooDeep, TooMany}

pub is_string : (d : Data) (text : List ℕ) → as_str d ≡ Some text → d ≡ string text
is_string (string s) text is = cc
is_string d text is = cc

pub is_object : (d : Data) → IsSome (as_object d) → (ms : Members) × (d ≡ object ms)
is_object (object ms) there = (ms, refl)
is_object d there = cc

pub is_object_of : (d : Data) (ms : Members) → as_object d ≡ Some ms → d ≡ object ms
is_object_of (object ns) ms is = cc
is_object_of d ms is = cc

-- a value's first node is the value's own
pub cut : (levels : ℕ) (d : Data) → (rest : List (Option PageFault)) × (value_faults levels d ≡ own_fault levels d ∷ rest)
unfolding value_faults
cut zero d = ([], refl)
cut (suc levels) d = (_, refl)

text_faults : (levels : ℕ) (text : List ℕ) → value_faults levels (string text) ≡ None ∷ []
unfolding value_faults
text_faults zero text = refl
text_faults (suc levels) text = refl

pub many_said : (levels n : ℕ) (d : Data) (later : List (Option PageFault)) → max_nodes ≤ n → first_fault n (value_faults levels d ++ later) ≡ Some TooMany
many_said levels n d later past =
    let (rest, is) = cut levels d in
    rw (is, le-ltb n max_nodes past) refl

pub own_said : (levels n : ℕ) (d : Data) (fault : PageFault) (later : List (Option PageFault)) → n < max_nodes → own_fault levels d ≡ Some fault
    → first_fault n (value_faults levels d ++ later) ≡ Some fault
own_said levels n d fault later few own =
    let (rest, is) = cut levels d in
    rw (is, own, lt-ltb n max_nodes few) refl

pub text_passes : (levels n : ℕ) (text : List ℕ) (later : List (Option PageFault)) → n < max_nodes
    → first_fault n (value_faults levels (string text) ++ later) ≡ first_fault (suc n) later
text_passes levels n text later few = rw (text_faults levels text, lt-ltb n max_nodes few) refl

-- an element without a fault of its own, where a level is left for it
pub object_passes : (levels n : ℕ) (ms : Members) (ds : Items) (later : List (Option PageFault)) → n < max_nodes → 0 < levels
    → own_fault levels (object ms) ≡ None → children_in (object ms) ≡ Some ds
    → first_fault n (value_faults levels (object ms) ++ later) ≡ first_fault (suc n) (all_faults (value_faults (levels - 1)) ds ++ later)
unfolding value_faults
object_passes zero n ms ds later few deep own are = absurd (omega (arith, deep))
object_passes (suc levels) n ms ds later few deep own are = rw (own, are, lt-ltb n max_nodes few) (rw sub-one refl)

-- ---- the own fault of what is no node, and of an element where a level is left for it

none_there : {X : Type 0} (o : Option X) → option_map_or (λ _. true) o false ≡ false → o ≡ None
none_there None bad = refl
none_there (Some x) bad = cc

pub no_node : (levels : ℕ) (d : Data) → as_str d ≡ None → as_object d ≡ None → own_fault levels d ≡ Some BadChildren
no_node levels (string text) none no_object = cc
no_node levels (object ms) none no_object = cc
no_node levels d none no_object = refl

pub too_deep : (d : Data) → IsSome (as_object d) → own_fault 0 d ≡ Some TooDeep
too_deep d there = let (ms, is) = is_object d there in rw is refl

module _ (levels : ℕ) (deep : 0 < levels) where
  pub bad_name : (d : Data) → IsSome (as_object d) → option_map_or is_name (name_in d) false ≡ false → own_fault levels d ≡ Some BadName
  bad_name (object ms) there bad = rw (lt-ltb 0 levels deep, bad) refl
  bad_name d there bad = cc

  module _ (name : List ℕ) (is : is_name name ≡ true) where
    pub bad_attribute : (d : Data) → IsSome (as_object d) → name_in d ≡ Some name → option_map_or have_ascending_names (attributes_in d) false ≡ false
        → own_fault levels d ≡ Some BadAttribute
    bad_attribute (object ms) there named bad = rw (lt-ltb 0 levels deep, named, is, bad) refl
    bad_attribute d there named bad = cc

    module _ (attributes : List Attribute) (ascend : have_ascending_names attributes ≡ true) where
      pub bad_children : (d : Data) → IsSome (as_object d) → name_in d ≡ Some name → attributes_in d ≡ Some attributes
          → option_map_or (λ _. true) (children_in d) false ≡ false → own_fault levels d ≡ Some BadChildren
      bad_children (object ms) there named given bad = rw (lt-ltb 0 levels deep, named, is, given, ascend, none_there (children_in (object ms)) bad) refl
      bad_children d there named given bad = cc

      pub element_passes : (d : Data) → IsSome (as_object d) → name_in d ≡ Some name → attributes_in d ≡ Some attributes → (n : ℕ) (ds : Items)
          (later : List (Option PageFault)) → n < max_nodes → children_in d ≡ Some ds
          → first_fault n (value_faults levels d ++ later) ≡ first_fault (suc n) (all_faults (value_faults (levels - 1)) ds ++ later)
      element_passes (object ms) there named given n ds later few are =
          object_passes levels n ms ds later few deep (rw (lt-ltb 0 levels deep, named, is, given, ascend, are) refl) are
      element_passes d there named given n ds later few are = cc

-- a value that is no text has the fault of its first node
pub of_root : (d : Data) → IsSome (as_object d) → fault_of_value d ≡ first_fault 0 (value_faults max_depth d ++ [])
of_root d there =
    let (ms, is) = is_object d there in
    rw (is, append-nil) refl

-- what was said of some nodes is said of those with the same first fault
pub judged_as : {X : Type 0} (count : X → ℕ) (said : Result X PageFault) (n m : ℕ) (xs ys : List (Option PageFault))
    → ((later : List (Option PageFault)) → first_fault n (xs ++ later) ≡ first_fault m (ys ++ later)) → Judges count said m ys → Judges count said n xs
judged_as count (Ok x) n m xs ys same judged = λ later. same later ∙ judged later
judged_as count (Err e) n m xs ys same judged = λ real later. same later ∙ judged real later
