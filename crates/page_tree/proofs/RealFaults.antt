-- What a value has wrong is never want of memory.
use Rattle.std.proofs.Common.{◌≡◌, ◌≢◌, ℕ, zero, suc, List, [], ◌∷◌, ◌++◌, nat_lt, Bool, true, false, is_some, Option, Some, None, Err, ap, ◌∙◌, append_assoc, append-nil}
use Rattle.std.specs.Option.{option_or, option_map_or}
use Rattle.serde_json.specs.Data.{Data, null, boolean, number, string, array, object, Items, no_items, item}
use Rattle.serde_json.specs.Find.{as_object}
use Rattle.page_tree.specs.Name.{is_name}
use Rattle.page_tree.specs.Tree.{Tree}
use Rattle.page_tree.specs.Limits.{max_depth, max_nodes, names_of, is_ascending}
use Rattle.page_tree.specs.Value.{name_in, attributes_in, children_in, tree_in}
use Rattle.page_tree.specs.FirstFault.{unless, ok_unless}
use Rattle.page_tree.specs.Fault.{first_fault, own_fault, all_faults, value_faults, fault_of_value, page_or_fault}
use Rattle.page_tree.specs.declared.fault.PageFault.{PageFault}
use Rattle.page_tree.specs.declared.fault.PageFault.TheVariants.{NotAnElement, BadName, BadAttribute, BadChildren, TooDeep, TooMany, NoMemory}

-- no fault, or a real one
abbrev IsReal : Option PageFault → Type 0
IsReal fault = fault ≢ Some NoMemory

unless_real : (test : Bool) (fault : PageFault) (later : Option PageFault) → fault ≢ NoMemory → IsReal later → IsReal (unless test fault later)
unless_real true fault later real rest = rest
unless_real false fault later real rest = λ is. real (cc)

option_or_real : (first later : Option PageFault) → IsReal first → IsReal later → IsReal (option_or first later)
option_or_real None later real rest = rest
option_or_real (Some fault) later real rest = real

own_real : (levels : ℕ) (d : Data) → IsReal (own_fault levels d)
own_real levels null = λ is. cc
own_real levels (boolean b) = λ is. cc
own_real levels (number n) = λ is. cc
own_real levels (array ds) = λ is. cc
own_real levels (string text) = λ is. cc
own_real levels (object ms) =
    unless_real (nat_lt 0 levels) TooDeep _ (λ is. cc)
    (unless_real (option_map_or is_name (name_in (object ms)) false) BadName _ (λ is. cc)
    (unless_real (option_map_or (λ attributes. is_ascending (names_of attributes)) (attributes_in (object ms)) false) BadAttribute _ (λ is. cc)
    (unless_real (is_some (children_in (object ms))) BadChildren None (λ is. cc) (λ is. cc))))

first_real : (n : ℕ) (own : Option PageFault) (rest : List (Option PageFault)) → IsReal own → ((m : ℕ) → IsReal (first_fault m rest)) → IsReal (first_fault n (own ∷ rest))
first_real n own rest real later = option_or_real _ _ (unless_real (nat_lt n max_nodes) TooMany own (λ is. cc) real) (later (suc n))

all_real : (one : Data → List (Option PageFault)) (ds : Items) (later : List (Option PageFault)) → ((d : Data) (later : List (Option PageFault))
    → ((m : ℕ) → IsReal (first_fault m later)) → (n : ℕ) → IsReal (first_fault n (one d ++ later)))
    → ((m : ℕ) → IsReal (first_fault m later)) → (n : ℕ) → IsReal (first_fault n (all_faults one ds ++ later))
all_real one no_items later each rest n = rest n
all_real one (item d ds) later each rest n = rw append_assoc (each d (all_faults one ds ++ later) (all_real one ds later each rest) n)

below_real : (levels : ℕ) (o : Option Items) (later : List (Option PageFault)) → ((d : Data) (later : List (Option PageFault))
    → ((m : ℕ) → IsReal (first_fault m later)) → (n : ℕ) → IsReal (first_fault n (value_faults levels d ++ later)))
    → ((m : ℕ) → IsReal (first_fault m later)) → (n : ℕ) → IsReal (first_fault n (option_map_or (all_faults (value_faults levels)) o [] ++ later))
below_real levels None later each rest n = rest n
below_real levels (Some ds) later each rest n = all_real (value_faults levels) ds later each rest n

faults_real : (levels : ℕ) (d : Data) (later : List (Option PageFault)) → ((m : ℕ) → IsReal (first_fault m later)) → (n : ℕ) → IsReal (first_fault n (value_faults levels d ++ later))
unfolding value_faults
faults_real zero d later rest n = first_real n _ later (own_real zero d) rest
faults_real (suc levels) d later rest n =
    first_real n _ _ (own_real (suc levels) d) (below_real levels (children_in d) later (faults_real levels) rest)

value_real : (d : Data) → IsReal (fault_of_value d)
value_real d =
    unless_real (is_some (as_object d)) NotAnElement _ (λ is. cc) (rw append-nil at (faults_real max_depth d [] (λ m is. cc) 0))

said : (fault : Option PageFault) (t : Tree) (e : PageFault) → ok_unless fault t ≡ Err e → fault ≡ Some e
said None t e is = cc
said (Some f) t e is = cc

-- So the fault of a value that stands for no page is a real one.
pub page_fault_real : (d : Data) (fault : PageFault) → page_or_fault d ≡ Err fault → fault ≢ NoMemory
unfolding page_or_fault
page_fault_real d fault is = λ none. value_real d (said (fault_of_value d) (tree_in max_depth d) fault is ∙ ap Some none)
