-- What a text has wrong is never want of memory.
use Rattle.std.proofs.Common.{◌≡◌, ◌≢◌, ℕ, suc, ◌+◌, ◌==◌, List, [], ◌∷◌, map, drop, length, nat_lt, Bool, true, false, Option, Some, None, Err}
use Rattle.std.specs.Option.{option_map_or, IfSome}
use Rattle.page_tree.specs.Limits.{max_depth}
use Rattle.std.specs.Option.{option_or}
use Rattle.page_tree.specs.FirstFault.{unless, ok_unless}
use Rattle.xpath_child.specs.Fault.{fault_at, is_test, is_closed_index, test_part, index_part, text_fault, first_step_fault, written_steps, path_fault, step_in, path_in}
use Rattle.xpath_child.specs.declared.fault.PathFault.{PathFault}
use Rattle.xpath_child.specs.declared.fault.PathFaultKind.TheVariants.{NotAbsolute, EmptyStep, BadName, BadIndex, TooManySteps, NoMemory}

-- no fault, or a real one
abbrev IsReal : Option PathFault → Type 0
IsReal fault = IfSome fault (λ f. f.kind ≢ NoMemory)

unless_real : (test : Bool) (fault : PathFault) (later : Option PathFault) → fault.kind ≢ NoMemory → IsReal later → IsReal (unless test fault later)
unless_real true fault later real rest = rest
unless_real false fault later real rest = real

option_or_real : (first later : Option PathFault) → IsReal first → IsReal later → IsReal (option_or first later)
option_or_real None later real rest = rest
option_or_real (Some fault) later real rest = real

step_real : (start : ℕ) (text : List ℕ) → IsReal (text_fault start text)
step_real start text =
    unless_real (nat_lt 0 (length text)) (fault_at start EmptyStep) _ (λ is. cc)
    (unless_real (is_test (test_part text)) (fault_at start BadName) _ (λ is. cc)
    (unless_real (option_map_or is_closed_index (index_part text) true) (fault_at (start + length (test_part text)) BadIndex) None (λ is. cc) tt))

first_real : (before start : ℕ) (texts : List (List ℕ)) → IsReal (first_step_fault before start texts)
first_real before start [] = tt
first_real before start (text ∷ rest) =
    unless_real (nat_lt before max_depth) (fault_at start TooManySteps) _ (λ is. cc) (option_or_real (text_fault start text) _ (step_real start text) (first_real (suc before) (start + length text + 1) rest))

text_real : (text : List ℕ) → IsReal (path_fault text)
text_real [] = λ is. cc
text_real (c ∷ rest) = unless_real (c == 47) (fault_at 0 NotAbsolute) _ (λ is. cc) (first_real 0 1 (written_steps rest))

was_fault : {A : Type 0} (first : Option PathFault) (x : A) (fault : PathFault) → IsReal first → ok_unless first x ≡ Err fault → fault.kind ≢ NoMemory
was_fault None x fault real is = cc
was_fault (Some f) x fault real is = let same : f ≡ fault = cc in rw same at real

-- So the fault of a text that no path has is a real one.
pub path_fault_real : (text : List ℕ) (fault : PathFault) → path_in text ≡ Err fault → fault.kind ≢ NoMemory
path_fault_real text fault is = was_fault (path_fault text) (map step_in (written_steps (drop 1 text))) fault (text_real text) is
