-- Which path a text has, and which fault a text has that no path has: this project's own rule. The text is cut at each
-- `/`, each step has at most one fault of its own, by the order of the checks there, and the fault of the text is that
-- of the first step that has one.
use Rattle.std.specs.Prelude.{ℕ, suc, ◌+◌, ◌-◌, ◌≡◌, ◌≢◌, MatchResult, List, [], ◌∷◌, ◌++◌, map, length, take, drop, slice_index, Bool, true, ◌&&◌, ◌||◌, not, ◌==◌, if◌then◌else◌, nat_lt, nat_le, Option, Some, None, option_map, Result, Ok, Err, codes}
use Rattle.std.specs.Option.{option_or, option_map_or}
use Rattle.std.specs.List.{list_all, slice_split, before_first, position}
use Rattle.std.specs.Char.{is_ascii_digit}
use Rattle.std.specs.Str.{bytes_eq}
use Rattle.std.specs.Str.Parse.{digits_value}
use Rattle.page_tree.specs.Name.{is_name}
use Rattle.page_tree.specs.Limits.{max_depth}
use Rattle.page_tree.specs.FirstFault.{unless, ok_unless}
use Rattle.xpath_child.specs.Path.{Step, max_index_digits}
use Rattle.xpath_child.specs.declared.fault.PathFault.{PathFault}
use Rattle.xpath_child.specs.declared.fault.PathFaultKind.{PathFaultKind}
use Rattle.xpath_child.specs.declared.fault.PathFaultKind.TheVariants.{NotAbsolute, EmptyStep, BadName, BadIndex, TooManySteps, NoMemory}

abbrev pub fault_at : ℕ → PathFaultKind → PathFault
fault_at at kind = record { at = at; kind = kind }

-- ---- one step as it is written

-- the part up to the first `[`, or to the end
abbrev pub test_part : List ℕ → List ℕ
test_part text = before_first (λ c. c == 91) text

-- what stands after the first `[`, if there is one
abbrev pub index_part : List ℕ → Option (List ℕ)
index_part text = option_map (λ i. drop (i + 1) text) (position (λ c. c == 91) text)

abbrev pub is_test : List ℕ → Bool
is_test text = bytes_eq text (codes "*") || is_name text

-- digits, not too many, the first not 0
abbrev pub is_index : List ℕ → Bool
is_index digits = nat_lt 0 (length digits) && nat_le (length digits) max_index_digits
    && list_all is_ascii_digit digits && not (slice_index digits 0 == 48)

-- all but the last byte
abbrev pub front : List ℕ → List ℕ
front text = take (length text - 1) text

-- an index and a `]`
abbrev pub is_closed_index : List ℕ → Bool
is_closed_index text = is_index (front text) && bytes_eq text (front text ++ codes "]")

-- the fault of a step's own text, which begins at that byte: X2 of an empty one, X3 of its test, X4 of its index
abbrev pub text_fault : ℕ → List ℕ → Option PathFault
text_fault start text = unless (nat_lt 0 (length text)) (fault_at start EmptyStep)
    (unless (is_test (test_part text)) (fault_at start BadName)
    (unless (option_map_or is_closed_index (index_part text) true)
    (fault_at (start + length (test_part text)) BadIndex) None))

-- ---- a text

-- the first fault of steps, before which so many stand and of which the first begins at that byte; X5 of one too many
abbrev pub first_step_fault : ℕ → ℕ → List (List ℕ) → Option PathFault
first_step_fault before start [] = None
first_step_fault before start (text ∷ rest) = unless (nat_lt before max_depth) (fault_at start TooManySteps)
    (option_or (text_fault start text) (first_step_fault (suc before) (start + length text + 1) rest))

-- what stands after a `/`, cut at each further one
abbrev pub written_steps : List ℕ → List (List ℕ)
written_steps rest = slice_split (λ c. c == 47) rest

-- the fault of a text that no path has; X1 where it doesn't begin with `/`
abbrev pub path_fault : List ℕ → Option PathFault
path_fault [] = Some (fault_at 0 NotAbsolute)
path_fault (c ∷ rest) = unless (c == 47) (fault_at 0 NotAbsolute) (first_step_fault 0 1 (written_steps rest))

-- ---- the path that a text without a fault has

abbrev pub test_in : List ℕ → Option (List ℕ)
test_in text = if bytes_eq text (codes "*") then None else Some text

abbrev pub step_in : List ℕ → Step
step_in text =
    record { test = test_in (test_part text); index = option_map (λ r. digits_value 10 (front r)) (index_part text) }

abbrev pub path_in : List ℕ → Result (List Step) PathFault
path_in text = ok_unless (path_fault text) (map step_in (written_steps (drop 1 text)))

-- ---- what the code answers: that, or want of memory, which stands at 0

abbrev pub GivesPath : {X Y : Type 0} → (X → Y) → Result X PathFault → Result Y PathFault → Type 0
GivesPath view given read = MatchResult given (λ x. read ≡ Ok (view x))
    (λ e. (e.kind ≡ NoMemory → e.at ≡ 0) × (e.kind ≢ NoMemory → read ≡ Err e))

-- ---- its code

abbrev pub path_fault_code : PathFaultKind → List ℕ
path_fault_code NotAbsolute = codes "X1"
path_fault_code EmptyStep = codes "X2"
path_fault_code BadName = codes "X3"
path_fault_code BadIndex = codes "X4"
path_fault_code TooManySteps = codes "X5"
path_fault_code NoMemory = codes "X6"
