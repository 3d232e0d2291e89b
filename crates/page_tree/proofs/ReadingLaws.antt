-- Reading a value into a table: the node that the value stands for is added, and its faults are judged.
use Rattle.std.proofs.Common.{◌≡◌, ℕ, suc, ◌+◌, ◌-◌, ◌<◌, ◌≤◌, List, [], ◌∷◌, ◌++◌, length, get_or, drop, min, true, IsSome, Option, Some, None, Ok, refl, sym, ◌∙◌, ap, arith, length-append, append_assoc, append-nil}
use Rattle.std.proofs.lemmas.List.{at_drop_more, at_drop_all, length-set, get_or_at, set_at}
use Rattle.std.specs.Option.{option_map_or}
use Rattle.serde_json.specs.Data.{Data, string, object, Items, no_items, item, Members}
use Rattle.serde_json.specs.Find.{as_object}
use Rattle.serde_json.specs.Events.{items_len}
use Rattle.serde_json.specs.View.{view, items_view}
use Rattle.serde_json.specs.declared.value.Value.{Value}
use Rattle.page_tree.specs.Tree.{Attribute, Tree, element, words, Trees, no_trees, tree}
use Rattle.page_tree.specs.Name.{is_name}
use Rattle.page_tree.specs.Limits.{max_depth, max_nodes, have_ascending_names, nodes_of_all}
use Rattle.page_tree.specs.Look.{count}
use Rattle.page_tree.specs.Value.{name_in, attributes_in, children_in, AllStandFor, IsPageOf}
use Rattle.page_tree.specs.Fault.{first_fault, all_faults, value_faults, fault_of_value}
use Rattle.page_tree.specs.inside.Table.{Line, line_on, nth_spot, lines_from, lines}
use Rattle.page_tree.specs.inside.Rows.{with_line_end, with_line_children}
use Rattle.page_tree.specs.inside.Reading.{Judges, Adds, AddsAll}
use Rattle.page_tree.specs.declared.rows.Spot.{Spot}
use Rattle.page_tree.specs.declared.fault.PageFault.{PageFault}
use Rattle.page_tree.proofs.Faults.{element_passes, of_root}
use Rattle.page_tree.proofs.ValueLaws.{page_of}
use Rattle.page_tree.proofs.Counting.{nodes-positive, count-nodes}
use Rattle.page_tree.proofs.TableLaws.{lines_from-length}
use Rattle.page_tree.proofs.BuildingLaws.{element_built, one_node}

pub one_row : (old pushed : List Line) (line : Line) → pushed ≡ old ++ line ∷ [] → length pushed ≡ suc (length old)
one_row old pushed line is = ap length is ∙ omega (arith, length-append old (line ∷ []))

stand_many : (vs : List Value) (ts : Trees) → AllStandFor (items_view vs) ts → count ts ≡ length vs
stand_many [] no_trees stand = refl
stand_many [] (tree t ts) stand = absurd stand
stand_many (v ∷ vs) no_trees stand = absurd stand
stand_many (v ∷ vs) (tree t ts) stand = ap suc (stand_many vs ts stand.1)

-- the row of an element, those under it, and its end; the row has the number of its children
element_whole : (d : Data) (ms : Members) (spot : Spot) (number many : ℕ) (old pushed all whole : List Line)
    (name : List ℕ) (attributes : List Attribute) (ds : Items)
    → d ≡ object ms → name_in d ≡ Some name → attributes_in d ≡ Some attributes → children_in d ≡ Some ds
    → number ≡ length old
    → pushed ≡ old ++ line_on (element name attributes no_trees) spot 0 many ∷ []
    → AddsAll ds number pushed all
    → ((ts : Trees) → AllStandFor ds ts → length all ≡ length pushed + nodes_of_all ts → length all ≤ max_nodes → many ≡ count ts)
    → whole ≡ with_line_end number (length all) all
    → Adds d spot old whole
element_whole d ms spot number many old pushed all whole name attributes ds is named given are at push (ts, stand, added, few) counted end =
    let all_length = ap length added ∙ length-append pushed (lines_from number 0 (length pushed) ts) in
    let grown : length all ≡ length pushed + nodes_of_all ts = omega (arith, all_length, lines_from-length number 0 (length pushed) ts) in
    let counts = counted ts stand grown few in
    let size : length whole ≡ length all = ap length end ∙ length-set all number _ in
    record {
      added = element name attributes ts;
      stands = (ms, is, named, given, (ds, are, stand));
      lines = end ∙ element_built name attributes ts spot many number old pushed all counts at push added;
      few = omega (arith, size, few);
    }

pub element_read : (d : Data) (ms : Members) (spot : Spot) (number : ℕ) (old pushed all whole : List Line)
    (name : List ℕ) (attributes : List Attribute) (vs : List Value)
    → d ≡ object ms → name_in d ≡ Some name → attributes_in d ≡ Some attributes → children_in d ≡ Some (items_view vs)
    → number ≡ length old
    → pushed ≡ old ++ line_on (element name attributes no_trees) spot 0 (min (length vs) 4096) ∷ []
    → AddsAll (items_view vs) number pushed all → whole ≡ with_line_end number (length all) all
    → Adds d spot old whole
element_read d ms spot number old pushed all whole name attributes vs is named given are at push adds end =
    element_whole d ms spot number (min (length vs) 4096) old pushed all whole name attributes (items_view vs) is named given are at push adds
    (λ ts stand grown few. omega (arith, stand_many vs ts stand, count-nodes ts, grown, few)) end

-- ---- an element whose children are counted last

stand_counted : (ds : Items) (ts : Trees) → AllStandFor ds ts → count ts ≡ items_len ds
stand_counted no_items no_trees stand = refl
stand_counted no_items (tree t ts) stand = absurd stand
stand_counted (item d ds) no_trees stand = absurd stand
stand_counted (item d ds) (tree t ts) stand = ap suc (stand_counted ds ts stand.1)

row_counted : (old under : List Line) (line : Line) (name : List ℕ) (number many : ℕ) → line.name ≡ Some name → number ≡ length old
    → with_line_children number many ((old ++ line ∷ []) ++ under) ≡ (old ++ record line { children = many } ∷ []) ++ under
row_counted old under line name number many named at =
    ap (with_line_children number many) (append_assoc old (line ∷ []) under)
    ∙ rw (at, get_or_at old line under _ (length old) refl) (set_at old line under _ (length old) refl)
    ∙ ap (λ o. old ++ record line { children = option_map_or (λ _. many) o line.children } ∷ under) named
    ∙ sym (append_assoc old (record line { children = many } ∷ []) under)

pub element_walked : (d : Data) (ms : Members) (spot : Spot) (number many : ℕ) (old pushed all counted whole : List Line)
    (name : List ℕ) (attributes : List Attribute) (ds : Items)
    → d ≡ object ms → name_in d ≡ Some name → attributes_in d ≡ Some attributes → children_in d ≡ Some ds
    → number ≡ length old
    → pushed ≡ old ++ line_on (element name attributes no_trees) spot 0 0 ∷ []
    → AddsAll ds number pushed all → many ≡ items_len ds → counted ≡ with_line_children number many all
    → whole ≡ with_line_end number (length counted) counted
    → Adds d spot old whole
element_walked d ms spot number many old pushed all counted whole name attributes ds is named given are at push (ts, stand, added, few) counts set end =
    let line = line_on (element name attributes no_trees) spot 0 0 in
    let row = old ++ line_on (element name attributes no_trees) spot 0 many ∷ [] in
    let under = lines_from number 0 (length pushed) ts in
    let same : length row ≡ length pushed =
    omega (arith, ap length push, length-append old (line ∷ []), length-append old (line_on (element name attributes no_trees) spot 0 many ∷ [])) in
    let grown = set ∙ ap (with_line_children number many) (added ∙ ap (λ ls. ls ++ under) push) ∙ row_counted old under line name number many refl at
    ∙ ap (λ n. row ++ lines_from number 0 n ts) (sym same) in
    let size : length counted ≡ length all = ap length set ∙ length-set all number _ in
    element_whole d ms spot number many old row counted whole name attributes ds is named given are at refl
    (ts, stand, grown, omega (arith, size, few)) (λ us stand_us _ _. counts ∙ sym (stand_counted ds us stand_us)) end

pub no_child : (parent : ℕ) (table : List Line) → length table ≤ max_nodes → AddsAll no_items parent table table
no_child parent table few = (no_trees, tt, sym (append-nil table), few)

-- an element without a fault of its own, whose row was added
pub element_judged : (levels : ℕ) (d : Data) (old pushed : List Line) (line : Line) (name : List ℕ) (attributes : List Attribute) (ds : Items)
    → 0 < levels → length old < max_nodes → IsSome (as_object d) → (name_in d ≡ Some name) × (is_name name ≡ true)
    → (attributes_in d ≡ Some attributes) × (have_ascending_names attributes ≡ true) → children_in d ≡ Some ds → pushed ≡ old ++ line ∷ []
    → (later : List (Option PageFault)) → first_fault (length old) (value_faults levels d ++ later)
    ≡ first_fault (length pushed) (all_faults (value_faults (levels - 1)) ds ++ later)
element_judged levels d old pushed line name attributes ds deep few there named given are push later =
    element_passes levels deep name named.1 attributes given.1 d there named.0 given.0 (length old) ds later few are
    ∙ ap (λ k. first_fault k (all_faults (value_faults (levels - 1)) ds ++ later)) (sym (one_row old pushed line push))

pub text_read : (d : Data) (text : List ℕ) (spot : Spot) (old new : List Line) → d ≡ string text → length old < 4096
    → new ≡ old ++ line_on (words text) spot (suc (length old)) 0 ∷ [] → Adds d spot old new
text_read d text spot old new is less push =
    let on : length old + 1 ≡ suc (length old) = omega arith in
    record {
      added = words text;
      stands = is;
      lines = push ∙ rw on refl;
      few = omega (arith, one_row old new _ push, less);
    }

-- ---- children, one by one

-- so many children were read, and these are still to come
pub record ReadSoFar (levels parent i : ℕ) (old table : List Line) (items rest : Items) : Type 0 where
  pub behind : i ≤ length table
  pub few : length table ≤ max_nodes
  pub judged : (later : List (Option PageFault)) → first_fault (length table) (all_faults (value_faults levels) rest ++ later)
      ≡ first_fault (length old) (all_faults (value_faults levels) items ++ later)
  pub lines : (ts : Trees) → AllStandFor rest ts → (us : Trees) × AllStandFor items us
      × (table ++ lines_from parent i (length table) ts ≡ old ++ lines_from parent 0 (length old) us)

pub read_step : (levels parent i : ℕ) (old table next : List Line) (items rest : Items) (d : Data)
    → Judges (λ (u : Unit {0}). length next) (Ok tt) (length table) (value_faults levels d) → Adds d (nth_spot parent i) table next
    → ReadSoFar levels parent i old table items (item d rest) → ReadSoFar levels parent (i + 1) old next items rest
read_step levels parent i old table next items rest d judged a s =
    let (many, joined) = one_node table next parent i a.added a.lines in
    record {
      behind = omega (arith, s.behind, many, nodes-positive a.added);
      few = a.few;
      judged = λ later. sym (judged (all_faults (value_faults levels) rest ++ later)) ∙ rw append_assoc at (s.judged later);
      lines = λ ts stand.
          let (us, all, are) = s.lines (tree a.added ts) (a.stands, stand) in
          (us, all, joined ts ∙ are);
    }

pub read_end : (levels parent i : ℕ) (old table : List Line) (items : Items) → ReadSoFar levels parent i old table items no_items → AddsAll items parent old table
read_end levels parent i old table items s =
    let (us, all, are) = s.lines no_trees tt in
    (us, all, sym (append-nil table) ∙ are, s.few)

pub items_next : (vs : List Value) (i : ℕ) (v : Value) → i < length vs → v ≡ get_or vs i v → items_view (drop i vs) ≡ item (view v) (items_view (drop (i + 1) vs))
items_next vs i v less is = at_drop_more items_view vs i v less ∙ ap (λ w. item (view w) (items_view (drop (i + 1) vs))) (sym is)

pub items_end : (vs : List Value) (i : ℕ) → length vs ≤ i → items_view (drop i vs) ≡ no_items
items_end vs i past = at_drop_all items_view vs i past

-- ---- the root

pub root_read : (d : Data) (old new : List Line) → IsSome (as_object d) → old ≡ []
    → Judges (λ (u : Unit {0}). length new) (Ok tt) (length old) (value_faults max_depth d) → Adds d (nth_spot 0 0) old new
    → ((t : Tree) × IsPageOf d t × (new ≡ lines t)) × (fault_of_value d ≡ None)
root_read d old new there empty judged a =
    let none = of_root d there ∙ (rw empty at (judged [])) in
    ((a.added, page_of d a.added a.stands none, rw empty at a.lines), none)
