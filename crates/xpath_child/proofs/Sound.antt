-- A text without a fault is the text of the path that is read in it.
use Rattle.std.proofs.Common.{◌≡◌, ℕ, zero, suc, ◌+◌, ◌<◌, ◌≤◌, ◌^◌, ◌==◌, Bool, true, false, cond, ◌||◌, List, [], ◌∷◌, ◌++◌, map, length, take, drop, get_or, Ok, IsTrue, Option, Some, None, option_map, unwrap_or, codes, decimal, flat_map, bytes_eq, refl, sym, ◌∙◌, ap, subst, arith}
use Rattle.std.specs.Option.{option_map_or, IfSome}
use Rattle.std.specs.List.{position, position_or_len, join_with_byte, AllByRecursion}
use Rattle.std.specs.Str.Parse.{digits_value}
use Rattle.std.proofs.Math.Seq.{take_all}
use Rattle.std.proofs.lemmas.Bool.{and_parts, eqb-true, ltb-true, ltb-false}
use Rattle.std.proofs.lemmas.List.{append-nil, at_drop_more, take-append-drop, length-map}
use Rattle.std.proofs.lemmas.List.Quantifiers.{position-Some}
use Rattle.std.proofs.lemmas.List.Splits.{length-slice_split, join_with_byte-slice_split}
use Rattle.std.proofs.lemmas.Slice.Eq.{bytes_eq-Decides}
use Rattle.std.proofs.lemmas.Str.Parse.{digits_value_short}
use Rattle.std.proofs.lemmas.Fmt.{decimal-digits_value, decimal_digit}
use Rattle.page_tree.specs.Name.{is_name}
use Rattle.page_tree.specs.Limits.{max_depth}
use Rattle.page_tree.specs.FirstFault.{ok_unless}
use Rattle.xpath_child.specs.Path.{Step, IsStep, IsPath, index_text, step_text, path_text}
use Rattle.xpath_child.specs.Fault.{fault_at, test_part, index_part, is_test, front, is_closed_index, text_fault, first_step_fault, written_steps, path_fault, test_in, step_in, path_in}
use Rattle.xpath_child.specs.declared.fault.PathFault.{PathFault}
use Rattle.xpath_child.specs.declared.fault.PathFaultKind.TheVariants.{NotAbsolute}
use Rattle.page_tree.proofs.FirstFault.{unless-none, option_or-none}
use Rattle.xpath_child.proofs.Index.{own, IsIndex, index_parts}

-- ---- what the results of tests tell

pub else_none : {A : Type 0} (b : Bool) (y : A) → None ≡ cond b (Some y) None → b ≡ false
else_none true y h = cc
else_none false y h = refl

unless_ok : {A : Type 0} (fault : Option PathFault) (x y : A) → ok_unless fault x ≡ Ok y → (fault ≡ None) × (x ≡ y)
unless_ok None x y h = (refl, cc)
unless_ok (Some e) x y h = cc

-- ---- where a step is cut

pub cond_is : {A : Type 0} (b : Bool) (x y : A) → cond b (Some x) None ≡ Some y → x ≡ y
cond_is true x y h = cc
cond_is false x y h = cc

cut_by : (text : List ℕ) (o : Option ℕ) → position (λ c. c == 91) text ≡ o → text ≡ test_part text ++ option_map_or (λ r. 91 ∷ r) (option_map (λ i. drop (i + 1) text) o) []
cut_by text None e = sym (append-nil (test_part text) ∙ take_all (position_or_len (λ c. c == 91) text) text (ltb-false _ _ (else_none _ _ (sym e))))
cut_by text (Some i) e =
    let found = position-Some (λ c. c == 91) text i 0 e in
    sym (take-append-drop i text) ∙ ap (λ r. take i text ++ r) (at_drop_more (λ l. l) text i 0 found.0 ∙ ap (λ b. b ∷ drop (i + 1) text) (eqb-true _ _ found.1))
    ∙ ap (λ k. take k text ++ 91 ∷ drop (i + 1) text) (sym (cond_is _ _ _ e))

-- a step has no `[`, or it is cut there
pub cut_is : (text : List ℕ) → text ≡ test_part text ++ option_map_or (λ r. 91 ∷ r) (index_part text) []
cut_is text = cut_by text _ refl

-- ---- a step without a fault

test_sound : (text : List ℕ) → is_test text ≡ true → IfSome (test_in text) (λ name. IsTrue (is_name name)) × (unwrap_or (test_in text) (codes "*") ≡ text)
test_sound text h = by (bytes_eq text (codes "*")) refl h
  where
    by : (b : Bool) → bytes_eq text (codes "*") ≡ b → (b || is_name text) ≡ true → IfSome (cond b None (Some text)) (λ name. IsTrue (is_name name)) × (unwrap_or (cond b None (Some text)) (codes "*") ≡ text)
    by true e h = (tt, sym ((bytes_eq-Decides text (codes "*")).0 e))
    by false e h = (h, refl)

index_positive : (ds : List ℕ) → IsIndex ds → decimal (digits_value 10 ds) ≡ ds → 1 ≤ digits_value 10 ds
index_positive ds h same = by (digits_value 10 ds) refl
  where
    by : (n : ℕ) → digits_value 10 ds ≡ n → 1 ≤ digits_value 10 ds
    by zero e = let zeros : 48 ∷ [] ≡ ds = sym (decimal_digit 0 (omega arith)) ∙ ap decimal (sym e) ∙ same in absurd (h.first (ap (λ l. get_or l 0 0) (sym zeros)))
    by (suc n) e = omega (arith, e)

index_sound : (rest : List ℕ) → is_closed_index rest ≡ true
    → (1 ≤ digits_value 10 (front rest)) × (digits_value 10 (front rest) < 10 ^ 9) × (index_text (Some (digits_value 10 (front rest))) ≡ 91 ∷ rest)
index_sound rest h =
    let parts = and_parts _ _ h in
    let digits = index_parts (front rest) parts.0 in
    let small = digits_value_short own (front rest) 9 digits.digits digits.few in
    let same = decimal-digits_value own (front rest) digits.digits digits.some (λ e. absurd (digits.first e)) (omega (arith, small)) in (
      index_positive (front rest) digits same,
      omega (arith, small),
      ap (λ ds. 91 ∷ (ds ++ 93 ∷ [])) same ∙ ap (λ r. 91 ∷ r) (sym ((bytes_eq-Decides rest (front rest ++ codes "]")).0 parts.1)),
    )

module _ (text : List ℕ) where
  part_sound : (rest : Option (List ℕ)) → option_map_or is_closed_index rest true ≡ true
      → IfSome (option_map (λ r. digits_value 10 (front r)) rest) (λ n. (1 ≤ n) × (n < 10 ^ 9)) × (index_text (option_map (λ r. digits_value 10 (front r)) rest) ≡ option_map_or (λ r. 91 ∷ r) rest [])
  part_sound None h = (tt, refl)
  part_sound (Some rest) h = let read = index_sound rest h in ((read.0, read.1), read.2)

  pub step_sound : (start : ℕ) → text_fault start text ≡ None → IsStep (step_in text) × (step_text (step_in text) ≡ text)
  step_sound start h =
      let some = unless-none _ _ _ h in
      let name = unless-none _ _ _ some.1 in
      let index = unless-none _ _ _ name.1 in
      let test = test_sound (test_part text) name.0 in
      let part = part_sound (index_part text) index.0 in (
        record { test = test.0; index = part.0 },
        ap (λ t. t ++ index_text (step_in text).index) test.1 ∙ ap (λ i. test_part text ++ i) part.1 ∙ sym (cut_is text),
      )

-- ---- a text without a fault

texts_sound : (before start : ℕ) (texts : List (List ℕ)) → first_step_fault before start texts ≡ None → AllByRecursion IsStep (map step_in texts) × (path_text (map step_in texts) ≡ flat_map (λ t. 47 ∷ t) texts)
texts_sound before start [] h = (tt, refl)
texts_sound before start (text ∷ texts) h =
    let both = option_or-none _ _ (unless-none _ _ _ h).1 in
    let here = step_sound text start both.0 in
    let there = texts_sound (suc before) (start + length text + 1) texts both.1 in
    ((here.0, there.0), ap (λ t. 47 ∷ t ++ path_text (map step_in texts)) here.1 ∙ ap (λ ts. 47 ∷ text ++ ts) there.1)

texts_few : (before start : ℕ) (texts : List (List ℕ)) → before ≤ max_depth → first_step_fault before start texts ≡ None → before + length texts ≤ max_depth
texts_few before start [] few h = omega (arith, few)
texts_few before start (text ∷ texts) few h =
    let parts = unless-none _ _ _ h in
    let both = option_or-none _ _ parts.1 in
    let room : before < max_depth = ltb-true before max_depth parts.0 in
    let later : suc before + length texts ≤ max_depth = texts_few (suc before) (start + length text + 1) texts (omega (arith, room)) both.1 in
    omega (arith, later)

joined : (texts : List (List ℕ)) → 0 < length texts → flat_map (λ t. 47 ∷ t) texts ≡ 47 ∷ join_with_byte 47 texts
joined [] h = absurd (omega arith)
joined (text ∷ []) h = append-nil (47 ∷ text)
joined (text ∷ next ∷ texts) h = ap (λ ts. 47 ∷ (text ++ ts)) (joined (next ∷ texts) (omega arith))

pub path_sound : (text : List ℕ) → path_fault text ≡ None → IsPath (map step_in (written_steps (drop 1 text))) × (path_text (map step_in (written_steps (drop 1 text))) ≡ text)
path_sound [] h = cc
path_sound (c ∷ rest) h =
    let texts = written_steps rest in
    let both = unless-none (c == 47) (fault_at 0 NotAbsolute) (first_step_fault 0 1 texts) h in
    let some : 0 < length texts = omega (arith, length-slice_split (λ c. c == 47) rest) in
    let sound = texts_sound 0 1 texts both.1 in
    let few = texts_few 0 1 texts (omega arith) both.1 in (
      record { some = omega (arith, some, length-map texts step_in); few = omega (arith, few, length-map texts step_in); each = sound.0 },
      sound.1 ∙ joined texts some ∙ ap (λ t. 47 ∷ t) (join_with_byte-slice_split 47 rest) ∙ ap (λ b. b ∷ rest) (sym (eqb-true c 47 both.0)),
    )

pub path_in-sound : (text : List ℕ) (path : List Step) → path_in text ≡ Ok path → IsPath path × (path_text path ≡ text)
path_in-sound text path h =
    let both = unless_ok (path_fault text) (map step_in (written_steps (drop 1 text))) path h in
    subst (λ p. IsPath p × (path_text p ≡ text)) both.1 (path_sound text both.0)
