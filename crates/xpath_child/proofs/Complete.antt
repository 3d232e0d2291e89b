-- The text of a path has no fault, and the path is the one that is read in it.
use Rattle.std.proofs.Common.{◌≡◌, ℕ, suc, ◌+◌, ◌<◌, ◌≤◌, ◌^◌, ◌==◌, Bool, true, false, not, cond, eqb, List, [], ◌∷◌, ◌++◌, map, length, take, drop, get_or, Ok, IsTrue, Option, Some, None, option_map, unwrap_or, codes, decimal, bytes_eq, refl, sym, ◌∙◌, ap, arith, lt-ltb}
use Rattle.std.specs.Option.{option_map_or, IfSome}
use Rattle.std.specs.List.{list_all, position_or_len, AllByRecursion}
use Rattle.std.specs.Char.{is_ascii_digit}
use Rattle.std.specs.Str.Parse.{digits_value}
use Rattle.std.proofs.Math.Seq.{take-append_seam, take-length}
use Rattle.std.proofs.lemmas.Bool.Decides.{nat_tests}
use Rattle.std.proofs.lemmas.Bool.{and_from, or_right, false_from_ne_true, ne_eqb, le-leb, le-ltb, not_from_false}
use Rattle.std.proofs.lemmas.List.{append-nil, length-append}
use Rattle.std.proofs.lemmas.List.Elements.{All-from_recursion}
use Rattle.std.proofs.lemmas.List.Splits.{slice_split_none, slice_split_at}
use Rattle.std.proofs.lemmas.Slice.Eq.{bytes_eq-Decides}
use Rattle.std.proofs.lemmas.Fmt.{decimal_nonempty, length-decimal-le, first_decimal, digits_decimal, digits_value-decimal}
use Rattle.page_tree.specs.Name.{is_name, is_name_part}
use Rattle.page_tree.specs.Limits.{max_depth}
use Rattle.xpath_child.specs.Path.{Step, IsStep, IsPath, index_text, step_text, path_text}
use Rattle.page_tree.specs.FirstFault.{ok_unless}
use Rattle.xpath_child.specs.Fault.{test_part, index_part, is_test, is_index, front, is_closed_index, text_fault, first_step_fault, written_steps, path_fault, test_in, step_in, path_in}
use Rattle.xpath_child.proofs.Index.{own, front-close, is_closed_index-close}
use Rattle.page_tree.proofs.FirstFault.{none-unless, none-option_or}

-- ---- bytes that don't stand in a step

abbrev pub Lacks : ℕ → List ℕ → Type 0
Lacks mark bs = AllByRecursion (λ b. eqb b mark ≡ false) bs

lacks_append : (mark : ℕ) (xs ys : List ℕ) → Lacks mark xs → Lacks mark ys → Lacks mark (xs ++ ys)
lacks_append mark [] ys h l = l
lacks_append mark (x ∷ xs) ys h l = (h.0, lacks_append mark xs ys h.1 l)

-- a test that the mark fails, and each byte passes
lacks_failed : (test : ℕ → Bool) (mark : ℕ) → test mark ≡ false → (bs : List ℕ) → list_all test bs ≡ true → Lacks mark bs
lacks_failed test mark fails [] h = tt
lacks_failed test mark fails (b ∷ bs) h = grind (arith, nat_tests, lacks_failed test mark fails bs)

pub name_parts : (name : List ℕ) → is_name name ≡ true → list_all is_name_part name ≡ true
name_parts [] h = cc
name_parts (c ∷ cs) h = grind arith

test_lacks : (mark : ℕ) → is_name_part mark ≡ false → eqb 42 mark ≡ false → (test : Option (List ℕ)) → IfSome test (λ name. IsTrue (is_name name)) → Lacks mark (unwrap_or test (codes "*"))
test_lacks mark fails star None h = (star, tt)
test_lacks mark fails star (Some name) h = lacks_failed is_name_part mark fails name (name_parts name h)

digits_of : (n : ℕ) → n < 10 ^ 9 → list_all is_ascii_digit (decimal n) ≡ true
digits_of n h = digits_decimal own n (omega (arith, h))

index_lacks : (index : Option ℕ) → IfSome index (λ n. (1 ≤ n) × (n < 10 ^ 9)) → Lacks 47 (index_text index)
index_lacks None h = tt
index_lacks (Some n) h = (refl, lacks_append 47 (decimal n) (93 ∷ []) (lacks_failed is_ascii_digit 47 refl (decimal n) (digits_of n h.1)) (refl, tt))

step_lacks : (step : Step) → IsStep step → Lacks 47 (step_text step)
step_lacks step h = lacks_append 47 (unwrap_or step.test (codes "*")) (index_text step.index) (test_lacks 47 refl refl step.test h.test) (index_lacks step.index h.index)

-- ---- a step is cut where it was joined

position_none : (bs : List ℕ) → Lacks 91 bs → position_or_len (λ c. c == 91) bs ≡ length bs
position_none [] h = refl
position_none (b ∷ bs) h = ap (λ t. cond (not t) (1 + position_or_len (λ c. c == 91) bs) 0) h.0 ∙ ap (λ n. 1 + n) (position_none bs h.1) ∙ omega arith

position_at : (bs rest : List ℕ) → Lacks 91 bs → position_or_len (λ c. c == 91) (bs ++ 91 ∷ rest) ≡ length bs
position_at [] rest h = refl
position_at (b ∷ bs) rest h = ap (λ t. cond (not t) (1 + position_or_len (λ c. c == 91) (bs ++ 91 ∷ rest)) 0) h.0 ∙ ap (λ n. 1 + n) (position_at bs rest h.1) ∙ omega arith

drop_seam : (bs : List ℕ) (b : ℕ) (rest : List ℕ) → drop (length bs + 1) (bs ++ b ∷ rest) ≡ rest
drop_seam [] b rest = refl
drop_seam (c ∷ bs) b rest =
    let e : length (c ∷ bs) + 1 ≡ suc (length bs + 1) = omega arith in
    ap (λ n. drop n (c ∷ bs ++ b ∷ rest)) e ∙ drop_seam bs b rest

-- what stands after the `[` of an index
abbrev after_bracket : Option ℕ → Option (List ℕ)
after_bracket index = option_map (λ n. decimal n ++ 93 ∷ []) index

module _ (bs : List ℕ) (lacks : Lacks 91 bs) where
  test_part-joined : (index : Option ℕ) → test_part (bs ++ index_text index) ≡ bs
  test_part-joined None = ap test_part (append-nil bs) ∙ ap (λ n. take n bs) (position_none bs lacks) ∙ take-length bs
  test_part-joined (Some n) = ap (λ k. take k (bs ++ index_text (Some n))) (position_at bs (decimal n ++ 93 ∷ []) lacks) ∙ take-append_seam bs (index_text (Some n))

  index_part-joined : (index : Option ℕ) → index_part (bs ++ index_text index) ≡ after_bracket index
  index_part-joined None = rw (append-nil bs, position_none bs lacks, le-ltb (length bs) (length bs) (omega arith)) refl
  index_part-joined (Some n) =
      let at = position_at bs (decimal n ++ 93 ∷ []) lacks in
      let inside : length bs < length (bs ++ index_text (Some n)) = omega (arith, length-append bs (index_text (Some n))) in
      rw (at, lt-ltb _ _ inside) (ap Some (drop_seam bs 91 (decimal n ++ 93 ∷ [])))

-- ---- a step has no fault of its own, and is read back

test_complete : (test : Option (List ℕ)) → IfSome test (λ name. IsTrue (is_name name)) → (is_test (unwrap_or test (codes "*")) ≡ true) × (test_in (unwrap_or test (codes "*")) ≡ test)
test_complete None h = (refl, refl)
test_complete (Some name) h =
    let other : bytes_eq name (codes "*") ≡ false =
    false_from_ne_true _ (λ e. let clash : true ≡ false = sym h ∙ ap is_name ((bytes_eq-Decides name (codes "*")).0 e) in cc) in
    (or_right (bytes_eq name (codes "*")) (is_name name) h, ap (λ b. cond b None (Some name)) other)

index_complete : (n : ℕ) → 1 ≤ n → n < 10 ^ 9 → is_index (decimal n) ≡ true
index_complete n low high =
    let small : n < 2 ^ 64 = omega (arith, high) in
    let first = first_decimal n (omega (arith, low)) small in
    and_from _ _
    (and_from _ _ (and_from _ _ (lt-ltb 0 (length (decimal n)) (decimal_nonempty n small)) (le-leb (length (decimal n)) 9 (length-decimal-le 9 n (omega arith) (omega (arith, high)) small))) (digits_of n high))
    (not_from_false _ (ne_eqb (get_or (decimal n) 0 0) 48 (λ e. omega (arith, first, e))))

part_complete : (index : Option ℕ) → IfSome index (λ n. (1 ≤ n) × (n < 10 ^ 9))
    → (option_map_or is_closed_index (after_bracket index) true ≡ true) × (option_map (λ r. digits_value 10 (front r)) (after_bracket index) ≡ index)
part_complete None h = (refl, refl)
part_complete (Some n) h = (
  is_closed_index-close (decimal n) ∙ index_complete n h.0 h.1,
  ap Some (ap (digits_value 10) (front-close (decimal n)) ∙ digits_value-decimal own n (omega (arith, h.1))),
)

module _ (step : Step) (is : IsStep step) where
  lacks : Lacks 91 (unwrap_or step.test (codes "*"))
  lacks = test_lacks 91 refl refl step.test is.test

  cut_test : test_part (step_text step) ≡ unwrap_or step.test (codes "*")
  cut_test = test_part-joined (unwrap_or step.test (codes "*")) lacks step.index

  cut_index : index_part (step_text step) ≡ after_bracket step.index
  cut_index = index_part-joined (unwrap_or step.test (codes "*")) lacks step.index

  some_test : (test : Option (List ℕ)) → IfSome test (λ name. IsTrue (is_name name)) → 0 < length (unwrap_or test (codes "*"))
  some_test None h = omega arith
  some_test (Some []) h = cc
  some_test (Some (c ∷ cs)) h = omega arith

  pub step_complete : (start : ℕ) → text_fault start (step_text step) ≡ None
  step_complete start =
      none-unless _ _ _ (lt-ltb 0 (length (step_text step)) (omega (arith, length-append (unwrap_or step.test (codes "*")) (index_text step.index), some_test step.test is.test)))
      (none-unless _ _ _ (ap is_test cut_test ∙ (test_complete step.test is.test).0)
      (none-unless _ _ _ (ap (λ o. option_map_or is_closed_index o true) cut_index ∙ (part_complete step.index is.index).0) refl))

  pub step_back : step_in (step_text step) ≡ step
  step_back = rw (cut_test, (test_complete step.test is.test).1, cut_index, (part_complete step.index is.index).1) refl

-- ---- a path's text

written_back : (step : Step) (path : List Step) → AllByRecursion IsStep (step ∷ path) → written_steps (step_text step ++ path_text path) ≡ map step_text (step ∷ path)
written_back step [] h = ap written_steps (append-nil (step_text step)) ∙ slice_split_none (λ c. c == 47) (step_text step) (All-from_recursion _ _ (step_lacks step h.0))
written_back step (next ∷ path) h =
    slice_split_at (λ c. c == 47) (step_text step) 47 (step_text next ++ path_text path) (All-from_recursion _ _ (step_lacks step h.0)) refl
    ∙ ap (λ ts. step_text step ∷ ts) (written_back next path h.1)

texts_complete : (before start : ℕ) (path : List Step) → AllByRecursion IsStep path → before + length path ≤ max_depth → first_step_fault before start (map step_text path) ≡ None
texts_complete before start [] each few = refl
texts_complete before start (step ∷ path) each few =
    none-unless _ _ _ (lt-ltb before max_depth (omega (arith, few)))
    (none-option_or _ _ (step_complete step each.0 start) (texts_complete (suc before) (start + length (step_text step) + 1) path each.1 (omega (arith, few))))

steps_back : (path : List Step) → AllByRecursion IsStep path → map step_in (map step_text path) ≡ path
steps_back [] each = refl
steps_back (step ∷ path) each = ap (λ s. s ∷ map step_in (map step_text path)) (step_back step each.0) ∙ ap (λ p. step ∷ p) (steps_back path each.1)

pub path_complete : (path : List Step) → IsPath path → path_in (path_text path) ≡ Ok path
path_complete [] h = absurd (omega (arith, h.some))
path_complete (step ∷ path) h =
    let rest = step_text step ++ path_text path in
    let texts = written_back step path h.each in
    let none : path_fault (47 ∷ rest) ≡ None = ap (first_step_fault 0 1) texts ∙ texts_complete 0 1 (step ∷ path) h.each (omega (arith, h.few)) in
    ap (λ f. ok_unless f (map step_in (written_steps rest))) none ∙ ap Ok (ap (map step_in) texts ∙ steps_back (step ∷ path) h.each)
