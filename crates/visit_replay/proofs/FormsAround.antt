-- The nearest form around a node is its parent, if that is one, or else the nearest around its parent.
use Rattle.std.proofs.Common.{◌≡◌, ℕ, zero, suc, ◌+◌, ◌-◌, ◌<◌, ◌≤◌, List, [], ◌∷◌, ◌++◌, filter, length, map, take, Bool, true, false, cond, if◌then◌else◌, Some, None, ◌⊎◌, inl, inr, refl, sym, ap, ap₂, ◌∙◌, arith, length-append, append-nil, zero-add}
use Rattle.std.specs.List.{last_or, range_with_len}
use Rattle.std.proofs.lemmas.List.{map-append, take-append-le}
use Rattle.std.proofs.lemmas.List.Elements.{filter-append}
use Rattle.std.proofs.Math.Seq.{take-length}
use Rattle.page_tree.specs.Tree.{Tree}
use Rattle.page_tree.specs.Limits.{nodes}
use Rattle.page_tree.specs.Number.{place_numbered}
use Rattle.page_tree.specs.Control.{control_at}
use Rattle.page_tree.proofs.NodesUnder.{root_numbered}
use Rattle.page_tree.proofs.Numbers.{range-append}
use Rattle.visit_replay.specs.Aim.{above, form_around, is_form}
use Rattle.visit_replay.proofs.Places.{last_push}

-- the way to a child without its last step
front_of : (p : List ℕ) (i n : ℕ) → n ≤ length p → take n (p ++ i ∷ []) ≡ take n p
front_of p i n within = take-append-le n p (i ∷ []) within

all_of : (p : List ℕ) (i : ℕ) → take (length p) (p ++ i ∷ []) ≡ p
all_of p i = front_of p i (length p) (omega arith) ∙ take-length p

pub above_child : (p : List ℕ) (i : ℕ) → above (p ++ i ∷ []) ≡ p
above_child p i =
    let long : length (p ++ i ∷ []) - 1 ≡ length p = omega (arith, length-append p (i ∷ [])) in
    ap (λ n. take n (p ++ i ∷ [])) long ∙ all_of p i

same_fronts : (p : List ℕ) (i start many : ℕ) → start + many ≤ length p → map (λ n. take n (p ++ i ∷ [])) (range_with_len start many) ≡ map (λ n. take n p) (range_with_len start many)
same_fronts p i start zero within = refl
same_fronts p i start (suc many) within =
    ap₂ (λ (q : List ℕ) (qs : List (List ℕ)). q ∷ qs) (front_of p i start (omega (arith, within))) (same_fronts p i (start + 1) many (omega (arith, within)))

-- the ways to the nodes above a child are those to the nodes above its parent, and to that
fronts : (p : List ℕ) (i : ℕ) → map (λ n. take n (p ++ i ∷ [])) (range_with_len 0 (length (p ++ i ∷ []))) ≡ map (λ n. take n p) (range_with_len 0 (length p)) ++ p ∷ []
fronts p i =
    let f : ℕ → List ℕ = λ n. take n (p ++ i ∷ []) in
    let long : length (p ++ i ∷ []) ≡ length p + 1 = length-append p (i ∷ []) in
    ap (λ k. map f (range_with_len 0 k)) long ∙ ap (map f) (range-append 0 (length p) 1) ∙ map-append f (range_with_len 0 (length p)) (range_with_len (0 + length p) 1)
    ∙ ap₂ (λ (xs ys : List (List ℕ)). xs ++ ys) (same_fronts p i 0 (length p) (omega arith)) (ap (λ k. f k ∷ []) (zero-add (length p)) ∙ ap (λ q. q ∷ []) (all_of p i))

-- the last that passes, of some and one more
last_one : {A : Type 0} (test : A → Bool) (xs : List A) (x : A) (b : Bool) → test x ≡ b → last_or None (filter test (xs ++ x ∷ [])) ≡ (if b then Some x else last_or None (filter test xs))
last_one test xs x true is =
    ap (last_or None) (filter-append test xs (x ∷ []) ∙ ap (λ b. filter test xs ++ cond b (x ∷ []) []) is) ∙ last_push None (filter test xs) x
last_one test xs x false is = ap (last_or None) (filter-append test xs (x ∷ []) ∙ ap (λ b. filter test xs ++ cond b (x ∷ []) []) is ∙ append-nil (filter test xs))

pub around_child : (t : Tree) (p : List ℕ) (i : ℕ) (b : Bool) → is_form (control_at p t) ≡ b → form_around t (p ++ i ∷ []) ≡ (if b then Some p else form_around t p)
around_child t p i b is =
    let test : List ℕ → Bool = λ at. is_form (control_at at t) in
    ap (λ qs. last_or None (filter test qs)) (fronts p i) ∙ last_one test (map (λ n. take n p) (range_with_len 0 (length p))) p b is

pub around_root : (t : Tree) (n : ℕ) → n < nodes t → (n ≡ 0) ⊎ (nodes t ≤ n) → form_around t (place_numbered n t) ≡ None
around_root t n there (inl same) = ap (λ k. form_around t (place_numbered k t)) same ∙ ap (form_around t) (root_numbered t)
around_root t n there (inr past) = absurd (omega (arith, there, past))

-- the root is above itself
pub above_root : (t : Tree) (n : ℕ) → n < nodes t → (n ≡ 0) ⊎ (nodes t ≤ n) → place_numbered n t ≡ above (place_numbered n t)
above_root t n there (inl same) = let root : place_numbered n t ≡ [] = ap (λ k. place_numbered k t) same ∙ root_numbered t in root ∙ ap above (sym root)
above_root t n there (inr past) = absurd (omega (arith, there, past))
