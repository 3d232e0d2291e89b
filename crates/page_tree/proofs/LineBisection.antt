-- The value of a name among ascending names, found by halves.
use Rattle.std.proofs.Common.{◌≡◌, ℕ, zero, suc, ◌+◌, ◌-◌, ◌*◌, ◌/◌, ◌<◌, List, [], ◌∷◌, ◌++◌, get_or, Bool, true, is_lt, if◌then◌else◌}
use Rattle.std.proofs.Common.{Option, Some, None, refl, sym, ◌∙◌, ap, arith}
use Rattle.std.specs.Cmp.Lexicographic.{slice_cmp, nat_list_cmp_total}
use Rattle.std.specs.List.{AllByRecursion}
use Rattle.std.specs.List.Sorted.{IsStrictlySortedBy}
use Rattle.std.specs.Ordering.{nat_cmp, is_eq, ordering_reverse}
use Rattle.std.specs.Str.{bytes_eq}
use Rattle.std.specs.declared.cmp.Ordering.{Ordering}
use Rattle.std.specs.declared.cmp.Ordering.TheVariants.{Less, Equal, Greater}
use Rattle.std.proofs.lemmas.Bool.{and_parts}
use Rattle.std.proofs.lemmas.Map.Text.{is_eq-slice_cmp}
use Rattle.page_tree.specs.Limits.{names_of, is_ascending}
use Rattle.page_tree.specs.Look.{value_of}
use Rattle.page_tree.specs.Tree.{Attribute}
use Rattle.page_tree.specs.inside.Rows.{attributes_from}

-- ---- the order of names

abbrev compare : List ℕ → List ℕ → Ordering
compare x y = slice_cmp nat_cmp x y

less_is : (o : Ordering) → is_lt o ≡ true → o ≡ Less
less_is Less is = refl
less_is Equal is = cc
less_is Greater is = cc

-- below one that is equal to the name
below_equal : (x y name : List ℕ) → compare x y ≡ Less → compare y name ≡ Equal → compare x name ≡ Less
below_equal x y name less same =
    nat_list_cmp_total.antisymm x name ∙ ap ordering_reverse (sym (nat_list_cmp_total.congr y name x same))
    ∙ sym (nat_list_cmp_total.antisymm x y) ∙ less

below_all : (x y : List ℕ) → compare x y ≡ Less → (zs : List (List ℕ)) → AllByRecursion (λ z. compare y z ≡ Less) zs
    → AllByRecursion (λ z. compare x z ≡ Less) zs
below_all x y less [] all = tt
below_all x y less (z ∷ zs) all = (nat_list_cmp_total.trans x y z less all.0, below_all x y less zs all.1)

sorted : (names : List (List ℕ)) → is_ascending names ≡ true → IsStrictlySortedBy compare names
unfolding IsStrictlySortedBy
sorted [] up = tt
sorted (x ∷ []) up = (tt, tt)
sorted (x ∷ y ∷ rest) up =
    let both = and_parts (is_lt (compare x y)) (is_ascending (y ∷ rest)) up in
    let less = less_is (compare x y) both.0 in
    let later = sorted (y ∷ rest) both.1 in
    ((less, below_all x y less rest later.0), later)

-- ---- the attributes of a row, cut at one

cut_at : (texts : List (List ℕ)) (at half rest m n : ℕ) → m ≡ at + 2 * half → n ≡ half + suc rest
    → attributes_from texts at n
    ≡ attributes_from texts at half ++ (get_or texts m [], get_or texts (suc m) []) ∷ attributes_from texts (suc (suc m)) rest
cut_at texts at zero rest m n is many =
    let here : m ≡ at = omega (arith, is) in
    let all : n ≡ suc rest = omega (arith, many) in
    rw (here, all) refl
cut_at texts at (suc half) rest m zero is many = absurd (omega (arith, many))
cut_at texts at (suc half) rest m (suc n) is many =
    ap (λ l. (get_or texts at [], get_or texts (suc at) []) ∷ l) (cut_at texts (suc (suc at)) half rest m n (omega (arith, is)) (omega (arith, many)))

-- ---- names that ascend, cut at one

left_of : (xs ys : List Attribute) (a : Attribute) → is_ascending (names_of (xs ++ a ∷ ys)) ≡ true
    → AllByRecursion (λ x. compare x.0 a.0 ≡ Less) xs × (is_ascending (names_of xs) ≡ true) × (is_ascending (names_of (a ∷ ys)) ≡ true)
left_of [] ys a up = (tt, refl, up)
left_of (x ∷ []) ys a up =
    let both = and_parts (is_lt (compare x.0 a.0)) (is_ascending (names_of (a ∷ ys))) up in
    ((less_is (compare x.0 a.0) both.0, tt), refl, both.1)
left_of (x ∷ y ∷ xs) ys a up =
    let both = and_parts (is_lt (compare x.0 y.0)) (is_ascending (names_of (y ∷ xs ++ a ∷ ys))) up in
    let (below, ascend, later) = left_of (y ∷ xs) ys a both.1 in
    let less = less_is (compare x.0 y.0) both.0 in
    ((nat_list_cmp_total.trans x.0 y.0 a.0 less below.0, below), rw both.0 ascend, later)

rest_ascends : (a : Attribute) (ys : List Attribute) → is_ascending (names_of (a ∷ ys)) ≡ true → is_ascending (names_of ys) ≡ true
rest_ascends a [] up = refl
rest_ascends a (y ∷ ys) up = (and_parts (is_lt (compare a.0 y.0)) (is_ascending (names_of (y ∷ ys))) up).1

above : (a : Attribute) (ys : List Attribute) → is_ascending (names_of (a ∷ ys)) ≡ true → AllByRecursion (λ z. compare a.0 z ≡ Less) (names_of ys)
unfolding IsStrictlySortedBy
above a ys up = (sorted (names_of (a ∷ ys)) up).0

-- ---- what a name finds

tells : (x name : List ℕ) (o : Ordering) → compare x name ≡ o → bytes_eq x name ≡ is_eq o
tells x name o is = sym (is_eq-slice_cmp x name) ∙ ap is_eq is

-- all of them are below the name
skipped : (xs zs : List Attribute) (name : List ℕ) → AllByRecursion (λ x. compare x.0 name ≡ Less) xs → value_of name (xs ++ zs) ≡ value_of name zs
skipped [] zs name below = refl
skipped (x ∷ xs) zs name (first, below) = rw (tells x.0 name Less first) (skipped xs zs name below)

all_below : (xs : List Attribute) (a : Attribute) (name : List ℕ) → ((x : List ℕ) → compare x a.0 ≡ Less → compare x name ≡ Less)
    → AllByRecursion (λ x. compare x.0 a.0 ≡ Less) xs → AllByRecursion (λ x. compare x.0 name ≡ Less) xs
all_below [] a name lower below = tt
all_below (x ∷ xs) a name lower (first, below) = (lower x.0 first, all_below xs a name lower below)

-- all of them are above the name
unseen : (ys : List Attribute) (a : Attribute) (name : List ℕ) → compare name a.0 ≡ Less
    → AllByRecursion (λ z. compare a.0 z ≡ Less) (names_of ys) → value_of name ys ≡ None
unseen [] a name less over = refl
unseen (y ∷ ys) a name less (first, over) =
    let greater : compare y.0 name ≡ Greater =
    nat_list_cmp_total.antisymm y.0 name ∙ ap ordering_reverse (nat_list_cmp_total.trans name a.0 y.0 less first) in
    rw (tells y.0 name Greater greater) (unseen ys a name less over)

either : (b : Bool) (v : Option (List ℕ)) (l r : Option (List ℕ)) → l ≡ r → (if b then v else l) ≡ (if b then v else r)
either b v l r same = rw same refl

left_alone : (xs ys : List Attribute) (name : List ℕ) → value_of name ys ≡ None → value_of name (xs ++ ys) ≡ value_of name xs
left_alone [] ys name none = none
left_alone (x ∷ xs) ys name none = either (bytes_eq x.0 name) (Some x.1) (value_of name (xs ++ ys)) (value_of name xs) (left_alone xs ys name none)

-- ---- a step of the code's, with one in the middle

module _ (texts : List (List ℕ)) (name : List ℕ) (at count : ℕ) (some : 0 < count) (up : is_ascending (names_of (attributes_from texts at count)) ≡ true) where
  abbrev m : ℕ
  m = at + 2 * (count / 2)

  abbrev left : List Attribute
  left = attributes_from texts at (count / 2)

  abbrev middle : Attribute
  middle = (get_or texts m [], get_or texts (m + 1) [])

  abbrev right : List Attribute
  right = attributes_from texts (m + 2) (count - (count / 2 + 1))

  cut : attributes_from texts at count ≡ left ++ middle ∷ right
  cut =
      let one : m + 1 ≡ suc m = omega arith in
      let two : m + 2 ≡ suc (suc m) = omega arith in
      rw (one, two) (cut_at texts at (count / 2) (count - (count / 2 + 1)) m count refl (omega (arith, some)))

  parts : AllByRecursion (λ x. compare x.0 middle.0 ≡ Less) left × (is_ascending (names_of left) ≡ true)
      × (is_ascending (names_of (middle ∷ right)) ≡ true)
  parts = left_of left right middle (rw cut at up)

  pub found : compare middle.0 name ≡ Equal → value_of name (attributes_from texts at count) ≡ Some middle.1
  found same =
      let below = all_below left middle name (λ x less. below_equal x middle.0 name less same) parts.0 in
      rw (cut, skipped left (middle ∷ right) name below, tells middle.0 name Equal same) refl

  pub on_right : compare middle.0 name ≡ Less
      → (is_ascending (names_of right) ≡ true) × (value_of name right ≡ value_of name (attributes_from texts at count))
  on_right less =
      let below = all_below left middle name (λ x lower. nat_list_cmp_total.trans x middle.0 name lower less) parts.0 in
      (rest_ascends middle right parts.2, rw (cut, skipped left (middle ∷ right) name below, tells middle.0 name Less less) refl)

  pub on_left : compare middle.0 name ≡ Greater
      → (is_ascending (names_of left) ≡ true) × (value_of name left ≡ value_of name (attributes_from texts at count))
  on_left greater =
      let under : compare name middle.0 ≡ Less = nat_list_cmp_total.antisymm name middle.0 ∙ ap ordering_reverse greater in
      let none : value_of name (middle ∷ right) ≡ None =
      rw (tells middle.0 name Greater greater) (unseen right middle name under (above middle right parts.2)) in
      (parts.1, rw cut (sym (left_alone left (middle ∷ right) name none)))
