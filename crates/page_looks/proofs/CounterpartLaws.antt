-- The same element as a function is the same element.
use Rattle.std.proofs.Common.{◌≡◌, ℕ, zero, suc, ◌<◌, ◌≤◌, List, [], ◌∷◌, ◌++◌, length, get_or, filter, cond, Bool, true, false, ◌&&◌, if◌then◌else◌, IsSome, Some, None, Option, option_map, option_and_then, MatchOption, refl, sym, ◌∙◌, ap, ◌⊎◌, inl, inr, arith, append_assoc, length-append}
use Rattle.std.specs.List.{find, list_all}
use Rattle.std.specs.Option.{option_or, option_map_or}
use Rattle.std.specs.Str.{bytes_eq}
use Rattle.std.proofs.lemmas.Bool.{and_parts, and_from, cases_lt}
use Rattle.std.proofs.lemmas.List.Elements.{at_from_Contains}
use Rattle.std.proofs.lemmas.Slice.Eq.{bytes_eq-Decides}
use Rattle.page_tree.specs.Tree.{Attribute, Tree, element, words, Trees, no_trees, tree}
use Rattle.page_tree.specs.Look.{node_at}
use Rattle.page_tree.specs.Number.{place_numbered}
use Rattle.page_tree.specs.Under.{places_of}
use Rattle.page_tree.proofs.Below.{has_of}
use Rattle.page_looks.specs.Outline.{shown, look, seen_place}
use Rattle.page_looks.specs.SameElement.{StandsOnce, IsAnchor, IsSame}
use Rattle.page_looks.specs.inside.Nearest.{IsNearest}
use Rattle.page_looks.specs.declared.finding.Nearest.{Nearest}
use Rattle.page_looks.specs.Counterpart.{are_attributes, is_tree, are_trees, is_node, stands_at, only_one, other_of, Around, around_from, lowest_from, nearest_around, place_seen_at, same_place}
use Rattle.page_looks.proofs.Anchors.{one_to_one}
use Rattle.page_looks.proofs.FindLaws.{tops}
use Rattle.page_looks.proofs.KeyLaws.{same_cut}
use Rattle.page_looks.proofs.Outlines.{seen_there, place_seen}
use Rattle.page_looks.proofs.Splitting.{on_the_way}

-- ---- equal trees

pub bytes_one : (xs ys : List ℕ) → bytes_eq xs ys ≡ true → xs ≡ ys
bytes_one xs ys is = (bytes_eq-Decides xs ys).0 is

pub bytes_same : (xs ys : List ℕ) → xs ≡ ys → bytes_eq xs ys ≡ true
bytes_same xs ys same = (bytes_eq-Decides xs ys).1 same

pub attributes_one : (xs ys : List Attribute) → are_attributes xs ys ≡ true → xs ≡ ys
attributes_one [] [] is = refl
attributes_one [] (b ∷ ys) is = cc
attributes_one (a ∷ xs) [] is = cc
attributes_one ((n, v) ∷ xs) ((m, w) ∷ ys) is =
    let (both, rest) = and_parts (bytes_eq n m && bytes_eq v w) (are_attributes xs ys) is in
    let (names, values) = and_parts (bytes_eq n m) (bytes_eq v w) both in
    let first : n ≡ m = bytes_one n m names in
    let second : v ≡ w = bytes_one v w values in
    let later : xs ≡ ys = attributes_one xs ys rest in
    cc

pub attributes_same : (xs : List Attribute) → are_attributes xs xs ≡ true
attributes_same [] = refl
attributes_same ((n, v) ∷ xs) =
    and_from (bytes_eq n n && bytes_eq v v) (are_attributes xs xs)
    (and_from (bytes_eq n n) (bytes_eq v v) (bytes_same n n refl) (bytes_same v v refl)) (attributes_same xs)

mutual
  pub tree_one : (t u : Tree) → is_tree t u ≡ true → t ≡ u
  tree_one (element n xs ts) (element m ys us) is =
      let (both, rest) = and_parts (bytes_eq n m && are_attributes xs ys) (are_trees ts us) is in
      let (names, told) = and_parts (bytes_eq n m) (are_attributes xs ys) both in
      let first : n ≡ m = bytes_one n m names in
      let second : xs ≡ ys = attributes_one xs ys told in
      let later : ts ≡ us = trees_one ts us rest in
      cc
  tree_one (words a) (words b) is = ap words (bytes_one a b is)
  tree_one (element n xs ts) (words b) is = cc
  tree_one (words a) (element m ys us) is = cc

  trees_one : (ts us : Trees) → are_trees ts us ≡ true → ts ≡ us
  trees_one no_trees no_trees is = refl
  trees_one no_trees (tree u us) is = cc
  trees_one (tree t ts) no_trees is = cc
  trees_one (tree t ts) (tree u us) is =
      let (one, rest) = and_parts (is_tree t u) (are_trees ts us) is in
      let first : t ≡ u = tree_one t u one in
      let later : ts ≡ us = trees_one ts us rest in
      cc

mutual
  pub tree_same : (t : Tree) → is_tree t t ≡ true
  tree_same (element n xs ts) =
      and_from (bytes_eq n n && are_attributes xs xs) (are_trees ts ts)
      (and_from (bytes_eq n n) (are_attributes xs xs) (bytes_same n n refl) (attributes_same xs)) (trees_same ts)
  tree_same (words a) = bytes_same a a refl

  trees_same : (ts : Trees) → are_trees ts ts ≡ true
  trees_same no_trees = refl
  trees_same (tree t ts) = and_from (is_tree t t) (are_trees ts ts) (tree_same t) (trees_same ts)

pub node_one : (o : Option Tree) (t : Tree) → is_node o t ≡ true → o ≡ Some t
node_one None t is = cc
node_one (Some u) t is = ap Some (sym (tree_one t u is))

pub node_same : (o : Option Tree) (t : Tree) → o ≡ Some t → is_node o t ≡ true
node_same o t is = rw is (tree_same t)

-- ---- lists

abbrev pub IsIn : {X : Type 0} → List X → X → Type 0
IsIn [] x = ⊥
IsIn (y ∷ ys) x = (y ≡ x) ⊎ IsIn ys x

pub in_from_at : {X : Type 0} (xs : List X) (i : ℕ) (x : X) → i < length xs → get_or xs i x ≡ x → IsIn xs x
in_from_at [] i x less is = absurd (omega (arith, less))
in_from_at (y ∷ ys) zero x less is = inl is
in_from_at (y ∷ ys) (suc i) x less is = inr (in_from_at ys i x (omega (arith, less)) is)

pub place_in : (p : List ℕ) (t u : Tree) → node_at p t ≡ Some u → IsIn (places_of [] t) p
place_in p t u is =
    let some : IsSome (node_at p t) = rw is refl in
    let (i, less, at) = at_from_Contains (places_of [] t) p (has_of [] t p some) in
    in_from_at (places_of [] t) i p less (at p)

pub in_filter : {X : Type 0} (test : X → Bool) (xs : List X) (x : X) → IsIn xs x → test x ≡ true → IsIn (filter test xs) x
in_filter test [] x h is = h
in_filter test (y ∷ ys) x (inl same) is = rw (ap test same ∙ is) (inl same)
in_filter test (y ∷ ys) x (inr h) is = later (test y) (in_filter test ys x h is)
  where
    later : (b : Bool) → IsIn (filter test ys) x → IsIn (cond b (y ∷ filter test ys) (filter test ys)) x
    later true k = inr k
    later false k = k

pub filter_in : {X : Type 0} (test : X → Bool) (xs : List X) (x : X) → IsIn (filter test xs) x → test x ≡ true
filter_in test [] x h = absurd h
filter_in test (y ∷ ys) x h = here (test y) refl h (filter_in test ys x)
  where
    here : (b : Bool) → test y ≡ b → IsIn (cond b (y ∷ filter test ys) (filter test ys)) x → (IsIn (filter test ys) x → test x ≡ true) → test x ≡ true
    here true is (inl same) rest = ap test (sym same) ∙ is
    here true is (inr k) rest = rest k
    here false is k rest = rest k

all_one : (x : List ℕ) (xs : List (List ℕ)) → list_all (bytes_eq x) xs ≡ true → (q : List ℕ) → IsIn xs q → q ≡ x
all_one x [] is q h = absurd h
all_one x (y ∷ ys) is q (inl same) = sym same ∙ sym (bytes_one x y (and_parts (bytes_eq x y) (list_all (bytes_eq x) ys) is).0)
all_one x (y ∷ ys) is q (inr h) = all_one x ys (and_parts (bytes_eq x y) (list_all (bytes_eq x) ys) is).1 q h

one_all : (x : List ℕ) (xs : List (List ℕ)) → ((q : List ℕ) → IsIn xs q → q ≡ x) → list_all (bytes_eq x) xs ≡ true
one_all x [] each = refl
one_all x (y ∷ ys) each =
    and_from (bytes_eq x y) (list_all (bytes_eq x) ys) (bytes_same x y (sym (each y (inl refl)))) (one_all x ys (λ q h. each q (inr h)))

only_from : (ps : List (List ℕ)) (p : List ℕ) → only_one ps ≡ Some p → IsIn ps p × ((q : List ℕ) → IsIn ps q → q ≡ p)
only_from [] p is = cc
only_from (x ∷ xs) p is = here (list_all (bytes_eq x) xs) refl is
  where
    either : (q : List ℕ) → list_all (bytes_eq x) xs ≡ true → x ≡ p → IsIn (x ∷ xs) q → q ≡ p
    either q all same (inl own) = sym own ∙ same
    either q all same (inr h) = all_one x xs all q h ∙ same

    here : (b : Bool) → list_all (bytes_eq x) xs ≡ b → (if b then Some x else None) ≡ Some p → IsIn (x ∷ xs) p × ((q : List ℕ) → IsIn (x ∷ xs) q → q ≡ p)
    here true all one =
        let same : x ≡ p = cc in
        (inl same, λ q h. either q all same h)
    here false all one = cc

only_to : (ps : List (List ℕ)) (p : List ℕ) → IsIn ps p → ((q : List ℕ) → IsIn ps q → q ≡ p) → only_one ps ≡ Some p
only_to [] p h each = absurd h
only_to (x ∷ xs) p h each =
    let same : x ≡ p = each x (inl refl) in
    rw (one_all x xs (λ q k. each q (inr k) ∙ sym same)) (ap Some same)

find_from : {X : Type 0} (test : X → Bool) (xs : List X) (x : X) → find test xs ≡ Some x → test x ≡ true
find_from test [] x is = cc
find_from test (y ∷ ys) x is = here (test y) refl is (find_from test ys x)
  where
    here : (b : Bool) → test y ≡ b → cond b (Some y) (find test ys) ≡ Some x → (find test ys ≡ Some x → test x ≡ true) → test x ≡ true
    here true own one rest = let same : y ≡ x = cc in ap test (sym same) ∙ own
    here false own one rest = rest one

find_to : {X : Type 0} (test : X → Bool) (xs : List X) (x : X) → IsIn xs x → test x ≡ true → (y : X) × (find test xs ≡ Some y)
find_to test [] x h is = absurd h
find_to test (y ∷ ys) x (inl same) is = (y, rw (ap test same ∙ is) refl)
find_to {X = X} test (y ∷ ys) x (inr h) is = here (test y) (find_to test ys x h is)
  where
    here : (b : Bool) → (z : X) × (find test ys ≡ Some z) → (z : X) × (cond b (Some y) (find test ys) ≡ Some z)
    here true later = (y, refl)
    here false later = later

-- ---- anchors

once_of : (node t : Tree) (p : List ℕ) → only_one (stands_at node t) ≡ Some p → StandsOnce node t p
once_of node t p is =
    let (there, alone) = only_from (stands_at node t) p is in
    record {
      there = node_one (node_at p t) node (filter_in (λ q. is_node (node_at q t) node) (places_of [] t) p there);
      alone = λ other at. alone other
          (in_filter (λ q. is_node (node_at q t) node) (places_of [] t) other (place_in other t node at) (node_same (node_at other t) node at));
    }

of_once : (node t : Tree) (p : List ℕ) → StandsOnce node t p → only_one (stands_at node t) ≡ Some p
of_once node t p o =
    only_to (stands_at node t) p
    (in_filter (λ q. is_node (node_at q t) node) (places_of [] t) p (place_in p t node o.there) (node_same (node_at p t) node o.there))
    (λ q h. o.alone q (node_one (node_at q t) node (filter_in (λ r. is_node (node_at r t) node) (places_of [] t) q h)))

anchor_of : (old new : Tree) (at there : List ℕ) → other_of old new at ≡ Some there → IsAnchor old new at there
anchor_of old new at there is = first (node_at at (look old)) refl is
  where
    second : (looks : Tree) → node_at at (look old) ≡ Some looks → (o : Option (List ℕ)) → only_one (stands_at looks (look old)) ≡ o
        → option_and_then (λ own. only_one (stands_at looks (look new))) o ≡ Some there → IsAnchor old new at there
    second looks here None own one = cc
    second looks here (Some p) own one =
        let once = once_of looks (look old) p own in
        let same : at ≡ p = once.alone at here in
        record {
          looks = looks;
          before = record { there = here; alone = λ other k. once.alone other k ∙ sym same };
          after = once_of looks (look new) there one;
        }

    first : (o : Option Tree) → node_at at (look old) ≡ o
        → option_and_then (λ looks. option_and_then (λ own. only_one (stands_at looks (look new))) (only_one (stands_at looks (look old)))) o ≡ Some there
        → IsAnchor old new at there
    first None here one = cc
    first (Some looks) here one = second looks here (only_one (stands_at looks (look old))) refl one

other_is : (old new : Tree) (at there : List ℕ) → IsAnchor old new at there → other_of old new at ≡ Some there
other_is old new at there a = rw (a.before.there) (rw (of_once a.looks (look old) at a.before) (of_once a.looks (look new) there a.after))

-- ---- the nearest

record IsLowest (old new : Tree) (at way : List ℕ) (a : Around) : Type 0 where
  pub anchor : IsAnchor old new a.at a.there
  pub whole : a.at ++ a.way ≡ at ++ way
  pub deep : length at ≤ length a.at

around_some : (old new : Tree) (at way : List ℕ) (a : Around) → around_from old new at way ≡ Some a → IsLowest old new at way a
around_some old new at way a is = here (other_of old new at) refl is
  where
    here : (o : Option (List ℕ)) → other_of old new at ≡ o → option_map (λ there. record { at = at; there = there; way = way }) o ≡ Some a → IsLowest old new at way a
    here None own one = cc
    here (Some there) own one =
        let same : record { at = at; there = there; way = way } ≡ a = cc in
        rw (← same) (record { anchor = anchor_of old new at there own; whole = refl; deep = omega arith })

lowest_some : (old new : Tree) (at way : List ℕ) (a : Around) → lowest_from old new at way ≡ Some a → IsLowest old new at way a
lowest_some old new at [] a is = around_some old new at [] a is
lowest_some old new at (i ∷ way) a is = here (lowest_from old new (at ++ i ∷ []) way) refl is (lowest_some old new (at ++ i ∷ []) way a)
  where
    here : (o : Option Around) → lowest_from old new (at ++ i ∷ []) way ≡ o → option_or o (around_from old new at (i ∷ way)) ≡ Some a
        → (lowest_from old new (at ++ i ∷ []) way ≡ Some a → IsLowest old new (at ++ i ∷ []) way a) → IsLowest old new at (i ∷ way) a
    here None own one rest = around_some old new at (i ∷ way) a one
    here (Some b) own one rest =
        let w = rest (own ∙ one) in
        record { anchor = w.anchor; whole = w.whole ∙ append_assoc at (i ∷ []) way; deep = omega (arith, w.deep, length-append at (i ∷ [])) }

around_none : (old new : Tree) (at way x y rest : List ℕ) → around_from old new at way ≡ None → IsAnchor old new x y → x ++ rest ≡ at ++ way
    → length x ≡ length at → ⊥
around_none old new at way x y rest none a whole long =
    let same : x ≡ at = tops x rest at way whole long in
    let other : other_of old new at ≡ Some y = rw same at (other_is old new x y a) in
    let some : around_from old new at way ≡ Some (record { at = at; there = y; way = way }) = rw other refl in
    absurd cc

lowest_none : (old new : Tree) (at way x y rest : List ℕ) → lowest_from old new at way ≡ None → IsAnchor old new x y → x ++ rest ≡ at ++ way
    → length at ≤ length x → ⊥
lowest_none old new at [] x y rest none a whole long =
    around_none old new at [] x y rest none a whole (omega (arith, long, ap length whole, length-append x rest, length-append at []))
lowest_none old new at (i ∷ way) x y rest none a whole long =
    here (lowest_from old new (at ++ i ∷ []) way) refl none (λ own further. lowest_none old new (at ++ i ∷ []) way x y rest own a (whole ∙ sym (append_assoc at (i ∷ []) way)) further)
  where
    here : (o : Option Around) → lowest_from old new (at ++ i ∷ []) way ≡ o → option_or o (around_from old new at (i ∷ way)) ≡ None
        → (lowest_from old new (at ++ i ∷ []) way ≡ None → length (at ++ i ∷ []) ≤ length x → ⊥) → ⊥
    here None own one deeper = elim (cases_lt (length at) (length x)) [
      | inl less ↦ deeper own (omega (arith, less, length-append at (i ∷ [])))
      | inr past ↦ around_none old new at (i ∷ way) x y rest one a whole (omega (arith, past, long))
    ]
    here (Some b) own one deeper = cc

-- no other anchor on the way stands lower than the one that is found
lowest_all : (old new : Tree) (at way x y rest : List ℕ) (a : Around) → lowest_from old new at way ≡ Some a → IsAnchor old new x y
    → x ++ rest ≡ at ++ way → length x ≤ length a.at
lowest_all old new at [] x y rest a is anchor whole =
    omega (arith, (around_some old new at [] a is).deep, ap length whole, length-append x rest, length-append at [])
lowest_all old new at (i ∷ way) x y rest a is anchor whole =
    here (lowest_from old new (at ++ i ∷ []) way) refl is (lowest_all old new (at ++ i ∷ []) way x y rest a)
  where
    further : x ++ rest ≡ (at ++ i ∷ []) ++ way
    further = whole ∙ sym (append_assoc at (i ∷ []) way)

    here : (o : Option Around) → lowest_from old new (at ++ i ∷ []) way ≡ o → option_or o (around_from old new at (i ∷ way)) ≡ Some a
        → (lowest_from old new (at ++ i ∷ []) way ≡ Some a → IsAnchor old new x y → x ++ rest ≡ (at ++ i ∷ []) ++ way → length x ≤ length a.at)
        → length x ≤ length a.at
    here None own one deeper = elim (cases_lt (length at) (length x)) [
      | inl less ↦ absurd (lowest_none old new (at ++ i ∷ []) way x y rest own anchor further (omega (arith, less, length-append at (i ∷ []))))
      | inr past ↦ omega (arith, past, (around_some old new at (i ∷ way) a one).deep)
    ]
    here (Some b) own one deeper = deeper (own ∙ one) anchor further

abbrev around : List ℕ → List ℕ → List ℕ → Around
around at there way = record { at = at; there = there; way = way }

around_is : (old new : Tree) (at way x y rest : List ℕ) → IsAnchor old new x y → x ++ rest ≡ at ++ way → length x ≡ length at
    → around_from old new at way ≡ Some (around x y rest)
around_is old new at way x y rest a whole many =
    let same : x ≡ at = tops x rest at way whole many in
    let left : rest ≡ way = (same_cut x at rest way many whole).1 in
    let other : other_of old new at ≡ Some y = ap (other_of old new) (sym same) ∙ other_is old new x y a in
    let found : around_from old new at way ≡ Some (around at y way) = rw other refl in
    found ∙ ap (λ z. Some (around z y way)) (sym same) ∙ ap (λ z. Some (around x y z)) (sym left)

-- one below which none stands is found
lowest_is : (old new : Tree) (at way x y rest : List ℕ) → IsAnchor old new x y → x ++ rest ≡ at ++ way → length at ≤ length x
    → ((u v more : List ℕ) → IsAnchor old new u v → u ++ more ≡ at ++ way → length u ≤ length x)
    → lowest_from old new at way ≡ Some (around x y rest)
lowest_is old new at [] x y rest a whole long low =
    around_is old new at [] x y rest a whole (omega (arith, long, ap length whole, length-append x rest, length-append at []))
lowest_is old new at (i ∷ way) x y rest a whole long low = elim (cases_lt (length at) (length x)) [
  | inl less ↦
      let deeper = lowest_is old new (at ++ i ∷ []) way x y rest a (whole ∙ sym (append_assoc at (i ∷ []) way))
      (omega (arith, less, length-append at (i ∷ []))) (λ u v more b all. low u v more b (all ∙ append_assoc at (i ∷ []) way)) in
      rw deeper refl
  | inr past ↦
      let none : lowest_from old new (at ++ i ∷ []) way ≡ None = no_lower past (lowest_from old new (at ++ i ∷ []) way) refl in
      rw none (around_is old new at (i ∷ way) x y rest a whole (omega (arith, past, long)))
]
  where
    no_lower : length x ≤ length at → (o : Option Around) → lowest_from old new (at ++ i ∷ []) way ≡ o → lowest_from old new (at ++ i ∷ []) way ≡ None
    no_lower past None own = own
    no_lower past (Some b) own =
        let w = lowest_some old new (at ++ i ∷ []) way b own in
        absurd (omega (arith, past, w.deep, length-append at (i ∷ []), low b.at b.there b.way w.anchor (w.whole ∙ append_assoc at (i ∷ []) way)))

pub nearest_some : (old new : Tree) (p : List ℕ) (a : Around) → nearest_around old new p ≡ Some a
    → IsAnchor old new a.at a.there × (seen_place p old ≡ Some (a.at ++ a.way))
nearest_some old new p a is = here (seen_place p old) refl is
  where
    here : (o : Option (List ℕ)) → seen_place p old ≡ o → option_and_then (lowest_from old new []) o ≡ Some a
        → IsAnchor old new a.at a.there × (seen_place p old ≡ Some (a.at ++ a.way))
    here None own one = cc
    here (Some s) own one =
        let w = lowest_some old new [] s a one in
        (w.anchor, own ∙ ap Some (sym w.whole))

pub nearest_lowest : (old new : Tree) (p : List ℕ) (a : Around) → nearest_around old new p ≡ Some a → (x y rest : List ℕ) → IsAnchor old new x y
    → seen_place p old ≡ Some (x ++ rest) → length x ≤ length a.at
nearest_lowest old new p a is x y rest anchor seen = here (seen_place p old) refl is
  where
    here : (o : Option (List ℕ)) → seen_place p old ≡ o → option_and_then (lowest_from old new []) o ≡ Some a → length x ≤ length a.at
    here None own one = cc
    here (Some s) own one =
        let whole : x ++ rest ≡ [] ++ s = cc in
        lowest_all old new [] s x y rest a one anchor whole

pub nearest_is : (old new : Tree) (number : ℕ) (n : Nearest) → (w : IsNearest old new number n)
    → nearest_around old new (place_numbered number old) ≡ Some (record { at = w.place; there = w.beyond; way = w.way })
nearest_is old new number n w =
    rw (w.from) (lowest_is old new [] (w.place ++ w.way) w.place w.beyond w.way w.anchor refl (omega arith) w.lowest)

-- ---- the same element

pub seen_from_place : (s : List ℕ) (t : Tree) (q : List ℕ) → place_seen_at s t ≡ Some q → seen_place q t ≡ Some s
seen_from_place s t q is = here (seen_place q t) refl (find_from (λ p. option_map_or (bytes_eq s) (seen_place p t) false) (places_of [] t) q is)
  where
    here : (o : Option (List ℕ)) → seen_place q t ≡ o → option_map_or (bytes_eq s) o false ≡ true → seen_place q t ≡ Some s
    here None own one = cc
    here (Some r) own one = own ∙ ap Some (sym (bytes_one s r one))

pub some_place : (s : List ℕ) (t : Tree) (q : List ℕ) (u : Tree) → node_at q t ≡ Some u → seen_place q t ≡ Some s → (r : List ℕ) × (place_seen_at s t ≡ Some r)
some_place s t q u there seen =
    find_to (λ p. option_map_or (bytes_eq s) (seen_place p t) false) (places_of [] t) q (place_in q t u there) (rw seen (bytes_same s s refl))

pub same_place_is : (old new : Tree) (p : List ℕ) → MatchOption (same_place old new p) ((q : List ℕ) → ¬ IsSame old new p q) (IsSame old new p)
same_place_is old new p = first (seen_place p old) refl
  where
    third : (s : List ℕ) → seen_place p old ≡ Some s → (a : Around) → lowest_from old new [] s ≡ Some a → (o : Option (List ℕ))
        → place_seen_at (a.there ++ a.way) new ≡ o → MatchOption o ((q : List ℕ) → ¬ IsSame old new p q) (IsSame old new p)
    third s seen a low (Some q) own =
        let w = lowest_some old new [] s a low in
        record {
          at = a.at;
          there = a.there;
          anchor = w.anchor;
          way = a.way;
          from = seen ∙ ap Some (sym w.whole);
          to = seen_from_place (a.there ++ a.way) new q own;
        }
    third s seen a low None own = λ q same.
        let w = lowest_some old new [] s a low in
        let m = seen_there shown p old (a.at ++ a.way) (seen ∙ ap Some (sym w.whole)) in
        let shape : node_at (a.there ++ a.way) (look new) ≡ Some (look m.node) =
        on_the_way a.there a.way (look new) w.anchor.looks w.anchor.after.there
        ∙ sym (on_the_way a.at a.way (look old) w.anchor.looks w.anchor.before.there) ∙ m.shape in
        let o = place_seen shown (a.there ++ a.way) new (look m.node) shape in
        let (r, found) = some_place (a.there ++ a.way) new o.place o.node o.there o.seen in
        absurd cc

    second : (s : List ℕ) → seen_place p old ≡ Some s → (o : Option Around) → lowest_from old new [] s ≡ o
        → MatchOption (option_and_then (λ a. place_seen_at (a.there ++ a.way) new) o) ((q : List ℕ) → ¬ IsSame old new p q) (IsSame old new p)
    second s seen None low = λ q same.
        let whole : same.at ++ same.way ≡ [] ++ s = cc (same.from, seen) in
        lowest_none old new [] s same.at same.there same.way low same.anchor whole (omega arith)
    second s seen (Some a) low = third s seen a low (place_seen_at (a.there ++ a.way) new) refl

    first : (o : Option (List ℕ)) → seen_place p old ≡ o
        → MatchOption (option_and_then (λ a. place_seen_at (a.there ++ a.way) new) (option_and_then (lowest_from old new []) o)) ((q : List ℕ) → ¬ IsSame old new p q) (IsSame old new p)
    first None seen = λ q same. absurd cc
    first (Some s) seen = second s seen (lowest_from old new [] s) refl

pub same_place_some : (old new : Tree) (p q : List ℕ) → IsSame old new p q → same_place old new p ≡ Some q
same_place_some old new p q same = here (same_place old new p) refl (same_place_is old new p)
  where
    here : (o : Option (List ℕ)) → same_place old new p ≡ o → MatchOption o ((r : List ℕ) → ¬ IsSame old new p r) (IsSame old new p)
        → same_place old new p ≡ Some q
    here None own none = absurd (none q same)
    here (Some r) own other = own ∙ ap Some (one_to_one old new p r q other same)

pub same_place_none : (old new : Tree) (p : List ℕ) → ((q : List ℕ) → ¬ IsSame old new p q) → same_place old new p ≡ None
same_place_none old new p none = here (same_place old new p) refl (same_place_is old new p)
  where
    here : (o : Option (List ℕ)) → same_place old new p ≡ o → MatchOption o ((r : List ℕ) → ¬ IsSame old new p r) (IsSame old new p)
        → same_place old new p ≡ None
    here None own is = own
    here (Some r) own is = absurd (none r is)
