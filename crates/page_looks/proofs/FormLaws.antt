-- What nodes are in the forms around them, and what forms send by it.
use Rattle.std.proofs.Common.{◌≡◌, ℕ, zero, suc, ◌+◌, ◌/◌, ◌<◌, ◌≤◌, List, [], ◌∷◌, ◌++◌, length, set, get_or, not, Bool, true, false, ◌||◌, if◌then◌else◌, codes, Option, Some, None, slice_get, option_and_then, refl, sym, ◌∙◌, ap, inl, inr, arith, append_assoc, append-nil, length-append, subst}
use Rattle.std.specs.Option.{option_map_or}
use Rattle.std.specs.Str.{bytes_eq}
use Rattle.std.proofs.lemmas.Bool.{cases_lt}
use Rattle.std.proofs.lemmas.Option.{slice_get_within, slice_get-get_or}
use Rattle.page_tree.specs.Tree.{Attribute, Tree, element, words, Trees, no_trees, tree}
use Rattle.page_tree.specs.Limits.{nodes}
use Rattle.page_tree.specs.Look.{node_at, nth_child, children_of, attributes_of, name_of, count, child_count_at}
use Rattle.page_tree.specs.Number.{place_numbered, first_trees}
use Rattle.page_tree.specs.inside.Kept.{children_at}
use Rattle.page_tree.proofs.Numbers.{has_none, has_node, node_there, nth_there, node_at_child}
use Rattle.page_looks.specs.Outline.{is_seen}
use Rattle.page_looks.specs.Sending.{unseen_at, unseen_in, untouched_pairs, sent_by_form, sent}
use Rattle.page_looks.specs.inside.Numbers.{StandFor}
use Rattle.page_looks.specs.inside.Shapes.{told_texts}
use Rattle.page_looks.specs.inside.Numbering.{PushesTexts, GrowsTexts, BeginsNode}
use Rattle.page_looks.specs.inside.InForms.{pair_numbers, IsInForm, AreInForms, IsReady, PushesKnown}
use Rattle.page_looks.specs.declared.in_forms.InForm.{InForm}
use Rattle.page_looks.specs.declared.shapes.Shapes.{Shapes}
use Rattle.page_looks.specs.declared.telling.Telling.{Telling}
use Rattle.page_looks.specs.declared.telling.Telling.TheVariants.{Shown, Sent}
use Rattle.page_looks.proofs.KeptOnce.{get_first, get_behind, stand_more, stand_append, stand_length}
use Rattle.page_looks.proofs.KeyLaws.{told_length}
use Rattle.page_looks.proofs.NumberingLaws.{texts_none, texts_join, told-append, element_is}
use Rattle.page_looks.proofs.PartLaws.{first_none, all_first}
use Rattle.page_looks.proofs.SendingLaws.{pairs_append}

-- ---- further texts

pub grows_by : (below old new : Shapes) (key next : List ℕ) (xs : List (List ℕ)) → PushesTexts below old new key next xs → GrowsTexts below old new
grows_by below old new key next xs p = record {
  numbers = [];
  pushed = refl;
  more = p.more;
  grown = p.grown;
  apart = p.apart;
  stand = refl;
  keys = p.keys;
}

pub in_form_more : (texts more fresh : List (List ℕ)) (m : Tree) (one : InForm) → IsInForm texts fresh m one → IsInForm (texts ++ more) fresh m one
in_form_more texts more fresh (element name attributes children) one (seen, closed, stand) =
    (seen, closed, stand_more texts more (pair_numbers one.pair) (told_texts (untouched_pairs fresh (element name attributes children ∷ []))) stand)
in_form_more texts more fresh (words text) one none = none

pub in_form_grown : (below old new : Shapes) (key next : List ℕ) (xs fresh : List (List ℕ)) (m : Tree) (one : InForm) → PushesTexts below old new key next xs
    → IsInForm (below.texts ++ old.texts) fresh m one → IsInForm (below.texts ++ new.texts) fresh m one
in_form_grown below old new key next xs fresh m one p is =
    subst (λ ts. IsInForm ts fresh m one) (sym p.grown) (in_form_more (below.texts ++ old.texts) p.more fresh m one is)

pub in_forms_more : (texts more fresh : List (List ℕ)) (t : Tree) (all : List InForm) → AreInForms texts fresh t all → AreInForms (texts ++ more) fresh t all
in_forms_more texts more fresh t all are n m is =
    let (one, at, of) = are n m is in
    (one, at, in_form_more texts more fresh m one of)

pub in_forms_grown : (below old new : Shapes) (key next : List ℕ) (xs fresh : List (List ℕ)) (t : Tree) (all : List InForm) → PushesTexts below old new key next xs
    → AreInForms (below.texts ++ old.texts) fresh t all → AreInForms (below.texts ++ new.texts) fresh t all
in_forms_grown below old new key next xs fresh t all p are =
    subst (λ ts. AreInForms ts fresh t all) (sym p.grown) (in_forms_more (below.texts ++ old.texts) p.more fresh t all are)

pub ready_grown : (telling : Telling) (below old new : Shapes) (key next : List ℕ) (xs : List (List ℕ)) (t : Tree) → PushesTexts below old new key next xs
    → IsReady telling (below.texts ++ old.texts) t → IsReady telling (below.texts ++ new.texts) t
ready_grown Shown below old new key next xs t p ready = tt
ready_grown (Sent fresh all) below old new key next xs t p ready = in_forms_grown below old new key next xs fresh.now t all.now p ready

pub ready_begun : (telling : Telling) (told : Tree → List Attribute) (below old new : Shapes) (key : List ℕ) (t : Tree) (number : ℕ) → number < nodes t
    → ((m : Tree) → node_at (place_numbered number t) t ≡ Some m → BeginsNode told below old new key m)
    → IsReady telling (below.texts ++ old.texts) t → IsReady telling (below.texts ++ new.texts) t
ready_begun telling told below old new key t number less begins ready =
    let (m, is) = node_there (node_at (place_numbered number t) t) (has_node number t less) in
    ready_grown telling below old new _ key _ t (begins m is) ready

-- ---- what one node is

pub words_in_form : (texts fresh : List (List ℕ)) (o : Option Tree) (m : Tree) (one : InForm) → o ≡ Some m → None ≡ option_and_then name_of o → one.pair ≡ None
    → IsInForm texts fresh m one
words_in_form texts fresh None m one is none pair = cc
words_in_form texts fresh (Some (element name attributes children)) m one is none pair = cc
words_in_form texts fresh (Some (words text)) m one is none pair =
    let same : words text ≡ m = cc in
    subst (λ t. IsInForm texts fresh t one) same pair

pub element_in_form : (texts fresh : List (List ℕ)) (o : Option Tree) (m : Tree) (name : List ℕ) (one : InForm) (told : List Attribute) → o ≡ Some m
    → Some name ≡ option_and_then name_of o → one.seen ≡ is_seen (element name (option_map_or attributes_of o []) no_trees)
    → one.closed ≡ bytes_eq name (codes "textarea") → told ≡ untouched_pairs fresh (m ∷ []) → StandFor texts (pair_numbers one.pair) (told_texts told)
    → IsInForm texts fresh m one
element_in_form texts fresh o m name one told is named seen closed pairs stand =
    let whole = element_is o m name is named in
    let here : StandFor texts (pair_numbers one.pair) (told_texts (untouched_pairs fresh (m ∷ []))) =
    subst (λ ps. StandFor texts (pair_numbers one.pair) (told_texts ps)) pairs stand in
    subst (λ t. IsInForm texts fresh t one) (sym whole)
    (seen, closed, subst (λ t. StandFor texts (pair_numbers one.pair) (told_texts (untouched_pairs fresh (t ∷ [])))) whole here)

-- ---- all of a page

pub record InFormsSoFar (page : Tree) (fresh : List (List ℕ)) (below old new : Shapes) (all : List InForm) (i : ℕ) : Type 0 where
  pub many : length all ≡ i
  pub each : (n : ℕ) (m : Tree) → n < i → node_at (place_numbered n page) page ≡ Some m
      → (one : InForm) × (slice_get all n ≡ Some one) × IsInForm (below.texts ++ new.texts) fresh m one
  pub grown : GrowsTexts below old new

pub in_forms_begin : (page : Tree) (fresh : List (List ℕ)) (below own : Shapes) → InFormsSoFar page fresh below own own [] 0
in_forms_begin page fresh below own = record {
  many = refl;
  each = λ n m less is. absurd (omega (arith, less));
  grown = texts_none below own [];
}

pub in_forms_go_on : (page : Tree) (fresh : List (List ℕ)) (below old mid new : Shapes) (all further : List InForm) (one : InForm) (i : ℕ)
    → InFormsSoFar page fresh below old mid all i
    → ((m : Tree) → node_at (place_numbered i page) page ≡ Some m → IsInForm (below.texts ++ new.texts) fresh m one)
    → GrowsTexts below mid new → further ≡ all ++ one ∷ [] → InFormsSoFar page fresh below old new further (i + 1)
in_forms_go_on page fresh below old mid new all further one i so own grows is = record {
  many = ap length is ∙ omega (arith, so.many, length_one all);
  each = λ n m less there. elim (cases_lt n i) [
    | inl before ↦
        let (first, at, of) = so.each n m before there in (
          first,
          ap (λ l. slice_get l n) is ∙ get_first all (one ∷ []) n first at,
          in_form_grown below mid new [] [] [] fresh m first grows of,
        )
    | inr past ↦
        let last : n ≡ i = omega (arith, less, past) in
        let place : n ≡ length all + 0 = omega (arith, last, so.many) in (
          one,
          ap (λ l. slice_get l n) is ∙ ap (slice_get (all ++ one ∷ [])) place ∙ get_behind all (one ∷ []) 0,
          own m (ap (λ k. node_at (place_numbered k page) page) (sym last) ∙ there),
        )
  ];
  grown = texts_join below old mid new [] [] [] [] [] so.grown grows;
}
  where
    length_one : (xs : List InForm) → length (xs ++ one ∷ []) ≡ length xs + 1
    length_one [] = refl
    length_one (x ∷ xs) = omega (arith, length_one xs)

pub in_forms_end : (page : Tree) (fresh : List (List ℕ)) (below old new : Shapes) (all : List InForm) (i : ℕ) → InFormsSoFar page fresh below old new all i
    → nodes page ≤ i → AreInForms (below.texts ++ new.texts) fresh page all
in_forms_end page fresh below old new all i so done n m is = elim (cases_lt n (nodes page)) [
  | inl less ↦ so.each n m (omega (arith, less, done)) is
  | inr past ↦
      let none : node_at (place_numbered n page) page ≡ None = has_none n page past in
      cc
]

-- ---- pairs whose texts are known

pub known_none : (texts : List (List ℕ)) (key : List ℕ) → PushesKnown texts key key []
known_none texts key = ([], sym (append-nil key), refl)

pub known_join : (texts : List (List ℕ)) (key mid next : List ℕ) (xs ys : List Attribute) → PushesKnown texts key mid xs → PushesKnown texts mid next ys
    → PushesKnown texts key next (xs ++ ys)
known_join texts key mid next xs ys (ns, is, a) (ms, too, b) = (
  ns ++ ms,
  too ∙ ap (λ k. k ++ ms) is ∙ append_assoc key ns ms,
  subst (λ ts. StandFor texts (ns ++ ms) ts) (sym (told-append xs ys)) (stand_append texts ns ms (told_texts xs) (told_texts ys) a b),
)

pub known_texts : (below own : Shapes) (key next : List ℕ) (pairs : List Attribute) → PushesKnown (below.texts ++ own.texts) key next pairs
    → PushesTexts below own own key next (told_texts pairs)
known_texts below own key next pairs (ns, is, stand) = record {
  numbers = ns;
  pushed = is;
  more = [];
  grown = sym (append-nil (below.texts ++ own.texts));
  apart = λ apart. apart;
  stand = stand;
  keys = refl;
}

-- ---- a node and those under it

unseen_next : (covered : Bool) (ts : Trees) (i : ℕ) (c : Tree) → nth_child i ts ≡ Some c
    → unseen_in covered (first_trees (suc i) ts) ≡ unseen_in covered (first_trees i ts) ++ unseen_at covered c
unseen_next covered no_trees i c is = cc
unseen_next covered (tree t ts) zero c is =
    let same : t ≡ c = cc in
    ap (λ us. unseen_at covered t ++ unseen_in covered us) (first_none ts) ∙ append-nil (unseen_at covered t) ∙ ap (unseen_at covered) same
unseen_next covered (tree t ts) (suc i) c is =
    ap (λ l. unseen_at covered t ++ l) (unseen_next covered ts i c is) ∙ sym (append_assoc (unseen_at covered t) (unseen_in covered (first_trees i ts)) (unseen_at covered c))

open_node : (o : Option Tree) (m : Tree) → o ≡ Some m → option_map_or children_of o no_trees ≡ children_of m
open_node o m is = rw is refl

hidden_pushed : (texts fresh : List (List ℕ)) (hidden : Bool) (m : Tree) (key one : List ℕ) (pair : Option (ℕ × ℕ))
    → StandFor texts (pair_numbers pair) (told_texts (untouched_pairs fresh (m ∷ []))) → one ≡ key ++ (if hidden then pair_numbers pair else [])
    → PushesKnown texts key one (untouched_pairs fresh (if hidden then m ∷ [] else []))
hidden_pushed texts fresh true m key one pair stand is = (pair_numbers pair, is, stand)
hidden_pushed texts fresh false m key one pair stand is = ([], is, refl)

pub same_one : (all : List InForm) (n : ℕ) (own one : InForm) → slice_get all n ≡ Some own → one ≡ get_or all n one → own ≡ one
same_one all n own one at is =
    let here : slice_get all n ≡ Some (get_or all n one) = slice_get-get_or all n one (slice_get_within all n own at) in
    let same : own ≡ get_or all n one = cc in
    same ∙ sym is

-- the parts: the node itself, and what stands under it
pub node_pushed : (texts fresh : List (List ℕ)) (covered : Bool) (o : Option Tree) (m : Tree) (own : InForm) (key one next : List ℕ) → o ≡ Some m
    → IsInForm texts fresh m own → one ≡ key ++ (if (covered || not own.seen) then pair_numbers own.pair else [])
    → PushesKnown texts one next (untouched_pairs fresh (unseen_in ((covered || not own.seen) || own.closed) (option_map_or children_of o no_trees)))
    → PushesKnown texts key next (untouched_pairs fresh (unseen_at covered m))
node_pushed texts fresh covered o (element name attributes children) own key one next is (seen, closed, stand) first below =
    let m : Tree = element name attributes children in
    let hidden : Bool = covered || not own.seen in
    let self : List Tree = if hidden then m ∷ [] else [] in
    let under : unseen_in (hidden || own.closed) (option_map_or children_of o no_trees) ≡ unseen_in (hidden || bytes_eq name (codes "textarea")) children =
    ap (unseen_in (hidden || own.closed)) (open_node o m is) ∙ ap (λ b. unseen_in (hidden || b) children) closed in
    let both = known_join texts key one next (untouched_pairs fresh self)
    (untouched_pairs fresh (unseen_in (hidden || own.closed) (option_map_or children_of o no_trees)))
    (hidden_pushed texts fresh hidden m key one own.pair stand first) below in
    subst (λ ps. PushesKnown texts key next ps)
    (sym (pairs_append fresh self (unseen_in (hidden || own.closed) (option_map_or children_of o no_trees)))
    ∙ ap (λ l. untouched_pairs fresh (self ++ l)) under
    ∙ ap (λ b. untouched_pairs fresh ((if (covered || not b) then m ∷ [] else []) ++ unseen_in ((covered || not b) || bytes_eq name (codes "textarea")) children)) seen)
    both
node_pushed texts fresh covered o (words text) own key one next is none first below =
    let same : one ≡ key = first ∙ ap (λ l. key ++ l) (no_numbers (covered || not own.seen) own.pair none) ∙ append-nil key in
    let empty : unseen_in ((covered || not own.seen) || own.closed) (option_map_or children_of o no_trees) ≡ [] =
    ap (unseen_in ((covered || not own.seen) || own.closed)) (open_node o (words text) is) in
    subst (λ k. PushesKnown texts k next []) same (subst (λ ts. PushesKnown texts one next (untouched_pairs fresh ts)) empty below)
  where
    no_numbers : (b : Bool) (pair : Option (ℕ × ℕ)) → pair ≡ None → (if b then pair_numbers pair else []) ≡ []
    no_numbers true pair is = rw is refl
    no_numbers false pair is = refl

-- ---- the loop over children

pub record UnseenSoFar (page : Tree) (number : ℕ) (covered : Bool) (all : List InForm) (key next : List ℕ) (child i : ℕ) : Type 0 where
  pub place : i < child_count_at (place_numbered number page) page → place_numbered child page ≡ place_numbered number page ++ i ∷ []
  pub pushed : (texts fresh : List (List ℕ)) → AreInForms texts fresh page all
      → PushesKnown texts key next (untouched_pairs fresh (unseen_in covered (first_trees i (children_at (place_numbered number page) page))))
  pub behind : number < child

pub unseen_begin : (page : Tree) (number : ℕ) (covered : Bool) (all : List InForm) (key : List ℕ) (child : ℕ)
    → (0 < child_count_at (place_numbered number page) page → place_numbered child page ≡ place_numbered number page ++ 0 ∷ []) → child ≡ suc number
    → UnseenSoFar page number covered all key key child 0
unseen_begin page number covered all key child place first = record {
  place = place;
  pushed = λ texts fresh are.
      subst (λ ts. PushesKnown texts key key (untouched_pairs fresh (unseen_in covered ts))) (sym (first_none (children_at (place_numbered number page) page)))
      (known_none texts key);
  behind = omega (arith, first);
}

some_count : (o : Option Tree) (i : ℕ) → i < option_map_or (λ n. count (children_of n)) o 0 → (m : Tree) × (o ≡ Some m)
some_count None i less = absurd (omega (arith, less))
some_count (Some m) i less = (m, refl)

pub unseen_goes_on : (page : Tree) (number : ℕ) (covered : Bool) (all : List InForm) (key next last : List ℕ) (child behind i : ℕ)
    → i < child_count_at (place_numbered number page) page → UnseenSoFar page number covered all key next child i
    → ((texts fresh : List (List ℕ)) → AreInForms texts fresh page all → (c : Tree) → node_at (place_numbered child page) page ≡ Some c
    → PushesKnown texts next last (untouched_pairs fresh (unseen_at covered c)))
    → (suc i < child_count_at (place_numbered number page) page → place_numbered behind page ≡ place_numbered number page ++ suc i ∷ [])
    → child < behind → UnseenSoFar page number covered all key last behind (suc i)
unseen_goes_on page number covered all key next last child behind i within u told_here place later =
    let (m, is) = some_count (node_at (place_numbered number page) page) i within in
    let (c, here) = nth_there i (children_of m) (rw is at within) in
    let node : node_at (place_numbered child page) page ≡ Some c =
    ap (λ q. node_at q page) (u.place within) ∙ node_at_child (place_numbered number page) page m i is ∙ here in
    let children : children_at (place_numbered number page) page ≡ children_of m = open_node (node_at (place_numbered number page) page) m is in
    let more : unseen_in covered (first_trees i (children_at (place_numbered number page) page)) ++ unseen_at covered c
    ≡ unseen_in covered (first_trees (suc i) (children_at (place_numbered number page) page)) =
    ap (λ ts. unseen_in covered (first_trees i ts) ++ unseen_at covered c) children ∙ sym (unseen_next covered (children_of m) i c here)
    ∙ ap (λ ts. unseen_in covered (first_trees (suc i) ts)) (sym children) in
    record {
      place = place;
      pushed = λ texts fresh are.
          let first : List Tree = unseen_in covered (first_trees i (children_at (place_numbered number page) page)) in
          subst (λ ps. PushesKnown texts key last ps) (sym (pairs_append fresh first (unseen_at covered c)) ∙ ap (untouched_pairs fresh) more)
          (known_join texts key next last (untouched_pairs fresh first) (untouched_pairs fresh (unseen_at covered c)) (u.pushed texts fresh are) (told_here texts fresh are c node));
      behind = omega (arith, u.behind, later);
    }

count_at : (o : Option Tree) → option_map_or (λ n. count (children_of n)) o 0 ≡ count (option_map_or children_of o no_trees)
count_at None = refl
count_at (Some m) = refl

pub unseen_end : (page : Tree) (number : ℕ) (covered : Bool) (all : List InForm) (key next : List ℕ) (child i : ℕ)
    → UnseenSoFar page number covered all key next child i → child_count_at (place_numbered number page) page ≤ i
    → (texts fresh : List (List ℕ)) → AreInForms texts fresh page all
    → PushesKnown texts key next (untouched_pairs fresh (unseen_in covered (children_at (place_numbered number page) page)))
unseen_end page number covered all key next child i u done texts fresh are =
    subst (λ ts. PushesKnown texts key next (untouched_pairs fresh (unseen_in covered ts)))
    (all_first (children_at (place_numbered number page) page) i (omega (arith, done, count_at (node_at (place_numbered number page) page))))
    (u.pushed texts fresh are)

-- ---- what an element sends

-- a form more than what it sends itself
sent_apart : (fresh : List (List ℕ)) (name : List ℕ) (attributes : List Attribute) (children : Trees) → sent fresh (element name attributes children)
    ≡ sent fresh (element name attributes no_trees) ++ (if bytes_eq name (codes "form") then untouched_pairs fresh (unseen_in false children) else [])
sent_apart fresh name attributes children = by_form (bytes_eq name (codes "form")) _
  where
    by_form : (b : Bool) (rest : List Attribute) → (if b then sent_by_form fresh attributes children else rest)
        ≡ (if b then sent_by_form fresh attributes no_trees else rest) ++ (if b then untouched_pairs fresh (unseen_in false children) else [])
    by_form true rest = refl
    by_form false rest = sym (append-nil rest)

pub form_pushed : (below old new : Shapes) (fresh : List (List ℕ)) (key mid next name : List ℕ) (attributes : List Attribute) (children : Trees)
    → true ≡ bytes_eq name (codes "form") → PushesTexts below old new key mid (told_texts (sent fresh (element name attributes no_trees)))
    → PushesKnown (below.texts ++ new.texts) mid next (untouched_pairs fresh (unseen_in false children))
    → PushesTexts below old new key next (told_texts (sent fresh (element name attributes children)))
form_pushed below old new fresh key mid next name attributes children is own under =
    let first : List Attribute = sent fresh (element name attributes no_trees) in
    let rest : List Attribute = untouched_pairs fresh (unseen_in false children) in
    let all : first ++ rest ≡ sent fresh (element name attributes children) =
    ap (λ b. first ++ (if b then rest else [])) is ∙ sym (sent_apart fresh name attributes children) in
    subst (λ ps. PushesTexts below old new key next (told_texts ps)) all
    (subst (λ xs. PushesTexts below old new key next xs) (sym (told-append first rest))
    (texts_join below old new new key mid next (told_texts first) (told_texts rest) own (known_texts below new mid next rest under)))

pub other_pushed : (below old new : Shapes) (fresh : List (List ℕ)) (key next name : List ℕ) (attributes : List Attribute) (children : Trees)
    → false ≡ bytes_eq name (codes "form") → PushesTexts below old new key next (told_texts (sent fresh (element name attributes no_trees)))
    → PushesTexts below old new key next (told_texts (sent fresh (element name attributes children)))
other_pushed below old new fresh key next name attributes children is own =
    let first : List Attribute = sent fresh (element name attributes no_trees) in
    let all : first ≡ sent fresh (element name attributes children) =
    sym (append-nil first) ∙ ap (λ b. first ++ (if b then untouched_pairs fresh (unseen_in false children) else [])) is
    ∙ sym (sent_apart fresh name attributes children) in
    subst (λ ps. PushesTexts below old new key next (told_texts ps)) all own

-- ---- how much is told

pub begun_long : (below old mid new : Shapes) (key next : List ℕ) (xs ys : List (List ℕ)) → PushesTexts below old mid (0 ∷ []) key xs → PushesTexts below mid new key next ys
    → 0 < length next
begun_long below old mid new key next xs ys a b =
    omega (arith, ap length b.pushed, ap length a.pushed, length-append key b.numbers)

pub counted : (below old new : Shapes) (key last name : List ℕ) (told : List Attribute) → PushesTexts below old new (0 ∷ []) key (name ∷ told_texts told)
    → last ≡ set key 0 (length key / 2) → PushesTexts below old new (suc (length told) ∷ []) last (name ∷ told_texts told)
counted below old new key last name told p is =
    let long : length key ≡ suc (length p.numbers) = ap length p.pushed in
    let numbers : length p.numbers ≡ suc (length (told_texts told)) = stand_length (below.texts ++ new.texts) p.numbers (name ∷ told_texts told) p.stand in
    let half : length key / 2 ≡ suc (length told) = omega (arith, long, numbers, told_length told) in
    record {
      numbers = p.numbers;
      pushed = is ∙ ap (λ l. set l 0 (length key / 2)) p.pushed ∙ ap (λ n. n ∷ p.numbers) half;
      more = p.more;
      grown = p.grown;
      apart = p.apart;
      stand = p.stand;
      keys = p.keys;
    }
