-- Looks that are numbered child by child.
use Rattle.std.proofs.Common.{◌≡◌, ℕ, zero, suc, ◌+◌, ◌<◌, ◌≤◌, List, [], ◌∷◌, ◌++◌, length, Some, refl, sym, ◌∙◌, ap, arith, append_assoc, append-nil, Bool, true, false, if◌then◌else◌, subst}
use Rattle.page_tree.specs.Tree.{Attribute, Tree, Trees, no_trees, tree}
use Rattle.page_tree.specs.Limits.{nodes, nodes_of_all}
use Rattle.page_tree.specs.Look.{children_of, node_at, nth_child, count, child_count_at}
use Rattle.page_tree.specs.Number.{place_numbered, first_trees}
use Rattle.page_tree.proofs.Numbers.{place_number, number_child, number_of_numbered, nth_there, node_at_child}
use Rattle.page_looks.specs.Outline.{is_seen, outlines, outline, open_children}
use Rattle.page_looks.specs.inside.Shapes.{listed}
use Rattle.page_looks.specs.inside.Ranks.{subtrees, subtrees_in, seen_from, seen_in}
use Rattle.page_looks.specs.inside.Numbering.{KnowsAll, PushesLooks, NumbersParts}
use Rattle.page_looks.specs.declared.shapes.Shapes.{Shapes}
use Rattle.page_looks.proofs.KeptOnce.{stand_more, stand_append}

-- ---- lists of children

listed_next : (told : Tree → List Attribute) (ts : Trees) (i : ℕ) (c : Tree) → nth_child i ts ≡ Some c
    → listed (outlines told (first_trees (suc i) ts)) ≡ listed (outlines told (first_trees i ts)) ++ listed (outlines told (tree c no_trees))
listed_next told no_trees i c is = cc
listed_next told (tree t ts) zero c is =
    let same : t ≡ c = cc in
    ap (λ u. listed (outlines told (tree u no_trees))) same
listed_next told (tree t ts) (suc i) c is = shows (is_seen t) (listed_next told ts i c is)
  where
    shows : (b : Bool) → listed (outlines told (first_trees (suc i) ts)) ≡ listed (outlines told (first_trees i ts)) ++ listed (outlines told (tree c no_trees))
        → listed (if b then tree (outline told t) (outlines told (first_trees (suc i) ts)) else outlines told (first_trees (suc i) ts))
        ≡ listed (if b then tree (outline told t) (outlines told (first_trees i ts)) else outlines told (first_trees i ts)) ++ listed (outlines told (tree c no_trees))
    shows true rest = ap (λ l. outline told t ∷ l) rest
    shows false rest = rest

subtrees_next : (told : Tree → List Attribute) (ts : Trees) (i : ℕ) (c : Tree) → nth_child i ts ≡ Some c
    → subtrees_in (outlines told (first_trees (suc i) ts)) ≡ subtrees_in (outlines told (first_trees i ts)) ++ subtrees_in (outlines told (tree c no_trees))
subtrees_next told no_trees i c is = cc
subtrees_next told (tree t ts) zero c is =
    let same : t ≡ c = cc in
    ap (λ u. subtrees_in (outlines told (tree u no_trees))) same
subtrees_next told (tree t ts) (suc i) c is = shows (is_seen t) (subtrees_next told ts i c is)
  where
    shows : (b : Bool)
        → subtrees_in (outlines told (first_trees (suc i) ts)) ≡ subtrees_in (outlines told (first_trees i ts)) ++ subtrees_in (outlines told (tree c no_trees))
        → subtrees_in (if b then tree (outline told t) (outlines told (first_trees (suc i) ts)) else outlines told (first_trees (suc i) ts))
        ≡ subtrees_in (if b then tree (outline told t) (outlines told (first_trees i ts)) else outlines told (first_trees i ts))
        ++ subtrees_in (outlines told (tree c no_trees))
    shows true rest = ap (λ l. subtrees (outline told t) ++ l) rest ∙ sym (append_assoc (subtrees (outline told t)) _ _)
    shows false rest = rest

seen_shows : (b : Bool) (n i : ℕ) (t : Tree) (ts : Trees) (last : List ℕ)
    → seen_in (n + nodes t) (first_trees (suc i) ts) ≡ seen_in (n + nodes t) (first_trees i ts) ++ last
    → (if b then seen_from n t ++ seen_in (n + nodes t) (first_trees (suc i) ts) else seen_in (n + nodes t) (first_trees (suc i) ts))
    ≡ (if b then seen_from n t ++ seen_in (n + nodes t) (first_trees i ts) else seen_in (n + nodes t) (first_trees i ts)) ++ last
seen_shows true n i t ts last rest = ap (λ l. seen_from n t ++ l) rest ∙ sym (append_assoc (seen_from n t) (seen_in (n + nodes t) (first_trees i ts)) last)
seen_shows false n i t ts last rest = rest

seen_next : (ts : Trees) (i n : ℕ) (c : Tree) → nth_child i ts ≡ Some c
    → seen_in n (first_trees (suc i) ts) ≡ seen_in n (first_trees i ts) ++ seen_in (n + nodes_of_all (first_trees i ts)) (tree c no_trees)
seen_next no_trees i n c is = cc
seen_next (tree t ts) zero n c is =
    let same : t ≡ c = cc in
    let none : n ≡ n + 0 = omega arith in
    ap (λ u. seen_in n (tree u no_trees)) same ∙ ap (λ k. seen_in k (tree c no_trees)) none
seen_next (tree t ts) (suc i) n c is =
    let more : n + nodes t + nodes_of_all (first_trees i ts) ≡ n + (nodes t + nodes_of_all (first_trees i ts)) = omega arith in
    seen_shows (is_seen t) n i t ts (seen_in (n + (nodes t + nodes_of_all (first_trees i ts))) (tree c no_trees))
    (seen_next ts i (n + nodes t) c is ∙ ap (λ k. seen_in (n + nodes t) (first_trees i ts) ++ seen_in k (tree c no_trees)) more)

pub all_first : (ts : Trees) (i : ℕ) → count ts ≤ i → first_trees i ts ≡ ts
all_first no_trees zero many = refl
all_first no_trees (suc i) many = refl
all_first (tree t ts) zero many = absurd (omega (arith, many))
all_first (tree t ts) (suc i) many = ap (tree t) (all_first ts i (omega (arith, many)))

-- ---- looks one after another

looks_join : (below old mid new : Shapes) (known : List Tree) (looks next last : List ℕ) (xs ys : List Tree) → (a : PushesLooks below old mid known looks next xs)
    → (b : PushesLooks below mid new (known ++ a.more) next last ys) → PushesLooks below old new known looks last (xs ++ ys)
looks_join below old mid new known looks next last xs ys a b =
    let all : (known ++ a.more) ++ b.more ≡ known ++ (a.more ++ b.more) = append_assoc known a.more b.more in
    record {
      more = a.more ++ b.more;
      knows = rw all at b.knows;
      texts = a.texts ++ b.texts;
      grown = b.grown ∙ ap (λ t. t ++ b.texts) a.grown ∙ append_assoc (below.texts ++ old.texts) a.texts b.texts;
      numbers = a.numbers ++ b.numbers;
      pushed = b.pushed ∙ ap (λ k. k ++ b.numbers) a.pushed ∙ append_assoc looks a.numbers b.numbers;
      stand = rw all at (stand_append ((known ++ a.more) ++ b.more) a.numbers b.numbers xs ys (stand_more (known ++ a.more) b.more a.numbers xs a.stand) b.stand);
    }

looks_none : (below own : Shapes) (known : List Tree) (looks : List ℕ) → KnowsAll below own known → PushesLooks below own own known looks looks []
looks_none below own known looks k = record {
  more = [];
  knows = rw (append-nil known) k;
  texts = [];
  grown = sym (append-nil (below.texts ++ own.texts));
  numbers = [];
  pushed = sym (append-nil looks);
  stand = refl;
}

pub parts_none : (told : Tree → List Attribute) (below own : Shapes) (looks key : List ℕ) → NumbersParts below own own looks looks key key no_trees
parts_none told below own looks key known k = (looks_none below own known looks k, ([], sym (append-nil key), refl))

parts_join : (told : Tree → List Attribute) (below old mid new : Shapes) (looks next last key longer longest : List ℕ) (ts us vs : Trees)
    → subtrees_in (outlines told vs) ≡ subtrees_in (outlines told ts) ++ subtrees_in (outlines told us)
    → listed (outlines told vs) ≡ listed (outlines told ts) ++ listed (outlines told us)
    → NumbersParts below old mid looks next key longer (outlines told ts) → NumbersParts below mid new next last longer longest (outlines told us)
    → NumbersParts below old new looks last key longest (outlines told vs)
parts_join told below old mid new looks next last key longer longest ts us vs all lists a b known k =
    let (w, (parts, pushed, stand)) = a known k in
    let (v, (further, more, also)) = b (known ++ w.more) w.knows in
    let joined = looks_join below old mid new known looks next last (subtrees_in (outlines told ts)) (subtrees_in (outlines told us)) w v in
    let known_all : (known ++ w.more) ++ v.more ≡ known ++ (w.more ++ v.more) = append_assoc known w.more v.more in (
      record {
        more = w.more ++ v.more;
        knows = rw known_all at v.knows;
        texts = w.texts ++ v.texts;
        grown = v.grown ∙ ap (λ t. t ++ v.texts) w.grown ∙ append_assoc (below.texts ++ old.texts) w.texts v.texts;
        numbers = w.numbers ++ v.numbers;
        pushed = v.pushed ∙ ap (λ q. q ++ v.numbers) w.pushed ∙ append_assoc looks w.numbers v.numbers;
        stand = rw all (rw known_all at (stand_append ((known ++ w.more) ++ v.more) w.numbers v.numbers (subtrees_in (outlines told ts))
            (subtrees_in (outlines told us)) (stand_more (known ++ w.more) v.more w.numbers (subtrees_in (outlines told ts)) w.stand) v.stand));
      },
      (
        parts ++ further,
        more ∙ ap (λ q. q ++ further) pushed ∙ append_assoc key parts further,
        rw lists (rw known_all at (stand_append ((known ++ w.more) ++ v.more) parts further (listed (outlines told ts)) (listed (outlines told us))
            (stand_more (known ++ w.more) v.more parts (listed (outlines told ts)) stand) also)),
      ),
    )

-- ---- the loop over children

pub record PartsSoFar (told : Tree → List Attribute) (page : Tree) (number : ℕ) (below old new : Shapes) (seen further looks next key longer : List ℕ) (child i : ℕ) : Type 0 where
  pub place : i < child_count_at (place_numbered number page) page → place_numbered child page ≡ place_numbered number page ++ i ∷ []
  pub nodes : (m : Tree) → node_at (place_numbered number page) page ≡ Some m → further ≡ seen ++ seen_in (suc number) (first_trees i (children_of m))
  pub parts : (m : Tree) → node_at (place_numbered number page) page ≡ Some m
      → NumbersParts below old new looks next key longer (outlines told (first_trees i (children_of m)))
  pub long : length looks ≤ length next
  pub behind : number < child

pub first_none : (ts : Trees) → first_trees 0 ts ≡ no_trees
first_none no_trees = refl
first_none (tree t ts) = refl

pub parts_begin : (told : Tree → List Attribute) (page : Tree) (number : ℕ) (below own : Shapes) (seen looks key : List ℕ) (child : ℕ)
    → (0 < child_count_at (place_numbered number page) page → place_numbered child page ≡ place_numbered number page ++ 0 ∷ []) → child ≡ suc number
    → PartsSoFar told page number below own own seen seen looks looks key key child 0
parts_begin told page number below own seen looks key child place first = record {
  place = place;
  nodes = λ m is. sym (append-nil seen) ∙ ap (λ ts. seen ++ seen_in (suc number) ts) (sym (first_none (children_of m)));
  parts = λ m is. subst (λ ts. NumbersParts below own own looks looks key key (outlines told ts)) (sym (first_none (children_of m))) (parts_none told below own looks key);
  long = omega arith;
  behind = omega (arith, first);
}

child_is : (page : Tree) (number child i : ℕ) (m c : Tree) → number < nodes page → child < nodes page → place_numbered child page ≡ place_numbered number page ++ i ∷ []
    → node_at (place_numbered number page) page ≡ Some m → child ≡ suc number + nodes_of_all (first_trees i (children_of m))
child_is page number child i m c less few place is =
    sym (number_of_numbered child page few) ∙ ap (λ p. place_number p page) place ∙ number_child (place_numbered number page) page m i is
    ∙ omega (arith, number_of_numbered number page less)

pub parts_go_on : (told : Tree → List Attribute) (page : Tree) (number : ℕ) (below old mid new : Shapes) (seen further last looks next longest key longer all : List ℕ) (child behind i : ℕ)
    → number < nodes page → child < nodes page → i < child_count_at (place_numbered number page) page
    → PartsSoFar told page number below old mid seen further looks next key longer child i
    → ((c : Tree) → node_at (place_numbered child page) page ≡ Some c → last ≡ further ++ seen_in child (tree c no_trees))
    → ((c : Tree) → node_at (place_numbered child page) page ≡ Some c → NumbersParts below mid new next longest longer all (outlines told (tree c no_trees)))
    → length next ≤ length longest
    → (suc i < child_count_at (place_numbered number page) page → place_numbered behind page ≡ place_numbered number page ++ suc i ∷ [])
    → child < behind → PartsSoFar told page number below old new seen last looks longest key all behind (suc i)
parts_go_on told page number below old mid new seen further last looks next longest key longer all child behind i less few within p nodes_are parts_are long place later = record {
  place = place;
  nodes = λ m is.
      let (c, here) = nth_there i (children_of m) (rw is at within) in
      let node : node_at (place_numbered child page) page ≡ Some c =
      ap (λ q. node_at q page) (p.place within) ∙ node_at_child (place_numbered number page) page m i is ∙ here in
      let at : child ≡ suc number + nodes_of_all (first_trees i (children_of m)) = child_is page number child i m c less few (p.place within) is in
      nodes_are c node ∙ ap (λ l. l ++ seen_in child (tree c no_trees)) (p.nodes m is) ∙ append_assoc seen _ _
      ∙ ap (λ k. seen ++ (seen_in (suc number) (first_trees i (children_of m)) ++ seen_in k (tree c no_trees))) at
      ∙ ap (λ l. seen ++ l) (sym (seen_next (children_of m) i (suc number) c here));
  parts = λ m is.
      let (c, here) = nth_there i (children_of m) (rw is at within) in
      let node : node_at (place_numbered child page) page ≡ Some c =
      ap (λ q. node_at q page) (p.place within) ∙ node_at_child (place_numbered number page) page m i is ∙ here in
      parts_join told below old mid new looks next longest key longer all (first_trees i (children_of m)) (tree c no_trees) (first_trees (suc i) (children_of m))
      (subtrees_next told (children_of m) i c here) (listed_next told (children_of m) i c here) (p.parts m is) (parts_are c node);
  long = omega (arith, p.long, long);
  behind = omega (arith, p.behind, later);
}

pub parts_end : (told : Tree → List Attribute) (page : Tree) (number : ℕ) (below old new : Shapes) (seen further looks next key longer : List ℕ) (child i : ℕ) (m : Tree)
    → PartsSoFar told page number below old new seen further looks next key longer child i → child_count_at (place_numbered number page) page ≤ i
    → node_at (place_numbered number page) page ≡ Some m → open_children m ≡ children_of m
    → (further ≡ seen ++ seen_in (suc number) (open_children m)) × NumbersParts below old new looks next key longer (outlines told (open_children m))
parts_end told page number below old new seen further looks next key longer child i m p done is open_all =
    let all : first_trees i (children_of m) ≡ children_of m = all_first (children_of m) i (rw is at done) in
    let whole : first_trees i (children_of m) ≡ open_children m = all ∙ sym open_all in (
      p.nodes m is ∙ ap (λ ts. seen ++ seen_in (suc number) ts) whole,
      subst (λ ts. NumbersParts below old new looks next key longer (outlines told ts)) whole (p.parts m is),
    )
