-- The number of a node's look, from those of its texts and its parts.
use Rattle.std.proofs.Common.{◌≡◌, ℕ, suc, List, [], ◌∷◌, ◌++◌, length, map, set, Some, slice_get, refl, sym, ◌∙◌, ap, arith, append_assoc, append-nil, Bool, true, false, if◌then◌else◌, subst}
use Rattle.std.specs.Prelude.{codes}
use Rattle.std.specs.Str.{bytes_eq}
use Rattle.page_tree.specs.Tree.{Attribute, Tree, element, words, no_trees, tree}
use Rattle.page_tree.specs.Look.{children_of}
use Rattle.page_looks.specs.Outline.{is_seen, outline, outlines, open_children}
use Rattle.page_looks.specs.inside.Numbers.{IsPutIn, StandFor}
use Rattle.page_looks.specs.inside.Shapes.{listed, IsKey}
use Rattle.page_looks.specs.inside.Ranks.{subtrees, subtrees_in, seen_from, seen_in}
use Rattle.page_looks.specs.inside.Numbering.{KnowsAll, PushesTexts, NumbersNode, NumbersParts, key_head, key_texts}
use Rattle.page_looks.specs.declared.shapes.Shapes.{Shapes}
use Rattle.page_looks.proofs.KeptOnce.{stand_more, stand_length}
use Rattle.page_looks.proofs.KeyLaws.{knows_key}
use Rattle.page_looks.proofs.NumberingLaws.{knows_texts}
use Rattle.page_looks.proofs.PartLaws.{parts_none}
use Rattle.page_looks.proofs.Outlines.{outline_children}

-- ---- its key

pub empty_list : {X : Type 0} (xs : List X) → length xs ≡ 0 → xs ≡ []
empty_list [] long = refl
empty_list (x ∷ xs) long = absurd (omega (arith, long))

single : {X : Type 0} (all : List X) (ns : List ℕ) (x : X) → StandFor all ns (x ∷ []) → (n : ℕ) × (ns ≡ n ∷ []) × (slice_get all n ≡ Some x)
single all [] x are = cc
single all (n ∷ ns) x are =
    let rest : StandFor all ns [] = cc in
    let none : ns ≡ [] = empty_list ns (stand_length all ns [] rest) in
    let here : slice_get all n ≡ Some x = cc in
    (n, ap (λ l. n ∷ l) none, here)

key_is : (told : Tree → List Attribute) (texts : List (List ℕ)) (known : List Tree) (m : Tree) (own parts longer : List ℕ) → longer ≡ key_head told m ∷ own ++ parts
    → StandFor texts own (key_texts told m) → StandFor known parts (listed (outlines told (open_children m))) → IsKey texts known (outline told m) longer
key_is told texts known (words text) own parts longer is texts_are parts_are =
    let (n, one, at) = single texts own text texts_are in
    let none : parts ≡ [] = empty_list parts (stand_length known parts [] parts_are) in
    (n, is ∙ ap (λ o. 0 ∷ o ++ parts) one ∙ ap (λ p. 0 ∷ n ∷ p) none, at)
key_is told texts known (element name attributes children) own parts longer is texts_are parts_are =
    (own, parts, is, texts_are, rw (outline_children told (element name attributes children)) parts_are)

open_subtrees : (t : Tree) → subtrees t ≡ t ∷ subtrees_in (children_of t)
open_subtrees (element name attributes children) = refl
open_subtrees (words text) = refl

set_behind : (xs ys : List ℕ) (x y : ℕ) → set (xs ++ x ∷ ys) (length xs) y ≡ xs ++ y ∷ ys
set_behind [] ys x y = refl
set_behind (z ∷ zs) ys x y = ap (λ l. z ∷ l) (set_behind zs ys x y)

-- ---- a node

pub node_numbered : (told : Tree → List Attribute) (below old one two new : Shapes) (m : Tree) (key longer looks next last : List ℕ) (n : ℕ)
    → PushesTexts below old one (key_head told m ∷ []) key (key_texts told m) → NumbersParts below one two (looks ++ 0 ∷ []) next key longer (outlines told (open_children m))
    → IsPutIn (below.keys ++ two.keys) (below.keys ++ new.keys) longer n → new.texts ≡ two.texts → last ≡ set next (length looks) n
    → NumbersNode told below old new looks last n m
node_numbered told below old one two new m key longer looks next last n own parts put texts_same last_is known k =
    let k_one = knows_texts below old one (key_head told m ∷ []) key (key_texts told m) known own k in
    let (w, (part_numbers, pushed, stand)) = parts known k_one in
    let key_whole : longer ≡ key_head told m ∷ own.numbers ++ part_numbers = pushed ∙ ap (λ q. q ++ part_numbers) own.pushed in
    let texts_are : StandFor (below.texts ++ two.texts) own.numbers (key_texts told m) =
    rw (w.grown) (stand_more (below.texts ++ one.texts) w.texts own.numbers (key_texts told m) own.stand) in
    let is_key = key_is told (below.texts ++ two.texts) (known ++ w.more) m own.numbers part_numbers longer key_whole texts_are stand in
    let q = knows_key (below.texts ++ two.texts) (below.keys ++ two.keys) (below.keys ++ new.keys) (known ++ w.more) (outline told m) longer n w.knows is_key put in
    let all : (known ++ w.more) ++ q.more ≡ known ++ (w.more ++ q.more) = append_assoc known w.more q.more in
    let shape : subtrees (outline told m) ≡ outline told m ∷ subtrees_in (outlines told (open_children m)) =
    open_subtrees (outline told m) ∙ ap (λ ts. outline told m ∷ subtrees_in ts) (outline_children told m) in
    let further : StandFor ((known ++ w.more) ++ q.more) w.numbers (subtrees_in (outlines told (open_children m))) =
    stand_more (known ++ w.more) q.more w.numbers (subtrees_in (outlines told (open_children m))) w.stand in
    let both : StandFor ((known ++ w.more) ++ q.more) (n ∷ w.numbers) (outline told m ∷ subtrees_in (outlines told (open_children m))) = cc (q.at, further) in
    let knows_new : KnowsAll below new ((known ++ w.more) ++ q.more) = rw texts_same q.knows in
    let stand_new : StandFor (known ++ (w.more ++ q.more)) (n ∷ w.numbers) (outline told m ∷ subtrees_in (outlines told (open_children m))) =
    subst (λ ks. StandFor ks (n ∷ w.numbers) (outline told m ∷ subtrees_in (outlines told (open_children m)))) all both in
    let line : (looks ++ 0 ∷ []) ++ w.numbers ≡ looks ++ 0 ∷ w.numbers = append_assoc looks (0 ∷ []) w.numbers in (
      record {
        more = w.more ++ q.more;
        knows = subst (λ ks. KnowsAll below new ks) all knows_new;
        texts = own.more ++ w.texts;
        grown = ap (λ t. below.texts ++ t) texts_same ∙ w.grown ∙ ap (λ t. t ++ w.texts) own.grown
            ∙ append_assoc (below.texts ++ old.texts) own.more w.texts;
        numbers = n ∷ w.numbers;
        pushed = last_is ∙ ap (λ l. set l (length looks) n) (w.pushed ∙ line) ∙ set_behind looks w.numbers 0 n;
        stand = subst (λ xs. StandFor (known ++ (w.more ++ q.more)) (n ∷ w.numbers) xs) (sym shape) stand_new;
      },
      subst (λ ks. slice_get ks n ≡ Some (outline told m)) all q.at,
    )

-- where nothing is seen under a node
pub parts_covered : (told : Tree → List Attribute) (below own : Shapes) (looks key : List ℕ) (m : Tree) → open_children m ≡ no_trees → NumbersParts below own own looks looks key key (outlines told (open_children m))
parts_covered told below own looks key m none = subst (λ ts. NumbersParts below own own looks looks key key (outlines told ts)) (sym none) (parts_none told below own looks key)

-- ---- a child

-- one that isn't seen adds nothing
pub child_unseen : (told : Tree → List Attribute) (below own : Shapes) (looks key : List ℕ) (m : Tree) → false ≡ is_seen m → NumbersParts below own own looks looks key key (outlines told (tree m no_trees))
child_unseen told below own looks key m hidden = rw (sym hidden) (parts_none told below own looks key)

pub unseen_numbers : (n : ℕ) (m : Tree) (seen : List ℕ) → false ≡ is_seen m → seen ≡ seen ++ seen_in n (tree m no_trees)
unseen_numbers n m seen hidden = rw (sym hidden) (sym (append-nil seen))

pub child_seen_numbers : (n : ℕ) (m : Tree) (seen further : List ℕ) → true ≡ is_seen m → further ≡ seen ++ seen_from n m → further ≡ seen ++ seen_in n (tree m no_trees)
child_seen_numbers n m seen further shows is = rw (sym shows) (is ∙ ap (λ l. seen ++ l) (sym (append-nil (seen_from n m))))

pub child_numbered : (told : Tree → List Attribute) (below old new : Shapes) (looks next key longer : List ℕ) (n : ℕ) (m : Tree) → true ≡ is_seen m → NumbersNode told below old new looks next n m
    → longer ≡ key ++ n ∷ [] → NumbersParts below old new looks next key longer (outlines told (tree m no_trees))
child_numbered told below old new looks next key longer n m shows node pushed known k =
    let (w, at) = node known k in
    let own : StandFor (known ++ w.more) (n ∷ []) (outline told m ∷ []) = ap (λ o. o ∷ []) at in (
      record {
        more = w.more;
        knows = w.knows;
        texts = w.texts;
        grown = w.grown;
        numbers = w.numbers;
        pushed = w.pushed;
        stand = rw (sym shows) (w.stand ∙ ap (map Some) (append_end (subtrees (outline told m))));
      },
      (n ∷ [], pushed, rw (sym shows) own),
    )
  where
    append_end : (xs : List Tree) → xs ≡ xs ++ []
    append_end xs = sym (append-nil xs)

pub open_numbers : (n : ℕ) (m : Tree) → seen_from n m ≡ n ∷ seen_in (suc n) (open_children m)
open_numbers n (element name attributes children) = ap (λ l. n ∷ l) (covered (bytes_eq name (codes "textarea")))
  where
    covered : (b : Bool) → (if b then [] else seen_in (suc n) children) ≡ seen_in (suc n) (if b then no_trees else children)
    covered true = refl
    covered false = refl
open_numbers n (words text) = refl
