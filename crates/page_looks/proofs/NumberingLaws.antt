-- Texts and looks that are numbered one after another.
use Rattle.std.proofs.Common.{◌≡◌, ℕ, zero, suc, ◌+◌, ◌<◌, List, [], ◌∷◌, ◌++◌, length, Some, None, Option, slice_get, refl, sym, ◌∙◌, ap, inl, inr, arith, append_assoc, append-nil, take, get_or, option_and_then}
use Rattle.std.specs.Option.{option_map_or}
use Rattle.std.specs.Global.{Global}
use Rattle.std.specs.Cow.{cow_str_bytes}
use Rattle.std.specs.declared.borrow.CowStr.{CowStr}
use Rattle.page_looks.specs.inside.Told.{told_seen}
use Rattle.page_tree.specs.inside.Kept.{attributes_at, children_at, words_at}
use Rattle.page_tree.specs.Tree.{Attribute, Tree, element, words, no_trees}
use Rattle.page_tree.specs.Look.{value_of, node_at, name_at, name_of, words_of, attributes_of, children_of}
use Rattle.page_looks.specs.Outline.{those_named}
use Rattle.page_looks.specs.inside.Numbers.{IsPutIn}
use Rattle.page_looks.specs.inside.Shapes.{told_texts}
use Rattle.page_looks.specs.inside.Numbering.{KnowsAll, PushesTexts, BeginsNode, key_head, key_texts}
use Rattle.page_looks.specs.declared.shapes.Shapes.{Shapes}
use Rattle.page_looks.proofs.KeptOnce.{apart_more, stand_more, stand_append}
use Rattle.page_looks.proofs.KeyLaws.{key_more}

-- ---- texts

pub texts_none : (below own : Shapes) (key : List ℕ) → PushesTexts below own own key key []
texts_none below own key = record {
  numbers = [];
  pushed = sym (append-nil key);
  more = [];
  grown = sym (append-nil (below.texts ++ own.texts));
  apart = λ apart. apart;
  stand = refl;
  keys = refl;
}

pub texts_one : (below old new : Shapes) (key next : List ℕ) (x : List ℕ) (n : ℕ) → IsPutIn (below.texts ++ old.texts) (below.texts ++ new.texts) x n
    → new.keys ≡ old.keys → next ≡ key ++ n ∷ [] → PushesTexts below old new key next (x ∷ [])
texts_one below old new key next x n put keys is = elim put.grown [
  | inl same ↦ record {
    numbers = n ∷ [];
    pushed = is;
    more = [];
    grown = same ∙ sym (append-nil (below.texts ++ old.texts));
    apart = λ apart. rw same apart;
    stand = ap (λ o. o ∷ []) put.at;
    keys = keys;
  }
  | inr w ↦ record {
    numbers = n ∷ [];
    pushed = is;
    more = x ∷ [];
    grown = w.0;
    apart = λ apart. rw (w.0) (apart_more (below.texts ++ old.texts) x apart w.2);
    stand = ap (λ o. o ∷ []) put.at;
    keys = keys;
  }
]

pub texts_join : (below old mid new : Shapes) (key next last : List ℕ) (xs ys : List (List ℕ)) → PushesTexts below old mid key next xs
    → PushesTexts below mid new next last ys → PushesTexts below old new key last (xs ++ ys)
texts_join below old mid new key next last xs ys a b = record {
  numbers = a.numbers ++ b.numbers;
  pushed = b.pushed ∙ ap (λ k. k ++ b.numbers) a.pushed ∙ append_assoc key a.numbers b.numbers;
  more = a.more ++ b.more;
  grown = b.grown ∙ ap (λ t. t ++ b.more) a.grown ∙ append_assoc (below.texts ++ old.texts) a.more b.more;
  apart = λ apart. b.apart (a.apart apart);
  stand = stand_append (below.texts ++ new.texts) a.numbers b.numbers xs ys
      (rw (b.grown) (stand_more (below.texts ++ mid.texts) b.more a.numbers xs a.stand)) b.stand;
  keys = b.keys ∙ a.keys;
}

pub texts_more : (below old mid one two new : Shapes) (key next k l : List ℕ) (xs : List (List ℕ)) (name value : List ℕ) → PushesTexts below old mid key next xs
    → PushesTexts below mid one next k (name ∷ []) → PushesTexts below one new k l (value ∷ []) → PushesTexts below old new key l (xs ++ name ∷ value ∷ [])
texts_more below old mid one two new key next k l xs name value a b c =
    texts_join below old mid new key next l xs (name ∷ value ∷ []) a (texts_join below mid one new next k l (name ∷ []) (value ∷ []) b c)

pub told-append : (told more : List Attribute) → told_texts (told ++ more) ≡ told_texts told ++ told_texts more
told-append [] more = refl
told-append (a ∷ told) more = ap (λ r. a.0 ∷ a.1 ∷ r) (told-append told more)

pub knows_texts : (below old new : Shapes) (key next : List ℕ) (xs : List (List ℕ)) (known : List Tree) → PushesTexts below old new key next xs
    → KnowsAll below old known → KnowsAll below new known
knows_texts below old new key next xs known p k = record {
  apart = p.apart k.apart;
  many = k.many ∙ ap (λ ks. length (below.keys ++ ks)) (sym p.keys);
  each = λ i t is.
      let (own, at, of) = k.each i t is in (
        own,
        ap (λ ks. slice_get (below.keys ++ ks) i) p.keys ∙ at,
        rw (p.grown) (rw (append-nil known) at (key_more (below.texts ++ old.texts) p.more known [] t own of)),
      );
  once = k.once;
}

-- ---- what is told

pub one_told : (name : List ℕ) (rest : List (List ℕ)) (attributes : List Attribute)
    → those_named (name ∷ rest) attributes ≡ those_named (name ∷ []) attributes ++ those_named rest attributes
one_told name rest attributes = told_or_not (value_of name attributes) refl
  where
    told_or_not : (o : Option (List ℕ)) → value_of name attributes ≡ o
        → those_named (name ∷ rest) attributes ≡ those_named (name ∷ []) attributes ++ those_named rest attributes
    told_or_not None is = rw is refl
    told_or_not (Some value) is = rw is refl

pub five_told : (a b c d e : List ℕ) (attributes old one two three four five : List Attribute) → one ≡ old ++ those_named (a ∷ []) attributes
    → two ≡ one ++ those_named (b ∷ []) attributes → three ≡ two ++ those_named (c ∷ []) attributes → four ≡ three ++ those_named (d ∷ []) attributes
    → five ≡ four ++ those_named (e ∷ []) attributes → five ≡ old ++ those_named (a ∷ b ∷ c ∷ d ∷ e ∷ []) attributes
five_told a b c d e attributes old one two three four five p q r s t =
    t ∙ ap (λ l. l ++ those_named (e ∷ []) attributes)
    (s ∙ ap (λ l. l ++ those_named (d ∷ []) attributes) (r ∙ ap (λ l. l ++ those_named (c ∷ []) attributes) (q ∙ ap (λ l. l ++ those_named (b ∷ []) attributes) p)))
    ∙ append_assoc (((old ++ those_named (a ∷ []) attributes) ++ those_named (b ∷ []) attributes) ++ those_named (c ∷ []) attributes) (those_named (d ∷ []) attributes)
    (those_named (e ∷ []) attributes)
    ∙ ap (λ l. (((old ++ those_named (a ∷ []) attributes) ++ those_named (b ∷ []) attributes) ++ those_named (c ∷ []) attributes) ++ l)
    (sym (one_told d (e ∷ []) attributes))
    ∙ append_assoc ((old ++ those_named (a ∷ []) attributes) ++ those_named (b ∷ []) attributes) (those_named (c ∷ []) attributes) _
    ∙ ap (λ l. ((old ++ those_named (a ∷ []) attributes) ++ those_named (b ∷ []) attributes) ++ l) (sym (one_told c (d ∷ e ∷ []) attributes))
    ∙ append_assoc (old ++ those_named (a ∷ []) attributes) (those_named (b ∷ []) attributes) _
    ∙ ap (λ l. (old ++ those_named (a ∷ []) attributes) ++ l) (sym (one_told b (c ∷ d ∷ e ∷ []) attributes))
    ∙ append_assoc old (those_named (a ∷ []) attributes) _ ∙ ap (λ l. old ++ l) (sym (one_told a (b ∷ c ∷ d ∷ e ∷ []) attributes))

-- ---- what was pushed of what is told

pub told_next : (told : List (CowStr Global × CowStr Global)) (i : ℕ) (x : CowStr Global × CowStr Global) → i < length told → x ≡ get_or told i x
    → told_texts (told_seen (take (i + 1) told)) ≡ told_texts (told_seen (take i told)) ++ cow_str_bytes x.0 ∷ cow_str_bytes x.1 ∷ []
told_next [] i x less is = absurd (omega (arith, less))
told_next (a ∷ told) zero x less is = ap (λ y. cow_str_bytes y.0 ∷ cow_str_bytes y.1 ∷ []) (sym is)
told_next (a ∷ told) (suc i) x less is =
    let on : suc i + 1 ≡ suc (i + 1) = omega arith in
    rw on (ap (λ r. cow_str_bytes a.0 ∷ cow_str_bytes a.1 ∷ r) (told_next told i x (omega (arith, less)) is))

-- ---- how a key begins

some_words : (told : Tree → List Attribute) (o : Option Tree) (m : Tree) → o ≡ Some m → None ≡ option_and_then name_of o
    → (key_head told m ≡ 0) × (key_texts told m ≡ option_map_or words_of o [] ∷ [])
some_words told None m is none = cc
some_words told (Some (element name attributes children)) m is none = cc
some_words told (Some (words text)) m is none =
    let same : words text ≡ m = cc in
    (ap (key_head told) (sym same), ap (key_texts told) (sym same))

pub words_begin : (told : Tree → List Attribute) (below old new : Shapes) (page m : Tree) (place key : List ℕ) → node_at place page ≡ Some m
    → None ≡ name_at place page → PushesTexts below old new (0 ∷ []) key (words_at place page ∷ []) → BeginsNode told below old new key m
words_begin told below old new page m place key is none p =
    let s = some_words told (node_at place page) m is none in
    rw (s.0, s.1) p

-- an element, by its name and what is kept of it
pub element_is : (o : Option Tree) (m : Tree) (name : List ℕ) → o ≡ Some m → Some name ≡ option_and_then name_of o
    → m ≡ element name (option_map_or attributes_of o []) (option_map_or children_of o no_trees)
element_is None m name is named = cc
element_is (Some (element own attributes children)) m name is named =
    let same : element own attributes children ≡ m = cc in
    let one : own ≡ name = cc in
    sym same ∙ ap (λ n. element n attributes children) one
element_is (Some (words text)) m name is named = cc

pub element_begins : (told : Tree → List Attribute) (below old new : Shapes) (page m : Tree) (place key name : List ℕ) → node_at place page ≡ Some m
    → Some name ≡ name_at place page → BeginsNode told below old new key (element name (attributes_at place page) (children_at place page))
    → BeginsNode told below old new key m
element_begins told below old new page m place key name is named p = rw (element_is (node_at place page) m name is named) p
