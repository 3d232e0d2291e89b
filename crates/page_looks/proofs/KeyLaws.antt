-- One key a tree, and one tree a key.
use Rattle.std.proofs.Common.{◌≡◌, ℕ, zero, suc, ◌+◌, ◌*◌, ◌<◌, List, [], ◌∷◌, ◌++◌, length, Some, slice_get, refl, sym, ◌∙◌, ap, inl, inr, arith, append-nil, length-append, subst}
use Rattle.std.proofs.lemmas.Option.{slice_get_within, slice_get-get_or}
use Rattle.page_tree.specs.Tree.{Attribute, Tree, element, words, Trees, no_trees, tree}
use Rattle.page_looks.specs.inside.Numbers.{AreApart, IsAbsent, IsPutIn, StandFor}
use Rattle.page_looks.specs.inside.Shapes.{told_texts, listed, IsKey, Knows}
use Rattle.page_looks.proofs.KeptOnce.{get_first, get_either, get_behind, apart_more, stand_more, stand_once, stand_same, stand_length}

-- ---- the lists that keys are made of

pub told_length : (told : List Attribute) → length (told_texts told) ≡ 2 * length told
told_length [] = refl
told_length (a ∷ rest) = omega (arith, told_length rest)

told_one : (told more : List Attribute) → told_texts told ≡ told_texts more → told ≡ more
told_one [] [] same = refl
told_one [] (b ∷ more) same = cc
told_one (a ∷ told) [] same = cc
told_one ((n, v) ∷ told) ((m, w) ∷ more) same =
    let names : n ≡ m = cc in
    let values : v ≡ w = cc in
    let rest : told_texts told ≡ told_texts more = cc in
    let later : told ≡ more = told_one told more rest in
    cc

listed_one : (ts us : Trees) → listed ts ≡ listed us → ts ≡ us
listed_one no_trees no_trees same = refl
listed_one no_trees (tree u us) same = cc
listed_one (tree t ts) no_trees same = cc
listed_one (tree t ts) (tree u us) same =
    let first : t ≡ u = cc in
    let rest : listed ts ≡ listed us = cc in
    let later : ts ≡ us = listed_one ts us rest in
    cc

pub same_cut : {X : Type 0} (xs ys zs ws : List X) → length xs ≡ length ys → xs ++ zs ≡ ys ++ ws → (xs ≡ ys) × (zs ≡ ws)
same_cut [] [] zs ws long same = (refl, same)
same_cut [] (y ∷ ys) zs ws long same = absurd (omega (arith, long))
same_cut (x ∷ xs) [] zs ws long same = absurd (omega (arith, long))
same_cut (x ∷ xs) (y ∷ ys) zs ws long same =
    let first : x ≡ y = cc in
    let rest : xs ++ zs ≡ ys ++ ws = cc in
    let less : length xs ≡ length ys = omega (arith, long) in
    let later = same_cut xs ys zs ws less rest in
    let front : xs ≡ ys = later.0 in
    (cc, later.1)

-- ---- keys

pub key_more : (texts more : List (List ℕ)) (known further : List Tree) (t : Tree) (key : List ℕ) → IsKey texts known t key
    → IsKey (texts ++ more) (known ++ further) t key
key_more texts more known further (words text) key (n, is, at) = (n, is, get_first texts more n text at)
key_more texts more known further (element name told children) key (own, parts, is, texts_are, parts_are) =
    (own, parts, is, stand_more texts more own (name ∷ told_texts told) texts_are, stand_more known further parts (listed children) parts_are)

pub key_once : (texts : List (List ℕ)) (known : List Tree) (t : Tree) (key other : List ℕ) → AreApart texts → AreApart known → IsKey texts known t key
    → IsKey texts known t other → key ≡ other
key_once texts known (words text) key other apart once (n, is, at) (m, too, there) =
    let same : n ≡ m = apart n m text at there in
    is ∙ ap (λ k. 0 ∷ k ∷ []) same ∙ sym too
key_once texts known (element name told children) key other apart once (own, parts, is, texts_are, parts_are) (mine, shares, too, texts_too, parts_too) =
    let front : own ≡ mine = stand_once texts own mine (name ∷ told_texts told) apart texts_are texts_too in
    let back : parts ≡ shares = stand_once known parts shares (listed children) once parts_are parts_too in
    is ∙ ap (λ k. suc (length told) ∷ k ++ parts) front ∙ ap (λ k. suc (length told) ∷ mine ++ k) back ∙ sym too

heads : (n m : ℕ) (xs ys key : List ℕ) → key ≡ n ∷ xs → key ≡ m ∷ ys → (n ≡ m) × (xs ≡ ys)
heads n m xs ys key is too =
    let same : n ∷ xs ≡ m ∷ ys = sym is ∙ too in
    let first : n ≡ m = cc in
    let rest : xs ≡ ys = cc in
    (first, rest)

element_same : (texts : List (List ℕ)) (known : List Tree) (name other : List ℕ) (told more : List Attribute) (ts us : Trees) (key own parts mine shares : List ℕ)
    → key ≡ suc (length told) ∷ own ++ parts → StandFor texts own (name ∷ told_texts told) → StandFor known parts (listed ts)
    → key ≡ suc (length more) ∷ mine ++ shares → StandFor texts mine (other ∷ told_texts more) → StandFor known shares (listed us)
    → element name told ts ≡ element other more us
element_same texts known name other told more ts us key own parts mine shares is texts_are parts_are too texts_too parts_too =
    let h = heads (suc (length told)) (suc (length more)) (own ++ parts) (mine ++ shares) key is too in
    let long : length own ≡ length mine = omega (
      arith,
      h.0,
      stand_length texts own (name ∷ told_texts told) texts_are,
      stand_length texts mine (other ∷ told_texts more) texts_too,
      told_length told,
      told_length more,
    ) in
    let cut = same_cut own mine parts shares long h.1 in
    let all : name ∷ told_texts told ≡ other ∷ told_texts more =
    stand_same texts mine (name ∷ told_texts told) (other ∷ told_texts more) (rw (cut.0) at texts_are) texts_too in
    let names : name ≡ other = cc in
    let rest : told_texts told ≡ told_texts more = cc in
    let tells : told ≡ more = told_one told more rest in
    let below : ts ≡ us = listed_one ts us (stand_same known shares (listed ts) (listed us) (rw (cut.1) at parts_are) parts_too) in
    cc

pub key_same : (texts : List (List ℕ)) (known : List Tree) (t u : Tree) (key : List ℕ) → IsKey texts known t key → IsKey texts known u key → t ≡ u
key_same texts known (words text) (words said) key (n, is, at) (m, too, there) =
    let h = heads 0 0 (n ∷ []) (m ∷ []) key is too in
    let rest : n ∷ [] ≡ m ∷ [] = h.1 in
    let same : n ≡ m = cc in
    let one : Some text ≡ Some said = sym at ∙ ap (slice_get texts) same ∙ there in
    cc
key_same texts known (words text) (element name told children) key (n, is, at) (own, parts, too, texts_are, parts_are) =
    let h = heads 0 (suc (length told)) (n ∷ []) (own ++ parts) key is too in
    absurd (omega (arith, h.0))
key_same texts known (element name told children) (words text) key (own, parts, is, texts_are, parts_are) (n, too, at) =
    let h = heads (suc (length told)) 0 (own ++ parts) (n ∷ []) key is too in
    absurd (omega (arith, h.0))
key_same texts known (element name told ts) (element other more us) key (own, parts, is, texts_are, parts_are) (mine, shares, too, texts_too, parts_too) =
    element_same texts known name other told more ts us key own parts mine shares is texts_are parts_are too texts_too parts_too

-- ---- what is known

pub knows_none : Knows [] [] []
knows_none = record {
  apart = λ i j x is at. cc;
  many = refl;
  each = λ i t is. cc;
  once = λ i j x is at. cc;
}

-- a further text
pub knows_text : (texts new keys : List (List ℕ)) (known : List Tree) (x : List ℕ) (n : ℕ) → Knows texts keys known → IsPutIn texts new x n → Knows new keys known
knows_text texts new keys known x n k put = elim put.grown [
  | inl same ↦ rw same k
  | inr w ↦ record {
    apart = rw (w.0) (apart_more texts x k.apart w.2);
    many = k.many;
    each = λ i t is.
        let (key, at, of) = k.each i t is in
        (key, at, rw (w.0) (rw (append-nil known) at (key_more texts (x ∷ []) known [] t key of)));
    once = k.once;
  }
]

there : {X : Type 0} (xs : List X) (i : ℕ) → i < length xs → (x : X) × (slice_get xs i ≡ Some x)
there [] i less = absurd (omega (arith, less))
there (x ∷ xs) i less = (_, slice_get-get_or (x ∷ xs) i x less)

-- what a tree's number gives
pub record NowKnows (texts keys : List (List ℕ)) (known : List Tree) (t : Tree) (n : ℕ) : Type 0 where
  pub more : List Tree
  pub knows : Knows texts keys (known ++ more)
  pub at : slice_get (known ++ more) n ≡ Some t

old_key : (texts keys : List (List ℕ)) (known : List Tree) (t : Tree) (key : List ℕ) (n : ℕ) → Knows texts keys known → IsKey texts known t key
    → slice_get keys n ≡ Some key → NowKnows texts keys known t n
old_key texts keys known t key n k of at =
    let less : n < length known = omega (arith, k.many, slice_get_within keys n key at) in
    let (u, is) = there known n less in
    let (other, here, too) = k.each n u is in
    let same : other ≡ key = cc in
    let one : u ≡ t = key_same texts known u t key (rw same at too) of in
    record { more = []; knows = rw (append-nil known) k; at = rw (append-nil known) (is ∙ ap Some one) }

new_key : (texts keys : List (List ℕ)) (known : List Tree) (t : Tree) (key : List ℕ) (n : ℕ) → Knows texts keys known → IsKey texts known t key
    → n ≡ length keys → IsAbsent keys key → NowKnows texts (keys ++ key ∷ []) known t n
new_key texts keys known t key n k of last absent =
    let long : n ≡ length known + 0 = omega (arith, last, k.many) in
    record {
      more = t ∷ [];
      knows = record {
        apart = k.apart;
        many = omega (arith, k.many, length-append known (t ∷ []), length-append keys (key ∷ []));
        each = λ i u is. elim (get_either known (t ∷ []) i u is) [
          | inl old ↦
              let (own, at, key_of) = k.each i u old in
              (own, get_first keys (key ∷ []) i own at, rw (append-nil texts) at (key_more texts [] known (t ∷ []) u own key_of))
          | inr w ↦ last_key i u w.0 w.1 w.2
        ];
        once = apart_more known t k.once (λ i is.
            let (own, at, key_of) = k.each i t is in
            let same : own ≡ key = key_once texts known t own key k.apart k.once key_of of in
            absent i (at ∙ ap Some same));
      };
      at = rw long (get_behind known (t ∷ []) 0);
    }
  where
    last_key : (i : ℕ) (u : Tree) (j : ℕ) → i ≡ length known + j → slice_get (t ∷ []) j ≡ Some u
        → (own : List ℕ) × (slice_get (keys ++ key ∷ []) i ≡ Some own) × IsKey texts (known ++ t ∷ []) u own
    last_key i u zero at is =
        let same : t ≡ u = cc in
        let place : i ≡ length keys + 0 = omega (arith, at, k.many) in (
          key,
          rw place (get_behind keys (key ∷ []) 0),
          subst (λ v. IsKey texts (known ++ t ∷ []) v key) same (rw (append-nil texts) at (key_more texts [] known (t ∷ []) t key of)),
        )
    last_key i u (suc j) at is = cc

pub knows_key : (texts keys new : List (List ℕ)) (known : List Tree) (t : Tree) (key : List ℕ) (n : ℕ) → Knows texts keys known → IsKey texts known t key
    → IsPutIn keys new key n → NowKnows texts new known t n
knows_key texts keys new known t key n k of put = elim put.grown [
  | inl same ↦ rw same (old_key texts keys known t key n k of (rw same at put.at))
  | inr w ↦ rw (w.0) (new_key texts keys known t key n k of w.1 w.2)
]
