-- The same element, and whether it still sends the same, by numbers.
use Rattle.std.proofs.Common.{◌≡◌, ℕ, ◌+◌, ◌-◌, ◌<◌, ◌≤◌, ◌==◌, Bool, true, false, List, [], ◌∷◌, ◌++◌, length, Some, None, Option, option_and_then, slice_get, refl, sym, ◌∙◌, ap, ◌⊎◌, inl, inr, arith, append-nil, length-append}
use Rattle.std.specs.Option.{option_map_or}
use Rattle.std.proofs.lemmas.Bool.Decides.{eqb_tells}
use Rattle.std.proofs.lemmas.Option.{slice_get_within}
use Rattle.page_tree.specs.Tree.{Attribute, Tree}
use Rattle.page_tree.specs.Look.{node_at}
use Rattle.page_tree.specs.Limits.{nodes}
use Rattle.page_tree.specs.Number.{place_numbered}
use Rattle.page_tree.proofs.Numbers.{place_number, numbered_of_number}
use Rattle.page_looks.specs.Outline.{shown, look, outline, seen_place}
use Rattle.page_looks.specs.Sending.{sent, sends}
use Rattle.page_looks.specs.SameElement.{IsSame, IsSameSending}
use Rattle.page_looks.specs.Counterpart.{is_tree, is_node, Around, nearest_around, place_seen_at, same_place, still_sends}
use Rattle.page_looks.specs.inside.Numbers.{AreApart, StandFor}
use Rattle.page_looks.specs.inside.Ranks.{subtrees, seen_from}
use Rattle.page_looks.specs.inside.Kept.{AreBeside}
use Rattle.page_looks.specs.inside.Nearest.{IsNearest, is_one_number}
use Rattle.page_looks.specs.declared.finding.Nearest.{Nearest}
use Rattle.page_looks.specs.declared.ranks.Ranked.{Ranked}
use Rattle.page_looks.specs.declared.sent_numbers.SentNumbers.{SentNumbers}
use Rattle.page_looks.proofs.Anchors.{there_or_not, narrower}
use Rattle.page_looks.proofs.CounterpartLaws.{tree_one, tree_same, node_one, node_same, nearest_is, nearest_some, nearest_lowest, same_place_some, same_place_none, seen_from_place}
use Rattle.page_looks.proofs.FindLaws.{rank_from, stand_of, place_known, nearest_counterpart, found_same}
use Rattle.page_looks.proofs.Outlines.{place_seen}
use Rattle.page_looks.proofs.Splitting.{GoesOn, split}
use Rattle.page_looks.proofs.RankLaws.{rank_at, seen_from-length, subtree_at}

-- ---- ranks are the same whatever is told

some_one : (a b : List ℕ) (o : Option (List ℕ)) → o ≡ Some a → o ≡ Some b → a ≡ b
some_one a b o is at = cc

pub rank_alike : (told : Tree → List Attribute) (t : Tree) (p s : List ℕ) (node : Tree) → node_at p t ≡ Some node → seen_place p t ≡ Some s
    → place_number s (outline told t) ≡ place_number s (look t)
rank_alike told t p s node there seen =
    let at : slice_get (seen_from 0 t) (place_number s (outline told t)) ≡ Some (0 + place_number p t) = rank_at told p t s 0 seen in
    let (r, here, rank) = rank_from t (0 + place_number p t) (place_number s (outline told t)) at
    (omega (arith, slice_get_within (seen_from 0 t) (place_number s (outline told t)) (0 + place_number p t) at, seen_from-length shown 0 t)) in
    let zero : 0 + place_number p t ≡ place_number p t = omega arith in
    let place : place_numbered (0 + place_number p t) t ≡ p = ap (λ n. place_numbered n t) zero ∙ numbered_of_number p t node there in
    let same : r ≡ s = some_one r s (seen_place p t) (ap (λ q. seen_place q t) (sym place) ∙ here) seen in
    rank ∙ ap (λ q. place_number q (look t)) same

-- the number of what is sent there
pub record HasSends (fresh : List (List ℕ)) (t : Tree) (known : List Tree) (numbers : List ℕ) (place : List ℕ) (rank : ℕ) : Type 0 where
  pub node : Tree
  pub number : ℕ
  pub there : node_at place (sends fresh t) ≡ Some node
  pub at : slice_get numbers rank ≡ Some number
  pub is : slice_get known number ≡ Some node

pub has_sends : (fresh : List (List ℕ)) (t : Tree) (known : List Tree) (numbers : List ℕ) (place : List ℕ) (rank : ℕ) (looks : Tree)
    → StandFor known numbers (subtrees (sends fresh t)) → node_at place (look t) ≡ Some looks → rank ≡ place_number place (look t)
    → HasSends fresh t known numbers place rank
has_sends fresh t known numbers place rank looks stand there at =
    let s = place_seen shown place t looks there in
    let (u, here) = there_or_not (sent fresh) t looks place there in
    let rank_is : rank ≡ place_number place (sends fresh t) = at ∙ sym (rank_alike (sent fresh) t s.place place s.node s.there s.seen) in
    let (n, number, known_n) = stand_of known numbers (subtrees (sends fresh t)) (place_number place (sends fresh t)) u stand (subtree_at place (sends fresh t) u here) in
    record { node = u; number = n; there = here; at = ap (slice_get numbers) rank_is ∙ number; is = known_n }

-- ---- equal numbers are those of equal trees

pub one_or_not : (a b : Option ℕ) (n m : ℕ) → a ≡ Some n → b ≡ Some m → is_one_number a b ≡ (n == m)
one_or_not a b n m is at = rw (is, at) refl

one_tree : (known : List Tree) (n m : ℕ) (u v : Tree) → slice_get known n ≡ Some u → slice_get known m ≡ Some v → n ≡ m → u ≡ v
one_tree known n m u v is at same = cc

one_number : (known : List Tree) (n m : ℕ) (u v : Tree) → AreApart known → slice_get known n ≡ Some u → slice_get known m ≡ Some v → u ≡ v → n ≡ m
one_number known n m u v apart is at same = apart n m u is (at ∙ ap Some (sym same))

pub number_tells : (known : List Tree) (n m : ℕ) (u v : Tree) → AreApart known → slice_get known n ≡ Some u → slice_get known m ≡ Some v → (n == m) ≡ is_tree u v
number_tells known n m u v apart is at = elim (eqb_tells n m) [
  | inl one ↦
      let nodes : u ≡ v = one_tree known n m u v is at one.1 in
      one.0 ∙ sym (ap (is_tree u) (sym nodes) ∙ tree_same u)
  | inr two ↦ two.0 ∙ sym (differs two.1 (is_tree u v) refl)
]
  where
    differs : (n ≡ m → ⊥) → (b : Bool) → is_tree u v ≡ b → is_tree u v ≡ false
    differs other true own = absurd (other (one_number known n m u v apart is at (tree_one u v own)))
    differs other false own = own

still_at : (fresh : List (List ℕ)) (old new : Tree) (p : List ℕ) (a : Around) (u v : Tree) → nearest_around old new p ≡ Some a
    → node_at a.at (sends fresh old) ≡ Some u → node_at a.there (sends fresh new) ≡ Some v → still_sends fresh old new p ≡ is_tree u v
still_at fresh old new p a u v near is at =
    ap (λ o. option_map_or (λ x. option_map_or (is_node (node_at x.there (sends fresh new))) (node_at x.at (sends fresh old)) false) o false) near
    ∙ ap (λ o. option_map_or (is_node (node_at a.there (sends fresh new))) o false) is
    ∙ ap (λ o. is_node o u) at

-- whether the two of the nearest one send the same
pub still_is : (fresh : List (List ℕ)) (old new : Tree) (number : ℕ) (n : Nearest) (known : List Tree) (was is : List ℕ) → AreApart known
    → StandFor known was (subtrees (sends fresh old)) → StandFor known is (subtrees (sends fresh new)) → IsNearest old new number n
    → is_one_number (slice_get was n.at) (slice_get is n.there) ≡ still_sends fresh old new (place_numbered number old)
still_is fresh old new number n known was is apart stand also w =
    let a = has_sends fresh old known was w.place n.at w.anchor.looks stand w.anchor.before.there w.here in
    let b = has_sends fresh new known is w.beyond n.there w.anchor.looks also w.anchor.after.there w.over in
    let told : is_one_number (slice_get was n.at) (slice_get is n.there) ≡ is_tree a.node b.node =
    one_or_not (slice_get was n.at) (slice_get is n.there) a.number b.number a.at b.at ∙ number_tells known a.number b.number a.node b.node apart a.is b.is in
    told ∙ sym (still_at fresh old new (place_numbered number old) (record { at = w.place; there = w.beyond; way = w.way }) a.node b.node
    (nearest_is old new number n w) a.there b.there)

-- ---- what is found by the nearest one

pub found_place : (fresh : List (List ℕ)) (old new : Tree) (o w : Ranked) (was is : SentNumbers) (number found : ℕ) (n : Nearest)
    → AreBeside fresh old new o w was is → IsNearest old new number n → Some found ≡ slice_get w.nodes.items (n.there + (n.own - n.at))
    → (found < nodes new) × (Some (place_numbered found new) ≡ same_place old new (place_numbered number old))
found_place fresh old new o w was is number found n ((known, apart, ranked, also), sent) near there =
    let c = nearest_counterpart old new number n near in
    let same : IsSame old new (place_numbered number old) (place_numbered found new) =
    found_same old new known w (place_numbered number old) (n.there + (n.own - n.at)) (Some found) also c.1 there in (
      place_known new found (same.there ++ same.way) same.to,
      sym (same_place_some old new (place_numbered number old) (place_numbered found new) same),
    )

-- a counterpart has a node
pub found_none : (fresh : List (List ℕ)) (old new : Tree) (o w : Ranked) (was is : SentNumbers) (number : ℕ) (n : Nearest) → AreBeside fresh old new o w was is
    → IsNearest old new number n → None ≡ slice_get w.nodes.items (n.there + (n.own - n.at)) → None ≡ same_place old new (place_numbered number old)
found_none fresh old new o w was is number n ((known, apart, ranked, also), sent) near there =
    let c = nearest_counterpart old new number n near in
    sym (same_place_none old new (place_numbered number old)
    (found_same old new known w (place_numbered number old) (n.there + (n.own - n.at)) None also c.1 there))

pub found_sends : (fresh : List (List ℕ)) (old new : Tree) (o w : Ranked) (was is : SentNumbers) (number : ℕ) (n : Nearest)
    → AreBeside fresh old new o w was is → IsNearest old new number n
    → is_one_number (slice_get was.all.items n.at) (slice_get is.all.items n.there) ≡ still_sends fresh old new (place_numbered number old)
found_sends fresh old new o w was is number n (looks, (known, apart, sent, also)) near =
    still_is fresh old new number n known was.all.items is.all.items apart sent.all also.all near

-- ---- the law of it

pub sends_still : (fresh : List (List ℕ)) (old new : Tree) (p q : List ℕ) → same_place old new p ≡ Some q → still_sends fresh old new p ≡ true
    → IsSameSending fresh old new p q
sends_still fresh old new p q place still = around_there (nearest_around old new p) refl still
  where
    one_node : (a : Around) (u v : Option Tree) → option_map_or (is_node v) u false ≡ true → u ≡ v
    one_node a None v is = cc
    one_node a (Some u) v is = sym (node_one v u is)

    around_there : (o : Option Around) → nearest_around old new p ≡ o
        → option_map_or (λ a. option_map_or (is_node (node_at a.there (sends fresh new))) (node_at a.at (sends fresh old)) false) o false ≡ true
        → IsSameSending fresh old new p q
    around_there None own is = cc
    around_there (Some a) own is =
        let w = nearest_some old new p a own in
        let to : place_seen_at (a.there ++ a.way) new ≡ Some q =
        sym (ap (option_and_then (λ x. place_seen_at (x.there ++ x.way) new)) own) ∙ place in
        record {
          same = record { at = a.at; there = a.there; anchor = w.0; way = a.way; from = w.1; to = seen_from_place (a.there ++ a.way) new q to };
          sending = one_node a (node_at a.at (sends fresh old)) (node_at a.there (sends fresh new)) is;
        }

-- and the other way round: where some anchor sends the same, the nearest does
pub still_sent : (fresh : List (List ℕ)) (old new : Tree) (p q : List ℕ) → IsSameSending fresh old new p q → still_sends fresh old new p ≡ true
still_sent fresh old new p q s = around_there (nearest_around old new p) refl
  where
    nothing : (m : List ℕ) → length m ≡ 0 → m ≡ []
    nothing [] none = refl
    nothing (i ∷ m) none = absurd (omega (arith, none))

    ways : (a : Around) → length s.same.at ≤ length a.at → GoesOn s.same.at s.same.way a.at a.way ⊎ GoesOn a.at a.way s.same.at s.same.way
        → GoesOn s.same.at s.same.way a.at a.way
    ways a low (inl g) = g
    ways a low (inr g) =
        let none : g.mid ≡ [] = nothing g.mid (omega (arith, low, ap length g.on, length-append a.at g.mid)) in
        let same : s.same.at ≡ a.at = g.on ∙ ap (λ m. a.at ++ m) none ∙ append-nil a.at in
        record {
          mid = [];
          on = sym same ∙ sym (append-nil s.same.at);
          left = sym (g.left ∙ ap (λ m. m ++ s.same.way) none);
        }

    around_there : (o : Option Around) → nearest_around old new p ≡ o
        → option_map_or (λ a. option_map_or (is_node (node_at a.there (sends fresh new))) (node_at a.at (sends fresh old)) false) o false ≡ true
    around_there None own =
        let none : same_place old new p ≡ None = ap (option_and_then (λ x. place_seen_at (x.there ++ x.way) new)) own in
        absurd (cc (none, same_place_some old new p q s.same))
    around_there (Some a) own =
        let w = nearest_some old new p a own in
        let low = nearest_lowest old new p a own s.same.at s.same.there s.same.way s.same.anchor s.same.from in
        let whole : s.same.at ++ s.same.way ≡ a.at ++ a.way = some_one (s.same.at ++ s.same.way) (a.at ++ a.way) (seen_place p old) s.same.from w.1 in
        let g = ways a low (split s.same.at s.same.way a.at a.way whole) in
        let sending : node_at a.at (sends fresh old) ≡ node_at a.there (sends fresh new) =
        narrower fresh old new s.same.at s.same.there a.at a.there s.same.way a.way s.same.anchor w.0 g s.sending in
        let (u, here) = there_or_not (sent fresh) old w.0.looks a.at w.0.before.there in
        rw here (node_same (node_at a.there (sends fresh new)) u (sym sending ∙ here))
