-- The laws of the same element.
use Rattle.std.proofs.Common.{◌≡◌, ℕ, List, [], ◌++◌, Some, Option, refl, sym, ◌∙◌, ap, inl, inr, append_assoc, append-nil}
use Rattle.page_tree.specs.Tree.{Attribute, Tree}
use Rattle.page_tree.specs.Look.{node_at}
use Rattle.page_looks.specs.Outline.{outline, shown, look, seen_place}
use Rattle.page_looks.specs.Sending.{sent, sends}
use Rattle.page_looks.specs.SameElement.{StandsOnce, IsAnchor, IsSame, IsSameSending}
use Rattle.page_looks.specs.Laws.{SendsBelow, LookAlike, SendAlike, HasCounterparts}
use Rattle.page_looks.proofs.Splitting.{GoesOn, split, on_the_way, root_alone}
use Rattle.page_looks.proofs.Outlines.{seen_there, one_place, place_seen}

-- ---- all anchors agree

-- of two anchors, of which one stands above the other on the old page, it does so on the new one, in the same way
pub lower : (old new : Tree) (at there next beyond way rest : List ℕ) → IsAnchor old new at there → IsAnchor old new next beyond
    → GoesOn at way next rest → there ++ way ≡ beyond ++ rest
lower old new at there next beyond way rest above below g =
    let here : node_at g.mid above.looks ≡ Some below.looks =
    sym (on_the_way at g.mid (look old) above.looks above.before.there) ∙ ap (λ p. node_at p (look old)) (sym g.on) ∙ below.before.there in
    let same : there ++ g.mid ≡ beyond = below.after.alone (there ++ g.mid)
    (on_the_way there g.mid (look new) above.looks above.after.there ∙ here) in
    ap (λ w. there ++ w) g.left ∙ sym (append_assoc there g.mid rest) ∙ ap (λ p. p ++ rest) same

pub agree : (old new : Tree) (at there next beyond way rest : List ℕ) → IsAnchor old new at there → IsAnchor old new next beyond
    → at ++ way ≡ next ++ rest → there ++ way ≡ beyond ++ rest
agree old new at there next beyond way rest one other same = elim (split at way next rest same) [
  | inl g ↦ lower old new at there next beyond way rest one other g
  | inr g ↦ sym (lower old new next beyond at there rest way other one g)
]

-- ---- one to one

some_same : (s r : List ℕ) (o : Option (List ℕ)) → o ≡ Some s → o ≡ Some r → s ≡ r
some_same s r o is at = cc

pub turned_anchor : (old new : Tree) (at there : List ℕ) → IsAnchor old new at there → IsAnchor new old there at
turned_anchor old new at there a = record { looks = a.looks; before = a.after; after = a.before }

pub turned : (old new : Tree) (p q : List ℕ) → IsSame old new p q → IsSame new old q p
turned old new p q s = record {
  at = s.there;
  there = s.at;
  anchor = turned_anchor old new s.at s.there s.anchor;
  way = s.way;
  from = s.to;
  to = s.from;
}

pub one_to_one : (old new : Tree) (p q r : List ℕ) → IsSame old new p q → IsSame old new p r → q ≡ r
one_to_one old new p q r s u =
    let here = some_same (s.at ++ s.way) (u.at ++ u.way) (seen_place p old) s.from u.from in
    let there = agree old new s.at s.there u.at u.there s.way u.way s.anchor u.anchor here in
    one_place q r new (u.there ++ u.way) (s.to ∙ ap Some there) u.to

-- ---- an unchanged page

pub root_once : (t : Tree) → StandsOnce t t []
root_once t = record { there = refl; alone = λ p is. root_alone p t is }

pub itself : (t : Tree) (p s : List ℕ) → seen_place p t ≡ Some s → IsSame t t p p
itself t p s seen = record {
  at = [];
  there = [];
  anchor = record { looks = look t; before = root_once (look t); after = root_once (look t) };
  way = s;
  from = seen;
  to = seen;
}

pub only_itself : (t : Tree) (p q : List ℕ) → IsSame t t p q → q ≡ p
only_itself t p q s = one_to_one t t p q p s (itself t p (s.at ++ s.way) s.from)

pub sends_itself : (fresh : List (List ℕ)) (t : Tree) (p s : List ℕ) → seen_place p t ≡ Some s → IsSameSending fresh t t p p
unfolding itself
sends_itself fresh t p s seen = record { same = itself t p s seen; sending = refl }

pub one_source : (old new : Tree) (p q r : List ℕ) → IsSame old new p r → IsSame old new q r → p ≡ q
one_source old new p q r s u = one_to_one new old r p q (turned old new p r s) (turned old new q r u)

-- ---- what is sent

pub there_or_not : (told : Tree → List Attribute) (t u : Tree) (at : List ℕ) → node_at at (look t) ≡ Some u → (v : Tree) × (node_at at (outline told t) ≡ Some v)
there_or_not told t u at is =
    let s = place_seen shown at t u is in
    let o = seen_there told s.place t at s.seen in
    (outline told o.node, o.shape)

-- where an anchor sends the same, each one below it does
pub narrower : (fresh : List (List ℕ)) (old new : Tree) (at there next beyond way rest : List ℕ) → IsAnchor old new at there
    → IsAnchor old new next beyond → GoesOn at way next rest → node_at at (sends fresh old) ≡ node_at there (sends fresh new)
    → node_at next (sends fresh old) ≡ node_at beyond (sends fresh new)
narrower fresh old new at there next beyond way rest above below g same =
    let (u, here) = there_or_not (sent fresh) old above.looks at above.before.there in
    let (v, too) = there_or_not (sent fresh) new above.looks there above.after.there in
    let one : u ≡ v = cc in
    let ways : there ++ g.mid ≡ beyond = below.after.alone (there ++ g.mid) (
    on_the_way there g.mid (look new) above.looks above.after.there
    ∙ sym (on_the_way at g.mid (look old) above.looks above.before.there)
    ∙ ap (λ p. node_at p (look old)) (sym g.on) ∙ below.before.there) in
    ap (λ p. node_at p (sends fresh old)) g.on ∙ on_the_way at g.mid (sends fresh old) u here ∙ ap (node_at g.mid) one
    ∙ sym (on_the_way there g.mid (sends fresh new) v too) ∙ ap (λ p. node_at p (sends fresh new)) ways

-- ---- what is the same is alike

alike_at : (old new : Tree) (p q at there way : List ℕ) → IsAnchor old new at there → seen_place p old ≡ Some (at ++ way)
    → seen_place q new ≡ Some (there ++ way) → LookAlike old new p q
alike_at old new p q at there way a from to =
    let m = seen_there shown p old (at ++ way) from in
    let n = seen_there shown q new (there ++ way) to in
    let one : Some (look m.node) ≡ Some (look n.node) =
    sym m.shape ∙ on_the_way at way (look old) a.looks a.before.there
    ∙ sym (on_the_way there way (look new) a.looks a.after.there) ∙ n.shape in
    (m.node, n.node, m.there, n.there, cc)

pub alike : (old new : Tree) (p q : List ℕ) → IsSame old new p q → LookAlike old new p q
alike old new p q s = alike_at old new p q s.at s.there s.way s.anchor s.from s.to

pub sends_alike : (fresh : List (List ℕ)) (old new : Tree) (p q : List ℕ) → IsSameSending fresh old new p q → SendAlike fresh old new p q
sends_alike fresh old new p q s was is before after =
    let m = seen_there (sent fresh) p old (s.same.at ++ s.same.way) s.same.from in
    let n = seen_there (sent fresh) q new (s.same.there ++ s.same.way) s.same.to in
    let (u, here) = there_or_not (sent fresh) old s.same.anchor.looks s.same.at s.same.anchor.before.there in
    let there : node_at s.same.there (sends fresh new) ≡ Some u = sym s.sending ∙ here in
    let one : Some (sends fresh m.node) ≡ Some (sends fresh n.node) =
    sym m.shape ∙ on_the_way s.same.at s.same.way (sends fresh old) u here
    ∙ sym (on_the_way s.same.there s.same.way (sends fresh new) u there) ∙ n.shape in
    let old_one : m.node ≡ was = cc (m.there, before) in
    let new_one : n.node ≡ is = cc (n.there, after) in
    let two : sends fresh m.node ≡ sends fresh n.node = cc in
    ap (sends fresh) (sym old_one) ∙ two ∙ ap (sends fresh) new_one

pub sends_below : (fresh : List (List ℕ)) (old new : Tree) (at there next beyond : List ℕ) → SendsBelow fresh old new at there next beyond
sends_below fresh old new at there next beyond above under mid is =
    narrower fresh old new at there next beyond mid [] above under (record { mid = mid; on = is; left = sym (append-nil mid) })

-- what stands below the one of the same has its counterpart below the other
pub below : (old new : Tree) (p q : List ℕ) → IsSame old new p q → HasCounterparts old new p q
below old new p q s sp sq from to r way seen =
    let old_place : sp ≡ s.at ++ s.way = some_same sp (s.at ++ s.way) (seen_place p old) from s.from in
    let new_place : sq ≡ s.there ++ s.way = some_same sq (s.there ++ s.way) (seen_place q new) to s.to in
    let there : sp ++ way ≡ s.at ++ (s.way ++ way) = ap (λ k. k ++ way) old_place ∙ append_assoc s.at s.way way in
    let beyond : sq ++ way ≡ s.there ++ (s.way ++ way) = ap (λ k. k ++ way) new_place ∙ append_assoc s.there s.way way in
    let m = seen_there shown r old (sp ++ way) seen in
    let shape : node_at (sq ++ way) (look new) ≡ Some (look m.node) =
    ap (λ k. node_at k (look new)) beyond ∙ on_the_way s.there (s.way ++ way) (look new) s.anchor.looks s.anchor.after.there
    ∙ sym (on_the_way s.at (s.way ++ way) (look old) s.anchor.looks s.anchor.before.there)
    ∙ ap (λ k. node_at k (look old)) (sym there) ∙ m.shape in
    let o = place_seen shown (sq ++ way) new (look m.node) shape in (
      o.place,
      o.seen,
      record { at = s.at; there = s.there; anchor = s.anchor; way = s.way ++ way; from = seen ∙ ap Some there; to = o.seen ∙ ap Some beyond },
    )
