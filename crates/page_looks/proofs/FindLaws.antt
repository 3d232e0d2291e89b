-- An element's counterpart by the numbers of looks.
use Rattle.std.proofs.Common.{◌≡◌, ◌≢◌, ℕ, zero, suc, ◌+◌, ◌-◌, ◌<◌, ◌≤◌, List, [], ◌∷◌, ◌++◌, length, Some, None, Option, slice_get, refl, sym, ◌∙◌, ap, arith, append_assoc, append-nil, length-append, ◌⊎◌, inl, inr, MatchOption}
use Rattle.std.proofs.lemmas.Bool.{cases_lt}
use Rattle.std.proofs.lemmas.Option.{slice_get_within}
use Rattle.page_tree.specs.Tree.{Tree}
use Rattle.page_tree.specs.Limits.{nodes}
use Rattle.page_tree.specs.Look.{node_at, nth_child}
use Rattle.page_tree.specs.Number.{place_numbered, first_trees, count_of, IsParent}
use Rattle.page_tree.proofs.NodesUnder.{root_numbered}
use Rattle.page_tree.proofs.Numbers.{place_number, place_number-append, numbered_of_number, number_of_numbered, has_node, has_none, node_there}
use Rattle.page_looks.specs.Outline.{is_seen, seen_place, shown, look, open_children}
use Rattle.page_looks.specs.SameElement.{StandsOnce, IsAnchor, IsSame}
use Rattle.page_looks.specs.inside.Numbers.{AreApart, StandFor}
use Rattle.page_looks.specs.inside.Ranks.{subtrees, seen_from, StandsAlone, IsRanked, AreAnchor, HasRank}
use Rattle.page_looks.specs.inside.Nearest.{IsNearest}
use Rattle.page_looks.specs.declared.ranks.Ranked.{Ranked}
use Rattle.page_looks.specs.declared.finding.Nearest.{Nearest}
use Rattle.page_looks.proofs.RankLaws.{subtree_at, subtrees-length, seen_from-length, rank_at, IsCounterpart, counterpart}
use Rattle.page_looks.proofs.Outlines.{goes_through, through_there, seen_there, place_seen}

-- ---- numbers of looks

-- what stands at a place of the one list and of the other
pub stand_at : {X : Type 0} (all : List X) (ns : List ℕ) (xs : List X) (k n : ℕ) → StandFor all ns xs → slice_get ns k ≡ Some n
    → (x : X) × (slice_get xs k ≡ Some x) × (slice_get all n ≡ Some x)
stand_at all [] xs k n are is = cc
stand_at all (m ∷ ms) [] k n are is = cc
stand_at all (m ∷ ms) (x ∷ xs) zero n are is =
    let same : m ≡ n = cc in
    let here : slice_get all m ≡ Some x = cc in
    (x, refl, rw same at here)
stand_at all (m ∷ ms) (x ∷ xs) (suc k) n are is =
    let rest : StandFor all ms xs = cc in
    stand_at all ms xs k n rest is

pub stand_of : {X : Type 0} (all : List X) (ns : List ℕ) (xs : List X) (k : ℕ) (x : X) → StandFor all ns xs → slice_get xs k ≡ Some x
    → (n : ℕ) × (slice_get ns k ≡ Some n) × (slice_get all n ≡ Some x)
stand_of all [] [] k x are is = cc
stand_of all [] (y ∷ ys) k x are is = cc
stand_of all (m ∷ ms) [] k x are is = cc
stand_of all (m ∷ ms) (y ∷ ys) zero x are is =
    let here : slice_get all m ≡ Some y = cc in
    (m, refl, here ∙ is)
stand_of all (m ∷ ms) (y ∷ ys) (suc k) x are is =
    let rest : StandFor all ms ys = cc in
    stand_of all ms ys k x rest is

-- the node of an outline at a rank
pub at_rank : (t u : Tree) (k : ℕ) → slice_get (subtrees t) k ≡ Some u → (node_at (place_numbered k t) t ≡ Some u) × (place_number (place_numbered k t) t ≡ k)
at_rank t u k is =
    let less : k < nodes t = omega (arith, slice_get_within (subtrees t) k u is, subtrees-length t) in
    let (m, there) = node_there (node_at (place_numbered k t) t) (has_node k t less) in
    let number : place_number (place_numbered k t) t ≡ k = number_of_numbered k t less in
    let here : slice_get (subtrees t) k ≡ Some m = ap (slice_get (subtrees t)) (sym number) ∙ subtree_at (place_numbered k t) t m there in
    let same : m ≡ u = cc in
    (there ∙ ap Some same, number)

-- what stands alone by its number does so as a node
once_from : (t u : Tree) (known : List Tree) (ns : List ℕ) (n k : ℕ) → AreApart known → StandFor known ns (subtrees t) → slice_get known n ≡ Some u
    → StandsAlone ns n k → StandsOnce u t (place_numbered k t)
once_from t u known ns n k apart are is a =
    let (x, there, here) = stand_at known ns (subtrees t) k n are a.here in
    let same : x ≡ u = cc in
    let (node, number) = at_rank t u k (there ∙ ap Some same) in
    record {
      there = node;
      alone = λ other at.
          let (m, numbered, known_m) = stand_of known ns (subtrees t) (place_number other t) u are (subtree_at other t u at) in
          let one : m ≡ n = apart m n u known_m is in
          let rank : place_number other t ≡ k = a.alone (place_number other t) (numbered ∙ ap Some one) in
          sym (numbered_of_number other t u at) ∙ ap (λ j. place_numbered j t) rank;
    }

-- and the other way round
once_to : (t u : Tree) (known : List Tree) (ns : List ℕ) (at : List ℕ) (n : ℕ) → AreApart known → StandFor known ns (subtrees t) → slice_get known n ≡ Some u
    → StandsOnce u t at → StandsAlone ns n (place_number at t)
once_to t u known ns at n apart are is o =
    let (m, numbered, known_m) = stand_of known ns (subtrees t) (place_number at t) u are (subtree_at at t u o.there) in
    let one : m ≡ n = apart m n u known_m is in
    record {
      here = numbered ∙ ap Some one;
      alone = λ j there.
          let (x, here, known_x) = stand_at known ns (subtrees t) j n are there in
          let same : x ≡ u = cc in
          let (node, number) = at_rank t u j (here ∙ ap Some same) in
          let place : place_numbered j t ≡ at = o.alone (place_numbered j t) node in
          sym number ∙ ap (λ p. place_number p t) place;
    }

pub anchor_from : (old new : Tree) (known : List Tree) (o w : Ranked) (at there : ℕ) → AreApart known → IsRanked old known o → IsRanked new known w
    → AreAnchor o w at there → IsAnchor old new (place_numbered at (look old)) (place_numbered there (look new))
anchor_from old new known o w at there apart ranked also (n, here, beyond) =
    let (u, shape, is) = stand_at known o.looks.items (subtrees (look old)) at n ranked.looks here.here in
    record {
      looks = u;
      before = once_from (look old) u known o.looks.items n at apart ranked.looks is here;
      after = once_from (look new) u known w.looks.items n there apart also.looks is beyond;
    }

pub anchor_to : (old new : Tree) (known : List Tree) (o w : Ranked) (at there : List ℕ) → AreApart known → IsRanked old known o → IsRanked new known w
    → IsAnchor old new at there → AreAnchor o w (place_number at (look old)) (place_number there (look new))
anchor_to old new known o w at there apart ranked also a =
    let (n, numbered, is) = stand_of known o.looks.items (subtrees (look old)) (place_number at (look old)) a.looks ranked.looks
    (subtree_at at (look old) a.looks a.before.there) in (
      n,
      once_to (look old) a.looks known o.looks.items at n apart ranked.looks is a.before,
      once_to (look new) a.looks known w.looks.items there n apart also.looks is a.after,
    )

-- ---- ranks

-- a node that has a rank is seen there
pub rank_from : (t : Tree) (number rank : ℕ) → slice_get (seen_from 0 t) rank ≡ Some number → rank < nodes (look t) → HasRank t number rank
rank_from t number rank is less =
    let (u, there) = node_there (node_at (place_numbered rank (look t)) (look t)) (has_node rank (look t) less) in
    let o = place_seen shown (place_numbered rank (look t)) t u there in
    let own : place_number (place_numbered rank (look t)) (look t) ≡ rank = number_of_numbered rank (look t) less in
    let here : slice_get (seen_from 0 t) rank ≡ Some (0 + place_number o.place t) =
    ap (slice_get (seen_from 0 t)) (sym own) ∙ rank_at shown o.place t (place_numbered rank (look t)) 0 o.seen in
    let sum : number ≡ 0 + place_number o.place t = cc in
    let same : number ≡ place_number o.place t = omega (arith, sum) in
    let place : place_numbered number t ≡ o.place = ap (λ n. place_numbered n t) same ∙ numbered_of_number o.place t o.node o.there in
    (place_numbered rank (look t), ap (λ p. seen_place p t) place ∙ o.seen, sym own)

-- and a seen node has one
pub rank_to : (t : Tree) (number : ℕ) (s : List ℕ) → number < nodes t → seen_place (place_numbered number t) t ≡ Some s
    → slice_get (seen_from 0 t) (place_number s (look t)) ≡ Some number
rank_to t number s less seen =
    let own : 0 + place_number (place_numbered number t) t ≡ number = omega (arith, number_of_numbered number t less) in
    rank_at shown (place_numbered number t) t s 0 seen ∙ ap Some own

-- ---- upwards

-- the parent of a seen node is seen, one step above
pub record IsSeenParent (t : Tree) (at s : List ℕ) : Type 0 where
  pub above : List ℕ
  pub last : ℕ
  pub seen : seen_place at t ≡ Some above
  pub place : s ≡ above ++ last ∷ []

one_up : (i : ℕ) (rest : List ℕ) (t child : Tree) (s way : List ℕ) (k : ℕ) → nth_child i (open_children t) ≡ Some child
    → ((u : List ℕ) → seen_place rest child ≡ Some u → seen_place (i ∷ rest) t ≡ Some (k ∷ u))
    → s ≡ k ∷ way → IsSeenParent child rest way → IsSeenParent t (i ∷ rest) s
one_up i rest t child s way k is step place above = record {
  above = k ∷ above.above;
  last = above.last;
  seen = step above.above above.seen;
  place = place ∙ ap (λ w. k ∷ w) above.place;
}

pub seen_parent : (at : List ℕ) (i : ℕ) (t : Tree) (s : List ℕ) → seen_place (at ++ i ∷ []) t ≡ Some s → IsSeenParent t at s
seen_parent [] i t s is =
    let g = goes_through i [] t s is in
    let none : [] ≡ g.way = cc (g.below) in
    let k = count_of is_seen (first_trees i (open_children t)) in
    record { above = []; last = k; seen = refl; place = g.place ∙ ap (λ w. k ∷ w) (sym none) }
seen_parent (j ∷ at) i t s is =
    let g = goes_through j (at ++ i ∷ []) t s is in
    one_up j at t g.child s g.way _ g.is (λ u seen. through_there j at t g.child u g.is g.seen seen) g.place (seen_parent at i g.child g.way g.below)

-- ---- the climb

-- what is known where the anchors below a node on the way up have been tried
pub record Climbs (old new : Tree) (p s v : List ℕ) (rank start : ℕ) : Type 0 where
  pub from : seen_place p old ≡ Some (s ++ v)
  pub here : rank ≡ place_number s (look old)
  pub begin : start ≡ place_number (s ++ v) (look old)
  pub none : (x y way : List ℕ) → IsAnchor old new x y → x ++ way ≡ s ++ v → length x ≤ length s

pub climb_begins : (old new : Tree) (p s : List ℕ) (rank : ℕ) → seen_place p old ≡ Some s → rank ≡ place_number s (look old) → Climbs old new p s [] rank rank
climb_begins old new p s rank from here =
    let all : s ≡ s ++ [] = sym (append-nil s) in
    record {
      from = from ∙ ap Some all;
      here = here;
      begin = here ∙ ap (λ k. place_number k (look old)) all;
      none = λ x y way a same. omega (arith, ap length same, length-append x way, length-append s []);
    }

pub tops : (x way s v : List ℕ) → x ++ way ≡ s ++ v → length x ≡ length s → x ≡ s
tops [] way [] v same long = refl
tops [] way (j ∷ s) v same long = absurd (omega (arith, long))
tops (i ∷ x) way [] v same long = absurd (omega (arith, long))
tops (i ∷ x) way (j ∷ s) v same long =
    let first : i ≡ j = cc in
    let rest : x ++ way ≡ s ++ v = cc in
    let less : length x ≡ length s = omega (arith, long) in
    let later : x ≡ s = tops x way s v rest less in
    cc

-- one step up, where there is no anchor
pub climb_goes_on : (old new : Tree) (p s v above : List ℕ) (k rank next start : ℕ) → Climbs old new p s v rank start
    → ((y : List ℕ) → ¬ IsAnchor old new s y) → s ≡ above ++ k ∷ [] → next ≡ place_number above (look old) → Climbs old new p above (k ∷ v) next start
climb_goes_on old new p s v above k rank next start c nowhere place here =
    let all : s ++ v ≡ above ++ k ∷ v = ap (λ q. q ++ v) place ∙ append_assoc above (k ∷ []) v in
    record {
      from = c.from ∙ ap Some all;
      here = here;
      begin = c.begin ∙ ap (λ q. place_number q (look old)) all;
      none = λ x y way a same.
          let whole : x ++ way ≡ s ++ v = same ∙ sym all in
          let high = c.none x y way a whole in
          let other : length x ≢ length s = λ long. nowhere y (rw (tops x way s v whole long) at a) in
          omega (arith, high, other, ap length place, length-append above (k ∷ []));
    }

-- at the root there is none
pub climb_ends : (old new : Tree) (p v : List ℕ) (rank start : ℕ) → Climbs old new p [] v rank start → ((y : List ℕ) → ¬ IsAnchor old new [] y)
    → (q : List ℕ) → ¬ IsSame old new p q
climb_ends old new p v rank start c nowhere q s =
    let whole : s.at ++ s.way ≡ [] ++ v = cc (c.from, s.from) in
    let high = c.none s.at s.there s.way s.anchor whole in
    let root : s.at ≡ [] = tops s.at s.way [] v whole (omega (arith, high)) in
    nowhere s.there (rw root at s.anchor)

-- what isn't seen has no counterpart
pub unseen_none : (old new : Tree) (p : List ℕ) → ((s : List ℕ) → seen_place p old ≢ Some s) → (q : List ℕ) → ¬ IsSame old new p q
unseen_none old new p hidden q s = hidden (s.at ++ s.way) s.from

-- ---- what the kept ranks tell

-- a seen node is one of the page
pub place_known : (t : Tree) (number : ℕ) (s : List ℕ) → seen_place (place_numbered number t) t ≡ Some s → number < nodes t
place_known t number s seen = elim (cases_lt number (nodes t)) [
  | inl less ↦ less
  | inr past ↦
      let m = seen_there shown (place_numbered number t) t s seen in
      let none : None ≡ Some m.node = sym (has_none number t past) ∙ m.there in
      cc
]

no_rank : (r : Ranked) (number : ℕ) → ((k : ℕ) → slice_get r.ranks.items number ≢ Some (suc k))
    → (t : Tree) (known : List Tree) (s : List ℕ) → IsRanked t known r → seen_place (place_numbered number t) t ≢ Some s
no_rank r number none t known s ranked seen =
    let less = place_known t number s seen in
    let at : slice_get r.nodes.items (place_number s (look t)) ≡ Some number = rw ranked.nodes (rank_to t number s less seen) in
    let (k, there) = ranked.ranks.all (place_number s (look t)) number at in
    none k there

pub rank_none : (r : Ranked) (number : ℕ) → slice_get r.ranks.items number ≡ None
    → (t : Tree) (known : List Tree) (s : List ℕ) → IsRanked t known r → seen_place (place_numbered number t) t ≢ Some s
rank_none r number is = no_rank r number (λ k some. cc)

pub rank_zero : (r : Ranked) (number : ℕ) → slice_get r.ranks.items number ≡ Some 0
    → (t : Tree) (known : List Tree) (s : List ℕ) → IsRanked t known r → seen_place (place_numbered number t) t ≢ Some s
rank_zero r number is = no_rank r number (λ k some.
    let same : 0 ≡ suc k = cc in
    omega (arith, same))

pub rank_some : (r : Ranked) (number place rank : ℕ) → slice_get r.ranks.items number ≡ Some place → place ≡ suc rank
    → (t : Tree) (known : List Tree) → IsRanked t known r → HasRank t number rank
rank_some r number place rank is more t known ranked =
    let at = (ranked.ranks.last number rank (is ∙ ap Some more)).0 in
    let here : slice_get (seen_from 0 t) rank ≡ Some number = rw (← ranked.nodes) at in
    rank_from t number rank here (omega (arith, slice_get_within (seen_from 0 t) rank number here, seen_from-length shown 0 t))

-- ---- the loop

-- a node on the way up from the one that is looked for
pub record IsOnWay (old new : Tree) (number at rank start : ℕ) : Type 0 where
  pub less : at < nodes old
  pub place : List ℕ
  pub way : List ℕ
  pub seen : seen_place (place_numbered at old) old ≡ Some place
  pub climbs : Climbs old new (place_numbered number old) place way rank start

pub way_begins : (old new : Tree) (number rank : ℕ) → HasRank old number rank → IsOnWay old new number number rank rank
way_begins old new number rank (s, seen, here) = record {
  less = place_known old number s seen;
  place = s;
  way = [];
  seen = seen;
  climbs = climb_begins old new (place_numbered number old) s rank seen here;
}

nowhere_there : (old new : Tree) (known : List Tree) (o w : Ranked) (rank : ℕ) (s : List ℕ) → AreApart known → IsRanked old known o → IsRanked new known w
    → rank ≡ place_number s (look old) → ((there : ℕ) → ¬ AreAnchor o w rank there) → (y : List ℕ) → ¬ IsAnchor old new s y
nowhere_there old new known o w rank s apart ranked also here none y a =
    none (place_number y (look new)) (rw here (anchor_to old new known o w s y apart ranked also a))

parent_place : (old new : Tree) (number at parent rank start : ℕ) → (w : IsOnWay old new number at rank start) → IsParent old at parent
    → IsSeenParent old (place_numbered parent old) w.place
parent_place old new number at parent rank start w (low, (i, child)) =
    seen_parent (place_numbered parent old) i old w.place (ap (λ p. seen_place p old) (sym child) ∙ w.seen)

pub way_goes_on : (old new : Tree) (known : List Tree) (o w : Ranked) (number at parent rank above start : ℕ) → AreApart known → IsRanked old known o
    → IsRanked new known w → IsOnWay old new number at rank start → ((there : ℕ) → ¬ AreAnchor o w rank there) → IsParent old at parent
    → HasRank old parent above → IsOnWay old new number parent above start
way_goes_on old new known o w number at parent rank above start apart ranked also on none up (s, seen, here) =
    let p = parent_place old new number at parent rank start on up in
    let one : s ≡ p.above = cc (seen, p.seen) in
    record {
      less = omega (arith, up.0, on.less);
      place = p.above;
      way = p.last ∷ on.way;
      seen = p.seen;
      climbs = climb_goes_on old new (place_numbered number old) on.place on.way p.above p.last rank above start on.climbs
          (nowhere_there old new known o w rank on.place apart ranked also on.climbs.here none) p.place (here ∙ ap (λ q. place_number q (look old)) one);
    }

pub parent_seen : (old new : Tree) (number at parent rank start : ℕ) → IsOnWay old new number at rank start → IsParent old at parent
    → ((s : List ℕ) → seen_place (place_numbered parent old) old ≢ Some s) → ⊥
parent_seen old new number at parent rank start w up hidden =
    let p = parent_place old new number at parent rank start w up in
    hidden p.above p.seen

pub way_ends : (old new : Tree) (known : List Tree) (o w : Ranked) (number at rank start : ℕ) → AreApart known → IsRanked old known o
    → IsRanked new known w → IsOnWay old new number at rank start → ((there : ℕ) → ¬ AreAnchor o w rank there) → (at ≡ 0) ⊎ (nodes old ≤ at)
    → (q : List ℕ) → ¬ IsSame old new (place_numbered number old) q
way_ends old new known o w number at rank start apart ranked also on none top q s =
    let zero_at : at ≡ 0 = elim top [ inl z ↦ z | inr past ↦ absurd (omega (arith, past, on.less)) ] in
    let root : place_numbered at old ≡ [] = ap (λ n. place_numbered n old) zero_at ∙ root_numbered old in
    let own : seen_place (place_numbered at old) old ≡ Some [] = ap (λ p. seen_place p old) root in
    let one : on.place ≡ [] = cc (own, on.seen) in
    climb_ends old new (place_numbered number old) on.way rank start (rw one at on.climbs)
    (rw one at (nowhere_there old new known o w rank on.place apart ranked also on.climbs.here none)) q s

-- where there is an anchor, it is the nearest
pub way_found : (old new : Tree) (known : List Tree) (o w : Ranked) (number at rank start there : ℕ) → AreApart known → IsRanked old known o
    → IsRanked new known w → IsOnWay old new number at rank start → AreAnchor o w rank there
    → IsNearest old new number (record { at = rank; there = there; own = start })
way_found old new known o w number at rank start there apart ranked also on a =
    let c = on.climbs in
    let m = seen_there shown (place_numbered at old) old on.place on.seen in
    let own : place_numbered rank (look old) ≡ on.place =
    ap (λ n. place_numbered n (look old)) c.here ∙ numbered_of_number on.place (look old) (look m.node) m.shape in
    let anchor : IsAnchor old new on.place (place_numbered there (look new)) = rw own at (anchor_from old new known o w rank there apart ranked also a) in
    let (n, here, beyond) = a in
    let (u, shape, is) = stand_at known w.looks.items (subtrees (look new)) there n also.looks beyond.here in
    let number_there : place_number (place_numbered there (look new)) (look new) ≡ there = (at_rank (look new) u there shape).1 in
    record {
      place = on.place;
      beyond = place_numbered there (look new);
      way = on.way;
      anchor = anchor;
      from = c.from;
      here = c.here;
      over = sym number_there;
      begin = c.begin;
      lowest = c.none;
    }

pub nearest_counterpart : (old new : Tree) (number : ℕ) (n : Nearest) → IsNearest old new number n
    → (n.at ≤ n.own) × IsCounterpart old new (place_numbered number old) (n.there + (n.own - n.at))
nearest_counterpart old new number n w =
    let sum = place_number-append w.place w.way (look old) w.anchor.looks w.anchor.before.there in (
      omega (arith, w.here, w.begin, sum),
      counterpart old new (place_numbered number old) w.place w.beyond w.way (n.there + (n.own - n.at)) w.anchor w.from
          (omega (arith, w.here, w.begin, w.over, sum)),
    )

pub found_same : (old new : Tree) (known : List Tree) (w : Ranked) (p : List ℕ) (rank : ℕ) (result : Option ℕ) → IsRanked new known w
    → IsCounterpart old new p rank → result ≡ slice_get w.nodes.items rank
    → MatchOption result ((q : List ℕ) → ¬ IsSame old new p q) (λ n. IsSame old new p (place_numbered n new))
found_same old new known w p rank result also f is =
    let some : result ≡ Some (place_number f.place new) = is ∙ ap (λ ns. slice_get ns rank) also.nodes ∙ f.at in
    rw some (rw f.back f.same)
