-- What is as good as an element without an anchor, and what looks like it, by numbers.
use Rattle.std.proofs.Common.{◌≡◌, ◌≢◌, true≢false, ℕ, zero, suc, ◌+◌, ◌<◌, ◌≤◌, ◌==◌, Bool, true, false, ◌&&◌, if◌then◌else◌, List, [], ◌∷◌, length, map, filter, Some, None, Option, option_and_then, slice_get, refl, sym, ◌∙◌, ap, subst, inl, inr, arith, unwrap_or, option_map, IfSome}
use Rattle.std.specs.List.{range_with_len}
use Rattle.std.specs.Option.{option_map_or}
use Rattle.std.proofs.lemmas.Bool.{and_parts, and_from, cases_lt}
use Rattle.std.proofs.lemmas.List.FromFn.{length-map-range_with_len, get_or-map-range_with_len}
use Rattle.std.proofs.lemmas.Option.{slice_get_within, slice_get-get_or}
use Rattle.page_tree.specs.Tree.{Attribute, Tree}
use Rattle.page_tree.specs.Limits.{nodes}
use Rattle.page_tree.specs.Look.{node_at, count, children_of}
use Rattle.page_tree.specs.Number.{place_numbered}
use Rattle.page_tree.specs.Under.{places_of}
use Rattle.page_tree.proofs.Numbers.{place_number, places-length, numbered_of_number, number_of_numbered}
use Rattle.page_looks.specs.Outline.{shown, look, seen_place}
use Rattle.page_looks.specs.Sending.{sends}
use Rattle.page_looks.specs.Counterpart.{are_attributes, is_tree, is_node, stands_at, place_seen_at, alike_at, all_send, first_one, as_good_place, sent_at, is_sent_alike}
use Rattle.page_looks.specs.inside.Numbers.{AreApart, IsAbsent, StandFor}
use Rattle.page_looks.specs.inside.Ranks.{subtrees, seen_from, IsFirstAt, IsRanked, HasRank}
use Rattle.page_looks.specs.inside.Sends.{own_leaf, leaf_at, is_true, AreEven, AreSent}
use Rattle.page_looks.specs.inside.Kept.{AreBeside}
use Rattle.page_looks.specs.inside.Nearest.{is_one_number}
use Rattle.page_looks.specs.declared.ranks.Ranked.{Ranked}
use Rattle.page_looks.specs.declared.sent_numbers.SentNumbers.{SentNumbers}
use Rattle.page_looks.proofs.CounterpartLaws.{IsIn, in_filter, filter_in, place_in, node_one, node_same, tree_same, some_place, seen_from_place}
use Rattle.page_looks.proofs.FindLaws.{stand_at, stand_of, at_rank, place_known}
use Rattle.page_looks.proofs.Outlines.{seen_there, place_seen, one_place}
use Rattle.page_looks.proofs.KeptOnce.{stand_length}
use Rattle.page_looks.proofs.RankLaws.{subtree_at, subtrees-length, seen_from-length, rank_at}
use Rattle.page_looks.proofs.SentLaws.{there_is, past_leaf}
use Rattle.page_looks.proofs.SameLaws.{HasSends, has_sends, one_or_not, number_tells}

some_one : {X : Type 0} (x y : X) (o : Option X) → o ≡ Some x → o ≡ Some y → x ≡ y
some_one x y o is at = cc

-- ---- all of a look

-- each that has the number n in the one list has the number m in the other
abbrev AllSend : List ℕ → List ℕ → ℕ → ℕ → Type 0
AllSend looks sends n m = (i : ℕ) → slice_get looks i ≡ Some n → slice_get sends i ≡ Some m

-- the number of the look there
look_number : (t : Tree) (known : List Tree) (r : Ranked) (s : List ℕ) (u : Tree) → IsRanked t known r → node_at s (look t) ≡ Some u
    → (n : ℕ) × (slice_get r.looks.items (place_number s (look t)) ≡ Some n) × (slice_get known n ≡ Some u)
look_number t known r s u ranked is =
    stand_of known r.looks.items (subtrees (look t)) (place_number s (look t)) u ranked.looks (subtree_at s (look t) u is)

-- the look of a number, at an index
look_there : (t : Tree) (known : List Tree) (r : Ranked) (i n : ℕ) (u : Tree) → IsRanked t known r → slice_get r.looks.items i ≡ Some n
    → slice_get known n ≡ Some u → (node_at (place_numbered i (look t)) (look t) ≡ Some u) × (place_number (place_numbered i (look t)) (look t) ≡ i)
look_there t known r i n u ranked at known_n =
    let (x, shape, known_x) = stand_at known r.looks.items (subtrees (look t)) i n ranked.looks at in
    let same : x ≡ u = some_one x u (slice_get known n) known_x known_n in
    at_rank (look t) u i (shape ∙ ap Some same)

-- where all that have the number of a look send one thing, all nodes of that look do
all_nodes : (fresh : List (List ℕ)) (t : Tree) (known kept : List Tree) (r : Ranked) (numbers : List ℕ) (u v : Tree) (n m : ℕ) → AreApart known
    → IsRanked t known r → StandFor kept numbers (subtrees (sends fresh t)) → slice_get known n ≡ Some u → slice_get kept m ≡ Some v
    → AllSend r.looks.items numbers n m → (q : List ℕ) → node_at q (look t) ≡ Some u → node_at q (sends fresh t) ≡ Some v
all_nodes fresh t known kept r numbers u v n m apart ranked stand known_n kept_m all q is =
    let (k, at, known_k) = look_number t known r q u ranked is in
    let same : k ≡ n = apart k n u known_k known_n in
    let sent_m = all (place_number q (look t)) (at ∙ ap Some same) in
    let h = has_sends fresh t kept numbers q (place_number q (look t)) u stand is refl in
    let number : h.number ≡ m = some_one h.number m (slice_get numbers (place_number q (look t))) h.at sent_m in
    let node : h.node ≡ v = some_one h.node v (slice_get kept h.number) h.is (ap (slice_get kept) number ∙ kept_m) in
    h.there ∙ ap Some node

-- and the other way round
all_numbers : (fresh : List (List ℕ)) (t : Tree) (known kept : List Tree) (r : Ranked) (numbers : List ℕ) (u v : Tree) (n m : ℕ) → AreApart kept
    → IsRanked t known r → StandFor kept numbers (subtrees (sends fresh t)) → slice_get known n ≡ Some u → slice_get kept m ≡ Some v
    → ((q : List ℕ) → node_at q (look t) ≡ Some u → node_at q (sends fresh t) ≡ Some v) → AllSend r.looks.items numbers n m
all_numbers fresh t known kept r numbers u v n m once ranked stand known_n kept_m all i at =
    let (there, rank) = look_there t known r i n u ranked at known_n in
    let h = has_sends fresh t kept numbers (place_numbered i (look t)) i u stand there (sym rank) in
    let node : h.node ≡ v = some_one h.node v (node_at (place_numbered i (look t)) (sends fresh t)) h.there (all (place_numbered i (look t)) there) in
    let number : h.number ≡ m = once h.number m v (h.is ∙ ap Some node) kept_m in
    h.at ∙ ap Some number

even_to_all : (looks sends : List ℕ) (even : List Bool) (r n m : ℕ) → AreEven looks sends even → slice_get even n ≡ Some true → slice_get looks r ≡ Some n
    → slice_get sends r ≡ Some m → AllSend looks sends n m
even_to_all looks sends even r n m e on here sent_m i at = e.alike n on i r at here ∙ sent_m

all_to_even : (looks sends : List ℕ) (even : List Bool) (r n m : ℕ) → AreEven looks sends even → slice_get looks r ≡ Some n → AllSend looks sends n m
    → is_true (slice_get even n) ≡ true
all_to_even looks sends even r n m e here all =
    let (b, is) = e.all r n here in
    rw is (go b is)
  where
    go : (b : Bool) → slice_get even n ≡ Some b → b ≡ true
    go true is = refl
    go false is =
        let (i, (j, at, there, differ)) = e.apart n is in
        absurd (differ (all i at ∙ sym (all j there)))

true_is : (even : List Bool) (n : ℕ) → is_true (slice_get even n) ≡ true → slice_get even n ≡ Some true
true_is even n is = go (slice_get even n) refl is
  where
    go : (o : Option Bool) → slice_get even n ≡ o → is_true o ≡ true → slice_get even n ≡ Some true
    go None own on = cc
    go (Some b) own on = own ∙ ap Some on

-- ---- the same, of the places at which it stands

all_of : (fresh : List (List ℕ)) (t v : Tree) (ps : List (List ℕ)) → ((q : List ℕ) → IsIn ps q → node_at q (sends fresh t) ≡ Some v)
    → all_send fresh t v ps ≡ true
all_of fresh t v [] each = refl
all_of fresh t v (p ∷ ps) each =
    and_from (is_node (node_at p (sends fresh t)) v) (all_send fresh t v ps) (node_same (node_at p (sends fresh t)) v (each p (inl refl)))
    (all_of fresh t v ps (λ q h. each q (inr h)))

each_of : (fresh : List (List ℕ)) (t v : Tree) (ps : List (List ℕ)) → all_send fresh t v ps ≡ true → (q : List ℕ) → IsIn ps q
    → node_at q (sends fresh t) ≡ Some v
each_of fresh t v [] is q h = absurd h
each_of fresh t v (p ∷ ps) is q (inl same) =
    ap (λ r. node_at r (sends fresh t)) (sym same)
    ∙ node_one (node_at p (sends fresh t)) v (and_parts (is_node (node_at p (sends fresh t)) v) (all_send fresh t v ps) is).0
each_of fresh t v (p ∷ ps) is q (inr h) =
    each_of fresh t v ps (and_parts (is_node (node_at p (sends fresh t)) v) (all_send fresh t v ps) is).1 q h

stands_there : (t u : Tree) (q : List ℕ) → IsIn (stands_at u t) q → node_at q t ≡ Some u
stands_there t u q h = node_one (node_at q t) u (filter_in (λ p. is_node (node_at p t) u) (places_of [] t) q h)

is_standing : (t u : Tree) (q : List ℕ) → node_at q t ≡ Some u → IsIn (stands_at u t) q
is_standing t u q is = in_filter (λ p. is_node (node_at p t) u) (places_of [] t) q (place_in q t u is) (node_same (node_at q t) u is)

all_send_true : (fresh : List (List ℕ)) (t u v : Tree) → ((q : List ℕ) → node_at q (look t) ≡ Some u → node_at q (sends fresh t) ≡ Some v)
    → all_send fresh t v (stands_at u (look t)) ≡ true
all_send_true fresh t u v each = all_of fresh t v (stands_at u (look t)) (λ q h. each q (stands_there (look t) u q h))

all_send_each : (fresh : List (List ℕ)) (t u v : Tree) → all_send fresh t v (stands_at u (look t)) ≡ true
    → (q : List ℕ) → node_at q (look t) ≡ Some u → node_at q (sends fresh t) ≡ Some v
all_send_each fresh t u v is q at = each_of fresh t v (stands_at u (look t)) is q (is_standing (look t) u q at)

-- ---- the first that looks so

first_filter : (test : List ℕ → Bool) (xs : List (List ℕ)) (k : ℕ) (x : List ℕ) → slice_get xs k ≡ Some x → test x ≡ true
    → ((j : ℕ) (y : List ℕ) → j < k → slice_get xs j ≡ Some y → test y ≡ false) → first_one (filter test xs) ≡ Some x
first_filter test [] k x at is low = cc
first_filter test (y ∷ ys) zero x at is low =
    let same : y ≡ x = cc in
    rw (ap test same ∙ is) (ap Some same)
first_filter test (y ∷ ys) (suc k) x at is low =
    rw (low 0 y (omega arith) refl) (first_filter test ys k x at is (λ j z less there. low (suc j) z (omega (arith, less)) there))

place_there : (t : Tree) (j : ℕ) → j < nodes t → slice_get (places_of [] t) j ≡ Some (place_numbered j t)
place_there t j less =
    slice_get-get_or (places_of [] t) j (count (children_of t) ∷ []) (omega (arith, less, places-length [] t))

number_less : (t : Tree) (known : List Tree) (r : Ranked) (k n : ℕ) → IsRanked t known r → slice_get r.looks.items k ≡ Some n → k < nodes (look t)
number_less t known r k n ranked at =
    let (x, shape, known_x) = stand_at known r.looks.items (subtrees (look t)) k n ranked.looks at in
    omega (arith, slice_get_within (subtrees (look t)) k x shape, subtrees-length (look t))

first_stands : (t u : Tree) (known : List Tree) (r : Ranked) (n k : ℕ) → AreApart known → IsRanked t known r → slice_get known n ≡ Some u
    → IsFirstAt r.looks.items n k → first_one (stands_at u (look t)) ≡ Some (place_numbered k (look t))
first_stands t u known r n k apart ranked known_n (at, low) =
    let (there, rank) = look_there t known r k n u ranked at known_n in
    let less = number_less t known r k n ranked at in
    first_filter (λ p. is_node (node_at p (look t)) u) (places_of [] (look t)) k (place_numbered k (look t)) (place_there (look t) k less)
    (node_same (node_at (place_numbered k (look t)) (look t)) u there)
    (λ j y before is. no_other j y before is (is_node (node_at y (look t)) u) refl)
  where
    no_other : (j : ℕ) (y : List ℕ) → j < k → slice_get (places_of [] (look t)) j ≡ Some y → (b : Bool) → is_node (node_at y (look t)) u ≡ b
        → is_node (node_at y (look t)) u ≡ false
    no_other j y before is false own = own
    no_other j y before is true own =
        let node : node_at y (look t) ≡ Some u = node_one (node_at y (look t)) u own in
        let few : j < nodes (look t) = omega (arith, slice_get_within (places_of [] (look t)) j y is, places-length [] (look t)) in
        let place : place_numbered j (look t) ≡ y = some_one (place_numbered j (look t)) y (slice_get (places_of [] (look t)) j) (place_there (look t) j few) is in
        let number : place_number y (look t) ≡ j = ap (λ p. place_number p (look t)) (sym place) ∙ number_of_numbered j (look t) few in
        let (i, here, known_i) = look_number t known r y u ranked node in
        let same : i ≡ n = apart i n u known_i known_n in
        let past : k ≤ j = low j (ap (slice_get r.looks.items) (sym number) ∙ here ∙ ap Some same) in
        absurd (omega (arith, before, past))

none_stands : (t u : Tree) (known : List Tree) (r : Ranked) (n : ℕ) → AreApart known → IsRanked t known r → slice_get known n ≡ Some u
    → IsAbsent r.looks.items n → stands_at u (look t) ≡ []
none_stands t u known r n apart ranked known_n absent = go (stands_at u (look t)) refl
  where
    go : (ps : List (List ℕ)) → stands_at u (look t) ≡ ps → stands_at u (look t) ≡ []
    go [] own = own
    go (p ∷ ps) own =
        let node : node_at p (look t) ≡ Some u = stands_there (look t) u p (rw own (inl refl)) in
        let (i, here, known_i) = look_number t known r p u ranked node in
        let same : i ≡ n = apart i n u known_i known_n in
        absurd (absent (place_number p (look t)) (here ∙ ap Some same))

-- the node of the page whose place in its outline has that rank
record IsNodeAt (t : Tree) (k found : ℕ) : Type 0 where
  pub less : found < nodes t
  pub place : place_seen_at (place_numbered k (look t)) t ≡ Some (place_numbered found t)

node_of_rank : (t u : Tree) (known : List Tree) (r : Ranked) (k found : ℕ) → IsRanked t known r
    → node_at (place_numbered k (look t)) (look t) ≡ Some u → place_number (place_numbered k (look t)) (look t) ≡ k
    → slice_get r.nodes.items k ≡ Some found → IsNodeAt t k found
node_of_rank t u known r k found ranked there rank at =
    let s = place_numbered k (look t) in
    let o = place_seen shown s t u there in
    let (q, is) = some_place s t o.place o.node o.there o.seen in
    let one : q ≡ o.place = one_place q o.place t s (seen_from_place s t q is) o.seen in
    let here : slice_get (seen_from 0 t) (place_number s (look t)) ≡ Some (0 + place_number o.place t) = rank_at shown o.place t s 0 o.seen in
    let node : slice_get r.nodes.items k ≡ Some (0 + place_number o.place t) =
    ap (λ ns. slice_get ns k) ranked.nodes ∙ ap (slice_get (seen_from 0 t)) (sym rank) ∙ here in
    let zero_more : 0 + place_number o.place t ≡ place_number o.place t = omega arith in
    let number : found ≡ place_number o.place t = some_one found (place_number o.place t) (slice_get r.nodes.items k) at (node ∙ ap Some zero_more) in
    let place : place_numbered found t ≡ o.place = ap (λ n. place_numbered n t) number ∙ numbered_of_number o.place t o.node o.there in
    record {
      less = place_known t found s (ap (λ p. seen_place p t) place ∙ o.seen);
      place = is ∙ ap Some (one ∙ sym place);
    }

-- ---- one that is as good

-- what stands there on the old page: its look and its number, and what it sends
record IsLook (fresh : List (List ℕ)) (old : Tree) (known kept : List Tree) (o : Ranked) (was : SentNumbers) (p : List ℕ) (rank : ℕ) : Type 0 where
  pub at : List ℕ
  pub seen : seen_place p old ≡ Some at
  pub looks : Tree
  pub shape : node_at at (look old) ≡ Some looks
  pub number : ℕ
  pub numbered : slice_get o.looks.items rank ≡ Some number
  pub known_is : slice_get known number ≡ Some looks
  pub sent_are : HasSends fresh old kept was.all.items at rank

look_of : (fresh : List (List ℕ)) (old : Tree) (known kept : List Tree) (o : Ranked) (was : SentNumbers) (number rank : ℕ) → IsRanked old known o
    → AreSent fresh old kept o.looks.items was → HasRank old number rank → IsLook fresh old known kept o was (place_numbered number old) rank
look_of fresh old known kept o was number rank ranked sent (s, seen, is) =
    let m = seen_there shown (place_numbered number old) old s seen in
    let (n, at, known_n) = look_number old known o s (look m.node) ranked m.shape in
    record {
      at = s;
      seen = seen;
      looks = look m.node;
      shape = m.shape;
      number = n;
      numbered = ap (slice_get o.looks.items) is ∙ at;
      known_is = known_n;
      sent_are = has_sends fresh old kept was.all.items s rank (look m.node) sent.all m.shape is;
    }

alike_is : (old new : Tree) (p s : List ℕ) (u : Tree) → seen_place p old ≡ Some s → node_at s (look old) ≡ Some u
    → alike_at old new p ≡ stands_at u (look new)
alike_is old new p s u seen is =
    ap (λ o. option_map_or (λ looks. stands_at looks (look new)) (option_and_then (λ r. node_at r (look old)) o) []) seen
    ∙ ap (λ o. option_map_or (λ looks. stands_at looks (look new)) o []) is

as_good_is : (fresh : List (List ℕ)) (old new : Tree) (p s : List ℕ) (u v : Tree) → seen_place p old ≡ Some s → node_at s (look old) ≡ Some u
    → node_at s (sends fresh old) ≡ Some v → as_good_place fresh old new p
    ≡ (if all_send fresh old v (stands_at u (look old)) && all_send fresh new v (stands_at u (look new))
    then option_and_then (λ r. place_seen_at r new) (first_one (stands_at u (look new))) else None)
as_good_is fresh old new p s u v seen shape sent =
    let alike : alike_at old new p ≡ stands_at u (look new) = alike_is old new p s u seen shape in
    let own : alike_at old old p ≡ stands_at u (look old) = alike_is old old p s u seen shape in
    let sending : option_and_then (λ r. node_at r (sends fresh old)) (seen_place p old) ≡ Some v =
    ap (option_and_then (λ r. node_at r (sends fresh old))) seen ∙ sent in
    ap (λ o. if option_map_or (λ w. all_send fresh old w (alike_at old old p) && all_send fresh new w (alike_at old new p)) o false
    then option_and_then (λ r. place_seen_at r new) (first_one (alike_at old new p)) else None) sending
    ∙ ap (λ l. if all_send fresh old v l && all_send fresh new v (alike_at old new p)
    then option_and_then (λ r. place_seen_at r new) (first_one (alike_at old new p)) else None) own
    ∙ ap (λ l. if all_send fresh old v (stands_at u (look old)) && all_send fresh new v l
    then option_and_then (λ r. place_seen_at r new) (first_one l) else None) alike

both_false : (b c : Bool) → (b ≡ true → c ≡ true → ⊥) → (b && c) ≡ false
both_false true true none = absurd (none refl refl)
both_false true false none = refl
both_false false c none = refl

-- where it is found
good_some : (fresh : List (List ℕ)) (old new : Tree) (o w : Ranked) (was is : SentNumbers) (number rank n k found : ℕ) → AreBeside fresh old new o w was is
    → HasRank old number rank → slice_get o.looks.items rank ≡ Some n → IsFirstAt w.looks.items n k
    → is_one_number (slice_get was.all.items rank) (slice_get is.all.items k) ≡ true → is_true (slice_get was.even.items n) ≡ true
    → is_true (slice_get is.even.items n) ≡ true → slice_get w.nodes.items k ≡ Some found
    → (found < nodes new) × (Some (place_numbered found new) ≡ as_good_place fresh old new (place_numbered number old))
good_some fresh old new o w was is number rank n k found ((known, apart, ranked, also), (kept, once, sent, further)) has at first one even too node =
    let l = look_of fresh old known kept o was number rank ranked sent has in
    let same : l.number ≡ n = some_one l.number n (slice_get o.looks.items rank) l.numbered at in
    let known_n : slice_get known n ≡ Some l.looks = ap (slice_get known) (sym same) ∙ l.known_is in
    let h = l.sent_are in
    let (there, number_k) = look_there new known w k n l.looks also first.0 known_n in
    let b = has_sends fresh new kept is.all.items (place_numbered k (look new)) k l.looks further.all there (sym number_k) in
    let alike : is_tree h.node b.node ≡ true =
    sym (number_tells kept h.number b.number h.node b.node once h.is b.is)
    ∙ sym (one_or_not (slice_get was.all.items rank) (slice_get is.all.items k) h.number b.number h.at b.at) ∙ one in
    let same_node : Some b.node ≡ Some h.node = node_one (Some b.node) h.node alike in
    let kept_b : slice_get kept b.number ≡ Some h.node = b.is ∙ same_node in
    let first_true = all_send_true fresh old l.looks h.node
    (all_nodes fresh old known kept o was.all.items l.looks h.node n h.number apart ranked sent.all known_n h.is
    (even_to_all o.looks.items was.all.items was.even.items rank n h.number sent.even (true_is was.even.items n even) at h.at)) in
    let second_true = all_send_true fresh new l.looks h.node
    (all_nodes fresh new known kept w is.all.items l.looks h.node n b.number apart also further.all known_n kept_b
    (even_to_all w.looks.items is.all.items is.even.items k n b.number further.even (true_is is.even.items n too) first.0 b.at)) in
    let g = node_of_rank new l.looks known w k found also there number_k node in
    let stands = first_stands new l.looks known w n k apart also known_n first in (
      g.less,
      sym (as_good_is fresh old new (place_numbered number old) l.at l.looks h.node l.seen l.shape h.there
          ∙ rw (first_true, second_true, stands) g.place),
    )

-- where not all send the same
good_apart : (fresh : List (List ℕ)) (old new : Tree) (o w : Ranked) (was is : SentNumbers) (number rank n k : ℕ) → AreBeside fresh old new o w was is
    → HasRank old number rank → slice_get o.looks.items rank ≡ Some n → IsFirstAt w.looks.items n k
    → ((is_one_number (slice_get was.all.items rank) (slice_get is.all.items k) ≡ true) → (is_true (slice_get was.even.items n) ≡ true)
    → (is_true (slice_get is.even.items n) ≡ true) → ⊥) → None ≡ as_good_place fresh old new (place_numbered number old)
good_apart fresh old new o w was is number rank n k ((known, apart, ranked, also), (kept, once, sent, further)) has at first none =
    let l = look_of fresh old known kept o was number rank ranked sent has in
    let same : l.number ≡ n = some_one l.number n (slice_get o.looks.items rank) l.numbered at in
    let known_n : slice_get known n ≡ Some l.looks = ap (slice_get known) (sym same) ∙ l.known_is in
    let h = l.sent_are in
    let (there, number_k) = look_there new known w k n l.looks also first.0 known_n in
    let b = has_sends fresh new kept is.all.items (place_numbered k (look new)) k l.looks further.all there (sym number_k) in
    let false_is : (all_send fresh old h.node (stands_at l.looks (look old)) && all_send fresh new h.node (stands_at l.looks (look new))) ≡ false =
    both_false (all_send fresh old h.node (stands_at l.looks (look old))) (all_send fresh new h.node (stands_at l.looks (look new))) (λ first_true second_true.
    let olds = all_send_each fresh old l.looks h.node first_true in
    let news = all_send_each fresh new l.looks h.node second_true in
    let node : b.node ≡ h.node = some_one b.node h.node (node_at (place_numbered k (look new)) (sends fresh new)) b.there (news (place_numbered k (look new)) there) in
    let kept_b : slice_get kept b.number ≡ Some h.node = b.is ∙ ap Some node in
    let alike : is_tree h.node b.node ≡ true = ap (is_tree h.node) node ∙ tree_same h.node in
    let one : is_one_number (slice_get was.all.items rank) (slice_get is.all.items k) ≡ true =
    one_or_not (slice_get was.all.items rank) (slice_get is.all.items k) h.number b.number h.at b.at
    ∙ number_tells kept h.number b.number h.node b.node once h.is b.is ∙ alike in
    let even = all_to_even o.looks.items was.all.items was.even.items rank n h.number sent.even at
    (all_numbers fresh old known kept o was.all.items l.looks h.node n h.number once ranked sent.all known_n h.is olds) in
    let too = all_to_even w.looks.items is.all.items is.even.items k n b.number further.even first.0
    (all_numbers fresh new known kept w is.all.items l.looks h.node n b.number once also further.all known_n kept_b news) in
    none one even too) in
    sym (as_good_is fresh old new (place_numbered number old) l.at l.looks h.node l.seen l.shape h.there ∙ rw false_is refl)

-- ---- by the truth value of the three

-- it is the first of the look there
pub first_is : (olds looks : List ℕ) (rank look k : ℕ) → slice_get olds rank ≡ Some look
    → ((n : ℕ) × (slice_get olds rank ≡ Some n) × IsFirstAt looks n k) → IsFirstAt looks look k
first_is olds looks rank look k at (n, there, first) =
    let same : n ≡ look = some_one n look (slice_get olds rank) there at in
    subst (λ m. IsFirstAt looks m k) same first

-- each seen node has a look
pub good_lookless : (fresh : List (List ℕ)) (old new : Tree) (o w : Ranked) (was is : SentNumbers) (number rank : ℕ) → AreBeside fresh old new o w was is
    → HasRank old number rank → None ≡ slice_get o.looks.items rank → None ≡ as_good_place fresh old new (place_numbered number old)
good_lookless fresh old new o w was is number rank ((known, apart, ranked, also), (kept, once, sent, further)) has none =
    let l = look_of fresh old known kept o was number rank ranked sent has in
    let both : None ≡ Some l.number = none ∙ l.numbered in
    absurd cc

first_look : (old new : Tree) (known : List Tree) (o w : Ranked) (rank : ℕ) → IsRanked new known w → (k n : ℕ) → slice_get w.looks.items k ≡ Some n
    → (found : ℕ) × (slice_get w.nodes.items k ≡ Some found)
first_look old new known o w rank also k n at =
    there_is w.nodes.items k (omega (arith, number_less new known w k n also at, ap length also.nodes, seen_from-length shown 0 new))

pub good_is : (fresh : List (List ℕ)) (old new : Tree) (o w : Ranked) (was is : SentNumbers) (number rank n k : ℕ) (result : Option ℕ)
    → AreBeside fresh old new o w was is → HasRank old number rank → slice_get o.looks.items rank ≡ Some n → IsFirstAt w.looks.items n k
    → true ≡ (is_one_number (slice_get was.all.items rank) (slice_get is.all.items k) && is_true (slice_get was.even.items n) && is_true (slice_get is.even.items n))
    → result ≡ slice_get w.nodes.items k
    → IfSome result (λ found. found < nodes new) × (option_map (λ found. place_numbered found new) result ≡ as_good_place fresh old new (place_numbered number old))
good_is fresh old new o w was is number rank n k result beside has at first all node =
    let ((known, apart, ranked, also), sent) = beside in
    let (found, there) = first_look old new known o w rank also k n first.0 in
    let (both, too) = and_parts (is_one_number (slice_get was.all.items rank) (slice_get is.all.items k) && is_true (slice_get was.even.items n))
    (is_true (slice_get is.even.items n)) (sym all) in
    let (one, even) = and_parts (is_one_number (slice_get was.all.items rank) (slice_get is.all.items k)) (is_true (slice_get was.even.items n)) both in
    let g = good_some fresh old new o w was is number rank n k found beside has at first one even too there in
    let result_is : result ≡ Some found = node ∙ there in
    rw result_is g

pub good_not : (fresh : List (List ℕ)) (old new : Tree) (o w : Ranked) (was is : SentNumbers) (number rank n k : ℕ)
    → AreBeside fresh old new o w was is → HasRank old number rank → slice_get o.looks.items rank ≡ Some n → IsFirstAt w.looks.items n k
    → false ≡ (is_one_number (slice_get was.all.items rank) (slice_get is.all.items k) && is_true (slice_get was.even.items n) && is_true (slice_get is.even.items n))
    → None ≡ as_good_place fresh old new (place_numbered number old)
good_not fresh old new o w was is number rank n k beside has at first not_all =
    good_apart fresh old new o w was is number rank n k beside has at first (λ one even too. true≢false
    (sym (and_from (is_one_number (slice_get was.all.items rank) (slice_get is.all.items k) && is_true (slice_get was.even.items n)) (is_true (slice_get is.even.items n))
    (and_from (is_one_number (slice_get was.all.items rank) (slice_get is.all.items k)) (is_true (slice_get was.even.items n)) one even) too) ∙ sym not_all))

either_none : (b : Bool) (o : Option (List ℕ)) → o ≡ None → (if b then o else None) ≡ None
either_none true o is = is
either_none false o is = refl

-- where nothing looks so
pub nothing_alike : (fresh : List (List ℕ)) (old new : Tree) (o w : Ranked) (was is : SentNumbers) (number rank : ℕ) → AreBeside fresh old new o w was is
    → HasRank old number rank → ((n : ℕ) → slice_get o.looks.items rank ≡ Some n → IsAbsent w.looks.items n)
    → alike_at old new (place_numbered number old) ≡ []
nothing_alike fresh old new o w was is number rank ((known, apart, ranked, also), (kept, once, sent, further)) has absent =
    let l = look_of fresh old known kept o was number rank ranked sent has in
    alike_is old new (place_numbered number old) l.at l.looks l.seen l.shape
    ∙ none_stands new l.looks known w l.number apart also l.known_is (absent l.number l.numbered)

pub good_absent : (fresh : List (List ℕ)) (old new : Tree) (o w : Ranked) (was is : SentNumbers) (number rank : ℕ) → AreBeside fresh old new o w was is
    → HasRank old number rank → ((n : ℕ) → slice_get o.looks.items rank ≡ Some n → IsAbsent w.looks.items n)
    → None ≡ as_good_place fresh old new (place_numbered number old)
good_absent fresh old new o w was is number rank ((known, apart, ranked, also), (kept, once, sent, further)) has absent =
    let l = look_of fresh old known kept o was number rank ranked sent has in
    let none : stands_at l.looks (look new) ≡ [] = none_stands new l.looks known w l.number apart also l.known_is (absent l.number l.numbered) in
    let nowhere : option_and_then (λ r. place_seen_at r new) (first_one (stands_at l.looks (look new))) ≡ None = rw none refl in
    sym (as_good_is fresh old new (place_numbered number old) l.at l.looks l.sent_are.node l.seen l.shape l.sent_are.there
    ∙ either_none (all_send fresh old l.sent_are.node (stands_at l.looks (look old)) && all_send fresh new l.sent_are.node (stands_at l.looks (look new)))
    (option_and_then (λ r. place_seen_at r new) (first_one (stands_at l.looks (look new)))) nowhere)

-- and where something does
pub something_alike : (fresh : List (List ℕ)) (old new : Tree) (o w : Ranked) (was is : SentNumbers) (number rank n k : ℕ) → AreBeside fresh old new o w was is
    → HasRank old number rank → slice_get o.looks.items rank ≡ Some n → IsFirstAt w.looks.items n k → alike_at old new (place_numbered number old) ≢ []
something_alike fresh old new o w was is number rank n k ((known, apart, ranked, also), (kept, once, sent, further)) has at first none =
    let l = look_of fresh old known kept o was number rank ranked sent has in
    let same : l.number ≡ n = some_one l.number n (slice_get o.looks.items rank) l.numbered at in
    let known_n : slice_get known n ≡ Some l.looks = ap (slice_get known) (sym same) ∙ l.known_is in
    let (there, number_k) = look_there new known w k n l.looks also first.0 known_n in
    let here : IsIn (stands_at l.looks (look new)) (place_numbered k (look new)) = is_standing (look new) l.looks (place_numbered k (look new)) there in
    let empty : stands_at l.looks (look new) ≡ [] = sym (alike_is old new (place_numbered number old) l.at l.looks l.seen l.shape) ∙ none in
    rw empty at here

-- what isn't seen looks like nothing
hidden_place : (old : Tree) (p : List ℕ) → ((s : List ℕ) → seen_place p old ≢ Some s) → seen_place p old ≡ None
hidden_place old p hidden = go (seen_place p old) refl
  where
    go : (o : Option (List ℕ)) → seen_place p old ≡ o → seen_place p old ≡ None
    go None own = own
    go (Some s) own = absurd (hidden s own)

pub hidden_alike : (old new : Tree) (p : List ℕ) → ((s : List ℕ) → seen_place p old ≢ Some s) → alike_at old new p ≡ []
hidden_alike old new p hidden = rw (hidden_place old p hidden) refl

pub hidden_good : (fresh : List (List ℕ)) (old new : Tree) (p : List ℕ) → ((s : List ℕ) → seen_place p old ≢ Some s) → None ≡ as_good_place fresh old new p
hidden_good fresh old new p hidden = rw (hidden_place old p hidden) refl

-- ---- what two nodes send by themselves

get_past : {X : Type 0} (xs : List X) (n : ℕ) → length xs ≤ n → slice_get xs n ≡ None
get_past [] n past = refl
get_past (x ∷ xs) zero past = absurd (omega (arith, past))
get_past (x ∷ xs) (suc n) past = get_past xs n (omega (arith, past))

own_number : (fresh : List (List ℕ)) (t : Tree) (kept : List Tree) (looks : List ℕ) (sent : SentNumbers) (n : ℕ) → AreSent fresh t kept looks sent
    → slice_get kept (unwrap_or (slice_get sent.own.items n) sent.nothing) ≡ Some (leaf_at fresh t n)
own_number fresh t kept looks sent n are = elim (cases_lt n (nodes t)) [
  | inl less ↦
      let at : slice_get (map (leaf_at fresh t) (range_with_len 0 (nodes t))) n ≡ Some (leaf_at fresh t n) =
      slice_get-get_or (map (leaf_at fresh t) (range_with_len 0 (nodes t))) n (leaf_at fresh t n) (omega (arith, less, length-map-range_with_len (leaf_at fresh t) 0 (nodes t)))
      ∙ ap Some (get_or-map-range_with_len (leaf_at fresh t) 0 (nodes t) n n (leaf_at fresh t n) less (omega arith)) in
      let (k, here, known_k) = stand_of kept sent.own.items (map (leaf_at fresh t) (range_with_len 0 (nodes t))) n (leaf_at fresh t n) are.own at in
      ap (λ o. slice_get kept (unwrap_or o sent.nothing)) here ∙ known_k
  | inr past ↦
      let long : length sent.own.items ≡ nodes t =
      stand_length kept sent.own.items (map (leaf_at fresh t) (range_with_len 0 (nodes t))) are.own ∙ length-map-range_with_len (leaf_at fresh t) 0 (nodes t) in
      let none : slice_get sent.own.items n ≡ None = get_past sent.own.items n (omega (arith, past, long)) in
      ap (λ o. slice_get kept (unwrap_or o sent.nothing)) none ∙ are.nothing ∙ ap Some (sym (past_leaf fresh t n past))
]

and_right : (b : Bool) → (b && true) ≡ b
and_right true = refl
and_right false = refl

leaves_alike : (xs ys : List Attribute) → is_tree (own_leaf xs) (own_leaf ys) ≡ are_attributes xs ys
leaves_alike xs ys = and_right (are_attributes xs ys)

pub own_alike : (fresh : List (List ℕ)) (old new : Tree) (o w : Ranked) (was is : SentNumbers) (number other : ℕ) → AreBeside fresh old new o w was is
    → (unwrap_or (slice_get was.own.items number) was.nothing == unwrap_or (slice_get is.own.items other) is.nothing)
    ≡ is_sent_alike fresh old new (place_numbered number old) (place_numbered other new)
own_alike fresh old new o w was is number other (looks, (kept, once, sent, further)) =
    number_tells kept (unwrap_or (slice_get was.own.items number) was.nothing) (unwrap_or (slice_get is.own.items other) is.nothing)
    (leaf_at fresh old number) (leaf_at fresh new other) once (own_number fresh old kept o.looks.items was number sent)
    (own_number fresh new kept w.looks.items is other further)
    ∙ leaves_alike (sent_at fresh old (place_numbered number old)) (sent_at fresh new (place_numbered other new))
