-- The numbers of what nodes send.
use Rattle.std.proofs.Common.{◌≡◌, ◌≢◌, true≢false, ℕ, zero, suc, ◌+◌, ◌<◌, ◌≤◌, ◌==◌, Bool, true, false, if◌then◌else◌, List, [], ◌∷◌, ◌++◌, length, map, set, get_or, Some, None, Option, slice_get, option_and_then, refl, sym, ◌∙◌, ap, inl, inr, arith, append_assoc, append-nil, subst}
use Rattle.std.specs.List.{range_with_len}
use Rattle.std.specs.Option.{option_map_or}
use Rattle.std.proofs.Math.ListN.{replicate, length-set}
use Rattle.std.proofs.lemmas.Bool.{cases_eq, cases_lt}
use Rattle.std.proofs.lemmas.Bool.Decides.{eqb_tells}
use Rattle.std.proofs.lemmas.List.FromFn.{map-range_with_len_more}
use Rattle.std.proofs.lemmas.Option.{slice_get_within, slice_get-get_or}
use Rattle.page_tree.specs.Tree.{Attribute, Tree, element, words}
use Rattle.page_tree.specs.Limits.{nodes}
use Rattle.page_tree.specs.Look.{node_at, name_at, name_of}
use Rattle.page_tree.specs.Number.{place_numbered}
use Rattle.page_tree.specs.inside.Kept.{attributes_at, children_at}
use Rattle.page_tree.proofs.Numbers.{has_none}
use Rattle.page_looks.specs.Outline.{look, shown}
use Rattle.page_looks.specs.Sending.{sent, sends}
use Rattle.page_looks.specs.Counterpart.{sent_at}
use Rattle.page_looks.specs.inside.Numbers.{IsPutIn, StandFor}
use Rattle.page_looks.specs.inside.Shapes.{told_texts, IsKey}
use Rattle.page_looks.specs.inside.Ranks.{subtrees, AreFirst, IsRanked}
use Rattle.page_looks.specs.inside.Numbering.{KnowsAll, PushesTexts, NumbersNode}
use Rattle.page_looks.specs.inside.Sends.{own_leaf, leaf_at, NumbersLeaf, HasLeaves, NumbersLeaves, AreEven, AreSent}
use Rattle.page_looks.specs.inside.Kept.{SendsPage}
use Rattle.page_looks.specs.declared.shapes.Shapes.{Shapes}
use Rattle.page_looks.specs.declared.ranks.Ranked.{Ranked}
use Rattle.page_looks.specs.declared.sent_numbers.SentNumbers.{SentNumbers}
use Rattle.page_looks.proofs.KeptOnce.{get_first, stand_more, stand_append, stand_length}
use Rattle.page_looks.proofs.KeyLaws.{knows_key}
use Rattle.page_looks.proofs.NumberingLaws.{knows_texts, element_is}
use Rattle.page_looks.proofs.PlaceLaws.{set_same, set_other}
use Rattle.page_looks.proofs.RankLaws.{subtrees-length, seen_from-length}

-- ---- what a node sends by itself

none_sends : (fresh : List (List ℕ)) (o : Option Tree) → None ≡ option_and_then name_of o → option_map_or (sent fresh) o [] ≡ []
none_sends fresh None is = refl
none_sends fresh (Some (element name attributes children)) is = cc
none_sends fresh (Some (words text)) is = refl

pub text_sends : (fresh : List (List ℕ)) (page : Tree) (place : List ℕ) → None ≡ name_at place page → [] ≡ sent_at fresh page place
text_sends fresh page place is = sym (none_sends fresh (node_at place page) is)

sends_of : (fresh : List (List ℕ)) (o : Option Tree) (m : Tree) → o ≡ Some m → option_map_or (sent fresh) o [] ≡ sent fresh m
sends_of fresh o m is = rw is refl

some_node : (o : Option Tree) (name : List ℕ) → Some name ≡ option_and_then name_of o → (m : Tree) × (o ≡ Some m)
some_node None name is = cc
some_node (Some m) name is = (m, refl)

pub element_sends : (fresh : List (List ℕ)) (page : Tree) (place name : List ℕ) → Some name ≡ name_at place page
    → sent fresh (element name (attributes_at place page) (children_at place page)) ≡ sent_at fresh page place
element_sends fresh page place name is =
    let (m, there) = some_node (node_at place page) name is in
    let whole : m ≡ element name (attributes_at place page) (children_at place page) = element_is (node_at place page) m name there is in
    ap (sent fresh) (sym whole) ∙ sym (sends_of fresh (node_at place page) m there)

pub named_there : (page : Tree) (number : ℕ) (name : List ℕ) → Some name ≡ name_at (place_numbered number page) page → number < nodes page
named_there page number name is = elim (cases_lt number (nodes page)) [
  | inl less ↦ less
  | inr past ↦
      let none : node_at (place_numbered number page) page ≡ None = has_none number page past in
      let (m, there) = some_node (node_at (place_numbered number page) page) name is in
      absurd cc
]

-- ---- its number

pub leaf_numbered : (below old one new : Shapes) (told : List Attribute) (key : List ℕ) (n : ℕ)
    → PushesTexts below old one (suc (length told) ∷ []) key ([] ∷ told_texts told) → IsPutIn (below.keys ++ one.keys) (below.keys ++ new.keys) key n
    → new.texts ≡ one.texts → NumbersLeaf below old new n (own_leaf told)
leaf_numbered below old one new told key n own put texts_same known k =
    let k_one = knows_texts below old one (suc (length told) ∷ []) key ([] ∷ told_texts told) known own k in
    let whole : key ≡ suc (length told) ∷ own.numbers ++ [] = own.pushed ∙ ap (λ q. suc (length told) ∷ q) (sym (append-nil own.numbers)) in
    let is_key : IsKey (below.texts ++ one.texts) known (own_leaf told) key = (own.numbers, [], whole, own.stand, refl) in
    let q = knows_key (below.texts ++ one.texts) (below.keys ++ one.keys) (below.keys ++ new.keys) known (own_leaf told) key n k_one is_key put in
    record { more = q.more; knows = rw texts_same q.knows; at = q.at }

pub leaves_none : (below old : Shapes) (fresh : List (List ℕ)) (t : Tree) → NumbersLeaves below old old [] fresh t 0
leaves_none below old fresh t known k = record { more = []; knows = rw (append-nil known) k; stand = refl }

pub leaves_more : (below old mid new : Shapes) (fresh : List (List ℕ)) (t : Tree) (numbers all : List ℕ) (i n : ℕ)
    → NumbersLeaves below old mid numbers fresh t i → NumbersLeaf below mid new n (leaf_at fresh t i) → all ≡ numbers ++ n ∷ []
    → NumbersLeaves below old new all fresh t (i + 1)
leaves_more below old mid new fresh t numbers all i n before own is known k =
    let a = before known k in
    let b = own (known ++ a.more) a.knows in
    let leaves = map (leaf_at fresh t) (range_with_len 0 i) in
    let whole : (known ++ a.more) ++ b.more ≡ known ++ (a.more ++ b.more) = append_assoc known a.more b.more in
    let one : StandFor ((known ++ a.more) ++ b.more) (n ∷ []) (leaf_at fresh t i ∷ []) = ap (λ o. o ∷ []) b.at in
    let both : StandFor ((known ++ a.more) ++ b.more) (numbers ++ n ∷ []) (map (leaf_at fresh t) (range_with_len 0 i) ++ leaf_at fresh t i ∷ []) =
    stand_append ((known ++ a.more) ++ b.more) numbers (n ∷ []) leaves (leaf_at fresh t i ∷ [])
    (stand_more (known ++ a.more) b.more numbers leaves a.stand) one in
    let nodes_are : map (leaf_at fresh t) (range_with_len 0 i) ++ leaf_at fresh t i ∷ [] ≡ map (leaf_at fresh t) (range_with_len 0 (i + 1)) =
    sym (map-range_with_len_more (leaf_at fresh t) 0 i i (omega arith)) in
    record {
      more = a.more ++ b.more;
      knows = subst (λ ks. KnowsAll below new ks) whole b.knows;
      stand = subst (λ ks. StandFor ks all (map (leaf_at fresh t) (range_with_len 0 (i + 1)))) whole
          (subst (λ ns. StandFor ((known ++ a.more) ++ b.more) ns (map (leaf_at fresh t) (range_with_len 0 (i + 1)))) (sym is)
          (subst (λ xs. StandFor ((known ++ a.more) ++ b.more) (numbers ++ n ∷ []) xs) nodes_are both));
    }

pub leaves_all : (below old new : Shapes) (fresh : List (List ℕ)) (t : Tree) (numbers : List ℕ) (i many : ℕ)
    → NumbersLeaves below old new numbers fresh t i → i ≡ many → NumbersLeaves below old new numbers fresh t many
leaves_all below old new fresh t numbers i many before same known k = subst (λ m. HasLeaves below new known numbers (map (leaf_at fresh t) (range_with_len 0 m))) same (before known k)

-- where no node is, nothing is sent
pub past_leaf : (fresh : List (List ℕ)) (t : Tree) (n : ℕ) → nodes t ≤ n → leaf_at fresh t n ≡ own_leaf []
past_leaf fresh t n past = rw (has_none n t past) refl

-- ---- whether all of a look send the same

pub record EvenSoFar (looks first sends : List ℕ) (even : List Bool) (i : ℕ) : Type 0 where
  pub many : length even ≡ length first
  pub alike : (n k : ℕ) → slice_get even n ≡ Some true → slice_get first n ≡ Some (suc k) → (j : ℕ) → j < i → slice_get looks j ≡ Some n
      → slice_get sends j ≡ slice_get sends k
  pub apart : (n : ℕ) → slice_get even n ≡ Some false → (j : ℕ) × ((k : ℕ) × (slice_get looks j ≡ Some n) × (slice_get looks k ≡ Some n)
      × (slice_get sends j ≢ slice_get sends k))

all_true : (count n : ℕ) → slice_get (replicate count true) n ≡ Some false → ⊥
all_true zero n is = cc
all_true (suc c) zero is = absurd (true≢false cc)
all_true (suc c) (suc n) is = all_true c n is

pub even_none : (looks first sends : List ℕ) (even : List Bool) (count : ℕ) → even ≡ replicate count true → length even ≡ length first
    → EvenSoFar looks first sends even 0
even_none looks first sends even count is many = record {
  many = many;
  alike = λ n k at there j less here. absurd (omega (arith, less));
  apart = λ n at. absurd (all_true count n (rw is at at));
}

-- the first place of the look at an index
pub record IsFirstOf (looks first sends : List ℕ) (i look place : ℕ) : Type 0 where
  pub here : slice_get looks i ≡ Some look
  pub known : slice_get first look ≡ Some (suc place)
  pub there : slice_get looks place ≡ Some look
  pub many : place < length sends

pub first_of : (looks first sends : List ℕ) (i look : ℕ) → AreFirst looks first → length sends ≡ length looks → slice_get looks i ≡ Some look
    → (place : ℕ) × IsFirstOf looks first sends i look place
first_of looks first sends i look f long at =
    let (k, is) = f.all i look at in
    let (there, low) = f.first look k is in
    (k, record { here = at; known = is; there = there; many = omega (arith, long, slice_get_within looks k look there) })

same_some : {X : Type 0} (x y : X) (o : Option X) → o ≡ Some x → o ≡ Some y → x ≡ y
same_some x y o is at = cc

sends_same : (looks first sends : List ℕ) (even : List Bool) (i n k : ℕ) → EvenSoFar looks first sends even i → slice_get even n ≡ Some true
    → slice_get first n ≡ Some (suc k) → (look place j : ℕ) → IsFirstOf looks first sends i look place → slice_get sends i ≡ slice_get sends place
    → j ≤ i → slice_get looks j ≡ Some n → slice_get sends j ≡ slice_get sends k
sends_same looks first sends even i n k e on at look place j w same less here = elim (cases_lt j i) [
  | inl before ↦ e.alike n k on at j before here
  | inr past ↦
      let last : j ≡ i = omega (arith, less, past) in
      let one : n ≡ look = same_some n look (slice_get looks i) (ap (slice_get looks) (sym last) ∙ here) w.here in
      let first_one : suc k ≡ suc place = same_some (suc k) (suc place) (slice_get first n) at (ap (slice_get first) one ∙ w.known) in
      let places : k ≡ place = omega (arith, first_one) in
      ap (slice_get sends) last ∙ same ∙ ap (slice_get sends) (sym places)
]

-- ---- by what an index gives

pub first_place : (looks first sends : List ℕ) (i : ℕ) → AreFirst looks first → length sends ≡ length looks → i < length looks
    → (place : ℕ) × (IsFirstOf looks first sends i (get_or looks i 0) place × (get_or first (get_or looks i 0) 0 ≡ suc place))
first_place looks first sends i f long less =
    let look = get_or looks i 0 in
    let (place, w) = first_of looks first sends i look f long (slice_get-get_or looks i 0 less) in
    let own : slice_get first look ≡ Some (get_or first look 0) = slice_get-get_or first look 0 (slice_get_within first look (suc place) w.known) in
    (place, (w, same_some (get_or first look 0) (suc place) (slice_get first look) own w.known))

get_apart : (sends : List ℕ) (i j : ℕ) → i < length sends → j < length sends → get_or sends i 0 ≢ get_or sends j 0 → slice_get sends i ≢ slice_get sends j
get_apart sends i j less few differ same =
    differ (same_some (get_or sends i 0) (get_or sends j 0) (slice_get sends j) (sym same ∙ slice_get-get_or sends i 0 less) (slice_get-get_or sends j 0 few))

get_same : (sends : List ℕ) (i j : ℕ) → i < length sends → j < length sends → get_or sends i 0 ≡ get_or sends j 0 → slice_get sends i ≡ slice_get sends j
get_same sends i j less few same = slice_get-get_or sends i 0 less ∙ ap Some same ∙ sym (slice_get-get_or sends j 0 few)

-- nothing is changed where it sends what the first of its look does
pub even_same : (looks first sends : List ℕ) (even : List Bool) (i look place step : ℕ) → EvenSoFar looks first sends even i
    → IsFirstOf looks first sends i look place → slice_get sends i ≡ slice_get sends place → step ≡ i + 1 → EvenSoFar looks first sends even step
even_same looks first sends even i look place step e w same on = record {
  many = e.many;
  alike = λ n k at there j less here.
      sends_same looks first sends even i n k e at there look place j w same (omega (arith, less, on)) here;
  apart = e.apart;
}

pub even_apart : (looks first sends : List ℕ) (even new : List Bool) (i look place step : ℕ) → EvenSoFar looks first sends even i
    → IsFirstOf looks first sends i look place → slice_get sends i ≢ slice_get sends place → new ≡ set even look false → step ≡ i + 1
    → EvenSoFar looks first sends new step
even_apart looks first sends even new i look place step e w differ is on = record {
  many = ap length is ∙ length-set even look false ∙ e.many;
  alike = λ n k at there j less here. elim (cases_eq n look) [
    | inl same ↦
        let own : slice_get new n ≡ Some false =
        ap (slice_get new) same ∙ ap (λ es. slice_get es look) is ∙ set_same even look false within in
        absurd (true≢false (same_some true false (slice_get new n) at own))
    | inr other ↦
        let old : slice_get even n ≡ Some true = sym (set_other even look n false other) ∙ ap (λ es. slice_get es n) (sym is) ∙ at in
        elim (cases_lt j i) [
          | inl before ↦ e.alike n k old there j before here
          | inr past ↦
              let last : j ≡ i = omega (arith, less, past, on) in
              absurd (other (same_some n look (slice_get looks i) (ap (slice_get looks) (sym last) ∙ here) w.here))
        ]
  ];
  apart = λ n at. elim (cases_eq n look) [
    | inl same ↦ (i, (place, w.here ∙ ap Some (sym same), w.there ∙ ap Some (sym same), differ))
    | inr other ↦ e.apart n (sym (set_other even look n false other) ∙ ap (λ es. slice_get es n) (sym is) ∙ at)
  ];
}
  where
    within : look < length even
    within = omega (arith, e.many, slice_get_within first look (suc place) w.known)

pub even_step : (looks first sends : List ℕ) (even new : List Bool) (i place j : ℕ) → EvenSoFar looks first sends even i
    → IsFirstOf looks first sends i (get_or looks i 0) place → i < length sends → j ≡ place
    → new ≡ (if get_or sends i 0 == get_or sends j 0 then even else set even (get_or looks i 0) false) → EvenSoFar looks first sends new (i + 1)
even_step looks first sends even new i place j e w less there is =
    let held : new ≡ (if get_or sends i 0 == get_or sends place 0 then even else set even (get_or looks i 0) false) =
    is ∙ ap (λ q. if get_or sends i 0 == get_or sends q 0 then even else set even (get_or looks i 0) false) there in
    elim (eqb_tells (get_or sends i 0) (get_or sends place 0)) [
      | inl one ↦
          let same : new ≡ even = rw (one.0) at held in
          subst (λ es. EvenSoFar looks first sends es (i + 1)) (sym same)
          (even_same looks first sends even i (get_or looks i 0) place (i + 1) e w (get_same sends i place less w.many one.1) refl)
      | inr two ↦
          let changed : new ≡ set even (get_or looks i 0) false = rw (two.0) at held in
          even_apart looks first sends even new i (get_or looks i 0) place (i + 1) e w (get_apart sends i place less w.many two.1) changed refl
    ]

pub there_is : {X : Type 0} (xs : List X) (i : ℕ) → i < length xs → (x : X) × (slice_get xs i ≡ Some x)
there_is [] i less = absurd (omega (arith, less))
there_is (x ∷ xs) zero less = (x, refl)
there_is (x ∷ xs) (suc i) less = there_is xs i (omega (arith, less))

pub even_all : (looks first sends : List ℕ) (even : List Bool) (i : ℕ) → AreFirst looks first → EvenSoFar looks first sends even i → length looks ≤ i
    → AreEven looks sends even
even_all looks first sends even i f e done = record {
  alike = λ n at j k here there.
      let (p, is) = f.all j n here in
      e.alike n p at is j (omega (arith, done, slice_get_within looks j n here)) here
      ∙ sym (e.alike n p at is k (omega (arith, done, slice_get_within looks k n there)) there);
  apart = e.apart;
  all = λ j n here.
      let (p, is) = f.all j n here in
      there_is even n (omega (arith, e.many, slice_get_within first n (suc p) is));
}

-- ---- of a page

pub sends_long : (fresh : List (List ℕ)) (t : Tree) (known kept : List Tree) (r : Ranked) (numbers : List ℕ) → IsRanked t known r
    → StandFor kept numbers (subtrees (sends fresh t)) → length numbers ≡ length r.looks.items
sends_long fresh t known kept r numbers ranked stand =
    stand_length kept numbers (subtrees (sends fresh t)) stand ∙ subtrees-length (sends fresh t) ∙ sym (seen_from-length (sent fresh) 0 t)
    ∙ seen_from-length shown 0 t ∙ sym (subtrees-length (look t)) ∙ sym (stand_length known r.looks.items (subtrees (look t)) ranked.looks)

pub sends_page : (fresh : List (List ℕ)) (below old mid last new : Shapes) (t : Tree) (seen : List Tree) (r : Ranked) (n : ℕ) (numbers : SentNumbers)
    → IsRanked t seen r → NumbersNode (sent fresh) below old mid [] numbers.all.items n t
    → NumbersLeaves below mid last numbers.own.items fresh t (nodes t) → NumbersLeaf below last new numbers.nothing (leaf_at fresh t (nodes t))
    → AreEven r.looks.items numbers.all.items numbers.even.items
    → (known : List Tree) → KnowsAll below old known → SendsPage below new known fresh t r.looks.items numbers
sends_page fresh below old mid last new t seen r n numbers ranked node leaves none even known kept =
    let (w, own) = node known kept in
    let b = leaves (known ++ w.more) w.knows in
    let c = none ((known ++ w.more) ++ b.more) b.knows in
    let all = ((known ++ w.more) ++ b.more) ++ c.more in
    let whole : ((known ++ w.more) ++ b.more) ++ c.more ≡ known ++ (w.more ++ (b.more ++ c.more)) =
    append_assoc (known ++ w.more) b.more c.more ∙ append_assoc known w.more (b.more ++ c.more) in
    let first : StandFor (known ++ w.more) numbers.all.items (subtrees (sends fresh t)) = rw w.pushed w.stand in
    let sent_are : AreSent fresh t all r.looks.items numbers = record {
      all = stand_more ((known ++ w.more) ++ b.more) c.more numbers.all.items (subtrees (sends fresh t))
          (stand_more (known ++ w.more) b.more numbers.all.items (subtrees (sends fresh t)) first);
      own = stand_more ((known ++ w.more) ++ b.more) c.more numbers.own.items (map (leaf_at fresh t) (range_with_len 0 (nodes t))) b.stand;
      nothing = c.at ∙ ap Some (past_leaf fresh t (nodes t) (omega arith));
      even = even;
    } in
    record {
      more = w.more ++ (b.more ++ c.more);
      knows = subst (λ ks. KnowsAll below new ks) whole c.knows;
      holds = subst (λ ks. AreSent fresh t ks r.looks.items numbers) whole sent_are;
    }

pub sent_more : (fresh : List (List ℕ)) (t : Tree) (known more : List Tree) (looks : List ℕ) (s : SentNumbers) → AreSent fresh t known looks s
    → AreSent fresh t (known ++ more) looks s
sent_more fresh t known more looks s a = record {
  all = stand_more known more s.all.items (subtrees (sends fresh t)) a.all;
  own = stand_more known more s.own.items (map (leaf_at fresh t) (range_with_len 0 (nodes t))) a.own;
  nothing = get_first known more s.nothing (own_leaf []) a.nothing;
  even = a.even;
}
