-- What is kept of a page, and of another one beside it.
use Rattle.std.proofs.Common.{◌≡◌, ℕ, ◌+◌, ◌<◌, List, [], ◌++◌, length, Some, slice_get, ap, arith, append-nil, length-append}
use Rattle.std.proofs.lemmas.Option.{slice_get_within}
use Rattle.page_tree.specs.Tree.{Tree}
use Rattle.page_tree.specs.Limits.{nodes}
use Rattle.page_tree.specs.Look.{node_at}
use Rattle.page_tree.specs.Number.{place_numbered}
use Rattle.page_tree.proofs.NodesUnder.{root_numbered}
use Rattle.page_looks.specs.Outline.{look, shown}
use Rattle.page_looks.specs.inside.Numbers.{StandFor}
use Rattle.page_looks.specs.inside.Ranks.{seen_from, subtrees, AreFirst, AreLast, IsRanked}
use Rattle.page_looks.specs.inside.Shapes.{Knows}
use Rattle.page_looks.specs.inside.Numbering.{KnowsAll, NumbersNode}
use Rattle.page_looks.specs.inside.Sends.{AreSent}
use Rattle.page_looks.specs.inside.Kept.{AreLooksOf, AreSendsOf, RanksPage, SendsPage, AreBeside}
use Rattle.page_looks.specs.declared.shapes.Shapes.{Shapes}
use Rattle.page_looks.specs.declared.ranks.Ranked.{Ranked}
use Rattle.page_looks.specs.declared.sent_numbers.SentNumbers.{SentNumbers}
use Rattle.page_looks.proofs.KeptOnce.{stand_more}
use Rattle.page_looks.proofs.KeyLaws.{knows_none}
use Rattle.page_looks.proofs.RankLaws.{seen_from-length}
use Rattle.page_looks.proofs.FindLaws.{stand_at, rank_from, place_known}
use Rattle.page_looks.proofs.SentLaws.{sent_more}

pub root_there : (t : Tree) → node_at (place_numbered 0 t) t ≡ Some t
root_there t = ap (λ p. node_at p t) (root_numbered t)

-- each seen node's number is one of the page's
pub seen_within : (t : Tree) (seen : List ℕ) (j n : ℕ) → seen ≡ [] ++ seen_from 0 t → slice_get seen j ≡ Some n → n < nodes t
seen_within t seen j n is at =
    let here : slice_get (seen_from 0 t) j ≡ Some n = rw is at at in
    let (s, seen_there, rank) = rank_from t n j here (omega (arith, slice_get_within (seen_from 0 t) j n here, seen_from-length shown 0 t)) in
    place_known t n s seen_there

-- and each look's number one of those that are known
pub looks_within : (below old new : Shapes) (t : Tree) (looks : List ℕ) (n j k : ℕ) → ((known : List Tree) × KnowsAll below old known)
    → NumbersNode shown below old new [] looks n t → slice_get looks j ≡ Some k → k < length below.keys + length new.keys
looks_within below old new t looks n j k (known, kept) node at =
    let (w, own) = node known kept in
    let stand : StandFor (known ++ w.more) looks (subtrees (look t)) = rw w.pushed w.stand in
    let (x, shape, is) = stand_at (known ++ w.more) looks (subtrees (look t)) j k stand at in
    omega (arith, slice_get_within (known ++ w.more) k x is, w.knows.many, length-append below.keys new.keys)

pub page_ranked : (below old new : Shapes) (t : Tree) (r : Ranked) (n : ℕ) → NumbersNode shown below old new [] r.looks.items n t → r.nodes.items ≡ [] ++ seen_from 0 t
    → AreLast r.nodes.items r.ranks.items → AreFirst r.looks.items r.first.items → AreLast r.looks.items r.last.items
    → (known : List Tree) → KnowsAll below old known → RanksPage below new known t r
page_ranked below old new t r n node seen ranks first last known kept =
    let (w, own) = node known kept in
    record {
      more = w.more;
      knows = w.knows;
      ranked = record { nodes = seen; looks = rw w.pushed w.stand; ranks = ranks; first = first; last = last };
    }

pub rank_more : (t : Tree) (known more : List Tree) (r : Ranked) → IsRanked t known r → IsRanked t (known ++ more) r
rank_more t known more r ranked = record {
  nodes = ranked.nodes;
  looks = stand_more known more r.looks.items (subtrees (look t)) ranked.looks;
  ranks = ranked.ranks;
  first = ranked.first;
  last = ranked.last;
}

-- ---- the first page

kept : (below new : Shapes) (t : Tree) (r : Ranked) (known : List Tree) → below.texts ≡ [] → below.keys ≡ [] → KnowsAll below new known → IsRanked t known r
    → AreLooksOf t new r
kept below new t r known texts keys knows ranked = (known, rw (texts, keys) at knows, ranked)

pub looks_kept : (below old new : Shapes) (t : Tree) (r : Ranked) → below.texts ≡ [] → below.keys ≡ [] → old.texts ≡ [] → old.keys ≡ []
    → ((known : List Tree) → KnowsAll below old known → RanksPage below new known t r) → AreLooksOf t new r
looks_kept below old new t r texts keys own_texts own_keys made =
    let none : KnowsAll below old [] = rw (texts, keys, own_texts, own_keys) knows_none in
    let w = made [] none in
    kept below new t r w.more texts keys w.knows w.ranked

-- ---- what is sent

pub sends_kept : (fresh : List (List ℕ)) (below old new : Shapes) (t : Tree) (r : Ranked) (numbers : SentNumbers) → below.texts ≡ [] → below.keys ≡ []
    → old.texts ≡ [] → old.keys ≡ [] → ((known : List Tree) → KnowsAll below old known → SendsPage below new known fresh t r.looks.items numbers)
    → AreSendsOf fresh t new r numbers
sends_kept fresh below old new t r numbers texts keys own_texts own_keys made =
    let none : KnowsAll below old [] = rw (texts, keys, own_texts, own_keys) knows_none in
    let w = made [] none in
    sent_first below new w.more texts keys w.knows w.holds
  where
    sent_first : (below new : Shapes) (known : List Tree) → below.texts ≡ [] → below.keys ≡ [] → KnowsAll below new known
        → AreSent fresh t known r.looks.items numbers → AreSendsOf fresh t new r numbers
    sent_first below new known texts keys knows holds = (known, rw (texts, keys) at knows, holds)

-- ---- two pages

pub known_first : (shapes own : Shapes) (known : List Tree) → own.texts ≡ [] → own.keys ≡ [] → Knows shapes.texts shapes.keys known → KnowsAll shapes own known
known_first shapes own known texts keys knows = rw (texts, keys) (rw (append-nil shapes.texts, append-nil shapes.keys) knows)

pub both_beside : (fresh : List (List ℕ)) (old new : Tree) (shapes own after more : Shapes) (o w : Ranked) (was is : SentNumbers) (further last : Shapes)
    → AreLooksOf new shapes w → AreSendsOf fresh new further w is → own.texts ≡ [] → own.keys ≡ [] → more.texts ≡ [] → more.keys ≡ []
    → ((known : List Tree) → KnowsAll shapes own known → RanksPage shapes after known old o)
    → ((known : List Tree) → KnowsAll further more known → SendsPage further last known fresh old o.looks.items was) → AreBeside fresh old new o w was is
both_beside fresh old new shapes own after more o w was is further last (known, knows, ranked) (kept, holds, stand) texts keys more_texts more_keys looks_are sends_are =
    let a = looks_are known (known_first shapes own known texts keys knows) in
    let b = sends_are kept (known_first further more kept more_texts more_keys holds) in (
      (known ++ a.more, a.knows.once, a.ranked, rank_more new known a.more w ranked),
      (kept ++ b.more, b.knows.once, b.holds, sent_more fresh new kept b.more w.looks.items is stand),
    )
