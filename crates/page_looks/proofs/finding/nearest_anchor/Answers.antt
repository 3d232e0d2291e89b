use Rattle.page_tree.specs.Number.{place_numbered}
use Rattle.page_looks.proofs.FindLaws.{unseen_none, way_begins, way_found, way_ends, parent_seen, way_goes_on}
use Rattle.page_looks.proofs.finding.nearest_anchor.Goals as goal

pub returns-in_default : goal.returns-in_default
returns-in_default c =
    let (known, apart, ranked, also) = c.requires.known in
    unseen_none c.args.page.now c.args.new_page.now (place_numbered c.args.number c.args.page.now)
    (λ s. c.in_default.ensures c.args.page.now known s ranked)

pub loop-there-init : goal.loop-there-init
loop-there-init c =
    let (known, apart, ranked, also) = c.requires.known in
    way_begins c.args.page.now c.args.new_page.now c.args.number c.in-Some.start (c.in-Some.ensures c.args.page.now known ranked)

pub returns-in-Some-anchor : goal.returns-in-Some-anchor
returns-in-Some-anchor c =
    let (known, apart, ranked, also) = c.requires.known in
    way_found c.args.page.now c.args.new_page.now known c.args.old.now c.args.new.now c.args.number c.loop-there.at c.loop-there.rank
    c.in-Some.start c.in-Some-anchor.there apart ranked also c.loop-there.invariant c.in-Some-anchor.ensures

pub returns-in_default-parent_of : goal.returns-in_default-parent_of
returns-in_default-parent_of c =
    let (known, apart, ranked, also) = c.requires.known in
    way_ends c.args.page.now c.args.new_page.now known c.args.old.now c.args.new.now c.args.number c.loop-there.at c.loop-there.rank c.in-Some.start
    apart ranked also c.loop-there.invariant c.in-None.ensures c.in_default-parent_of.ensures

pub returns-in_default-rank_of : goal.returns-in_default-rank_of
returns-in_default-rank_of c = λ q s.
    let (known, apart, ranked, also) = c.requires.known in
    absurd (parent_seen c.args.page.now c.args.new_page.now c.args.number c.loop-there.at c.in-Some-parent_of.parent c.loop-there.rank c.in-Some.start
    c.loop-there.invariant c.in-Some-parent_of.ensures (λ r. c.in_default-rank_of.ensures c.args.page.now known r ranked))

pub loop-there-preserved : goal.loop-there-preserved
loop-there-preserved c =
    let (known, apart, ranked, also) = c.requires.known in
    way_goes_on c.args.page.now c.args.new_page.now known c.args.old.now c.args.new.now c.args.number c.loop-there.at c.in-Some-parent_of.parent
    c.loop-there.rank c.in-Some-rank_of.above c.in-Some.start apart ranked also c.loop-there.invariant c.in-None.ensures c.in-Some-parent_of.ensures
    (c.in-Some-rank_of.ensures c.args.page.now known ranked)
