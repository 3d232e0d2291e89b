use Rattle.review_lists.specs.SearchView.{finds_of}
use Rattle.review_lists.proofs.AddedFinds.{then_finds, no_finds, finds_here, finds_end}
use Rattle.review_lists.proofs.search_rows.find_all.Goals as goal

pub loop-client-preserved : goal.loop-client-preserved
loop-client-preserved g c = λ page rest.
    let finds = finds_of c.args.sought.now.text.now c.args.logs.now c.args.desk.now in
    let here = finds_here finds c.args.clients.now c.loop-client.client-index c.client-item.result c.loop-client-test.true c.client-item.is in
    c.loop-client.invariant page (then_finds c.loop-client.page c.find_of.new.page page _ _ _ c.in_ok-find_of.ensures rest here)

pub returns : goal.returns
returns g c =
    let finds = finds_of c.args.sought.now.text.now c.args.logs.now c.args.desk.now in
    let none = finds_end finds c.args.clients.now c.loop-client.client-index c.loop-client-test.false in
    c.loop-client.invariant c.loop-client.page (no_finds c.loop-client.page _ none)
