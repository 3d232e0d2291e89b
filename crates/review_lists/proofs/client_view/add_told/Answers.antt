use Rattle.std.proofs.Common.{refl}
use Rattle.review_lists.specs.ClientView.{client_told}
use Rattle.review_lists.proofs.client_view.add_told.Goals as goal

pub returns : goal.returns
returns c =
    let tree = c.in_ok-tree.tree in
    let html = client_told c.args.summary.now c.args.docket.now c.args.visits.now tree c.args.from in
    (html, c.in_ok-add_tree.ensures, (tree, c.in_ok-tree.ensures, refl))
