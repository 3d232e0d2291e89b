use Rattle.std.proofs.Common.{[]}
use Rattle.review_lists.proofs.search_view.found_page.Goals as goal

pub returns : goal.returns
returns g c = c.in_ok-find_all.ensures c.args.from [] c.new-page.ensures
