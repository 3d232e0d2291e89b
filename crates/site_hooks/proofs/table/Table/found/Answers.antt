use Rattle.std.proofs.Common.{sym, arith}
use Rattle.site_hooks.proofs.KeptLaws.{kept_whole}
use Rattle.site_hooks.proofs.table.Table.found.Goals as goal

pub returns-then-same : goal.returns-then-same
returns-then-same c =
    let site_page = c.in_ok-site_page.site_page.now in
    kept_whole c.args.self.now.list site_page c.args.page.now c.in_ok-found.found.now (c.args.self.now.kept c.args.address.now site_page (sym c.in_ok-site_page.ensures.value))
    (omega (arith, c.if-site_page-len.true, c.len.ensures)) (c.same.ensures.0 c.if-same.true) (sym c.in_ok-found.ensures.value)
