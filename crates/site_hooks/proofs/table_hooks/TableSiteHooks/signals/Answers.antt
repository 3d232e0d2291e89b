use Rattle.std.proofs.Common.{sym, ◌∙◌, ap, arith}
use Rattle.std.specs.List.{list_any}
use Rattle.site_hooks.specs.Table.{is_changed, watched_in}
use Rattle.site_hooks.proofs.ChangeLaws.{none_watched, unchanged}
use Rattle.site_hooks.proofs.table_hooks.TableSiteHooks.signals.Goals as goal
use Rattle.site_hooks.proofs.table_hooks.TableSiteHooks.signals.Goals.{then-len-eq0-via-then-len-eq0, then-len-eq0-via-else-len-eq0+then-same}

pub returns-then-len-eq0 : goal.returns-then-len-eq0
returns-then-len-eq0 c =
    let new = c.args.new.now in
    let test = is_changed c.args.old.now new in
    elim c.then-len-eq0.branch [
      | then-len-eq0-via-then-len-eq0 w ↦ none_watched test c.args.self.now.list (omega (arith, c.len.ensures, w.if-len-eq0.true)) ∙ sym (c.args.self.now.same test)
      | then-len-eq0-via-else-len-eq0+then-same w ↦ sym (ap (λ page. list_any (is_changed page new) (watched_in c.args.self.now)) (w.same.ensures.0 w.if-same.true) ∙ unchanged new (watched_in c.args.self.now))
    ]
