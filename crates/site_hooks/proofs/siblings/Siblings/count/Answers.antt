use Rattle.std.proofs.Common.{ap, ◌∙◌, unwrap_or}
use Rattle.std.proofs.lemmas.Map.Text.{btree_map_updates_str}
use Rattle.site_hooks.proofs.SiblingLaws.{count_put}
use Rattle.site_hooks.proofs.siblings.Siblings.count.Goals as goal

pub returns-clause-named : goal.returns-clause-named
returns-clause-named c = λ other.
    ap (λ o. unwrap_or o 0) (btree_map_updates_str c.args.name.now c.args.self.now.named c.insert.new.self _ c.in_ok-insert.ensures.updates other)
    ∙ count_put c.args.self.now c.args.name.now other c.named-count.result c.named-count.ensures
