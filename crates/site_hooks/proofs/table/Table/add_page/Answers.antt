use Rattle.std.proofs.Common.{cond, Some, option_map, string_bytes, ◌∙◌, ap}
use Rattle.std.specs.Str.{bytes_eq}
use Rattle.std.proofs.lemmas.Map.Text.{btree_map_updates_text}
use Rattle.site_hooks.specs.Table.{table_page}
use Rattle.site_hooks.proofs.KeptLaws.{put_kept, page_put}
use Rattle.site_hooks.proofs.table.Table.add_page.Goals as goal

pub invariant_of-self : goal.invariant_of-self
invariant_of-self c = record {
  same = c.args.self.now.same;
  kept = put_kept c.insert.result c.args.self.now.pages c.insert.new.self c.into_string.result c.in_ok-site_page.site_page c.args.self.now.list c.insert.ensures.updates c.insert.ensures.err c.in_ok-site_page.ensures.kept c.args.self.now.kept;
}

pub returns-clause-ok : goal.returns-clause-ok
returns-clause-ok c = λ other.
    ap (option_map (λ site_page. site_page.page)) (btree_map_updates_text (string_bytes c.into_string.result) c.args.self.now.pages c.insert.new.self _ c.in_ok-insert.ensures.updates other)
    ∙ page_put (bytes_eq (string_bytes c.into_string.result) other) c.in_ok-site_page.site_page c.args.page _ c.in_ok-site_page.ensures.page
    ∙ ap (λ text. cond (bytes_eq text other) (Some c.args.page) (table_page c.args.self.now other)) c.into_string.ensures
