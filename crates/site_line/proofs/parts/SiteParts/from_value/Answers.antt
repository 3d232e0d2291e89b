use Rattle.std.proofs.Common.{is_some, ap, refl}
use Rattle.serde_json.specs.View.{view}
use Rattle.site_hooks.specs.Table.{table_page, watched_in}
use Rattle.site_line.specs.Site.{pages_in}
use Rattle.site_line.proofs.PagesAdded.{pages_there}
use Rattle.site_line.proofs.parts.SiteParts.from_value.Goals as goal

pub returns-clause-ok : goal.returns-clause-ok
returns-clause-ok c =
    let pages = pages_there (pages_in (view c.args.value.now)) (table_page c.read_pages.new.table) c.in_ok-read_pages.ensures.pages in (
      record {
        patched = c.in_ok-patched.patched.items;
        pages = pages.0;
        watched = watched_in c.in_ok-table.table;
        same = c.in_ok-finding.finding;
        quota = c.in_ok-quota.quota;
        workers = c.in_ok-workers.workers;
        decisions = c.in_ok-decisions.decisions.items;
      },
      record {
        object = ap is_some c.in_ok-read_members.ensures;
        patched = c.in_ok-patched.ensures;
        pages = pages.1;
        watched = c.in_ok-table.ensures.watched;
        same = c.in_ok-finding.ensures.ok;
        quota = c.in_ok-quota.ensures.ok;
        workers = c.in_ok-workers.ensures.ok;
        decisions = c.in_ok-decisions.ensures;
      },
      record {
        patched = refl;
        pages = pages.2;
        watched = c.in_ok-read_pages.ensures.watched;
        same = refl;
        quota = refl;
        workers = refl;
        decisions = refl;
      },
    )
