-- A value stands for at most one site.
use Rattle.std.proofs.Common.{ℕ, List}
use Rattle.serde_json.specs.Data.{Data}
use Rattle.site_line.specs.Site.{Site as PlainSite, IsSiteOf, IsJsonOf}
use Rattle.site_line.specs.Reading.{AnswersAs}
use Rattle.site_line.specs.declared.site.Site.{Site}

pub one_site : (line : List ℕ) (d e : Data) (site : Site) (plain other : PlainSite) → IsJsonOf line d → IsJsonOf line e → IsSiteOf d plain → IsSiteOf e other → AnswersAs site plain → AnswersAs site other
one_site line d e site plain other json also is are answers = record {
  patched = λ address. cc (answers.patched address);
  pages = λ address. cc (answers.pages address);
  watched = cc;
  same = cc;
  quota = cc;
  workers = cc;
  decisions = cc;
}
