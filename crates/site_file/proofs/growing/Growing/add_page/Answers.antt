use Rattle.std.proofs.Common.{refl}
use Rattle.std.proofs.lemmas.Result.{on_ok_weaker}
use Rattle.site_file.proofs.GrownLaws.{page_added}
use Rattle.site_file.proofs.growing.Growing.add_page.Goals as goal

pub returns : goal.returns
returns c = on_ok_weaker c.add_page.result (λ added site adds stands. page_added c.args.self.now site adds stands _ c.args.address c.args.page added c.add_page.ensures.watched refl refl refl refl refl refl) c.add_page.ensures.ok
