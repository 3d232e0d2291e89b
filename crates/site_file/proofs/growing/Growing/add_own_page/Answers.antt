use Rattle.std.proofs.Common.{refl}
use Rattle.std.proofs.lemmas.Result.{on_ok_weaker}
use Rattle.site_file.proofs.GrownLaws.{own_page_added}
use Rattle.site_file.proofs.growing.Growing.add_own_page.Goals as goal

pub returns : goal.returns
returns c = on_ok_weaker c.add.result (λ added site adds stands. own_page_added c.args.self.now site adds stands _ c.args.client.now c.args.visit c.args.page (rw c.text.ensures at added) refl refl refl refl refl refl) c.add.ensures.ok
