use Rattle.std.proofs.Common.{refl}
use Rattle.std.specs.Cow.{cow_str_bytes}
use Rattle.page_looks.proofs.NumberingLaws.{texts_one}
use Rattle.page_looks.proofs.shapes.push_text.Goals as goal

pub returns : goal.returns
returns c =
    texts_one c.args.below.now c.args.own.now _ c.args.key.now.items c.push.new.self.items (cow_str_bytes c.args.text) c.in_ok-number.number
    c.in_ok-number.ensures refl c.in_ok-push.ensures.items
