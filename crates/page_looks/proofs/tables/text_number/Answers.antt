use Rattle.std.proofs.Common.{arith}
use Rattle.std.specs.Cow.{cow_str_bytes}
use Rattle.page_looks.proofs.KeptOnce.{put_behind}
use Rattle.page_looks.proofs.tables.text_number.Goals as goal

pub returns-in_ok-further-in-None : goal.returns-in_ok-further-in-None
returns-in_ok-further-in-None c =
    put_behind c.args.below.now c.args.own.now c.put.new.self (cow_str_bytes c.args.text) c.in_ok-further-in-None.further c.len-first.result c.in_ok-place-in-None.place
    (rw c.as_str-3.ensures.value at c.in-None.ensures) c.in_ok-place-in-None.ensures c.len-first.ensures.count (omega (arith, c.in_ok-at-in-None.ensures, c.in_ok-further-in-None.ensures))
