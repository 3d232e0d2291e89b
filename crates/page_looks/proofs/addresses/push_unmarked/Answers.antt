use Rattle.std.proofs.Common.{None, ◌++◌, string_bytes, sym, ◌∙◌, ap, arith}
use Rattle.std.proofs.lemmas.Str.Pattern.{split_once_first}
use Rattle.page_looks.proofs.AddressLaws.{stays_whole}
use Rattle.page_looks.proofs.addresses.push_unmarked.Goals as goal

pub returns-in_ok-push_str-in-None : goal.returns-in_ok-push_str-in-None
returns-in_ok-push_str-in-None c =
    c.in_ok-push_str-in-None.ensures.bytes
    ∙ ap (λ l. string_bytes c.args.kept.now ++ l) (sym (stays_whole c.args.fresh.now c.args.address.now (split_once_first 63 c.args.address.now None c.in-None.ensures.cases (omega arith))))
