use Rattle.std.proofs.Common.{◌==◌, Some, None, ◌∷◌, sym, ◌∙◌, ap, arith}
use Rattle.std.specs.List.{slice_split, after_first}
use Rattle.std.proofs.lemmas.Str.Pattern.{split_once_first}
use Rattle.page_looks.proofs.AddressLaws.{split_none, split_some}
use Rattle.page_looks.proofs.addresses.first_pair.Goals as goal

pub returns-in-None-clause-pairs : goal.returns-in-None-clause-pairs
returns-in-None-clause-pairs c =
    split_none (λ b. b == 38) c.args.query.now (split_once_first 38 c.args.query.now None c.in-None.ensures.cases (omega arith))

pub returns-in-Some-clause-pairs : goal.returns-in-Some-clause-pairs
returns-in-Some-clause-pairs c =
    let (less, front, back) = split_once_first 38 c.args.query.now (Some (c.in-Some.pair, c.in-Some.rest)) c.in-Some.ensures.cases (omega arith) in
    split_some (λ b. b == 38) c.args.query.now less
    ∙ ap (λ l. l ∷ slice_split (λ b. b == 38) (after_first (λ b. b == 38) c.args.query.now)) (sym front)
    ∙ ap (λ l. c.in-Some.pair.now ∷ slice_split (λ b. b == 38) l) (sym back)
