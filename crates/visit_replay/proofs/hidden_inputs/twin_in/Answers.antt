use Rattle.std.proofs.Common.{◌<◌, ◌==◌, length, sym, arith, eq-eqb}
use Rattle.std.proofs.lemmas.Bool.Decides.{nat_tests}
use Rattle.std.proofs.lemmas.Option.{slice_get-get_or}
use Rattle.visit_replay.proofs.HiddenTwins.{twin_missing, twin_there}
use Rattle.visit_replay.proofs.hidden_inputs.twin_in.Goals as goal

pub returns-in-Some : goal.returns-in-Some
returns-in-Some c =
    let olds = c.args.olds.now in
    let news = c.args.news.now in
    let same = c.if-olds-news.false in
    sym (twin_there (λ n. c.args.number == n) olds news c.in-Some.k _ (eq-eqb (length olds) (length news) same) (sym c.in-Some.ensures.place)
    (slice_get-get_or news c.in-Some.k 0 (omega (arith, same, c.in-Some.ensures.within))))

pub returns-in-None : goal.returns-in-None
returns-in-None c =
    let some : 0 < length c.args.news.now = grind (arith, nat_tests) in
    sym (twin_missing (λ n. c.args.number == n) c.args.olds.now c.args.news.now some (sym c.in-None.ensures.place))
