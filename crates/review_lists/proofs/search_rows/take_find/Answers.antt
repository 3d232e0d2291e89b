use Rattle.review_lists.proofs.search_rows.take_find.Goals as goal

pub returns-then-not-takes_next : goal.returns-then-not-takes_next
returns-then-not-takes_next c = λ from finds was. c.pass.ensures from finds _ was
