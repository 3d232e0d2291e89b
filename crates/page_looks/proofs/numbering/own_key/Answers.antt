use Rattle.page_tree.specs.Number.{place_numbered}
use Rattle.page_looks.specs.inside.Told.{told_by}
use Rattle.page_looks.proofs.NumberingLaws.{words_begin, element_begins}
use Rattle.page_looks.proofs.numbering.own_key.Goals as goal

pub returns-in_ok-text_key-in-None : goal.returns-in_ok-text_key-in-None
returns-in_ok-text_key-in-None c = λ m is.
    words_begin (told_by c.args.telling.now) c.args.below.now c.args.own.now c.words_key.new.own c.args.page.now m (place_numbered c.args.number c.args.page.now)
    c.in_ok-text_key-in-None.text_key.items is c.in-None.ensures c.in_ok-text_key-in-None.ensures

pub returns-in_ok-key-in-Some : goal.returns-in_ok-key-in-Some
returns-in_ok-key-in-Some c = λ m is.
    element_begins (told_by c.args.telling.now) c.args.below.now c.args.own.now c.element_key.new.own c.args.page.now m (place_numbered c.args.number c.args.page.now)
    c.in_ok-key-in-Some.key.items c.in-Some.name.now is c.in-Some.ensures c.in_ok-key-in-Some.ensures
