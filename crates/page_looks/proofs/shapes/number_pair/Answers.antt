use Rattle.std.proofs.Common.{List, [], ◌∷◌, refl}
use Rattle.std.specs.Prelude.{ℕ}
use Rattle.std.specs.Cow.{cow_str_bytes}
use Rattle.page_looks.specs.declared.shapes.Shapes.{Shapes}
use Rattle.page_looks.proofs.NumberingLaws.{texts_one, texts_join}
use Rattle.page_looks.proofs.shapes.number_pair.Goals as goal

pub returns-in_ok-value_number-in-Some : goal.returns-in_ok-value_number-in-Some
returns-in_ok-value_number-in-Some c =
    let name : List ℕ = cow_str_bytes c.in-Some.name in
    let value : List ℕ = cow_str_bytes c.in-Some.value in
    let n = c.in_ok-name_number-in-Some.name_number in
    let v = c.in_ok-value_number-in-Some.value_number in
    let below = c.args.below.now in
    let mid : Shapes = record { texts = c.text_number.new.own; keys = c.args.own.now.keys } in
    let new : Shapes = record { texts = c.text_number-in-Some.new.own; keys = c.args.own.now.keys } in
    let first = texts_one below c.args.own.now mid [] (n ∷ []) name n c.in_ok-name_number-in-Some.ensures refl refl in
    let second = texts_one below mid new (n ∷ []) (n ∷ v ∷ []) value v c.in_ok-value_number-in-Some.ensures refl refl in
    rw c.in-Some.is (texts_join below c.args.own.now mid new [] (n ∷ []) (n ∷ v ∷ []) (name ∷ []) (value ∷ []) first second)
