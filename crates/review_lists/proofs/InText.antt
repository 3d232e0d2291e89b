-- Whether a text has a part, as it is told by recursion.
use Rattle.std.proofs.Common.{◌≡◌, ◌↔◌, ℕ, List, [], ◌∷◌, ◌++◌, length, take, drop, Bool, true, false, ◌||◌, IsTrue, refl, sym, ap, ◌∙◌}
use Rattle.std.proofs.lemmas.Bool.{false≢true}
use Rattle.std.proofs.lemmas.Bool.Decides.{same_from_decides}
use Rattle.std.proofs.lemmas.List.{take_at, take-append-drop}
use Rattle.std.proofs.lemmas.Slice.Eq.{bytes_eq-Decides}
use Rattle.review_lists.specs.SearchView.{starts_so, has_in_it}

abbrev pub StandsIn : List ℕ → List ℕ → Type 0
StandsIn part text = (front rest : List ℕ) × (text ≡ front ++ (part ++ rest))

starts : (part text rest : List ℕ) → text ≡ part ++ rest → starts_so part text ≡ true
starts part text rest is = (bytes_eq-Decides (take (length part) text) part).1
    (ap (take (length part)) is ∙ take_at part rest (length part) refl)

rest_behind : (part text : List ℕ) → starts_so part text ≡ true → text ≡ part ++ drop (length part) text
rest_behind part text is =
    sym (take-append-drop (length part) text)
    ∙ ap (λ front. front ++ drop (length part) text) ((bytes_eq-Decides (take (length part) text) part).0 is)

either : (a b : Bool) → b ≡ true → (a || b) ≡ true
either true b is = refl
either false b is = is

first_holds : (a b : Bool) → a ≡ true → (a || b) ≡ true
first_holds true b is = refl
first_holds false b is = absurd (false≢true is)

stands_there : (part text front rest : List ℕ) → text ≡ front ++ (part ++ rest) → has_in_it part text ≡ true
stands_there part [] [] rest is = starts part [] rest is
stands_there part [] (y ∷ front) rest is = cc
stands_there part (x ∷ text) [] rest is = first_holds _ _ (starts part (x ∷ text) rest is)
stands_there part (x ∷ text) (y ∷ front) rest is = either _ _ (stands_there part text front rest cc)

told_there : (part text : List ℕ) → has_in_it part text ≡ true → StandsIn part text
told_there part [] is = ([], drop (length part) [], rest_behind part [] is)
told_there part (x ∷ text) is =
    let by : (b : Bool) → starts_so part (x ∷ text) ≡ b → StandsIn part (x ∷ text) = λ b. elim b as (λ b. starts_so part (x ∷ text) ≡ b → StandsIn part (x ∷ text)) [
      | true ↦ λ begins. ([], drop (length part) (x ∷ text), rest_behind part (x ∷ text) begins)
      | false ↦ λ not_here.
          let behind = told_there part text (ap (λ b. b || has_in_it part text) (sym not_here) ∙ is) in
          (x ∷ behind.0, behind.1, ap (λ ys. x ∷ ys) behind.2)
    ] in
    by (starts_so part (x ∷ text)) refl

pub decides_part : (part text : List ℕ) (found : Bool) → (IsTrue found ↔ StandsIn part text) → found ≡ has_in_it part text
decides_part part text found told = same_from_decides found (has_in_it part text) told
    (λ is. told_there part text is, λ stands. stands_there part text stands.0 stands.1 stands.2)
