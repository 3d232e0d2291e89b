-- One among the first so many elements is among one more, and so is the next one.
use Rattle.std.proofs.Common.{◌≡◌, ℕ, ◌+◌, ◌<◌, List, [], ◌∷◌, ◌++◌, length, take, get_or, sym, subst}
use Rattle.std.specs.List.{Contains}
use Rattle.std.proofs.lemmas.List.{take_more}
use Rattle.std.proofs.lemmas.List.Elements.{Contains-append_left, Contains-push}

pub among_more : {X : Type 0} (xs : List X) (i : ℕ) (y : X) → i < length xs → Contains (take i xs) y → Contains (take (i + 1) xs) y
among_more xs i y less among = subst (λ ys. Contains ys y) (sym (take_more xs i y less)) (Contains-append_left (take i xs) (get_or xs i y ∷ []) y among)

pub among_next : {X : Type 0} (xs : List X) (i : ℕ) (x : X) → i < length xs → x ≡ get_or xs i x → Contains (take (i + 1) xs) x
among_next xs i x less is = subst (λ ys. Contains ys x) (sym (take_more xs i x less)) (subst (Contains (take i xs ++ get_or xs i x ∷ [])) (sym is) (Contains-push (take i xs) (get_or xs i x)))
