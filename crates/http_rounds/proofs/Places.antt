-- Places, one after another.
use Rattle.std.proofs.Common.{◌≡◌, inl, inr, ℕ, zero, suc, ◌+◌, ◌<◌, ◌≤◌, List, [], ◌∷◌, ◌++◌, length, take, drop, get_or, set, Option, Some, None, refl, sym, ap, ◌∙◌, subst, arith, length-append}
use Rattle.std.proofs.lemmas.List.{drop_at, take_at, take-append-drop, take_more, take_more_set, take_all, drop_more, get_or-drop, drop-set-lt, length-set}
use Rattle.http.specs.declared.request.Request.{Request}
use Rattle.http_server.specs.Connection.{history}
use Rattle.http_server.specs.History.{new_history}
use Rattle.http_server.specs.declared.response.Response.{Response}
use Rattle.http_rounds.specs.Rounds.{AreAt, AreAnswered, AreAnsweredFrom, PlaceAnswers, PlaceBegins, PlaceKeeps}
use Rattle.http_rounds.specs.inside.Turns.{with_turn}
use Rattle.http_rounds.specs.declared.peer.Peer.{Peer}

pub at_more : {X : Type 0} (R : X → X → Type 0) (xs ys : List X) (x y : X) → AreAt R xs ys → R x y → AreAt R (xs ++ x ∷ []) (ys ++ y ∷ [])
at_more R [] [] x y all here = (here, tt)
at_more R (a ∷ xs) (b ∷ ys) x y all here = (all.0, at_more R xs ys x y all.1 here)
at_more R [] (b ∷ ys) x y all here = absurd all
at_more R (a ∷ xs) [] x y all here = absurd all

pub at_same : {X : Type 0} (R : X → X → Type 0) → ((x : X) → R x x) → (xs : List X) → AreAt R xs xs
at_same R same [] = tt
at_same R same (x ∷ xs) = (same x, at_same R same xs)

-- one relation after another
pub at_then : {X : Type 0} (P Q R : X → X → Type 0) → ((x y z : X) → P x y → Q y z → R x z) → (xs ys zs : List X) → AreAt P xs ys → AreAt Q ys zs → AreAt R xs zs
at_then P Q R join [] [] [] p q = tt
at_then P Q R join (x ∷ xs) (y ∷ ys) (z ∷ zs) p q = (join x y z p.0 q.0, at_then P Q R join xs ys zs p.1 q.1)
at_then P Q R join [] (y ∷ ys) zs p q = absurd p
at_then P Q R join (x ∷ xs) [] zs p q = absurd p
at_then P Q R join [] [] (z ∷ zs) p q = absurd q
at_then P Q R join (x ∷ xs) (y ∷ ys) [] p q = absurd q

-- one place changes
pub at_set : {X : Type 0} (R : X → X → Type 0) → ((x : X) → R x x) → (xs : List X) (i : ℕ) (y d : X) → R (get_or xs i d) y → AreAt R xs (set xs i y)
at_set R same [] i y d here = tt
at_set R same (x ∷ xs) zero y d here = (here, at_same R same xs)
at_set R same (x ∷ xs) (suc i) y d here = (same x, at_set R same xs i y d here)

pub keeps_same : (x : Option Peer) → PlaceKeeps x x
keeps_same None = tt
keeps_same (Some x) = inl refl

pub keeps_turn : (x y : Option Peer) → y ≡ with_turn x → PlaceKeeps x y
keeps_turn None y is = subst (PlaceKeeps None) (sym is) tt
keeps_turn (Some x) y is = subst (PlaceKeeps (Some x)) (sym is) (inl refl)

pub keeps_then : (x y z : Option Peer) → PlaceKeeps x y → PlaceKeeps y z → PlaceKeeps x z
keeps_then x y None p q = by_first x
  where
    by_first : (x : Option Peer) → PlaceKeeps x None
    by_first None = tt
    by_first (Some x) = tt
keeps_then None None (Some z) p q = q
keeps_then (Some x) None (Some z) p q = inr q
keeps_then None (Some y) (Some z) p (inl same) = ap history same ∙ p
keeps_then None (Some y) (Some z) p (inr new) = new
keeps_then (Some x) (Some y) (Some z) p (inr new) = inr new
keeps_then (Some x) (Some y) (Some z) (inl was) (inl same) = inl (same ∙ was)
keeps_then (Some x) (Some y) (Some z) (inr new) (inl same) = inr (ap history same ∙ new)

pub keeps_new : (x : Option Peer) (new : Peer) → history new.connection ≡ new_history → PlaceKeeps x (Some new)
keeps_new None new is = is
keeps_new (Some x) new is = inr is

pub begins_then : (x y z : Option Peer) → PlaceBegins x y → PlaceKeeps y z → PlaceBegins x z
begins_then x y None p q = by_first x
  where
    by_first : (x : Option Peer) → PlaceBegins x None
    by_first None = tt
    by_first (Some x) = tt
begins_then None None (Some z) p q = q
begins_then (Some x) None (Some z) p q = inr q
begins_then None (Some y) (Some z) p (inl same) = ap history same ∙ p
begins_then None (Some y) (Some z) p (inr new) = new
begins_then (Some x) (Some y) (Some z) p (inr new) = inr new
begins_then (Some x) (Some y) (Some z) (inl was) (inl same) = inl (was.0, same ∙ was.1)
begins_then (Some x) (Some y) (Some z) (inr new) (inl same) = inr (ap history same ∙ new)

-- so many places are gone over, and the others are as they were
pub record Over {X : Type 0} (Gone : List X → List X → Type 0) (n : ℕ) (olds news : List X) : Type 0 where
  pub gone : Gone (take n olds) (take n news)
  pub left : drop n news ≡ drop n olds
  pub long : length news ≡ length olds

-- none is, at first
pub over_none : {X : Type 0} (Gone : List X → List X → Type 0) (xs : List X) → Gone [] [] → Over Gone 0 xs xs
over_none Gone xs none = record { gone = none; left = refl; long = refl }

-- the next one is as it was
pub over_here : {X : Type 0} (Gone : List X → List X → Type 0) (n : ℕ) (olds news : List X) (d : X) → Over Gone n olds news → get_or news n d ≡ get_or olds n d
over_here Gone n olds news d over =
    let none : n + 0 ≡ n = omega arith in
    let here : get_or news (n + 0) d ≡ get_or olds (n + 0) d = sym (get_or-drop n news 0 d) ∙ ap (λ xs. get_or xs 0 d) over.left ∙ get_or-drop n olds 0 d in
    subst (λ m. get_or news m d ≡ get_or olds m d) none here

-- one more is gone over
pub over_more : {X : Type 0} (Gone Then : List X → List X → Type 0) (n next : ℕ) (olds news after : List X) (x y : X) → Over Gone n olds news → n < length news → next ≡ n + 1
    → x ≡ get_or news n x → after ≡ set news n y → ((xs ys : List X) → Gone xs ys → Then (xs ++ x ∷ []) (ys ++ y ∷ [])) → Over Then next olds after
over_more Gone Then n next olds news after x y over below step here is more =
    let within : n < length olds = omega (arith, below, over.long) in
    let front : take (n + 1) olds ≡ take n olds ++ x ∷ [] = take_more olds n x within ∙ ap (λ z. take n olds ++ z ∷ []) (sym (over_here Gone n olds news x over) ∙ sym here) in
    let rest : drop (n + 1) (set news n y) ≡ drop (n + 1) olds =
    drop-set-lt (n + 1) news n y (omega arith) ∙ sym (ap (drop 1) (drop_more news n x below)) ∙ ap (drop 1) over.left ∙ ap (drop 1) (drop_more olds n x within) in
    subst (λ m. Over Then m olds after) (sym step) (subst (Over Then (n + 1) olds) (sym is) (record {
      gone = subst (λ xs. Then xs (take (n + 1) (set news n y))) (sym front) (subst (Then (take n olds ++ x ∷ [])) (sym (take_more_set news n y below)) (more (take n olds) (take n news) over.gone));
      left = rest;
      long = length-set news n y ∙ over.long;
    }))

-- all are
pub over_all : {X : Type 0} (Gone : List X → List X → Type 0) (n : ℕ) (olds news : List X) → Over Gone n olds news → length news ≤ n → Gone olds news
over_all Gone n olds news over ended =
    subst (λ xs. Gone xs news) (take_all n olds (omega (arith, ended, over.long))) (subst (Gone (take n olds)) (take_all n news ended) over.gone)

module _ {S : Type 0} (answers : S → Request (List ℕ) → Response → S → Type 0) where
  answered_long : (called next : S) (xs ys : List (Option Peer)) → AreAnswered answers called xs ys next → length ys ≡ length xs
  answered_long called next [] [] all = refl
  answered_long called next (a ∷ xs) (b ∷ ys) all = ap suc (answered_long all.0 next xs ys all.2)
  answered_long called next [] (b ∷ ys) all = absurd all
  answered_long called next (a ∷ xs) [] all = absurd all

  -- those from some place on are answered, and then those before it
  pub answered_from : (first len : ℕ) (olds before behind front back rest : List (Option Peer)) (called mid next : S) → before ≡ take first olds → behind ≡ drop first olds → length before ≡ first
      → len ≡ length olds → AreAnswered answers called behind back mid → AreAnswered answers mid before front next
      → AreAnsweredFrom answers first called olds (take len ((front ++ back) ++ rest)) next
  answered_from first len olds before behind front back rest called mid next is_front is_back count all later sooner =
      let front_long : length front ≡ first = answered_long mid next before front sooner ∙ count in
      let back_long : length back ≡ length (drop first olds) = answered_long called mid behind back later ∙ ap length is_back in
      let before_long : length (take first olds) ≡ first = ap length (sym is_front) ∙ count in
      let both : length olds ≡ length (take first olds) + length (drop first olds) = ap length (sym (take-append-drop first olds)) ∙ length-append (take first olds) (drop first olds) in
      let long : length (front ++ back) ≡ len = omega (arith, length-append front back, front_long, back_long, before_long, both, all) in
      let whole : take len ((front ++ back) ++ rest) ≡ front ++ back = take_at (front ++ back) rest len long in (
        mid,
        subst (λ news. AreAnswered answers called (drop first olds) news mid) (sym (ap (drop first) whole ∙ drop_at front back first front_long)) (subst (λ xs. AreAnswered answers called xs back mid) is_back later),
        subst (λ news. AreAnswered answers mid (take first olds) news next) (sym (ap (take first) whole ∙ take_at front back first front_long)) (subst (λ xs. AreAnswered answers mid xs front next) is_front sooner),
      )

  pub answered_more : (called mid next : S) (xs ys : List (Option Peer)) (x y : Option Peer) → AreAnswered answers called xs ys mid → PlaceAnswers answers mid x y next
      → AreAnswered answers called (xs ++ x ∷ []) (ys ++ y ∷ []) next
  answered_more called mid next [] [] x y all here = (next, subst (λ s. PlaceAnswers answers s x y next) all here, refl)
  answered_more called mid next (a ∷ xs) (b ∷ ys) x y all here = (all.0, all.1, answered_more all.0 mid next xs ys x y all.2 here)
  answered_more called mid next [] (b ∷ ys) x y all here = absurd all
  answered_more called mid next (a ∷ xs) [] x y all here = absurd all
