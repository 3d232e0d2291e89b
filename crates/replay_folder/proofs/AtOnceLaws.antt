-- The lanes of a round, each of which one of some threads took.
use Rattle.std.proofs.Common.{◌≡◌, ℕ, zero, suc, ◌+◌, ◌-◌, ◌≤◌, ◌<◌, List, [], ◌∷◌, ◌++◌, length, map, slice_get, true≢false, Some, refl, sym, ap, subst, ◌∙◌, arith, append_assoc, append-nil}
use Rattle.std.specs.Prelude.{fold}
use Rattle.std.specs.List.{AllByRecursion, AllZip, range_with_len}
use Rattle.std.proofs.lemmas.List.FromFn.{length-map-range_with_len, get_or-map-range_with_len}
use Rattle.std.proofs.lemmas.Option.{get_or_from_slice_get, slice_get_within}
use Rattle.round_robin.specs.Dealt.{every}
use Rattle.round_robin.proofs.Dealing.{every_zip}
use Rattle.lanes_in_turn.specs.Taking.{Stops, never}
use Rattle.lanes_in_turn.specs.declared.gathered.Stop.{Stop}
use Rattle.lanes_in_turn.specs.declared.gathered.Stop.TheVariants as stops
use Rattle.lanes_in_turn.proofs.RoundLaws.{all_at}
use Rattle.upload_lanes.specs.Threads.{AreTaken, both_stops, recorders_of, stop_of}
use Rattle.upload_lanes.specs.inside.Party.{TakesByOne}
use Rattle.upload_lanes.proofs.CollectedLaws.{recorders_range}
use Rattle.upload_lanes.proofs.JoinLaws.{some_at}
use Rattle.replay_folder.specs.declared.at_once.TakenLane.{TakenLane}
use Rattle.replay_folder.specs.inside.AtOnce.{IsTakenOf}
use Rattle.replay_folder.proofs.HandLaws.{Lanes, both_taken, unasked_both}

-- ---- lists

pub all_weaker : {A : Type 0} (P Q : A → Type 0) → ((x : A) → P x → Q x) → (xs : List A) → AllByRecursion P xs → AllByRecursion Q xs
all_weaker P Q goes [] all = tt
all_weaker P Q goes (x ∷ xs) all = (goes x all.0, all_weaker P Q goes xs all.1)

all_every : {A : Type 0} (P : A → Type 0) (s a : ℕ) (xs : List A) → AllByRecursion P xs → AllByRecursion P (every s a xs)
all_every P s a [] all = tt
all_every P s zero (x ∷ xs) all = (all.0, all_every P s (s - 1) xs all.1)
all_every P s (suc a) (x ∷ xs) all = all_every P s a xs all.1

zip_alone : {A : Type 0} (P : A → Type 0) (xs : List A) → AllByRecursion P xs → AllZip (λ x y. P x) xs xs
zip_alone P [] all = tt
zip_alone P (x ∷ xs) all = (all.0, zip_alone P xs all.1)

all_alone : {A : Type 0} (P : A → Type 0) (xs : List A) → AllZip (λ x y. P x) xs xs → AllByRecursion P xs
all_alone P [] all = tt
all_alone P (x ∷ xs) all = (all.0, all_alone P xs all.1)

-- what holds in each share holds of all
from_every : {A : Type 0} (P : A → Type 0) (s : ℕ) (xs : List A) → 0 < s → ((a : ℕ) → a < s → AllByRecursion P (every s a xs)) → AllByRecursion P xs
from_every P s xs some each = all_alone P xs (every_zip (λ x y. P x) s xs xs refl some (λ a within. zip_alone P (every s a xs) (each a within)))

zip_every : {A B : Type 0} (P : A → B → Type 0) (s a : ℕ) (xs : List A) (ys : List B) → AllZip P xs ys → AllZip P (every s a xs) (every s a ys)
zip_every P s a [] [] all = tt
zip_every P s a [] (y ∷ ys) all = absurd all
zip_every P s a (x ∷ xs) [] all = absurd all
zip_every P s zero (x ∷ xs) (y ∷ ys) all = (all.0, zip_every P s (s - 1) xs ys all.1)
zip_every P s (suc a) (x ∷ xs) (y ∷ ys) all = zip_every P s a xs ys all.1

every_map : {A B : Type 0} (f : A → B) (s a : ℕ) (xs : List A) → every s a (map f xs) ≡ map f (every s a xs)
every_map f s a [] = refl
every_map f s zero (x ∷ xs) = ap (λ l. f x ∷ l) (every_map f s (s - 1) xs)
every_map f s (suc a) (x ∷ xs) = every_map f s a xs

all_made : {A : Type 0} (P : A → Type 0) (f : ℕ → A) (a n : ℕ) → ((k : ℕ) → P (f k)) → AllByRecursion P (map f (range_with_len a n))
all_made P f a zero each = tt
all_made P f a (suc n) each = (each a, all_made P f (a + 1) n each)

made_at : {A : Type 0} (f : ℕ → A) (n k : ℕ) (x : A) → slice_get (map f (range_with_len 0 n)) k ≡ Some x → f k ≡ x
made_at f n k x at =
    let within = slice_get_within (map f (range_with_len 0 n)) k x at in
    sym (get_or-map-range_with_len f 0 n k k x (omega (arith, within, length-map-range_with_len f 0 n)) (omega arith)) ∙ get_or_from_slice_get (map f (range_with_len 0 n)) k x x at

-- ---- stops

abbrev pub IsNone : Stop → Type 0
IsNone stop = stop ≡ stops.None

abbrev pub IsUnasked : Stop → Type 0
IsUnasked stop = stop ≡ stops.Asked → ⊥

both_none : (a b : Stop) → IsNone (both_stops a b) → IsNone a × IsNone b
both_none stops.Memory b is = cc
both_none stops.None b is = (refl, is)
both_none stops.Asked stops.Memory is = cc
both_none stops.Asked stops.None is = cc
both_none stops.Asked stops.Asked is = cc

fold_none : (a : Stop) (all : List Stop) → IsNone (fold both_stops a all) → IsNone a × AllByRecursion IsNone all
fold_none a [] is = (is, tt)
fold_none a (b ∷ all) is = let rest = fold_none (both_stops a b) all is in let here = both_none a b rest.0 in (here.0, (here.1, rest.1))

none_fold : (all : List Stop) → AllByRecursion IsNone all → IsNone (stop_of all)
none_fold [] none = refl
none_fold (b ∷ all) none = ap (λ s. fold both_stops s all) none.0 ∙ none_fold all none.1

fold_unasked : (a : Stop) (all : List Stop) → IsUnasked a → AllByRecursion IsUnasked all → IsUnasked (fold both_stops a all)
fold_unasked a [] here unasked = here
fold_unasked a (b ∷ all) here unasked = fold_unasked (both_stops a b) all (unasked_both a b here unasked.0) unasked.1

same_stop : (a b : Stop) → IsUnasked a → IsUnasked b → (IsNone a → IsNone b) → (IsNone b → IsNone a) → a ≡ b
same_stop stops.Asked b one other to from = absurd (one refl)
same_stop stops.Memory stops.Asked one other to from = absurd (other refl)
same_stop stops.Memory stops.Memory one other to from = refl
same_stop stops.Memory stops.None one other to from = let is = from refl in cc
same_stop stops.None stops.Asked one other to from = absurd (other refl)
same_stop stops.None stops.Memory one other to from = let is = to refl in cc
same_stop stops.None stops.None one other to from = refl

-- ---- lane by lane, so are all

module _ {R : Type 0} where
  abbrev lanes_of : List (TakenLane R) → Lanes R
  lanes_of taken = map (λ one. one.lane) taken

  abbrev stops_of : List (TakenLane R) → List Stop
  stops_of taken = map (λ one. one.stop) taken

  takes_nothing : TakesByOne {R = R} never 0 [] [] stops.None
  takes_nothing = record { each = tt; stops = record { lesser = λ n less. refl; asked = λ is. cc; ended = refl; refused = λ is. cc } }

  takes_rest : (fa la : Lanes R) (a : Stop) → TakesByOne never 0 fa la a → (fresh : Lanes R) (taken : List (TakenLane R)) → AllZip IsTakenOf fresh taken
      → TakesByOne never 0 (fa ++ fresh) (la ++ lanes_of taken) (fold both_stops a (stops_of taken))
  takes_rest fa la a one [] [] all =
      subst (λ l. TakesByOne never 0 l (la ++ []) a) (sym (append-nil fa)) (subst (λ l. TakesByOne never 0 fa l a) (sym (append-nil la)) one)
  takes_rest fa la a one [] (x ∷ taken) all = absurd all
  takes_rest fa la a one (f ∷ fresh) [] all = absurd all
  takes_rest fa la a one (f ∷ fresh) (x ∷ taken) all =
      let more = takes_rest (fa ++ f ∷ []) (la ++ x.lane ∷ []) (both_stops a x.stop) (both_taken fa la (f ∷ []) (x.lane ∷ []) a x.stop one all.0) fresh taken all.1 in
      let stop = fold both_stops (both_stops a x.stop) (stops_of taken) in
      subst (λ l. TakesByOne never 0 l (la ++ x.lane ∷ lanes_of taken) stop) (append_assoc fa (f ∷ []) fresh)
      (subst (λ l. TakesByOne never 0 ((fa ++ f ∷ []) ++ fresh) l stop) (append_assoc la (x.lane ∷ []) (lanes_of taken)) more)

  takes_whole : (fresh : Lanes R) (taken : List (TakenLane R)) → AllZip IsTakenOf fresh taken → TakesByOne never 0 fresh (lanes_of taken) (stop_of (stops_of taken))
  takes_whole fresh taken all = takes_rest [] [] stops.None takes_nothing fresh taken all

  module _ (fresh : Lanes R) (taken : List (TakenLane R)) (all : AllZip IsTakenOf fresh taken) (n : ℕ) (some : 0 < n) where
    -- why the taking of one recorder's lanes stopped
    abbrev by_recorder : ℕ → Stop
    by_recorder k = stop_of (stops_of (every n k taken))

    share_taken : (k : ℕ) → TakesByOne never 0 (every n k fresh) (lanes_of (every n k taken)) (by_recorder k)
    share_taken k = takes_whole (every n k fresh) (every n k taken) (zip_every IsTakenOf n k fresh taken all)

    unasked_by : (f l : Lanes R) (stop : Stop) → TakesByOne never 0 f l stop → IsUnasked stop
    unasked_by f l stop takes is = true≢false (takes.stops.asked is)

    abbrev recorders : List Stop
    recorders = map by_recorder (range_with_len 0 n)

    none_each : IsNone (stop_of (stops_of taken)) → IsNone (stop_of recorders)
    none_each is =
        let none = (fold_none stops.None (stops_of taken) is).1 in
        none_fold recorders
        (all_made IsNone by_recorder 0 n (λ k. none_fold (stops_of (every n k taken)) (subst (AllByRecursion IsNone) (every_map (λ one. one.stop) n k taken) (all_every IsNone n k (stops_of taken) none))))

    none_whole : IsNone (stop_of recorders) → IsNone (stop_of (stops_of taken))
    none_whole is =
        let none = (fold_none stops.None recorders is).1 in
        none_fold (stops_of taken) (from_every IsNone n (stops_of taken) some (λ k within.
        let (one, at) = some_at recorders k (omega (arith, within, length-map-range_with_len by_recorder 0 n)) in
        let here : IsNone (by_recorder k) = made_at by_recorder n k one at ∙ all_at IsNone recorders k one none at in
        subst (AllByRecursion IsNone) (sym (every_map (λ one. one.stop) n k taken)) (fold_none stops.None (stops_of (every n k taken)) here).1))

    whole_stop : stop_of (stops_of taken) ≡ stop_of recorders
    whole_stop = same_stop (stop_of (stops_of taken)) (stop_of recorders)
        (unasked_by fresh (lanes_of taken) (stop_of (stops_of taken)) (takes_whole fresh taken all))
        (fold_unasked stops.None recorders (λ is. cc)
        (all_made IsUnasked by_recorder 0 n (λ k. unasked_by (every n k fresh) (lanes_of (every n k taken)) (by_recorder k) (share_taken k)))) none_each none_whole

    are_taken : n ≡ recorders_of (length fresh) → AreTaken never 0 fresh (lanes_of taken) (stop_of (stops_of taken))
    are_taken is = record {
      lanes_are = (takes_whole fresh taken all).each;
      stops = recorders;
      count = length-map-range_with_len by_recorder 0 n ∙ is;
      each = λ k one at.
          subst (λ m. Stops never (every m k (lanes_of taken)) one) (sym (length-map-range_with_len by_recorder 0 n))
          (subst (λ o. Stops never (every n k (lanes_of taken)) o) (made_at by_recorder n k one at)
          (subst (λ l. Stops never l (by_recorder k)) (sym (every_map (λ o. o.lane) n k taken)) (share_taken k).stops));
      stop_is = whole_stop;
    }

  -- each lane was taken so by one thread or another
  pub each_taken : (fresh lanes : Lanes R) (stop : Stop) (taken : List (TakenLane R)) → 1 ≤ length fresh → AllZip IsTakenOf fresh taken → lanes ≡ lanes_of taken
      → stop ≡ stop_of (stops_of taken) → AreTaken never 0 fresh lanes stop
  each_taken fresh lanes stop taken some all lanes_are stop_is =
      let range = recorders_range (length fresh) some in
      subst (λ l. AreTaken never 0 fresh l stop) (sym lanes_are)
      (subst (λ s. AreTaken never 0 fresh (lanes_of taken) s) (sym stop_is) (are_taken fresh taken all (recorders_of (length fresh)) (omega (arith, range.0)) refl))
