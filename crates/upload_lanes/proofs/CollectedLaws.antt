-- From the hands that recorders are dealt to the lanes of a round.
use Rattle.std.proofs.Common.{◌≡◌, ℕ, zero, suc, ◌+◌, ◌-◌, ◌≤◌, ◌<◌, List, [], ◌∷◌, ◌++◌, length, map, replicate, slice_get, Bool, true, false, nat_lt, Some, refl, sym, ap, subst, ◌∙◌, arith, append-nil, append_assoc}
use Rattle.std.proofs.lemmas.Bool.Decides.{nat_tests}
use Rattle.std.proofs.lemmas.List.{length-append, length-map, map-append}
use Rattle.std.proofs.lemmas.List.Sums.{fold-append}
use Rattle.std.proofs.lemmas.Option.{slice_get_within}
use Rattle.std.specs.Prelude.{fold}
use Rattle.std.specs.List.{AllByRecursion, AllZip}
use Rattle.lane_queue.specs.Limits.{max_lanes}
use Rattle.round_robin.proofs.Dealing.{every_length, every_zip}
use Rattle.round_robin.specs.Dealt.{every}
use Rattle.upload_lanes.proofs.JoinLaws.{some_at}
use Rattle.lanes_in_turn.proofs.RoundLaws.{in_map, pick_false, pick_true}
use Rattle.upload_lanes.proofs.Zips.{all_each, all_more, empty, mapped_at, zip_get, zip_length, zip_push}
use Rattle.lanes_in_turn.specs.Taking.{refused_by, Stops, IsFreshLane, TakesLane}
use Rattle.upload_lanes.specs.Threads.{both_stops, recorders_of, stop_of, AreTaken}
use Rattle.upload_lanes.specs.inside.Party.{Hand, IsFreshHand, TakeEach, TakesParty, IsRunning, RunsBy, TakesByOne}
use Rattle.lanes_in_turn.specs.declared.gathered.LaneResult.{LaneResult}
use Rattle.lanes_in_turn.specs.declared.gathered.Stop.{Stop}
use Rattle.lanes_in_turn.specs.declared.gathered.Stop.TheVariants as stops
use Rattle.upload_lanes.specs.declared.party.Party.{Party}

-- ---- where one recorder is refused, all of them stop by that

refused_left : (a b : Stop) → refused_by a ≤ refused_by (both_stops a b)
refused_left stops.Memory b = omega arith
refused_left stops.None b = omega arith
refused_left stops.Asked stops.Memory = omega arith
refused_left stops.Asked b = omega arith

refused_right : (a b : Stop) → refused_by b ≤ refused_by (both_stops a b)
refused_right stops.Memory stops.Memory = omega arith
refused_right stops.Memory b = omega arith
refused_right stops.None b = omega arith
refused_right stops.Asked stops.Memory = omega arith
refused_right stops.Asked stops.None = omega arith
refused_right stops.Asked stops.Asked = omega arith

fold_keeps : (a : Stop) (ss : List Stop) → refused_by a ≤ refused_by (fold both_stops a ss)
fold_keeps a [] = omega arith
fold_keeps a (s ∷ ss) = let here = refused_left a s in let there = fold_keeps (both_stops a s) ss in omega (arith, here, there)

fold_has : (a : Stop) (ss : List Stop) (k : ℕ) (one : Stop) → slice_get ss k ≡ Some one → refused_by one ≤ refused_by (fold both_stops a ss)
fold_has a [] k one at = cc
fold_has a (s ∷ ss) zero one at =
    let same : s ≡ one = cc in
    let sum = ap refused_by same in
    let here = refused_right a s in
    let there = fold_keeps (both_stops a s) ss in
    omega (arith, sum, here, there)
fold_has a (s ∷ ss) (suc k) one at = fold_has (both_stops a s) ss k one at

refused_most : (ss : List Stop) (k : ℕ) (one : Stop) → slice_get ss k ≡ Some one → refused_by one ≤ refused_by (stop_of ss)
refused_most ss k one at = fold_has stops.None ss k one at

zip_weaker : {X Y : Type 0} (P Q : X → Y → Type 0) → ((x : X) (y : Y) → P x y → Q x y) → (xs : List X) (ys : List Y) → AllZip P xs ys → AllZip Q xs ys
zip_weaker P Q goes [] [] all = tt
zip_weaker P Q goes [] (y ∷ ys) all = all
zip_weaker P Q goes (x ∷ xs) [] all = all
zip_weaker P Q goes (x ∷ xs) (y ∷ ys) all = (goes x y all.0, zip_weaker P Q goes xs ys all.1)

takes_more : {R : Type 0} (less more : ℕ) → less ≤ more → (first lane : List ℕ × LaneResult R) → TakesLane less first lane → TakesLane more first lane
takes_more less more fewer first lane takes = record { client = takes.client; ahead = λ now is. let few = takes.ahead now is in omega (arith, few, fewer); is_taken = takes.is_taken }

-- ---- hands

every_some : {A : Type 0} (s a : ℕ) (xs : List A) → a < length xs → 1 ≤ length (every s a xs)
every_some s a [] within = absurd (omega (arith, within))
every_some s zero (x ∷ xs) within = omega arith
every_some s (suc a) (x ∷ xs) within = every_some s a xs (omega (arith, within))

every_few : {A : Type 0} (s a : ℕ) (xs : List A) → length (every s a xs) ≤ length xs
every_few s a [] = omega arith
every_few s zero (x ∷ xs) = let few = every_few s (s - 1) xs in omega (arith, few)
every_few s (suc a) (x ∷ xs) = let few = every_few s a xs in omega (arith, few)

every_all : {A : Type 0} (P : A → Type 0) (s a : ℕ) (xs : List A) → AllByRecursion P xs → AllByRecursion P (every s a xs)
every_all P s a [] all = tt
every_all P s zero (x ∷ xs) all = (all.0, every_all P s (s - 1) xs all.1)
every_all P s (suc a) (x ∷ xs) all = every_all P s a xs all.1

module _ {R : Type 0} (fresh : List (List ℕ × LaneResult R)) (hands : List (Hand R)) (n : ℕ) (count : length hands ≡ n)
    (dealt : (g : ℕ) (hand : Hand R) → slice_get hands g ≡ Some hand → hand.items ≡ every n g fresh) where
  pub hands_fresh : AllByRecursion IsFreshLane fresh → n ≤ length fresh → length fresh ≤ max_lanes → AllByRecursion IsFreshHand hands
  hands_fresh all enough few = all_each IsFreshHand hands (λ g hand at.
      let is = dealt g hand at in
      let within = slice_get_within hands g hand at in
      let some = every_some n g fresh (omega (arith, within, count, enough)) in
      let fewer = every_few n g fresh in
      let size = ap length is in
      record {
        fresh = subst (AllByRecursion IsFreshLane) (sym is) (every_all IsFreshLane n g fresh all);
        lanes = record { some = omega (arith, some, size); few = omega (arith, fewer, size, few) };
      })

  module _ (allows : ℕ → Bool → Type 0) (more : ℕ) (taken : List (Hand R)) (stop : Stop) (takes : TakeEach (λ hand. TakesByOne allows more hand.items) hands taken stop) where
    made_count : length takes.made ≡ n
    made_count = sym (zip_length (λ hand one. TakesByOne allows more hand.items one.0.items one.1) hands takes.made takes.each) ∙ count

    pub taken_count : length taken ≡ n
    taken_count = ap length takes.taken_is ∙ length-map takes.made (λ one. one.0) ∙ made_count

    -- a recorder's lanes, and what it took of them
    taken_by : (g : ℕ) (one : Hand R × Stop) → slice_get takes.made g ≡ Some one → TakesByOne allows more (every n g fresh) one.0.items one.1
    taken_by g one one_at =
        let within = slice_get_within takes.made g one one_at in
        let (hand, hand_at) = some_at hands g (omega (arith, within, made_count, count)) in
        subst (λ mine. TakesByOne allows more mine one.0.items one.1) (dealt g hand hand_at)
        (zip_get (λ h o. TakesByOne allows more h.items o.0.items o.1) hands takes.made g hand one takes.each hand_at one_at)

    pub shares : (size : ℕ) → size ≡ length fresh → (g : ℕ) (held : Hand R) → slice_get taken g ≡ Some held
        → length held.items ≡ length (every {A = ℕ} (length taken) g (replicate size 0))
    shares size size_is g held at =
        let (one, one_at, is) = in_map (λ o. o.0) takes.made g held (ap (λ all. slice_get all g) (sym takes.taken_is) ∙ at) in
        let by = taken_by g one one_at in
        let same : length one.0.items ≡ length (every {A = ℕ} n g (replicate (length fresh) 0)) = sym (zip_length (TakesLane (more + refused_by one.1)) (every n g fresh) one.0.items by.each) ∙ every_length n g fresh in
        ap (λ h. length h.items) (sym is) ∙ same ∙ ap (λ m. length (every {A = ℕ} n g (replicate m 0))) (sym size_is)
        ∙ ap (λ m. length (every {A = ℕ} m g (replicate size 0))) (sym taken_count)

    pub take_lanes : (lanes : List (List ℕ × LaneResult R)) → length lanes ≡ length fresh
        → ((g : ℕ) (held : Hand R) → slice_get taken g ≡ Some held → held.items ≡ every (length taken) g lanes)
        → n ≡ recorders_of (length fresh) → 0 < n → AreTaken allows more fresh lanes stop
    take_lanes lanes size each recorders some = record {
      lanes_are = every_zip (TakesLane (more + refused_by stop)) n fresh lanes (sym size) some (λ g within.
          let (one, one_at) = some_at takes.made g (omega (arith, within, made_count)) in
          subst (AllZip (TakesLane (more + refused_by stop)) (every n g fresh)) (held_is g one one_at)
          (zip_weaker (TakesLane (more + refused_by one.1)) (TakesLane (more + refused_by stop)) (λ first lane takes. takes_more (more + refused_by one.1) (more + refused_by stop)
          (at_stop g one one_at) first lane takes) (every n g fresh) one.0.items (taken_by g one one_at).each));
      stops = map (λ one. one.1) takes.made;
      count = length-map takes.made (λ one. one.1) ∙ made_count ∙ recorders;
      each = λ g one_stop stop_at.
          let (one, one_at, is) = in_map (λ o. o.1) takes.made g one_stop stop_at in
          subst (λ m. Stops allows (every m g lanes) one_stop) (sym (length-map takes.made (λ o. o.1) ∙ made_count))
          (subst (Stops allows (every n g lanes)) is (subst (λ held. Stops allows held one.1) (held_is g one one_at) (taken_by g one one_at).stops));
      stop_is = takes.stop_is;
    }
      where
        at_stop : (g : ℕ) (one : Hand R × Stop) → slice_get takes.made g ≡ Some one → more + refused_by one.1 ≤ more + refused_by stop
        at_stop g one one_at =
            let less = refused_most (map (λ o. o.1) takes.made) g one.1 (mapped_at (λ o. o.1) takes.made (map (λ o. o.1) takes.made) g one refl one_at) in
            let is = ap refused_by takes.stop_is in
            omega (arith, less, is)

        held_is : (g : ℕ) (one : Hand R × Stop) → slice_get takes.made g ≡ Some one → one.0.items ≡ every n g lanes
        held_is g one one_at =
            let held_at : slice_get taken g ≡ Some one.0 = mapped_at (λ o. o.0) takes.made taken g one takes.taken_is one_at in
            each g one.0 held_at ∙ ap (λ m. every m g lanes) taken_count

-- ---- joining the parties

module _ {R : Type 0} {X : Type 0} (Takes : X → List (List ℕ × LaneResult R) → Stop → Type 0) where
  -- the first were joined, and those are left
  pub record IsJoiningAll (all rest : List X) (taken : List (Hand R)) (stop : Stop) (room : ℕ) : Type 0 where
    pub front : List X
    pub split : front ++ rest ≡ all
    pub takes : TakeEach Takes front taken stop
    pub fits : length taken + length rest ≤ room

  pub joined_none : (all : List X) (room : ℕ) → length all ≤ room → IsJoiningAll all all [] stops.None room
  joined_none all room fits = record { front = []; split = refl; takes = record { made = []; each = tt; taken_is = refl; stop_is = refl }; fits = omega (arith, fits) }

  module _ (all rest rest' : List X) (taken : List (Hand R)) (stop : Stop) (room : ℕ) (x : X) (first : rest ≡ x ∷ rest') (joining : IsJoiningAll all rest taken stop room) where
    pub room_for_one : length taken < room
    room_for_one = let size : length rest ≡ length rest' + 1 = ap length first ∙ omega arith in omega (arith, joining.fits, size)

    pub joined_one : (hand : Hand R) (one : Stop) → Takes x hand.items one → IsJoiningAll all rest' (taken ++ hand ∷ []) (both_stops stop one) room
    joined_one hand one here =
        let was = joining.takes in
        let size : length rest ≡ length rest' + 1 = ap length first ∙ omega arith in
        let more : length (taken ++ hand ∷ []) ≡ length taken + 1 = length-append taken (hand ∷ []) in
        record {
          front = joining.front ++ x ∷ [];
          split = append_assoc joining.front (x ∷ []) rest' ∙ ap (λ left. joining.front ++ left) (sym first) ∙ joining.split;
          takes = record {
            made = was.made ++ (hand, one) ∷ [];
            each = zip_push (λ y o. Takes y o.0.items o.1) joining.front was.made x (hand, one) was.each here;
            taken_is = ap (λ hands. hands ++ hand ∷ []) was.taken_is ∙ sym (map-append (λ o. o.0) was.made ((hand, one) ∷ []));
            stop_is = ap (λ s. both_stops s one) was.stop_is ∙ sym (fold-append both_stops stops.None (map (λ o. o.1) was.made) (one ∷ []))
                ∙ ap stop_of (sym (map-append (λ o. o.1) was.made ((hand, one) ∷ [])));
          };
          fits = omega (arith, joining.fits, size, more);
        }

  pub joined_all : (all rest : List X) (taken : List (Hand R)) (stop : Stop) (room : ℕ) → length rest ≡ 0 → IsJoiningAll all rest taken stop room → TakeEach Takes all taken stop
  joined_all all rest taken stop room none joining =
      subst (λ xs. TakeEach Takes xs taken stop) (sym (append-nil joining.front) ∙ ap (λ left. joining.front ++ left) (sym (empty rest none)) ∙ joining.split) joining.takes

-- ---- starting them

module _ {R H : Type 0} (halt : H) (kept : ℕ) where
  abbrev pub fresh_of : Party H R → Hand R
  fresh_of party = party.fresh.value

  -- parties of the first hands run, and those are left
  pub record IsStartingAll (all rest : List (Hand R)) (parties : List (Party H R)) (room : ℕ) : Type 0 where
    pub fresh_are : map fresh_of parties ++ rest ≡ all
    pub runs : AllByRecursion (RunsBy halt kept) parties
    pub left : AllByRecursion IsFreshHand rest
    pub fits : length parties + length rest ≤ room

  pub started_none : (all : List (Hand R)) (room : ℕ) → AllByRecursion IsFreshHand all → length all ≤ room → IsStartingAll all all [] room
  started_none all room left fits = record { fresh_are = refl; runs = tt; left = left; fits = omega (arith, fits) }

  module _ (all rest rest' : List (Hand R)) (parties : List (Party H R)) (room : ℕ) (hand : Hand R) (first : rest ≡ hand ∷ rest') (starting : IsStartingAll all rest parties room) where
    pub started_one : (party : Party H R) → party.fresh.value ≡ hand → RunsBy halt kept party → IsStartingAll all rest' (parties ++ party ∷ []) room
    started_one party of runs =
        let size : length rest ≡ length rest' + 1 = ap length first ∙ omega arith in
        let more : length (parties ++ party ∷ []) ≡ length parties + 1 = length-append parties (party ∷ []) in
        record {
          fresh_are =
              ap (λ front. front ++ rest') (map-append fresh_of parties (party ∷ []) ∙ ap (λ h. map fresh_of parties ++ h ∷ []) of)
              ∙ append_assoc (map fresh_of parties) (hand ∷ []) rest' ∙ ap (λ left. map fresh_of parties ++ left) (sym first) ∙ starting.fresh_are;
          runs = all_more (RunsBy halt kept) parties party starting.runs runs;
          left = (subst (AllByRecursion IsFreshHand) first starting.left).1;
          fits = omega (arith, starting.fits, size, more);
        }

  pub running_all : (parties : List (Party H R)) → AllByRecursion (RunsBy halt kept) parties → AllByRecursion IsRunning parties
  running_all [] all = tt
  running_all (party ∷ parties) all = (all.0.running, running_all parties all.1)

  by_hands : (allows : H → ℕ → Bool → Type 0) (parties : List (Party H R)) (made : List (Hand R × Stop)) → AllByRecursion (RunsBy halt kept) parties
      → AllZip (λ party one. TakesParty allows party one.0.items one.1) parties made → AllZip (λ hand one. TakesByOne (allows halt) (kept + 1) hand.items one.0.items one.1) (map fresh_of parties) made
  by_hands allows [] [] runs all = tt
  by_hands allows [] (one ∷ made) runs all = absurd all
  by_hands allows (party ∷ parties) [] runs all = absurd all
  by_hands allows (party ∷ parties) (one ∷ made) runs all = (
    subst (λ n. TakesByOne (allows halt) (n + 1) party.fresh.value.items one.0.items one.1) runs.0.room_is
        (subst (λ h. TakesByOne (allows h) (party.room + 1) party.fresh.value.items one.0.items one.1) runs.0.halt_is all.0),
    by_hands allows parties made runs.1 all.1,
  )

  pub hands_taken : (allows : H → ℕ → Bool → Type 0) (all rest : List (Hand R)) (parties : List (Party H R)) (room : ℕ) (taken : List (Hand R)) (stop : Stop) → length rest ≡ 0
      → IsStartingAll all rest parties room → TakeEach (TakesParty allows) parties taken stop → TakeEach (λ hand. TakesByOne (allows halt) (kept + 1) hand.items) all taken stop
  hands_taken allows all rest parties room taken stop none starting takes =
      let whole : map fresh_of parties ≡ all = sym (append-nil (map fresh_of parties)) ∙ ap (λ left. map fresh_of parties ++ left) (sym (empty rest none)) ∙ starting.fresh_are in
      subst (λ hands. TakeEach (λ hand. TakesByOne (allows halt) (kept + 1) hand.items) hands taken stop) whole
      (record { made = takes.made; each = by_hands allows parties takes.made starting.runs takes.each; taken_is = takes.taken_is; stop_is = takes.stop_is })

pub recorders_range : (n : ℕ) → 1 ≤ n → (1 ≤ recorders_of n) × (recorders_of n ≤ n)
recorders_range n some = by (nat_lt n 4) refl
  where
    by : (b : Bool) → nat_lt n 4 ≡ b → (1 ≤ recorders_of n) × (recorders_of n ≤ n)
    by true is = subst (λ r. (1 ≤ r) × (r ≤ n)) (sym (pick_true (nat_lt n 4) n 4 is)) (some, omega arith)
    by false is =
        let many : 4 ≤ n = grind (arith, nat_tests, is) in
        subst (λ r. (1 ≤ r) × (r ≤ n)) (sym (pick_false (nat_lt n 4) n 4 is)) (omega arith, many)
