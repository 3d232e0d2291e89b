-- What a caller makes of the numbers that seats drew: that its loop of draws ends, and that the seats together have all numbers below the count.
use Rattle.std.proofs.Common.{◌≡◌, ℕ, ◌+◌, ◌-◌, ◌<◌, ◌≤◌, ◌==◌, max, true, true≢false, ◌||◌, cond, All, List, [], ◌∷◌, ◌++◌, inl, inr, refl, sym, ◌∙◌, ap, arith}
use Rattle.std.specs.List.{sum_by}
use Rattle.std.proofs.lemmas.Bool.Decides.{leb_tells}
use Rattle.std.proofs.lemmas.List.Elements.{All-head, All-tail}
use Rattle.std.proofs.lemmas.List.Sums.{sum_by-cons}
use Rattle.replay_workers.specs.Draws.{Pool, Draws, has_end, times, AreClaimed}
use Rattle.replay_workers.specs.inside.Shares.{AreBack}
use Rattle.replay_workers.proofs.Lists.{once_within, within_once, once_at}

-- ---- a loop of draws

-- one above the greatest number, and 0 where there is none
abbrev pub next_after : List ℕ → ℕ
next_after [] = 0
next_after (x ∷ drawn) = max (x + 1) (next_after drawn)

next_within : (drawn : List ℕ) (x : ℕ) → All (λ y. y < x) drawn → next_after drawn ≤ x
next_within [] x above = omega arith
next_within (y ∷ drawn) x above = omega (arith, All-head (λ z. z < x) y drawn above, next_within drawn x (All-tail (λ z. z < x) y drawn above))

next_push : (drawn : List ℕ) (x : ℕ) → x + 1 ≤ next_after (drawn ++ x ∷ [])
next_push [] x = omega arith
next_push (y ∷ drawn) x = omega (arith, next_push drawn x)

-- each draw of a number below the count brings a loop of draws nearer to its end
pub nearer : (count : ℕ) (drawn : List ℕ) (x : ℕ) → All (λ y. y < x) drawn → x < count → count - next_after (drawn ++ x ∷ []) < count - next_after drawn
nearer count drawn x above below = omega (arith, next_within drawn x above, next_push drawn x, below)

-- ---- all seats

end_of : (count : ℕ) (drawn : List ℕ) → has_end count drawn ≡ true → (x : ℕ) × (count ≤ x) × (1 ≤ times x drawn)
end_of count [] none = absurd (true≢false (sym none))
end_of count (y ∷ drawn) some_ = elim (leb_tells count y) [
  | inl past ↦ (y, past.1, omega (arith, sum_by-cons (λ z. cond {A = ℕ} (z == y) 1 0) y drawn, once_at y y refl))
  | inr less ↦
      let rest = end_of count drawn (ap (λ b. b || has_end count drawn) (sym less.0) ∙ some_) in
      (rest.0, rest.1, omega (arith, sum_by-cons (λ z. cond {A = ℕ} (z == rest.0) 1 0) y drawn, rest.2))
]

-- where the seats come back, all spent, each number below the count was drawn by just one of them, once
pub each_drawn : (pool : Pool) (word count : ℕ) (seats : List Draws) → 1 ≤ count → AreBack pool count seats → AreClaimed word seats
    → (x : ℕ) → x < pool.count → sum_by (λ seat. times x seat.drawn) seats ≡ 1
each_drawn pool word count seats some_ back claimed x less = claimed x ∙ once_within word x (by seats back claimed)
  where
    by : (seats : List Draws) → AreBack pool count seats → AreClaimed word seats → x < word
    by [] back claimed = absurd (omega (arith, some_, back.count_is))
    by (seat ∷ seats) back claimed =
        let (last, past, drew) = end_of seat.count seat.drawn (back.spent 0 seat (omega arith)) in
        let all = sum_by-cons (λ (s : Draws). times last s.drawn) seat seats in
        let below : last < word = within_once word last (omega (arith, claimed last, all, drew)) in
        let count_is : seat.count ≡ pool.count = (back.of 0 seat (omega arith)).1 in
        omega (arith, below, past, count_is, less)
