-- Each step keeps the rule of the claims.
use Rattle.std.proofs.Common.{◌≡◌, ℕ, zero, suc, ◌+◌, ◌%◌, ◌<◌, ◌≤◌, ◌^◌, ◌==◌, true, false, ◌||◌, cond, All, List, [], ◌∷◌, ◌++◌, length, set, get_or, inl, inr, ⊎_elim, refl, sym, ◌∙◌, ap, subst, arith, length-append}
use Rattle.std.proofs.Math.Bool.{or-false}
use Rattle.std.proofs.Math.Nat.{mod-eq_of_lt}
use Rattle.std.specs.Prelude.{nat_le, slice_index, slice_set}
use Rattle.std.specs.List.{sum_by, count_by}
use mathlib.Core.Option.{some, some-injective, some-ne-none}
use lib.ListN.{get_elem?}
use Rattle.std.proofs.lemmas.Bool.{le-leb, or_right}
use Rattle.std.proofs.lemmas.Bool.Decides.{leb_tells}
use Rattle.std.proofs.lemmas.List.Elements.{All-nil, All-cons, All-append}
use Rattle.std.proofs.lemmas.List.Folds.{list_any-append}
use Rattle.std.proofs.lemmas.List.Sums.{sum_by-append, sum_by_push, sum_by-le-sum_by, count_by-le-length, get_or-le-sum_by}
use Rattle.atomic_table.specs.Table.{State, Me, keeps, Allows, Splits, Joins, opening, Final, Seen}
use Rattle.atomic_table.proofs.Lists.{at_set, at_snoc}
use Rattle.replay_workers.specs.declared.view.Terms.{Terms}
use Rattle.replay_workers.specs.declared.view.SeatView.{SeatView}
use Rattle.replay_workers.specs.Draws.{has_end, EndsOnce, times, once_below}
use Rattle.replay_workers.specs.inside.Rule.{lists, own_list, draws_of, ended_lists, SaysSo, IsInTurn, first_of, seat_with, with_number, DrewNumber}
use Rattle.replay_workers.proofs.Lists.{sum_set, at_most_sum, sum_joined, sum_of_one, each_set, one_drawn, none_drawn, once_past, within_once, once_at, one_more}

-- no more lists end than there are
ended_few : (terms : Terms) (views : List SeatView) → sum_by (ended_lists terms.count) views ≤ sum_by lists views
ended_few terms views = sum_by-le-sum_by (ended_lists terms.count) lists views (λ v. count_by-le-length (has_end terms.count) v.rows)

-- ---- the first seat, and one more

one_row : (count : ℕ) → All (EndsOnce count) ([] ∷ [])
one_row count = All-cons (EndsOnce count) [] [] (none_drawn count) (All-nil (EndsOnce count))

pub begins : (terms : Terms) → 1 ≤ terms.workers → IsInTurn terms (opening (0 ∷ []) [] (first_of 1))
begins terms some_ = record {
  word = 0;
  made = 1;
  words = refl;
  few = some_;
  seats = refl;
  claimed = λ x. sym (once_past 0 x (omega arith));
  within = omega arith;
  passes = only;
}
  where
    only : (pass : ℕ) (v : SeatView) → get_elem? (first_of 1 ∷ []) pass ≡ some v → SaysSo terms.count 1 pass v
    only zero v at = subst (SaysSo terms.count 1 0) (some-injective (first_of 1) v at)
        (record { leads = λ _. (refl, refl); ends = one_row terms.count })
    only (suc pass) v at = absurd (some-ne-none v (sym at))

pub forks : (terms : Terms) (pass : ℕ) (v : SeatView) → v.leads ≡ true → v.made < terms.workers
    → Splits (IsInTurn terms) pass v (record v { made = v.made + 1 }) (seat_with ([] ∷ []))
forks terms pass v leads more s kept at = record {
  word = kept.word;
  made = kept.made + 1;
  words = kept.words;
  few = omega (arith, more, mine.1);
  seats = added lists refl ∙ ap (λ n. n + 1) kept.seats;
  claimed = λ x. added (draws_of x) refl ∙ omega (arith, kept.claimed x);
  within = let before = kept.within in omega (arith, before, added (ended_lists terms.count) refl);
  passes = λ j u at_j. ⊎_elim (λ was. each_set (SaysSo terms.count (kept.made + 1)) s.views pass now
      (record { leads = λ _. (mine.0, ap (λ n. n + 1) mine.1); ends = (kept.passes pass v at).ends })
      (λ i t else at_i. record {
        leads = λ leads_t. absurd (else (((kept.passes i t at_i).leads leads_t).0 ∙ sym mine.0));
        ends = (kept.passes i t at_i).ends;
      }) j u was)
      (λ is. subst (SaysSo terms.count (kept.made + 1) j) is (record { leads = λ none. cc; ends = one_row terms.count }))
      (at_snoc (set s.views pass now) (seat_with ([] ∷ [])) u j at_j);
}
  where
    now : SeatView
    now = record v { made = v.made + 1 }

    mine : (pass ≡ 0) × (v.made ≡ kept.made)
    mine = (kept.passes pass v at).leads leads

    added : (f : SeatView → ℕ) → f now ≡ f v → sum_by f (set s.views pass now ++ seat_with ([] ∷ []) ∷ []) ≡ sum_by f s.views + f (seat_with ([] ∷ []))
    added f is = omega (arith, sum_by_push f (set s.views pass now) (seat_with ([] ∷ [])), sum_set f s.views pass v now at, is)

-- ---- a draw

-- a list has what a view has
module _ (v : SeatView) (one : v.rows ≡ own_list v ∷ []) where
  draws_one : (x : ℕ) → draws_of x v ≡ times x (own_list v)
  draws_one x = ap (sum_by (times x)) one ∙ omega arith

  draws_more : (x word : ℕ) → draws_of x (with_number v word) ≡ draws_of x v + cond {A = ℕ} (word == x) 1 0
  draws_more x word =
      let now : draws_of x (with_number v word) ≡ times x (own_list v ++ word ∷ []) = omega arith in
      omega (arith, now, sum_by_push (λ y. cond {A = ℕ} (y == x) 1 0) (own_list v) word, draws_one x)

  ended_not : (count : ℕ) → has_end count (own_list v) ≡ false → ended_lists count v ≡ 0
  ended_not count unspent = ap (count_by (has_end count)) one ∙ ap (λ b. 0 + cond {A = ℕ} b 1 0) unspent

  -- it is one of the lists that end at or past the count, or the number is below
  ended_more : (count word : ℕ) → count ≤ word → ended_lists count (with_number v word) ≡ 1
  ended_more count word past = ap (λ b. 0 + cond {A = ℕ} b 1 0) (list_any-append (nat_le count) (own_list v) (word ∷ [])
      ∙ or_right (has_end count (own_list v)) (nat_le count word || false) (or-false (nat_le count word) ∙ le-leb count word past))

  -- all that it drew is below the end, where all that was drawn is
  drew_below : (end : ℕ) → ((x : ℕ) → draws_of x v ≤ once_below end x) → All (λ y. y < end) (own_list v)
  drew_below end all k d less =
      let y = get_or (own_list v) k d in
      let some_ = get_or-le-sum_by (λ z. cond {A = ℕ} (z == y) 1 0) (own_list v) k d less in
      within_once end y (omega (arith, once_at y y refl, some_, draws_one y, all y))

pub draws : (terms : Terms) (slots pass : ℕ) (me : Me (Unit {0}) SeatView) → terms.count < 2 ^ 63 → terms.workers ≤ 32
    → me.0.rows ≡ own_list me.0 ∷ [] → has_end terms.count (own_list me.0) ≡ false
    → Allows (IsInTurn terms) slots pass me 0 (λ n. (n + 1) % 2 ^ 64) (λ n next. DrewNumber me.0 n next.0 × (next.1 ≡ me.1))
draws terms slots pass me small few one unspent s kept len at fits = (
  w,
  keeps,
  tt,
  record {
    word = kept.word + 1;
    made = kept.made;
    words = ap (λ ws. slice_set ws 0 ((slice_index ws 0 + 1) % 2 ^ 64)) kept.words ∙ ap (λ n. n ∷ []) (mod-eq_of_lt below);
    few = kept.few;
    seats = omega (arith, sum_set lists s.views pass v w at, ap length one, kept.seats);
    claimed = λ x. omega (arith, sum_set (draws_of x) s.views pass v w at, draws_more v one x kept.word, kept.claimed x, one_more kept.word x);
    within = elim (leb_tells terms.count kept.word) [
      | inl past ↦ let before = kept.within in
          omega (
            arith,
            before,
            sum_set (ended_lists terms.count) s.views pass v w at,
            ended_not v one terms.count unspent,
            ended_more v one terms.count kept.word past.1,
          )
      | inr less ↦ omega (arith, less.1)
    ];
    passes = each_set (SaysSo terms.count kept.made) s.views pass w
        (record {
          leads = (kept.passes pass v at).leads;
          ends = All-cons (EndsOnce terms.count) _ [] (one_drawn terms.count (own_list v) kept.word unspent) (All-nil (EndsOnce terms.count));
        })
        (λ j u _ at_j. kept.passes j u at_j);
  },
  (
    (ap (with_number v) (sym number), subst (λ n. All (λ y. y < n) (own_list v)) (sym number) (drew_below v one kept.word least)),
    refl,
  ),
)
  where
    v : SeatView
    v = me.0

    w : SeatView
    w = with_number v kept.word

    number : slice_index s.words 0 ≡ kept.word
    number = ap (λ ws. slice_index ws 0) kept.words

    below : kept.word + 1 < 2 ^ 64
    below =
        let within = kept.within in
        let made = kept.seats in
        let made_few = kept.few in
        omega (arith, ended_few terms s.views, within, made, made_few, small, few)

    least : (x : ℕ) → draws_of x v ≤ once_below kept.word x
    least x = omega (arith, at_most_sum (draws_of x) s.views pass v at, kept.claimed x)

-- ---- a seat takes over the lists of another

pub merges : (terms : Terms) (pass : ℕ) (v : SeatView) (other : ℕ) (w : SeatView)
    → Joins (IsInTurn terms) pass v other w (record v { rows = v.rows ++ w.rows }) (seat_with [])
merges terms pass v other w s kept at apart at_other = record {
  word = kept.word;
  made = kept.made;
  words = kept.words;
  few = kept.few;
  seats = same lists (length-append v.rows w.rows) refl ∙ kept.seats;
  claimed = λ x. same (draws_of x) (sum_by-append (times x) v.rows w.rows) refl ∙ kept.claimed x;
  within =
      let before = kept.within in
      omega (arith, before, same (ended_lists terms.count) (sum_by-append (λ row. cond {A = ℕ} (has_end terms.count row) 1 0) v.rows w.rows) refl);
  passes = each_set (SaysSo terms.count kept.made) (set s.views pass both) other (seat_with [])
      (record { leads = λ none. cc; ends = All-nil (EndsOnce terms.count) })
      (λ j u _ at_j. each_set (SaysSo terms.count kept.made) s.views pass both
      (record {
        leads = (kept.passes pass v at).leads;
        ends = All-append (EndsOnce terms.count) v.rows w.rows (kept.passes pass v at).ends (kept.passes other w was).ends;
      })
      (λ i t _ at_i. kept.passes i t at_i) j u at_j);
}
  where
    both : SeatView
    both = record v { rows = v.rows ++ w.rows }

    was : get_elem? s.views other ≡ some w
    was = elim (at_set s.views pass other both w at_other) [
      | inl here ↦ absurd (apart here.0)
      | inr there ↦ there.1
    ]

    same : (f : SeatView → ℕ) → f both ≡ f v + f w → f (seat_with []) ≡ 0 → sum_by f (set (set s.views pass both) other (seat_with [])) ≡ sum_by f s.views
    same f is none = sum_joined f s.views pass other v w both (seat_with []) at at_other is none

-- ---- at the end

-- what is known of the word once a view has the lists of all seats
pub record Told (terms : Terms) (rows : List (List ℕ)) (word : ℕ) : Type 0 where
  pub claimed : (x : ℕ) → sum_by (times x) rows ≡ once_below word x
  pub few : word ≤ terms.count + terms.workers
  pub ends : All (EndsOnce terms.count) rows

pub tells : (terms : Terms) (words : List ℕ) (slots : List (Unit {0})) (pass : ℕ) (v : SeatView)
    → terms.workers ≤ length v.rows → Final (Seen (IsInTurn terms) pass v) words slots
    → (word : ℕ) × (words ≡ word ∷ []) × Told terms v.rows word
tells terms words slots pass v all_ final =
    let s : State (Unit {0}) SeatView = final.0 in
    let kept : IsInTurn terms s = final.1.0 in
    let at : get_elem? s.views pass ≡ some v = final.1.1 in
    let made = kept.seats in
    let few = kept.few in
    let within = kept.within in (
      kept.word,
      sym final.2 ∙ kept.words,
      record {
        claimed = λ x. sym (sum_of_one (draws_of x) lists (none_of x) s.views pass v at (omega (arith, made, few, all_))) ∙ kept.claimed x;
        few = omega (arith, ended_few terms s.views, within, made, few);
        ends = (kept.passes pass v at).ends;
      },
    )
  where
    none_of : (x : ℕ) (u : SeatView) → lists u ≡ 0 → draws_of x u ≡ 0
    none_of x u none = by u.rows none
      where
        by : (rows : List (List ℕ)) → length rows ≡ 0 → sum_by (times x) rows ≡ 0
        by [] none = refl
        by (row ∷ rows) none = absurd (omega (arith, none))
