-- Visits in another order, and what they give by their numbers.
use Rattle.std.proofs.Common.{◌≡◌, ◌≢◌, ℕ, ◌+◌, ◌<◌, ◌≤◌, ◌==◌, List, [], ◌∷◌, ◌++◌, length, map, zip, cond, All, Option, Some, get_or, slice_get, inl, inr, refl, sym, ap, subst, ◌∙◌, arith}
use Rattle.std.specs.Borrow.{Bor}
use Rattle.std.specs.List.Sorted.{IsPermutation}
use Rattle.std.proofs.lemmas.Bool.{cases_lt}
use Rattle.std.proofs.lemmas.Bool.Decides.{eqb_tells}
use Rattle.std.proofs.lemmas.List.{length-append, length-map, map-append}
use Rattle.std.proofs.lemmas.List.Elements.{All-push, All-map, All-weaker, All-cons, All-head, All-tail}
use Rattle.std.proofs.lemmas.List.Sorted.{All-permutation, sum_by-IsPermutation}
use Rattle.std.proofs.lemmas.Option.{slice_get_within, slice_get-get_or}
use Rattle.page_tree.specs.Tree.{Tree}
use Rattle.client_log.specs.declared.visit.Visit.{Visit}
use Rattle.visit_replay.specs.Outcome.{outcome}
use Rattle.visit_replay.specs.RepairedSite.{RepairedSite}
use Rattle.visit_replay.specs.declared.outcome.Outcome.{Outcome}
use Rattle.visit_replay.proofs.Places.{map_at, same_places}
use Rattle.replay_workers.proofs.Lists.{once_at, sum-map}
use Rattle.replay_workers.proofs.OwnPages.{page_count, page_outcome_there}
use Rattle.replay_workers.proofs.Placing.{times_push}
use Rattle.replay_workers.specs.Draws.{times}
use Rattle.replay_workers.specs.Work.{with_own_page, own_page_outcomes, done_numbers, AreOf}
use Rattle.replay_workers.specs.inside.Clients.{page_at}
use Rattle.replay_workers.specs.inside.Ordered.{AreAll, as_done}
use Rattle.replay_workers.specs.inside.Shares.{PlacesThese}
use Rattle.replay_workers.specs.declared.in_order.Numbered.{Numbered}
use Rattle.replay_workers.specs.declared.share.Done.{Done}

abbrev pub numbers : List Numbered → List ℕ
numbers all = map (λ one. one.number) all

-- ---- one after another

below_or : (k x : ℕ) → x < k + 1 → k ≢ x → x < k
below_or k x less other = elim (cases_lt x k) [
  | inl before ↦ before
  | inr from ↦ absurd (other (omega (arith, less, from)))
]

pub record IsFront (visits : List (Bor Visit)) (k : ℕ) (all : List Numbered) : Type 0 where
  pub count : length all ≡ k
  pub each : All (λ one. slice_get (map (λ visit. visit.now) visits) one.number ≡ Some one.visit.now) all
  pub there : (x : ℕ) → x < k → 1 ≤ times x (numbers all)

pub no_front : (visits : List (Bor Visit)) (all : List Numbered) → all ≡ [] → IsFront visits 0 all
no_front visits all none = record {
  count = ap length none;
  each = λ k d within. absurd (omega (arith, within, ap length none));
  there = λ x below. absurd (omega (arith, below));
}

pub next_front : (visits : List (Bor Visit)) (k : ℕ) (all : List Numbered) (visit : Bor Visit) → IsFront visits k all → k < length visits → visit ≡ get_or visits k visit
    → IsFront visits (k + 1) (all ++ record { number = k; visit = visit } ∷ [])
next_front visits k all visit front below is = record {
  count = omega (arith, length-append all (one ∷ []), front.count);
  each = All-push (λ (o : Numbered). slice_get (map (λ visit. visit.now) visits) o.number ≡ Some o.visit.now) all one front.each
      (map_at (λ visit. visit.now) visits k visit (slice_get-get_or visits k visit below ∙ ap (λ v. Some v) (sym is)));
  there = λ x less.
      let split = ap (times x) (map-append (λ (o : Numbered). o.number) all (one ∷ [])) ∙ times_push x (numbers all) k in
      elim (eqb_tells k x) [
        | inl same ↦ let here = once_at k x same.1 in omega (arith, split, here)
        | inr other ↦
            let earlier = front.there x (below_or k x less other.1) in
            omega (arith, split, earlier)
      ];
}
  where
    one : Numbered
    one = record { number = k; visit = visit }

-- ---- in any order

pub all_sorted : (visits : List (Bor Visit)) (all sorted : List Numbered) → IsFront visits (length visits) all → IsPermutation all sorted → length sorted ≡ length all
    → AreAll (map (λ visit. visit.now) visits) sorted
all_sorted visits all sorted front moved size = record {
  count = omega (arith, size, front.count, length-map visits (λ (visit : Bor Visit). visit.now));
  each = All-permutation (λ (o : Numbered). slice_get (map (λ visit. visit.now) visits) o.number ≡ Some o.visit.now) all sorted moved front.each;
  there = λ x below.
      let some = front.there x (omega (arith, below, length-map visits (λ (visit : Bor Visit). visit.now))) in
      let before = sum-map (λ y. cond {A = ℕ} (y == x) 1 0) (λ (o : Numbered). o.number) all in
      let behind = sum-map (λ y. cond {A = ℕ} (y == x) 1 0) (λ (o : Numbered). o.number) sorted in
      let same = sum_by-IsPermutation (λ (o : Numbered). cond {A = ℕ} (o.number == x) 1 0) all sorted moved in
      omega (arith, some, before, behind, same);
}

-- ---- by their numbers again

module _ (site : RepairedSite) (pages : List (Option Tree)) where
  -- what each gives, on its own page where it has one
  abbrev gives : Numbered → Done
  gives one = record { number = one.number; outcome = outcome (with_own_page site (page_at pages one.number)) one.visit.now }

  done_is : (all : List Numbered) → map as_done (zip all (own_page_outcomes site (map (λ one. page_at pages one.number) all) (map (λ one. one.visit.now) all))) ≡ map gives all
  done_is [] = refl
  done_is (one ∷ all) = ap (λ rest. gives one ∷ rest) (done_is all)

  done_numbers_are : (all : List Numbered) → map (λ (d : Done). d.number) (map gives all) ≡ numbers all
  done_numbers_are [] = refl
  done_numbers_are (one ∷ all) = ap (λ rest. one.number ∷ rest) (done_numbers_are all)

pub done_within : (n : ℕ) (all : List Numbered) (own : List Outcome) → All (λ one. one.number < n) all → All (λ d. d.number < n) (map as_done (zip all own))
done_within n [] own within = λ k d below. absurd (omega (arith, below))
done_within n (one ∷ all) [] within = λ k d below. absurd (omega (arith, below))
done_within n (one ∷ all) (out ∷ own) within =
    All-cons (λ (d : Done). d.number < n) (as_done (one, out)) (map as_done (zip all own)) (All-head (λ (o : Numbered). o.number < n) one all within)
    (done_within n all own (All-tail (λ (o : Numbered). o.number < n) one all within))

pub numbers_within : (visits : List Visit) (n : ℕ) (all : List Numbered) → length visits ≡ n → All (λ one. slice_get visits one.number ≡ Some one.visit.now) all
    → All (λ one. one.number < n) all
numbers_within visits n all size =
    All-weaker (λ (one : Numbered). slice_get visits one.number ≡ Some one.visit.now) (λ one. one.number < n)
    (λ one at. let within = slice_get_within visits one.number one.visit.now at in omega (arith, within, size)) all

pub placed_again : (site : RepairedSite) (pages : List (Option Tree)) (visits : List Visit) (all : List Numbered) (own before after : List Outcome) → AreAll visits all
    → own ≡ own_page_outcomes site (map (λ one. page_at pages one.number) all) (map (λ one. one.visit.now) all) → PlacesThese (map as_done (zip all own)) before after → length after ≡ length visits
    → after ≡ own_page_outcomes site pages visits
placed_again site pages visits all own before after are is placed size =
    same_places after (own_page_outcomes site pages visits) (size ∙ sym (page_count site pages visits)) (λ x below.
    let there : 1 ≤ times x (numbers all) = are.there x (omega (arith, below, size)) in
    let comes : 1 ≤ times x (done_numbers made) = subst (λ ns. 1 ≤ times x ns) (sym (done_numbers_are site pages all)) there in
    let these : PlacesThese made before after = subst (λ them. PlacesThese them before after) done placed in
    these (own_page_outcomes site pages visits) x right (inr comes))
  where
    made : List Done
    made = map (gives site pages) all

    done : map as_done (zip all own) ≡ made
    done = ap (λ o. map as_done (zip all o)) is ∙ done_is site pages all

    right : AreOf (own_page_outcomes site pages visits) made
    right = All-map (λ (d : Done). slice_get (own_page_outcomes site pages visits) d.number ≡ Some d.outcome) (gives site pages) all
        (All-weaker (λ (one : Numbered). slice_get visits one.number ≡ Some one.visit.now) _
        (λ one at. page_outcome_there site pages visits one.number one.visit.now at) all are.each)
