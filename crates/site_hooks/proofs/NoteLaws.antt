-- What is noted of paths, node by node, is what they find.
use Rattle.std.proofs.Common.{◌≡◌, ◌⊎◌, ◌≢◌, ℕ, ◌<◌, ◌==◌, inl, inr, Bool, true, false, cond, List, [], length, get_or, Result, Ok, Err, refl, sym, ◌∙◌, ap, subst}
use Rattle.std.specs.Result.{OnOk}
use Rattle.std.proofs.lemmas.Bool.{cases_lt, eqb-true, eq-eqb}
use Rattle.std.proofs.lemmas.List.{get_or_past}
use Rattle.page_tree.specs.Tree.{Tree}
use Rattle.page_tree.specs.Limits.{nodes}
use Rattle.page_tree.specs.Number.{place_numbered}
use Rattle.page_tree.proofs.Numbers.{same_numbers}
use Rattle.xpath_child.specs.Path.{Step}
use Rattle.xpath_child.specs.Reaches.{Reaches, IsTarget}
use Rattle.xpath_child.specs.Targets.{target_in, place_found}
use Rattle.xpath_child.specs.declared.path.Found.{Found}
use Rattle.xpath_child.specs.declared.path.Found.TheVariants as found
use Rattle.xpath_child.specs.declared.path.Target.{Target}
use Rattle.xpath_child.specs.declared.path.Target.TheVariants.{Missing, One, Several}
use Rattle.xpath_child.proofs.Places.{target_in-is}
use Rattle.site_hooks.specs.Findings.{found_by, noted, IsReached, IsNoted, AreFound, Grows}
use Rattle.site_hooks.specs.declared.findings.Findings.{Findings}

pub on_ok : {X Y P Q : Type 0} (result : Result X Y) → (P → Q) → OnOk result P → OnOk result Q
on_ok (Ok x) f h = f h
on_ok (Err e) f h = h

-- ---- more is noted

pub grows_none : (page : Tree) (paths : List (List Step)) (findings : Findings) → Grows page paths findings findings
grows_none page paths findings = record { kept = λ number place h. h; right = λ was. was }

pub grows_more : (page : Tree) (paths : List (List Step)) (a b c : Findings) → Grows page paths a b → Grows page paths b c → Grows page paths a c
grows_more page paths a b c first second = record {
  kept = λ number place h. second.kept number place (first.kept number place h);
  right = λ was. second.right (first.right was);
}

-- ---- one node more

module _ (page : Tree) (at : ℕ) where
  now_there : (f : Found) → IsNoted page (noted at f) (place_numbered at page)
  now_there found.Missing = refl
  now_there (found.One number) = either (number == at) refl
    where
      either : (b : Bool) → (number == at) ≡ b → IsNoted page (cond b (found.One number) found.Several) (place_numbered at page)
      either true is = ap (λ n. place_numbered n page) (eqb-true number at is)
      either false is = tt
  now_there found.Several = tt

  stays_there : (f : Found) (place : List ℕ) → IsNoted page f place → IsNoted page (noted at f) place
  stays_there found.Missing place h = absurd h
  stays_there (found.One number) place h = either (number == at)
    where
      either : (b : Bool) → IsNoted page (cond b (found.One number) found.Several) place
      either true = h
      either false = tt
  stays_there found.Several place h = tt

  module _ (path : List Step) (within : at < nodes page) (reached : Reaches path page (place_numbered at page)) where
    still_reached : (f : Found) → IsReached page path f → IsReached page path (noted at f)
    still_reached found.Missing h = (within, reached)
    still_reached (found.One number) h = either (number == at) refl
      where
        other : (number == at) ≡ false → place_numbered number page ≢ place_numbered at page
        other differ = λ same.
            let clash : true ≡ false = sym (ap (λ n. n == at) (same_numbers number at page h.0 within same) ∙ eq-eqb at at refl) ∙ differ in cc

        either : (b : Bool) → (number == at) ≡ b → IsReached page path (cond b (found.One number) found.Several)
        either true is = h
        either false is = (place_numbered number page, place_numbered at page, other is, h.1, reached)
    still_reached found.Several h = h

-- of each path nothing more was noted, or that node, which it reaches
pub each_grows : (page : Tree) (paths : List (List Step)) (old new : Findings) (at : ℕ) → at < nodes page
    → ((number : ℕ) → (found_by new number ≡ found_by old number)
    ⊎ ((found_by new number ≡ noted at (found_by old number)) × Reaches (get_or paths number []) page (place_numbered at page)))
    → Grows page paths old new
each_grows page paths old new at within each = record {
  kept = λ number place h. elim (each number) [
    | inl same ↦ subst (λ f. IsNoted page f place) (sym same) h
    | inr more ↦ subst (λ f. IsNoted page f place) (sym more.0) (stays_there page at (found_by old number) place h)
  ];
  right = λ was number. elim (each number) [
    | inl same ↦ subst (IsReached page (get_or paths number [])) (sym same) (was number)
    | inr more ↦ subst (IsReached page (get_or paths number [])) (sym more.0) (still_reached page at (get_or paths number []) within more.1 (found_by old number) (was number))
  ];
}

-- it was noted, or there is nothing more to note
pub noted_there : (page : Tree) (at : ℕ) (old new : Found) → ((new ≡ found.Several) ⊎ (new ≡ noted at old)) → IsNoted page new (place_numbered at page)
noted_there page at old new h = elim h [
  | inl several ↦ subst (λ f. IsNoted page f (place_numbered at page)) (sym several) tt
  | inr more ↦ subst (λ f. IsNoted page f (place_numbered at page)) (sym more) (now_there page at old)
]

-- ---- all is noted

-- a path has one target
one_target : (path : List Step) (page : Tree) (a b : Target) → IsTarget path page a → IsTarget path page b → a ≡ b
one_target path page Missing Missing h k = refl
one_target path page Missing (One place) h k = absurd (h place k.0)
one_target path page Missing Several h k = absurd (h k.0 k.3)
one_target path page (One place) Missing h k = absurd (k place h.0)
one_target path page (One place) (One other) h k = ap One (k.1 place h.0)
one_target path page (One place) Several h k = absurd (k.2 (h.1 k.0 k.3 ∙ sym (h.1 k.1 k.4)))
one_target path page Several Missing h k = absurd (k h.0 h.3)
one_target path page Several (One place) h k = absurd (h.2 (k.1 h.0 h.3 ∙ sym (k.1 h.1 h.4)))
one_target path page Several Several h k = refl

-- what was noted, where each place was that the path reaches
is_target : (path : List Step) (page : Tree) (f : Found) → IsReached page path f → ((place : List ℕ) → Reaches path page place → IsNoted page f place) → IsTarget path page (place_found page f)
is_target path page found.Missing right every = every
is_target path page (found.One number) right every = (right.1, λ other reached. sym (every other reached))
is_target path page found.Several right every = right

pub are_found : (page : Tree) (paths : List (List Step)) (findings : Findings) → ((number : ℕ) → IsReached page (get_or paths number []) (found_by findings number))
    → ((number : ℕ) (place : List ℕ) → number < length paths → Reaches (get_or paths number []) page place → IsNoted page (found_by findings number) place) → AreFound page paths findings
are_found page paths findings right every number =
    one_target path page (place_found page (found_by findings number)) (target_in path page) (is_target path page (found_by findings number) (right number) each) (target_in-is path page)
  where
    path : List Step
    path = get_or paths number []

    each : (place : List ℕ) → Reaches path page place → IsNoted page (found_by findings number) place
    each place reached = elim (cases_lt number (length paths)) [
      | inl less ↦ every number place less reached
      | inr past ↦ absurd (subst (λ p. Reaches p page place) (get_or_past paths number [] past) reached)
    ]

-- from nothing noted
pub none_reached : (page : Tree) (paths : List (List Step)) (findings : Findings) → ((number : ℕ) → found_by findings number ≡ found.Missing) → (number : ℕ) → IsReached page (get_or paths number []) (found_by findings number)
none_reached page paths findings none number = subst (IsReached page (get_or paths number [])) (sym (none number)) tt
