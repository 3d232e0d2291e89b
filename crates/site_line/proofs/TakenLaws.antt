-- Whether a member is taken, by what its reader answers.
use Rattle.std.proofs.Common.{◌≡◌, ◌≢◌, ℕ, ◌≤◌, List, length, Bool, true, false, ◌&&◌, nat_le, Option, Some, None, is_some, option_map, Result, Ok, Err, IfOk, IfErr, MatchResult, refl, sym, ap, ◌∙◌, arith}
use Rattle.std.proofs.lemmas.Bool.Decides.{nat_tests}
use Rattle.std.specs.declared.alloc.AllocError.{AllocError}
use Rattle.site_line.specs.Refused.{is_few, is_within}
use Rattle.site_line.specs.Site.{AreFewNames, max_fresh}
use Rattle.site_line.specs.inside.{FailsWhere, GivesSite}
use Rattle.site_line.specs.declared.fault.SiteFault.{SiteFault}
use Rattle.site_line.specs.declared.fault.SiteFault.TheVariants.{NotJson, BadMember, NoMemory}

abbrev pub IsTaken : {X : Type 0} → Result X SiteFault → Result Bool AllocError → Type 0
IsTaken read told = MatchResult read (λ _. IfOk told (λ taken. taken ≡ true)) (λ fault. IfOk told (λ taken. (taken ≡ false) × (fault ≢ NoMemory)))

-- the test holds where it was read, and where it was refused it doesn't
pub told_by : {X : Type 0} (read : Result X SiteFault) (told : Result Bool AllocError) (test : Bool) → IfOk read (λ _. test ≡ true) → IfErr read (FailsWhere (test ≡ false)) → IsTaken read told
    → IfOk told (λ taken. taken ≡ test)
told_by read (Err e) test ok fails is = tt
told_by (Ok x) (Ok taken) test ok fails is = is ∙ sym ok
told_by (Err NotJson) (Ok taken) test ok fails is = absurd fails
told_by (Err BadMember) (Ok taken) test ok fails is = is.0 ∙ sym fails
told_by (Err NoMemory) (Ok taken) test ok fails is = absurd (is.1 refl)

pub given_taken : {X Y : Type 0} (view : X → Y) (read : Result X SiteFault) (found : Option Y) (told : Result Bool AllocError) → GivesSite view read found → IsTaken read told
    → IfOk told (λ taken. taken ≡ is_some found)
given_taken view (Ok x) found told gives is = told_by (Ok x) told (is_some found) (ap is_some gives) tt is
given_taken view (Err NotJson) found told gives is = absurd gives
given_taken {X} view (Err BadMember) found told gives is = told_by {X = X} (Err BadMember) told (is_some found) tt (ap is_some gives) is
given_taken {X} view (Err NoMemory) found told gives is = told_by {X = X} (Err NoMemory) told (is_some found) tt tt is

pub found_taken : {X A : Type 0} (read : Result X SiteFault) (found : Option A) (told : Result Bool AllocError) → IfOk read (λ _. is_some found ≡ true) → IfErr read (FailsWhere (found ≡ None))
    → IsTaken read told → IfOk told (λ taken. taken ≡ is_some found)
found_taken (Ok x) found told ok fails is = told_by (Ok x) told (is_some found) ok tt is
found_taken (Err NotJson) found told ok fails is = absurd fails
found_taken {X} (Err BadMember) found told ok fails is = told_by {X = X} (Err BadMember) told (is_some found) tt (ap is_some fails) is
found_taken {X} (Err NoMemory) found told ok fails is = told_by {X = X} (Err NoMemory) told (is_some found) tt tt is

pub some_if : {A B : Type 0} (f : A → B) (found : Option A) (y : B) → option_map f found ≡ Some y → is_some found ≡ true
some_if f None y is = cc
some_if f (Some x) y is = refl

-- ---- a number within its range

in_range : (most : ℕ) (found : Option ℕ) (n : ℕ) → found ≡ Some n → 1 ≤ n → n ≤ most → is_within most found ≡ true
in_range most found n is some few = rw is (grind (arith, nat_tests))

past_range : (most : ℕ) (found : Option ℕ) → ((n : ℕ) → found ≡ Some n → 1 ≤ n → n ≤ most → ⊥) → is_within most found ≡ false
past_range most None never = refl
past_range most (Some n) never = let not_both : 1 ≤ n → n ≤ most → ⊥ = never n refl in grind (arith, nat_tests, not_both)

weaker : (fault : SiteFault) (P Q : Type 0) → (P → Q) → FailsWhere P fault → FailsWhere Q fault
weaker NotJson P Q then fails = fails
weaker BadMember P Q then fails = then fails
weaker NoMemory P Q then fails = fails

pub number_taken : (most : ℕ) (Within : ℕ → Type 0) → ((n : ℕ) → Within n → (1 ≤ n) × (n ≤ most)) → ((n : ℕ) → 1 ≤ n → n ≤ most → Within n)
    → (read : Result ℕ SiteFault) (found : Option ℕ) (told : Result Bool AllocError) → IfOk read (λ n. (found ≡ Some n) × Within n)
    → IfErr read (FailsWhere ((n : ℕ) → found ≡ Some n → Within n → ⊥)) → IsTaken read told → IfOk told (λ taken. taken ≡ is_within most found)
number_taken most Within from to (Ok n) found told ok fails is = told_by (Ok n) told (is_within most found) (in_range most found n ok.0 (from n ok.1).0 (from n ok.1).1) tt is
number_taken most Within from to (Err fault) found told ok fails is =
    told_by {X = ℕ} (Err fault) told (is_within most found) tt (weaker fault _ (is_within most found ≡ false) (λ never. past_range most found (λ n same some few. never n same (to n some few))) fails) is

-- ---- names that may be fresh

few_in : (found : Option (Option (List (List ℕ)))) (same : Option (List (List ℕ))) → found ≡ Some same → AreFewNames same → is_few found ≡ true
few_in found None is few = rw is refl
few_in found (Some names) is few = let most : length names ≤ max_fresh = few in rw is (grind (arith, nat_tests))

not_few : (found : Option (Option (List (List ℕ)))) → ((same : Option (List (List ℕ))) → found ≡ Some same → AreFewNames same → ⊥) → is_few found ≡ false
not_few None never = refl
not_few (Some None) never = absurd (never None refl tt)
not_few (Some (Some names)) never = let too_many : length names ≤ max_fresh → ⊥ = never (Some names) refl in grind (arith, nat_tests, too_many)

pub names_taken : {X : Type 0} (view : X → Option (List (List ℕ))) (read : Result X SiteFault) (found : Option (Option (List (List ℕ)))) (told : Result Bool AllocError)
    → IfOk read (λ x. (found ≡ Some (view x)) × AreFewNames (view x))
    → IfErr read (FailsWhere ((same : Option (List (List ℕ))) → found ≡ Some same → AreFewNames same → ⊥)) → IsTaken read told → IfOk told (λ taken. taken ≡ is_few found)
names_taken view (Ok x) found told ok fails is = told_by (Ok x) told (is_few found) (few_in found (view x) ok.0 ok.1) tt is
names_taken {X} view (Err fault) found told ok fails is =
    told_by {X = X} (Err fault) told (is_few found) tt (weaker fault _ (is_few found ≡ false) (λ never. not_few found never) fails) is
