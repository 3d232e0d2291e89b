-- Entries of clients, as others are put among them.
use Rattle.std.proofs.Common.{◌≡◌, ℕ, List, [], ◌∷◌, map, bytes_eq, Bool, true, false, cond, ◌||◌, if◌then◌else◌, Some, None, refl, sym, ap, subst, ◌∙◌, true≢false}
use Rattle.std.specs.List.{AllByRecursion, IsDistinct, list_any}
use Rattle.std.specs.Map.{keys_of, values_of, lookup}
use Rattle.std.proofs.lemmas.Bool.{cond-true, cond-false}
use Rattle.std.proofs.lemmas.Slice.Eq.{bytes_eq-Decides}
use Rattle.indexmap.specs.IndexMap.{insert_entry, insert_all}

same_client : (client key : List ℕ) → bytes_eq client key ≡ true → client ≡ key
same_client client key is = (bytes_eq-Decides client key).0 is

pub itself : (client : List ℕ) → bytes_eq client client ≡ true
itself client = (bytes_eq-Decides client client).1 refl

-- ---- truth values

or_other : (a b : Bool) → (a || b) ≡ true → a ≡ false → b ≡ true
or_other true b either none = absurd (true≢false none)
or_other false b either none = either

or_goes : (a b c : Bool) → (a || b) ≡ true → (b ≡ true → c ≡ true) → (a || c) ≡ true
or_goes true b c either goes = refl
or_goes false b c either goes = goes either

or_none : (a b : Bool) → (a || b) ≡ false → (a ≡ false) × (b ≡ false)
or_none false b none = (refl, none)
or_none true b none = absurd (true≢false none)

abbrev pub Entries : Type 0 → Type 0
Entries X = List (List ℕ × X)

-- the client is among the keys of these
abbrev pub HasKey : {X : Type 0} → List ℕ → List (List ℕ × X) → Type 0
HasKey client es = list_any (bytes_eq client) (keys_of es) ≡ true

module _ {X : Type 0} where
  -- ---- one entry

  put_here : (e : List ℕ × X) (es : Entries X) (k : List ℕ) (v : X) (b : Bool) → bytes_eq k e.0 ≡ b
      → insert_entry bytes_eq (e ∷ es) k v ≡ (if b then (e.0, v) ∷ es else e ∷ insert_entry bytes_eq es k v)
  put_here e es k v b is = ap (λ c. if c then (e.0, v) ∷ es else e ∷ insert_entry bytes_eq es k v) is

  twice_by : (e : List ℕ × X) (es : Entries X) (k : List ℕ) (v w : X) (b : Bool) → bytes_eq k e.0 ≡ b → insert_entry bytes_eq (insert_entry bytes_eq es k v) k w ≡ insert_entry bytes_eq es k w
      → insert_entry bytes_eq (if b then (e.0, v) ∷ es else e ∷ insert_entry bytes_eq es k v) k w ≡ (if b then (e.0, w) ∷ es else e ∷ insert_entry bytes_eq es k w)
  twice_by e es k v w true is rest = put_here (e.0, v) es k w true is
  twice_by e es k v w false is rest = put_here e (insert_entry bytes_eq es k v) k w false is ∙ ap (λ l. e ∷ l) rest

  put_twice : (es : Entries X) (k : List ℕ) (v w : X) → insert_entry bytes_eq (insert_entry bytes_eq es k v) k w ≡ insert_entry bytes_eq es k w
  put_twice [] k v w = put_here (k, v) [] k w true (itself k)
  put_twice (e ∷ es) k v w = twice_by e es k v w (bytes_eq k e.0) refl (put_twice es k v w)

  swap_by : (e : List ℕ × X) (es : Entries X) (k q : List ℕ) (v w : X) (a b : Bool) → bytes_eq k e.0 ≡ a → bytes_eq q e.0 ≡ b → (a ≡ true → b ≡ true → ⊥)
      → (a ≡ false → insert_entry bytes_eq (insert_entry bytes_eq es k v) q w ≡ insert_entry bytes_eq (insert_entry bytes_eq es q w) k v)
      → insert_entry bytes_eq (if a then (e.0, v) ∷ es else e ∷ insert_entry bytes_eq es k v) q w ≡ insert_entry bytes_eq (if b then (e.0, w) ∷ es else e ∷ insert_entry bytes_eq es q w) k v
  swap_by e es k q v w true true own other both rest = absurd (both refl refl)
  swap_by e es k q v w true false own other both rest = put_here (e.0, v) es q w false other ∙ sym (put_here e (insert_entry bytes_eq es q w) k v true own)
  swap_by e es k q v w false true own other both rest = put_here e (insert_entry bytes_eq es k v) q w true other ∙ sym (put_here (e.0, w) es k v false own)
  swap_by e es k q v w false false own other both rest =
      put_here e (insert_entry bytes_eq es k v) q w false other ∙ ap (λ l. e ∷ l) (rest refl) ∙ sym (put_here e (insert_entry bytes_eq es q w) k v false own)

  -- one that is there, and one of another client
  put_swap : (es : Entries X) (k q : List ℕ) (v w : X) → bytes_eq k q ≡ false → HasKey k es
      → insert_entry bytes_eq (insert_entry bytes_eq es k v) q w ≡ insert_entry bytes_eq (insert_entry bytes_eq es q w) k v
  put_swap [] k q v w apart has = absurd (true≢false (sym has))
  put_swap (e ∷ es) k q v w apart has =
      swap_by e es k q v w (bytes_eq k e.0) (bytes_eq q e.0) refl refl (λ own other. true≢false (sym (ap (bytes_eq k) (same_client q e.0 other) ∙ own) ∙ apart))
      (λ none. put_swap es k q v w apart (or_other _ _ has none))

  has_by : (client : List ℕ) (e : List ℕ × X) (es : Entries X) (k : List ℕ) (v : X) (b : Bool) → HasKey client (e ∷ es) → (HasKey client es → HasKey client (insert_entry bytes_eq es k v))
      → HasKey client (if b then (e.0, v) ∷ es else e ∷ insert_entry bytes_eq es k v)
  has_by client e es k v true has rest = has
  has_by client e es k v false has rest = or_goes _ _ _ has rest

  has_put : (client : List ℕ) (es : Entries X) (k : List ℕ) (v : X) → HasKey client es → HasKey client (insert_entry bytes_eq es k v)
  has_put client [] k v has = absurd (true≢false (sym has))
  has_put client (e ∷ es) k v has = has_by client e es k v (bytes_eq k e.0) has (has_put client es k v)

  -- ---- many entries

  over_by : (es : Entries X) (x : List ℕ × X) (xs : Entries X) (k : List ℕ) (v : X) (b : Bool) → bytes_eq k x.0 ≡ b → HasKey k es
      → (b ≡ false → insert_all bytes_eq (insert_entry bytes_eq (insert_entry bytes_eq es x.0 x.1) k v) xs ≡ insert_all bytes_eq (insert_entry bytes_eq es x.0 x.1) xs)
      → insert_all bytes_eq (insert_entry bytes_eq (insert_entry bytes_eq es k v) x.0 x.1) xs ≡ insert_all bytes_eq (insert_entry bytes_eq es x.0 x.1) xs
  over_by es x xs k v true is has rest =
      ap (λ l. insert_all bytes_eq l xs) (subst (λ q. insert_entry bytes_eq (insert_entry bytes_eq es k v) q x.1 ≡ insert_entry bytes_eq es q x.1) (same_client k x.0 is) (put_twice es k v x.1))
  over_by es x xs k v false is has rest = ap (λ l. insert_all bytes_eq l xs) (put_swap es k x.0 v x.1 is has) ∙ rest refl

  -- what stands for a client that is there is overwritten
  pub put_over : (es xs : Entries X) (k : List ℕ) (v : X) → HasKey k es → HasKey k xs → insert_all bytes_eq (insert_entry bytes_eq es k v) xs ≡ insert_all bytes_eq es xs
  put_over es [] k v has also = absurd (true≢false (sym also))
  put_over es (x ∷ xs) k v has also =
      over_by es x xs k v (bytes_eq k x.0) refl has (λ none. put_over (insert_entry bytes_eq es x.0 x.1) xs k v (has_put k es x.0 x.1 has) (or_other _ _ also none))

  -- ---- what holds of all

  all_put_by : (P : List ℕ × X → Type 0) (e : List ℕ × X) (es : Entries X) (k : List ℕ) (v : X) (b : Bool) → bytes_eq k e.0 ≡ b → P (k, v) → P e → AllByRecursion P es → AllByRecursion P (insert_entry bytes_eq es k v)
      → AllByRecursion P (if b then (e.0, v) ∷ es else e ∷ insert_entry bytes_eq es k v)
  all_put_by P e es k v true is own here all rest = (subst (λ q. P (q, v)) (same_client k e.0 is) own, all)
  all_put_by P e es k v false is own here all rest = (here, rest)

  all_put : (P : List ℕ × X → Type 0) (es : Entries X) (k : List ℕ) (v : X) → P (k, v) → AllByRecursion P es → AllByRecursion P (insert_entry bytes_eq es k v)
  all_put P [] k v own all = (own, tt)
  all_put P (e ∷ es) k v own all = all_put_by P e es k v (bytes_eq k e.0) refl own all.0 all.1 (all_put P es k v own all.1)

  pub all_among : (P : List ℕ × X → Type 0) (es xs : Entries X) → AllByRecursion P es → AllByRecursion P xs → AllByRecursion P (insert_all bytes_eq es xs)
  all_among P es [] all own = all
  all_among P es (x ∷ xs) all own = all_among P (insert_entry bytes_eq es x.0 x.1) xs (all_put P es x.0 x.1 own.0 all) own.1

  -- ---- what is found of a client

  found_by : (e : List ℕ × X) (es : Entries X) (k q : List ℕ) (v : X) (b : Bool) → bytes_eq k e.0 ≡ b → bytes_eq q k ≡ false → lookup (bytes_eq q) (insert_entry bytes_eq es k v) ≡ lookup (bytes_eq q) es
      → lookup (bytes_eq q) (if b then (e.0, v) ∷ es else e ∷ insert_entry bytes_eq es k v) ≡ lookup (bytes_eq q) (e ∷ es)
  found_by e es k q v true is apart rest =
      let other : bytes_eq q e.0 ≡ false = ap (bytes_eq q) (sym (same_client k e.0 is)) ∙ apart in
      cond-false (bytes_eq q e.0) (Some v) (lookup (bytes_eq q) es) other ∙ sym (cond-false (bytes_eq q e.0) (Some e.1) (lookup (bytes_eq q) es) other)
  found_by e es k q v false is apart rest = ap (cond (bytes_eq q e.0) (Some e.1)) rest

  -- another client's entry stays
  found_still : (es : Entries X) (k q : List ℕ) (v : X) → bytes_eq q k ≡ false → lookup (bytes_eq q) (insert_entry bytes_eq es k v) ≡ lookup (bytes_eq q) es
  found_still [] k q v apart = cond-false (bytes_eq q k) (Some v) None apart
  found_still (e ∷ es) k q v apart = found_by e es k q v (bytes_eq k e.0) refl apart (found_still es k q v apart)

  own_by : (e : List ℕ × X) (es : Entries X) (k : List ℕ) (v : X) (b : Bool) → bytes_eq k e.0 ≡ b → lookup (bytes_eq k) (insert_entry bytes_eq es k v) ≡ Some v
      → lookup (bytes_eq k) (if b then (e.0, v) ∷ es else e ∷ insert_entry bytes_eq es k v) ≡ Some v
  own_by e es k v true is rest = cond-true (bytes_eq k e.0) (Some v) (lookup (bytes_eq k) es) is
  own_by e es k v false is rest = cond-false (bytes_eq k e.0) (Some e.1) (lookup (bytes_eq k) (insert_entry bytes_eq es k v)) is ∙ rest

  own_found : (es : Entries X) (k : List ℕ) (v : X) → lookup (bytes_eq k) (insert_entry bytes_eq es k v) ≡ Some v
  own_found [] k v = cond-true (bytes_eq k k) (Some v) None (itself k)
  own_found (e ∷ es) k v = own_by e es k v (bytes_eq k e.0) refl (own_found es k v)

  found_behind : (es xs : Entries X) (q : List ℕ) → AllByRecursion (λ key. bytes_eq q key ≡ false) (keys_of xs) → lookup (bytes_eq q) (insert_all bytes_eq es xs) ≡ lookup (bytes_eq q) es
  found_behind es [] q apart = refl
  found_behind es (x ∷ xs) q apart = found_behind (insert_entry bytes_eq es x.0 x.1) xs q apart.1 ∙ found_still es x.0 q x.1 apart.0

  -- each of those that were put is found, where no two are of one client
  pub all_found : (es xs : Entries X) → IsDistinct bytes_eq (keys_of xs) → AllByRecursion (λ x. lookup (bytes_eq x.0) (insert_all bytes_eq es xs) ≡ Some x.1) xs
  unfolding IsDistinct
  all_found es [] apart = tt
  all_found es (x ∷ xs) apart = (found_behind (insert_entry bytes_eq es x.0 x.1) xs x.0 apart.0 ∙ own_found es x.0 x.1, all_found (insert_entry bytes_eq es x.0 x.1) xs apart.1)

  -- ---- whether one passes

  module _ (test : X → Bool) where
    any_by : (e : List ℕ × X) (es : Entries X) (k : List ℕ) (v : X) (b : Bool) → cond b (Some e.1) (lookup (bytes_eq k) es) ≡ Some v → test v ≡ true
        → (lookup (bytes_eq k) es ≡ Some v → list_any test (values_of es) ≡ true) → (test e.1 || list_any test (values_of es)) ≡ true
    any_by e es k v true found passes rest = let same : e.1 ≡ v = cc in ap (λ x. test x || list_any test (values_of es)) same ∙ ap (λ b. b || list_any test (values_of es)) passes
    any_by e es k v false found passes rest = ap (λ b. test e.1 || b) (rest found) ∙ or_true (test e.1)
      where
        or_true : (a : Bool) → (a || true) ≡ true
        or_true true = refl
        or_true false = refl

    any_found : (es : Entries X) (k : List ℕ) (v : X) → lookup (bytes_eq k) es ≡ Some v → test v ≡ true → list_any test (values_of es) ≡ true
    any_found [] k v found passes = cc
    any_found (e ∷ es) k v found passes = any_by e es k v (bytes_eq k e.0) found passes (λ deeper. any_found es k v deeper passes)

    any_of_found : (all xs : Entries X) → AllByRecursion (λ x. lookup (bytes_eq x.0) all ≡ Some x.1) xs → list_any test (values_of xs) ≡ true → list_any test (values_of all) ≡ true
    any_of_found all [] found passes = absurd (true≢false (sym passes))
    any_of_found all (x ∷ xs) found passes = by (test x.1) refl (any_of_found all xs found.1)
      where
        by : (b : Bool) → test x.1 ≡ b → (list_any test (values_of xs) ≡ true → list_any test (values_of all) ≡ true) → list_any test (values_of all) ≡ true
        by true is rest = any_found all x.0 x.1 found.0 is
        by false is rest = rest (or_other (test x.1) _ passes is)

    none_of : (es : Entries X) → AllByRecursion (λ e. test e.1 ≡ false) es → list_any test (values_of es) ≡ false
    none_of [] none = refl
    none_of (e ∷ es) none = ap (λ b. b || list_any test (values_of es)) none.0 ∙ none_of es none.1

    all_fail : (es : Entries X) → list_any test (values_of es) ≡ false → AllByRecursion (λ e. test e.1 ≡ false) es
    all_fail [] none = tt
    all_fail (e ∷ es) none = let (one, rest) = or_none _ _ none in (one, all_fail es rest)

    -- one passes just where one of those that were put does
    pub any_among : (es xs : Entries X) → AllByRecursion (λ e. test e.1 ≡ false) es → IsDistinct bytes_eq (keys_of xs) → list_any test (values_of (insert_all bytes_eq es xs)) ≡ list_any test (values_of xs)
    any_among es xs none apart = by (list_any test (values_of xs)) refl
      where
        by : (b : Bool) → list_any test (values_of xs) ≡ b → list_any test (values_of (insert_all bytes_eq es xs)) ≡ b
        by true is = any_of_found (insert_all bytes_eq es xs) xs (all_found es xs apart) is
        by false is = none_of (insert_all bytes_eq es xs) (all_among (λ e. test e.1 ≡ false) es xs none (all_fail xs is))

-- ---- other values in their places

module _ {X Y : Type 0} (f : X → Y) where
  abbrev pub mapped : Entries X → Entries Y
  mapped es = map (λ e. (e.0, f e.1)) es

  mapped_by : (e : List ℕ × X) (es : Entries X) (k : List ℕ) (v : X) (b : Bool) → mapped (insert_entry bytes_eq es k v) ≡ insert_entry bytes_eq (mapped es) k (f v)
      → mapped (if b then (e.0, v) ∷ es else e ∷ insert_entry bytes_eq es k v) ≡ (if b then (e.0, f v) ∷ mapped es else (e.0, f e.1) ∷ insert_entry bytes_eq (mapped es) k (f v))
  mapped_by e es k v true rest = refl
  mapped_by e es k v false rest = ap (λ l. (e.0, f e.1) ∷ l) rest

  mapped_put : (es : Entries X) (k : List ℕ) (v : X) → mapped (insert_entry bytes_eq es k v) ≡ insert_entry bytes_eq (mapped es) k (f v)
  mapped_put [] k v = refl
  mapped_put (e ∷ es) k v = mapped_by e es k v (bytes_eq k e.0) (mapped_put es k v)

  pub mapped_among : (es xs : Entries X) → mapped (insert_all bytes_eq es xs) ≡ insert_all bytes_eq (mapped es) (mapped xs)
  mapped_among es [] = refl
  mapped_among es (x ∷ xs) = mapped_among (insert_entry bytes_eq es x.0 x.1) xs ∙ ap (λ l. insert_all bytes_eq l (mapped xs)) (mapped_put es x.0 x.1)
