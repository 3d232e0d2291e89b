-- Which texts `serde_json` takes, told token by token.
use Rattle.std.proofs.Common.{◌≡◌, ℕ, suc, ◌+◌, ◌-◌, ◌≤◌, List, [], ◌∷◌, ◌++◌, Bool, true, false, ◌&&◌, if◌then◌else◌, nat_lt, Option, Some, None, option_map, option_and_then, refl, sym, ap, ◌∙◌, arith, append_assoc, append-nil, lt-ltb}
use Rattle.std.specs.Prelude.{is_some, IsSome}
use Rattle.std.specs.Option.{option_map_or}
use Rattle.json.specs.Token.{Token}
use Rattle.json.specs.Lex.{tokens}
use Rattle.json.specs.Json as json
use Rattle.json.specs.Json.{Json, null, boolean, number, string, array, object, Items, no_items, item, Members, no_members, member, value, if_last, document}
use Rattle.json.specs.Tree.{json_tokens, items_tokens, members_tokens, depth, items_depth, members_depth}
use Rattle.json.proofs.Found.{not_found, Some_inj}
use Rattle.json.proofs.Nesting.{value-depth}
use Rattle.json.proofs.Printed.Trees.{value-json_tokens}
use Rattle.json.proofs.Unique.Spelling.{tokens-document, value-json_tokens_back}
use Rattle.serde_json.specs.Data as plain
use Rattle.serde_json.specs.Read.{max_depth, number_of, of_json, of_items, of_members, read}
use Rattle.json_document.specs.Fitting.{depth_behind, fit}

-- ---- the same over values

unfoldable mutual
  fits : ℕ → Json → Bool
  fits deep null = true
  fits deep (boolean b) = true
  fits deep (number s) = is_some (number_of s)
  fits deep (string s) = true
  fits deep (array js) = nat_lt deep max_depth && items_fit (suc deep) js
  fits deep (object ms) = nat_lt deep max_depth && members_fit (suc deep) ms

  items_fit : ℕ → Items → Bool
  items_fit deep no_items = true
  items_fit deep (item j js) = fits deep j && items_fit deep js

  members_fit : ℕ → Members → Bool
  members_fit deep no_members = true
  members_fit deep (member k j ms) = fits deep j && members_fit deep ms

and_assoc : (a b c : Bool) → (a && (b && c)) ≡ ((a && b) && c)
and_assoc true b c = refl
and_assoc false b c = refl

number_fits : (test : Bool) (deep : ℕ) (ts : List Token) → option_map_or (λ next. fit next ts) (if test then Some deep else None) false ≡ (test && fit deep ts)
number_fits true deep ts = refl
number_fits false deep ts = refl

opens : (test : Bool) (deep : ℕ) (ts : List Token) (rest : Bool) → fit (suc deep) ts ≡ rest → option_map_or (λ next. fit next ts) (if test then Some (suc deep) else None) false ≡ (test && rest)
opens true deep ts rest is = is
opens false deep ts rest is = refl

closes : (deep : ℕ) (ts : List Token) → fit (suc deep - 1) ts ≡ fit deep ts
closes deep ts = let is : suc deep - 1 ≡ deep = omega arith in ap (λ d. fit d ts) is

mutual
  unfolding fit depth_behind fits items_fit members_fit

  fit-json_tokens : (j : Json) (deep : ℕ) (ts : List Token) → fit deep (json_tokens j ++ ts) ≡ (fits deep j && fit deep ts)
  fit-json_tokens null deep ts = refl
  fit-json_tokens (boolean b) deep ts = refl
  fit-json_tokens (number s) deep ts = number_fits (is_some (number_of s)) deep ts
  fit-json_tokens (string s) deep ts = refl
  fit-json_tokens (array js) deep ts =
      opens (nat_lt deep max_depth) deep (items_tokens js ++ ts) (items_fit (suc deep) js && fit deep ts) (fit-items_tokens js deep ts) ∙ and_assoc (nat_lt deep max_depth) (items_fit (suc deep) js) (fit deep ts)
  fit-json_tokens (object ms) deep ts =
      opens (nat_lt deep max_depth) deep (members_tokens ms ++ ts) (members_fit (suc deep) ms && fit deep ts) (fit-members_tokens ms deep ts)
      ∙ and_assoc (nat_lt deep max_depth) (members_fit (suc deep) ms) (fit deep ts)

  fit-items_tokens : (js : Items) (deep : ℕ) (ts : List Token) → fit (suc deep) (items_tokens js ++ ts) ≡ (items_fit (suc deep) js && fit deep ts)
  fit-items_tokens no_items deep ts = closes deep ts
  fit-items_tokens (item j js) deep ts =
      ap (fit (suc deep)) (append_assoc (json_tokens j) (items_tokens js) ts) ∙ fit-json_tokens j (suc deep) (items_tokens js ++ ts)
      ∙ ap (λ b. fits (suc deep) j && b) (fit-items_tokens js deep ts) ∙ and_assoc (fits (suc deep) j) (items_fit (suc deep) js) (fit deep ts)

  fit-members_tokens : (ms : Members) (deep : ℕ) (ts : List Token) → fit (suc deep) (members_tokens ms ++ ts) ≡ (members_fit (suc deep) ms && fit deep ts)
  fit-members_tokens no_members deep ts = closes deep ts
  fit-members_tokens (member k j ms) deep ts =
      ap (fit (suc deep)) (append_assoc (json_tokens j) (members_tokens ms) ts) ∙ fit-json_tokens j (suc deep) (members_tokens ms ++ ts)
      ∙ ap (λ b. fits (suc deep) j && b) (fit-members_tokens ms deep ts) ∙ and_assoc (fits (suc deep) j) (members_fit (suc deep) ms) (fit deep ts)

-- ---- what fits is data, and nests no deeper

both : (a b : Bool) → (a && b) ≡ true → (a ≡ true) × (b ≡ true)
both true b e = (refl, e)
both false b e = cc

-- of a list of two parts that are both there
two_there : {A B : Type 0} (f : A → Option B) (o : Option A) → IsSome o → ((a : A) → IsSome (f a)) → IsSome (option_and_then f o)
two_there f None some each = cc
two_there f (Some a) some each = each a

mapped_there : {A B : Type 0} (f : A → B) (o : Option A) → IsSome o → IsSome (option_map f o)
mapped_there f None some = cc
mapped_there f (Some a) some = refl

mutual
  unfolding fits items_fit members_fit

  fits_shallow : (j : Json) (deep : ℕ) → deep ≤ max_depth → fits deep j ≡ true → deep + depth j ≤ max_depth
  fits_shallow null deep few fine = omega arith
  fits_shallow (boolean b) deep few fine = omega arith
  fits_shallow (number s) deep few fine = omega arith
  fits_shallow (string s) deep few fine = omega arith
  fits_shallow (array js) deep few fine =
      let (less, all) = both (nat_lt deep max_depth) (items_fit (suc deep) js) fine in
      let below : suc deep ≤ max_depth = grind arith in
      omega (arith, items_shallow js (suc deep) below all)
  fits_shallow (object ms) deep few fine =
      let (less, all) = both (nat_lt deep max_depth) (members_fit (suc deep) ms) fine in
      let below : suc deep ≤ max_depth = grind arith in
      omega (arith, members_shallow ms (suc deep) below all)

  items_shallow : (js : Items) (deep : ℕ) → deep ≤ max_depth → items_fit deep js ≡ true → deep + items_depth js ≤ max_depth
  items_shallow no_items deep few fine = omega arith
  items_shallow (item j js) deep few fine =
      let (one, all) = both (fits deep j) (items_fit deep js) fine in omega (arith, fits_shallow j deep few one, items_shallow js deep few all)

  members_shallow : (ms : Members) (deep : ℕ) → deep ≤ max_depth → members_fit deep ms ≡ true → deep + members_depth ms ≤ max_depth
  members_shallow no_members deep few fine = omega arith
  members_shallow (member k j ms) deep few fine =
      let (one, all) = both (fits deep j) (members_fit deep ms) fine in omega (arith, fits_shallow j deep few one, members_shallow ms deep few all)

mutual
  unfolding fits items_fit members_fit

  fits_data : (j : Json) (deep : ℕ) → fits deep j ≡ true → IsSome (of_json j)
  fits_data null deep fine = refl
  fits_data (boolean b) deep fine = refl
  fits_data (number s) deep fine = mapped_there plain.number (number_of s) fine
  fits_data (string s) deep fine = refl
  fits_data (array js) deep fine = mapped_there plain.array (of_items js) (items_data js (suc deep) (both (nat_lt deep max_depth) (items_fit (suc deep) js) fine).1)
  fits_data (object ms) deep fine =
      mapped_there plain.object (of_members ms plain.no_members) (members_data ms (suc deep) plain.no_members (both (nat_lt deep max_depth) (members_fit (suc deep) ms) fine).1)

  items_data : (js : Items) (deep : ℕ) → items_fit deep js ≡ true → IsSome (of_items js)
  items_data no_items deep fine = refl
  items_data (item j js) deep fine =
      let (one, all) = both (fits deep j) (items_fit deep js) fine in
      two_there (λ d. option_map (plain.item d) (of_items js)) (of_json j) (fits_data j deep one) (λ d. mapped_there (plain.item d) (of_items js) (items_data js deep all))

  members_data : (ms : Members) (deep : ℕ) (found : plain.Members) → members_fit deep ms ≡ true → IsSome (of_members ms found)
  members_data no_members deep found fine = refl
  members_data (member k j ms) deep found fine =
      let (one, all) = both (fits deep j) (members_fit deep ms) fine in
      two_there (λ d. of_members ms (plain.put k d found)) (of_json j) (fits_data j deep one) (λ d. members_data ms deep (plain.put k d found) all)

-- ---- what is data, and nests no deeper, fits

parts_there : {A B : Type 0} (f : A → Option B) (o : Option A) → IsSome (option_and_then f o) → (a : A) × (o ≡ Some a) × IsSome (f a)
parts_there f None some = cc
parts_there f (Some a) some = (a, refl, some)

mapped_was : {A B : Type 0} (f : A → B) (o : Option A) → IsSome (option_map f o) → IsSome o
mapped_was f None some = cc
mapped_was f (Some a) some = refl

there : {A : Type 0} (o : Option A) (a : A) → o ≡ Some a → IsSome o
there o a is = ap is_some is

both_are : (a b : Bool) → a ≡ true → b ≡ true → (a && b) ≡ true
both_are true b one other = other
both_are false b one other = cc

mutual
  unfolding fits items_fit members_fit

  fits_if : (j : Json) (deep : ℕ) → deep + depth j ≤ max_depth → IsSome (of_json j) → fits deep j ≡ true
  fits_if null deep few some = refl
  fits_if (boolean b) deep few some = refl
  fits_if (number s) deep few some = mapped_was plain.number (number_of s) some
  fits_if (string s) deep few some = refl
  fits_if (array js) deep few some =
      both_are (nat_lt deep max_depth) (items_fit (suc deep) js) (lt-ltb deep max_depth (omega arith)) (items_fit_if js (suc deep) (omega arith) (mapped_was plain.array (of_items js) some))
  fits_if (object ms) deep few some =
      both_are (nat_lt deep max_depth) (members_fit (suc deep) ms) (lt-ltb deep max_depth (omega arith))
      (members_fit_if ms (suc deep) plain.no_members (omega arith) (mapped_was plain.object (of_members ms plain.no_members) some))

  items_fit_if : (js : Items) (deep : ℕ) → deep + items_depth js ≤ max_depth → IsSome (of_items js) → items_fit deep js ≡ true
  items_fit_if no_items deep few some = refl
  items_fit_if (item j js) deep few some =
      let (d, is, later) = parts_there (λ d. option_map (plain.item d) (of_items js)) (of_json j) some in
      both_are (fits deep j) (items_fit deep js) (fits_if j deep (omega arith) (there (of_json j) d is)) (items_fit_if js deep (omega arith) (mapped_was (plain.item d) (of_items js) later))

  members_fit_if : (ms : Members) (deep : ℕ) (found : plain.Members) → deep + members_depth ms ≤ max_depth → IsSome (of_members ms found) → members_fit deep ms ≡ true
  members_fit_if no_members deep found few some = refl
  members_fit_if (member k j ms) deep found few some =
      let (d, is, later) = parts_there (λ d. of_members ms (plain.put k d found)) (of_json j) some in
      both_are (fits deep j) (members_fit deep ms) (fits_if j deep (omega arith) (there (of_json j) d is)) (members_fit_if ms deep (plain.put k d found) (omega arith) later)

-- ---- texts

-- where the grammar reads a text, it fits where its value does
fit_text : (text : List ℕ) (j : Json) → document text ≡ Some j → fit 0 (tokens text) ≡ fits 0 j
unfolding fit
fit_text text j is =
    ap (fit 0) (tokens-document text j is ∙ sym (append-nil (json_tokens j))) ∙ fit-json_tokens j 0 [] ∙ true_last (fits 0 j)
  where
    true_last : (b : Bool) → (b && true) ≡ b
    true_last true = refl
    true_last false = refl

read_whole : (text : List ℕ) (j : Json) → value max_depth (tokens text) ≡ Some (j, []) → read text ≡ of_json j
read_whole text j is = ap (λ o. option_and_then of_json (option_and_then (λ p. if_last p.0 p.1) o)) is

-- a text that fits is read as the data of its value
pub fit_is_read : (text : List ℕ) (j : Json) → document text ≡ Some j → fit 0 (tokens text) ≡ true → IsSome (of_json j) × (read text ≡ of_json j)
fit_is_read text j is fine =
    let all : fits 0 j ≡ true = sym (fit_text text j is) ∙ fine in
    let shallow : depth j ≤ max_depth = omega (arith, fits_shallow j 0 (omega arith) all) in
    (fits_data j 0 all, read_whole text j (ap (value max_depth) (tokens-document text j is ∙ sym (append-nil (json_tokens j))) ∙ value-json_tokens j max_depth [] shallow))

-- ---- no other text is read

whole_document : (text : List ℕ) (j : Json) → value max_depth (tokens text) ≡ Some (j, []) → document text ≡ Some j
whole_document text j is =
    let spelled = value-json_tokens_back max_depth (tokens text) [] j is in
    let shallow = value-depth max_depth (tokens text) [] j is in
    ap (option_and_then (λ p. if_last p.0 p.1)) (ap (value json.max_depth) spelled ∙ value-json_tokens j json.max_depth [] (omega arith))

none_read : (text : List ℕ) (o : Option (Json × List Token)) → value max_depth (tokens text) ≡ o → ((j : Json) → value max_depth (tokens text) ≡ Some (j, []) → of_json j ≡ None)
    → option_and_then of_json (option_and_then (λ p. if_last p.0 p.1) o) ≡ None
none_read text None is none = refl
none_read text (Some (j, [])) is none = none j is
none_read text (Some (j, t ∷ ts)) is none = refl

pub broken_is_not_read : (text : List ℕ) → document text ≡ None → read text ≡ None
broken_is_not_read text none = none_read text (value max_depth (tokens text)) refl (λ j is. not_found j (sym none ∙ whole_document text j is))

if_some : {A : Type 0} (o : Option A) → (IsSome o → ⊥) → o ≡ None
if_some None none = refl
if_some (Some a) none = absurd (none refl)

pub unfit_is_not_read : (text : List ℕ) (j : Json) → document text ≡ Some j → fit 0 (tokens text) ≡ false → read text ≡ None
unfit_is_not_read text j is unfit =
    none_read text (value max_depth (tokens text)) refl (λ i whole.
    let same : j ≡ i = Some_inj j i (sym is ∙ whole_document text i whole) in
    let shallow = value-depth max_depth (tokens text) [] i whole in
    if_some (of_json i) (λ some.
    let fine : fits 0 i ≡ true = fits_if i 0 (omega (arith, shallow)) some in
    let wrong : fits 0 j ≡ false = sym (fit_text text j is) ∙ unfit in
    cc))
