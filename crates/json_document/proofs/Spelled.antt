-- What tokens begin with, told by the tokens of the value.
use Rattle.std.proofs.Common.{◌≡◌, ℕ, zero, suc, ◌≤◌, List, ◌∷◌, ◌++◌, length, Option, Some, None, option_map, option_and_then, refl, sym, ap, ◌∙◌, subst, arith, append_assoc, length-append}
use Rattle.json.specs.Token.{Token}
use Rattle.json.specs.Json.{Json, null, boolean, number, string, array, object, Items, no_items, item, Members, no_members, member, after_end_array, read_key, members, value, members_step}
use Rattle.json.specs.Tree.{json_tokens, items_tokens, members_tokens, depth, items_depth, members_depth}
use Rattle.json.specs.Find.{BeginsWith, InItems, InMembers}
use Rattle.json.proofs.Found.{not_found, Some_inj, items_close, items_go_on, members_go_on}
use Rattle.json.proofs.Grammar.{closed_array, key_token, read_key_is}
use Rattle.json.proofs.Printed.Trees.{value-json_tokens}
use Rattle.json.proofs.Unique.Spelling.{value-json_tokens_back}
use Rattle.json_document.specs.Standing.{json_at}

-- nothing nests deeper than it has tokens
mutual
  pub depth_short : (j : Json) → depth j ≤ length (json_tokens j)
  depth_short null = omega arith
  depth_short (boolean b) = omega arith
  depth_short (number s) = omega arith
  depth_short (string s) = omega arith
  depth_short (array js) = omega (arith, items_short js)
  depth_short (object ms) = omega (arith, members_short ms)

  items_short : (js : Items) → items_depth js ≤ length (items_tokens js)
  items_short no_items = omega arith
  items_short (item j js) = omega (arith, depth_short j, items_short js, length-append (json_tokens j) (items_tokens js))

  members_short : (ms : Members) → members_depth ms ≤ length (members_tokens ms)
  members_short no_members = omega arith
  members_short (member k j ms) = omega (arith, depth_short j, members_short ms, length-append (json_tokens j) (members_tokens ms))

-- ---- a value is found where it begins

pub spelled_begins : (ts r : List Token) (j : Json) → ts ≡ json_tokens j ++ r → json_at ts ≡ Some j
spelled_begins ts r j is =
    let short : depth j ≤ length ts = omega (arith, depth_short j, ap length is, length-append (json_tokens j) r) in
    ap (option_map (λ p. p.0)) (ap (value (length ts)) is ∙ value-json_tokens j (length ts) r short)

pub begins : (ts : List Token) (j : Json) → BeginsWith ts j → json_at ts ≡ Some j
begins ts j h = spelled_begins ts h.1 j (value-json_tokens_back h.0 ts h.1 j h.2)

pub begins_spelled : (ts r : List Token) (j : Json) → ts ≡ json_tokens j ++ r → BeginsWith ts j
begins_spelled ts r j is =
    let all : depth j ≤ depth j = omega arith in
    (depth j, r, ap (value (depth j)) is ∙ value-json_tokens j (depth j) r all)

-- ---- items, behind their opening bracket

abbrev first_or : Json → Items → Json
first_or j no_items = j
first_or j (item i js) = i

abbrev rest_of : Items → Items
rest_of no_items = no_items
rest_of (item i js) = js

abbrev is_item : Items → Option Items
is_item no_items = None
is_item (item i js) = Some js

abbrev Spelled : {A : Type 0} → (A → List Token) → List Token → A → Type 0
Spelled f ts a = (r : List Token) × (ts ≡ f a ++ r)

items_from : (js : Items) (ts : List Token) (o : Option (List Token)) → after_end_array ts ≡ o → InItems ts js → Spelled items_tokens ts js
items_from no_items ts (Some r) closes h = (r, closed_array ts r closes)
items_from (item j js) ts (Some r) closes h =
    not_found js (ap is_item (sym (items_close r (item j js) (subst (λ l. InItems l (item j js)) (closed_array ts r closes) h))))
items_from no_items ts None goes h = let f = items_go_on ts no_items goes h in not_found f.3 (ap is_item f.5)
items_from (item j js) ts None goes h =
    let (d, i, rest, more, read, is, inside) = items_go_on ts (item j js) goes h in
    let (r, later) = items_from js rest (after_end_array rest) refl (subst (InItems rest) (sym (ap rest_of is)) inside) in (
      r,
      value-json_tokens_back d ts rest i read ∙ ap (λ k. json_tokens k ++ rest) (sym (ap (first_or j) is)) ∙ ap (λ l. json_tokens j ++ l) later
          ∙ sym (append_assoc (json_tokens j) (items_tokens js) r),
    )

items_spelled : (js : Items) (ts : List Token) → InItems ts js → Spelled items_tokens ts js
items_spelled js ts h = items_from js ts (after_end_array ts) refl h

pub items_begin : (ts : List Token) (js : Items) → InItems ts js → BeginsWith (Token.begin_array ∷ ts) (array js)
items_begin ts js h = let (r, is) = items_spelled js ts h in begins_spelled (Token.begin_array ∷ ts) r (array js) (ap (λ l. Token.begin_array ∷ l) is)

-- ---- members, behind their opening brace

abbrev Key : Type 0
Key = Option (List ℕ) × List Token

reads_key : (ts : List Token) (ms : Members) → InMembers ts ms → (p : Key) × (read_key ts ≡ Some p)
unfolding members
reads_key ts ms (d, zero, r, e) = not_found (ms, r) e
reads_key ts ms (d, suc n, r, e) = go (read_key ts) refl e
  where
    go : (o : Option Key) → read_key ts ≡ o → option_and_then (λ p. members_step (value d) (members (value d) n) p.0 p.1) o ≡ Some (ms, r) → (p : Key) × (read_key ts ≡ Some p)
    go None is h = not_found (ms, r) h
    go (Some p) is h = (p, is)

abbrev first_member_or : Json → Members → Json
first_member_or j no_members = j
first_member_or j (member k i ms) = i

abbrev rest_of_members : Members → Members
rest_of_members no_members = no_members
rest_of_members (member k i ms) = ms

abbrev is_member : Members → Option Members
is_member no_members = None
is_member (member k i ms) = Some ms

abbrev name_or : List ℕ → Members → List ℕ
name_or k no_members = k
name_or k (member l i ms) = l

members_end : (ts : List Token) (ms : Members) → InMembers (Token.end_object ∷ ts) ms → ms ≡ no_members
unfolding members
members_end ts ms (d, zero, r, e) = not_found (ms, r) e
members_end ts ms (d, suc n, r, e) = sym (ap (λ z. z.0) (Some_inj (no_members, ts) (ms, r) e))

members_from : (ms : Members) (ts : List Token) (k : Option (List ℕ)) (s : List Token) → ts ≡ key_token k ∷ s → InMembers ts ms → Spelled members_tokens ts ms
members_from no_members ts None s starts h = (s, starts)
members_from (member l j ms) ts None s starts h = not_found ms (ap is_member (sym (members_end s (member l j ms) (subst (λ t. InMembers t (member l j ms)) starts h))))
members_from no_members ts (Some k) s starts h =
    let f = members_go_on k s no_members (subst (λ t. InMembers t no_members) starts h) in not_found f.3 (ap is_member f.5)
members_from (member l j ms) ts (Some k) s starts h =
    let (d, i, rest, more, read, same, inside) = members_go_on k s (member l j ms) (subst (λ t. InMembers t (member l j ms)) starts h) in
    let more_inside = subst (InMembers rest) (sym (ap rest_of_members same)) inside in
    let (p, is) = reads_key rest ms more_inside in
    let (r, later) = members_from ms rest p.0 p.1 (read_key_is rest p.0 p.1 is) more_inside in (
      r,
      starts ∙ ap (λ m. Token.key m ∷ s) (sym (ap (name_or l) same))
          ∙ ap (λ t. Token.key l ∷ t) (value-json_tokens_back d s rest i read ∙ ap (λ q. json_tokens q ++ rest) (sym (ap (first_member_or j) same)) ∙ ap (λ t. json_tokens j ++ t) later
          ∙ sym (append_assoc (json_tokens j) (members_tokens ms) r)),
    )

members_spelled : (ms : Members) (ts : List Token) → InMembers ts ms → Spelled members_tokens ts ms
members_spelled ms ts h = let (p, is) = reads_key ts ms h in members_from ms ts p.0 p.1 (read_key_is ts p.0 p.1 is) h

pub members_begin : (ts : List Token) (ms : Members) → InMembers ts ms → BeginsWith (Token.begin_object ∷ ts) (object ms)
members_begin ts ms h =
    let (r, is) = members_spelled ms ts h in begins_spelled (Token.begin_object ∷ ts) r (object ms) (ap (λ l. Token.begin_object ∷ l) is)
