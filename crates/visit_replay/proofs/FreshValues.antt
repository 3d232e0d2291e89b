-- Where the values of fresh names are left out, what counts of a request stays.
use Rattle.std.proofs.Common.{◌≡◌, ◌≢◌, ℕ, ◌<◌, ◌==◌, List, [], ◌∷◌, ◌++◌, map, filter, drop, not, Bool, true, false, cond, ◌||◌, ◌&&◌, if◌then◌else◌, All, ◌+◌, IsUtf8, codes, refl, sym, ap, ap₂, ◌∙◌, subst, ⊎_elim, append_assoc, append-nil, one-add, arith}
use Rattle.std.specs.List.{before_first, list_any, position_or_len, slice_split}
use Rattle.std.specs.Str.{bytes_eq}
use Rattle.std.specs.Str.Lossy.{utf8_lossy}
use Rattle.std.proofs.lemmas.Bool.{ne_eqb}
use Rattle.std.proofs.lemmas.Bool.Decides.{nat_tests}
use Rattle.std.proofs.lemmas.List.Elements.{All-nil, All-cons, All-head, All-tail, All-append, All-weaker}
use Rattle.std.proofs.lemmas.List.Splits.{slice_split_at, slice_split_none}
use Rattle.std.proofs.lemmas.Str.{utf8_lossy-IsUtf8}
use Rattle.form_urlencoded.specs.Form.{byte_serialize, decode, extend_pairs, serialize_pair}
use Rattle.form_urlencoded.proofs.FormLemmas.{IsSerializedByte, All-byte_serialize, decode-byte_serialize, split_once_before_at, split_once_after_at, split_once_before_none}
use Rattle.page_looks.specs.Outline.{is_one_of}
use Rattle.page_looks.specs.Sending.{is_passed_over, kept_pairs, query_text, unmarked_without, without_fresh}
use Rattle.visit_replay.specs.Difference.{are_alike}
use Rattle.visit_replay.specs.Form.{Pair, bare, sent_to}
use Rattle.visit_replay.specs.inside.FieldsNow.{is_of_one, told}
use Rattle.visit_replay.specs.inside.Tellings.{pairs_told, told_counted, told_request}
use Rattle.visit_replay.specs.declared.told.ToldRequest.{ToldRequest}
use Rattle.visit_replay.specs.declared.told.ToldRequest.TheVariants.{Load, Link, Form}
use Rattle.visit_replay.specs.declared.told.ToldForm.{ToldForm}
use Rattle.visit_replay.specs.declared.requests.Method.{Method}
use Rattle.visit_replay.specs.declared.requests.Method.TheVariants.{Get, Post}
use Rattle.visit_replay.specs.declared.requests.Request.{Request}
use Rattle.page_looks.proofs.CounterpartLaws.{bytes_same}
use Rattle.visit_replay.proofs.Cut.{before_first-cons}
use Rattle.visit_replay.proofs.LeftBehind.{joined, joined_first}

-- ---- the bytes of encoded pairs

not_ampersand : (b : ℕ) → IsSerializedByte b → b ≢ 38
not_ampersand b is = ⊎_elim (λ kept. λ e. grind (arith, nat_tests)) (λ other. λ e. grind arith) is.allowed

pub not_equals : (b : ℕ) → IsSerializedByte b → b ≢ 61
not_equals b is = ⊎_elim (λ kept. λ e. grind (arith, nat_tests)) (λ other. λ e. grind arith) is.allowed

not_hash : (b : ℕ) → IsSerializedByte b → b ≢ 35
not_hash b is = ⊎_elim (λ kept. λ e. grind (arith, nat_tests)) (λ other. λ e. grind arith) is.allowed

module _ (P : ℕ → Type 0) (are : (b : ℕ) → IsSerializedByte b → P b) (equals : P 61) where
  words_are : (word : List ℕ) → All P (byte_serialize word)
  words_are word = All-weaker IsSerializedByte P are (byte_serialize word) (All-byte_serialize word)

  pair_is : (pair : Pair) → All P (serialize_pair pair)
  pair_is pair =
      All-append P (byte_serialize pair.0 ++ 61 ∷ []) (byte_serialize pair.1)
      (All-append P (byte_serialize pair.0) (61 ∷ []) (words_are pair.0) (All-cons P 61 [] equals (All-nil P))) (words_are pair.1)

  pairs_are : P 38 → (mark : List ℕ) → All P mark → (pairs : List Pair) → All P (joined mark pairs)
  pairs_are amp mark is [] = All-nil P
  pairs_are amp mark is (pair ∷ pairs) =
      All-append P (mark ++ serialize_pair pair) (joined (38 ∷ []) pairs) (All-append P mark (serialize_pair pair) is (pair_is pair))
      (pairs_are amp (38 ∷ []) (All-cons P 38 [] amp (All-nil P)) pairs)

pub no_hash : (pairs : List Pair) → All (λ b. b ≢ 35) (extend_pairs [] pairs)
no_hash pairs =
    subst (All (λ b. b ≢ 35)) (joined_first pairs)
    (pairs_are (λ b. b ≢ 35) not_hash (λ e. omega arith) (λ e. omega arith) [] (All-nil (λ b. b ≢ 35)) pairs)

no_ampersand : (pair : Pair) → All (λ b. (b == 38) ≡ false) (serialize_pair pair)
no_ampersand pair = pair_is (λ b. (b == 38) ≡ false) (λ b is. ne_eqb b 38 (not_ampersand b is)) refl pair

-- ---- a pair, and its name

pub name_of : (name value : List ℕ) → before_first (λ c. c == 61) (serialize_pair (name, value)) ≡ byte_serialize name
name_of name value =
    ap (before_first (λ c. c == 61)) (append_assoc (byte_serialize name) (61 ∷ []) (byte_serialize value))
    ∙ split_once_before_at 61 (byte_serialize name) (byte_serialize value) (All-weaker IsSerializedByte (λ b. b ≢ 61) not_equals (byte_serialize name) (All-byte_serialize name))

pub named_so : (names : List (List ℕ)) (name value : List ℕ) → IsUtf8 name → All (λ b. b < 256) name → is_one_of names name ≡ is_of_one names (name, value)
named_so names name value text small =
    ap (is_one_of names) (sym (ap (λ n. utf8_lossy (decode n)) (name_of name value) ∙ ap utf8_lossy (decode-byte_serialize name small) ∙ utf8_lossy-IsUtf8 name text))

none_left_out : (pairs : List Pair) → told true [] pairs ≡ pairs
none_left_out [] = refl
none_left_out (pair ∷ rest) = ap (λ l. pair ∷ l) (none_left_out rest)

-- ---- pairs that count

pub parts : (pair : Pair) (pairs : List Pair) → slice_split (λ c. c == 38) (joined [] (pair ∷ pairs)) ≡ map serialize_pair (pair ∷ pairs)
parts pair [] = ap (slice_split (λ c. c == 38)) (append-nil (serialize_pair pair)) ∙ slice_split_none (λ c. c == 38) (serialize_pair pair) (no_ampersand pair)
parts pair (next ∷ pairs) =
    slice_split_at (λ c. c == 38) (serialize_pair pair) 38 (joined [] (next ∷ pairs)) (no_ampersand pair) refl ∙ ap (λ l. serialize_pair pair ∷ l) (parts next pairs)

not_empty : (name value : List ℕ) → bytes_eq (name ++ 61 ∷ [] ++ value) [] ≡ false
not_empty [] value = refl
not_empty (c ∷ name) value = refl

module _ (fresh : List (List ℕ)) where
  abbrev counting : List (List ℕ) → List (List ℕ)
  counting them = filter (λ pair. not (is_passed_over fresh pair)) them

  pub over : (pair : Pair) → is_passed_over fresh (serialize_pair pair) ≡ is_of_one fresh pair
  over pair = ap (λ b. b || is_of_one fresh pair) (not_empty (byte_serialize pair.0) (byte_serialize pair.1))

  cut : (x : List ℕ) (xs : List (List ℕ)) (b : Bool) → is_passed_over fresh x ≡ b → counting (x ∷ xs) ≡ (if b then counting xs else x ∷ counting xs)
  cut x xs true is = rw is refl
  cut x xs false is = rw is refl

  left : (pair : Pair) (pairs : List Pair) (b : Bool) → is_of_one fresh pair ≡ b → told true fresh (pair ∷ pairs) ≡ (if b then told true fresh pairs else pair ∷ told true fresh pairs)
  left pair pairs true is = rw is refl
  left pair pairs false is = rw is refl

  kept_here : (pair : Pair) (rest : List Pair) (b : Bool) → is_of_one fresh pair ≡ b → counting (map serialize_pair (told true fresh rest)) ≡ counting (map serialize_pair rest)
      → counting (map serialize_pair (told true fresh (pair ∷ rest))) ≡ counting (map serialize_pair (pair ∷ rest))
  kept_here pair rest true is later =
      ap (λ ps. counting (map serialize_pair ps)) (left pair rest true is) ∙ later ∙ sym (cut (serialize_pair pair) (map serialize_pair rest) true (over pair ∙ is))
  kept_here pair rest false is later =
      ap (λ ps. counting (map serialize_pair ps)) (left pair rest false is) ∙ cut (serialize_pair pair) (map serialize_pair (told true fresh rest)) false (over pair ∙ is)
      ∙ ap (λ l. serialize_pair pair ∷ l) later ∙ sym (cut (serialize_pair pair) (map serialize_pair rest) false (over pair ∙ is))

  counted_first : (pair : Pair) (rest : List Pair) (b : Bool) → is_of_one fresh pair ≡ b → counting (map serialize_pair rest) ≡ map serialize_pair (told true fresh rest)
      → counting (map serialize_pair (pair ∷ rest)) ≡ map serialize_pair (told true fresh (pair ∷ rest))
  counted_first pair rest true is later = cut (serialize_pair pair) (map serialize_pair rest) true (over pair ∙ is) ∙ later ∙ sym (ap (map serialize_pair) (left pair rest true is))
  counted_first pair rest false is later =
      cut (serialize_pair pair) (map serialize_pair rest) false (over pair ∙ is) ∙ ap (λ l. serialize_pair pair ∷ l) later ∙ sym (ap (map serialize_pair) (left pair rest false is))

  -- those that count are the ones that are told
  told_parts : (pairs : List Pair) → counting (map serialize_pair pairs) ≡ map serialize_pair (told true fresh pairs)
  told_parts [] = refl
  told_parts (pair ∷ rest) = counted_first pair rest (is_of_one fresh pair) refl (told_parts rest)

  same_kept : (pairs : List Pair) → counting (map serialize_pair (told true fresh pairs)) ≡ counting (map serialize_pair pairs)
  same_kept [] = refl
  same_kept (pair ∷ rest) = kept_here pair rest (is_of_one fresh pair) refl (same_kept rest)

  kept_of_parts : (pairs : List Pair) → kept_pairs fresh (extend_pairs [] pairs) ≡ counting (map serialize_pair pairs)
  kept_of_parts [] = refl
  kept_of_parts (pair ∷ pairs) = ap (kept_pairs fresh) (sym (joined_first (pair ∷ pairs))) ∙ ap counting (parts pair pairs)

  same_query : (pairs : List Pair) → kept_pairs fresh (extend_pairs [] (told true fresh pairs)) ≡ kept_pairs fresh (extend_pairs [] pairs)
  same_query pairs = kept_of_parts (told true fresh pairs) ∙ same_kept pairs ∙ sym (kept_of_parts pairs)

-- ---- an address

is_marked : (start query : List ℕ) → list_any (λ c. c == 63) (start ++ 63 ∷ query) ≡ true
is_marked [] query = refl
is_marked (x ∷ start) query = ap (λ b. (x == 63) || b) (is_marked start query) ∙ either (x == 63)
  where
    either : (b : Bool) → (b || true) ≡ true
    either true = refl
    either false = refl

nothing_left : (xs : List ℕ) → All (λ b. b ≢ 35) xs → drop (position_or_len (λ b. b == 35) xs) xs ≡ []
nothing_left [] none = refl
nothing_left (x ∷ xs) none = rw (ne_eqb x 35 (All-head (λ b. b ≢ 35) x xs none), one-add) (nothing_left xs (All-tail (λ b. b ≢ 35) x xs none))

module _ (fresh : List (List ℕ)) (start query : List ℕ) (no_mark : All (λ b. b ≢ 63) start) (no_hash_there : All (λ b. b ≢ 35) start) (no_hash_behind : All (λ b. b ≢ 35) query) where
  abbrev address : List ℕ
  address = start ++ 63 ∷ query

  no_fragment : All (λ b. b ≢ 35) address
  no_fragment =
      All-append (λ b. b ≢ 35) start (63 ∷ query) no_hash_there (All-cons (λ b. b ≢ 35) 63 query (λ e. omega arith) no_hash_behind)

  unmarked : unmarked_without fresh address ≡ start ++ query_text (kept_pairs fresh query)
  unmarked =
      ap (λ (b : Bool). if b then before_first (λ c. c == 63) address ++ query_text (kept_pairs fresh (drop (position_or_len (λ c. c == 63) address + 1) address)) else address) (is_marked start query)
      ∙ ap₂ (λ a b. a ++ query_text (kept_pairs fresh b)) (split_once_before_at 63 start query no_mark) (split_once_after_at 63 start query no_mark)

  pub what_counts_is : without_fresh fresh (start ++ codes "?" ++ query) ≡ start ++ query_text (kept_pairs fresh query)
  what_counts_is =
      ap (without_fresh fresh) (append_assoc start (63 ∷ []) query)
      ∙ ap₂ (λ a b. unmarked_without fresh a ++ b) (split_once_before_none 35 address no_fragment) (nothing_left address no_fragment)
      ∙ append-nil (unmarked_without fresh address) ∙ unmarked

pub front_is : (P : ℕ → Type 0) (p : ℕ → Bool) → ((b : ℕ) → p b ≡ false → P b) → (xs : List ℕ) → All P (before_first p xs)
front_is P p are [] = All-nil P
front_is P p are (x ∷ xs) = subst (All P) (sym (before_first-cons p x xs)) (here (p x) refl (front_is P p are xs))
  where
    here : (b : Bool) → p x ≡ b → All P (before_first p xs) → All P (cond b [] (x ∷ before_first p xs))
    here true is later = All-nil P
    here false is later = All-cons P x (before_first p xs) (are x is) later

pub bare_unmarked : (action : List ℕ) → All (λ b. b ≢ 63) (bare action)
bare_unmarked action = front_is (λ b. b ≢ 63) (λ c. c == 63 || c == 35) (λ b is. λ e. grind (arith, nat_tests)) action

pub bare_whole : (action : List ℕ) → All (λ b. b ≢ 35) (bare action)
bare_whole action = front_is (λ b. b ≢ 35) (λ c. c == 63 || c == 35) (λ b is. λ e. grind (arith, nat_tests)) action

-- ---- a request

pub counted_address_is : (fresh : List (List ℕ)) (action : List ℕ) (pairs : List Pair)
    → without_fresh fresh (bare action ++ codes "?" ++ extend_pairs [] pairs) ≡ bare action ++ query_text (map serialize_pair (told true fresh pairs))
counted_address_is fresh action pairs =
    what_counts_is fresh (bare action) (extend_pairs [] pairs) (bare_unmarked action) (bare_whole action) (no_hash pairs)
    ∙ ap (λ them. bare action ++ query_text them) (kept_of_parts fresh pairs ∙ told_parts fresh pairs)

pub same_address : (fresh : List (List ℕ)) (action : List ℕ) (pairs : List Pair)
    → without_fresh fresh (bare action ++ codes "?" ++ extend_pairs [] (told true fresh pairs)) ≡ without_fresh fresh (bare action ++ codes "?" ++ extend_pairs [] pairs)
same_address fresh action pairs =
    what_counts_is fresh (bare action) (extend_pairs [] (told true fresh pairs)) (bare_unmarked action) (bare_whole action) (no_hash (told true fresh pairs))
    ∙ ap (λ them. bare action ++ query_text them) (same_query fresh pairs)
    ∙ sym (what_counts_is fresh (bare action) (extend_pairs [] pairs) (bare_unmarked action) (bare_whole action) (no_hash pairs))

same_sent_pairs : (fresh : List (List ℕ)) (pairs : List Pair)
    → without_fresh fresh (codes "?" ++ extend_pairs [] (told true fresh pairs)) ≡ without_fresh fresh (codes "?" ++ extend_pairs [] pairs)
same_sent_pairs fresh pairs = same_address fresh [] pairs

-- a request without the pairs of these names
abbrev without_those : List (List ℕ) → Request → Request
without_those names r = record r {
  address = without_fresh names r.address;
  pairs = without_fresh names (codes "?" ++ r.pairs);
}

abbrev made : ℕ → Method → List ℕ → List ℕ → Request
made number method address pairs = record { number = number; method = method; address = address; pairs = pairs }

same_request : (fresh : List (List ℕ)) (post : Bool) (number : ℕ) (action : List ℕ) (pairs : List Pair)
    → without_those fresh (sent_to post number action (extend_pairs [] (told true fresh pairs))) ≡ without_those fresh (sent_to post number action (extend_pairs [] pairs))
same_request fresh true number action pairs = ap (made number Post (without_fresh fresh action)) (same_sent_pairs fresh pairs)
same_request fresh false number action pairs = ap₂ (made number Get) (same_address fresh action pairs) (same_sent_pairs fresh pairs)

pub sent_number : (post : Bool) (number : ℕ) (action pairs : List ℕ) → (sent_to post number action pairs).number ≡ number
sent_number true number action pairs = refl
sent_number false number action pairs = refl

-- ---- what is told without those values counts as what is told with them

same_counts : (fresh : List (List ℕ)) (told : ToldRequest) → without_those fresh (told_counted fresh told) ≡ without_those fresh (told_request told)
same_counts fresh (Load text) = refl
same_counts fresh (Link number text) = refl
same_counts fresh (Form form) = same_request fresh form.post form.number form.action.now (pairs_told form.pairs)

pub alike_counted : (fresh : List (List ℕ)) (was is : ToldRequest) → are_alike fresh (told_counted fresh was) (told_counted fresh is) ≡ are_alike fresh (told_request was) (told_request is)
alike_counted fresh was is =
    ap₂ (λ (a b : Request). bytes_eq a.address b.address && bytes_eq a.pairs b.pairs) (same_counts fresh was) (same_counts fresh is)

-- two forms that send the same that counts, to one place
same_text : (text : List ℕ) → bytes_eq text text ≡ true
same_text text = bytes_same text text refl

both_same : (fresh : List (List ℕ)) (a b : Request) → a.address ≡ b.address → a.pairs ≡ b.pairs → are_alike fresh a b ≡ true
both_same fresh a b addresses pairs =
    ap₂ (λ (x y : List ℕ). bytes_eq (without_fresh fresh x) (without_fresh fresh b.address) && bytes_eq (without_fresh fresh (codes "?" ++ y)) (without_fresh fresh (codes "?" ++ b.pairs))) addresses pairs
    ∙ ap₂ (λ (x y : Bool). x && y) (same_text (without_fresh fresh b.address)) (same_text (without_fresh fresh (codes "?" ++ b.pairs)))

sent_alike : (fresh : List (List ℕ)) (post : Bool) (number number' : ℕ) (action action' pairs : List ℕ) → (if post then action else bare action) ≡ (if post then action' else bare action')
    → are_alike fresh (sent_to post number action pairs) (sent_to post number' action' pairs) ≡ true
sent_alike fresh true number number' action action' pairs same = both_same fresh (sent_to true number action pairs) (sent_to true number' action' pairs) same refl
sent_alike fresh false number number' action action' pairs same =
    both_same fresh (sent_to false number action pairs) (sent_to false number' action' pairs) (ap (λ start. start ++ codes "?" ++ pairs) same) refl

pub forms_alike : (fresh : List (List ℕ)) (was is : ToldForm) → was.post ≡ is.post → (if was.post then was.action.now else bare was.action.now) ≡ (if is.post then is.action.now else bare is.action.now)
    → told true fresh (pairs_told was.pairs) ≡ told true fresh (pairs_told is.pairs) → are_alike fresh (told_request (Form was)) (told_request (Form is)) ≡ true
forms_alike fresh was is post start pairs =
    sym (alike_counted fresh (Form was) (Form is))
    ∙ ap₂ (λ (p : Bool) (them : List Pair). are_alike fresh (sent_to p was.number was.action.now (extend_pairs [] them)) (sent_to is.post is.number is.action.now (extend_pairs [] (told true fresh (pairs_told is.pairs))))) post pairs
    ∙ sent_alike fresh is.post was.number is.number was.action.now is.action.now (extend_pairs [] (told true fresh (pairs_told is.pairs)))
    (ap (λ p. if p then was.action.now else bare was.action.now) (sym post) ∙ start)
