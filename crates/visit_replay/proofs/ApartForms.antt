-- Forms that send something else are told apart pair by pair, without the texts of what they send.
use Rattle.std.proofs.Common.{◌≡◌, ◌≢◌, ℕ, ◌+◌, ◌<◌, ◌==◌, ◌&&◌, List, [], ◌∷◌, ◌++◌, map, length, drop, get_or, slice_get, is_some, drop_of_length-le, option_and_then, Bool, true, false, if◌then◌else◌, All, Option, Some, None, codes, inl, inr, refl, sym, ap, ap₂, ◌∙◌, append_assoc, arith}
use Rattle.std.specs.List.{before_first, cons_option, position_or_len}
use Rattle.std.specs.Str.{bytes_eq}
use Rattle.std.proofs.lemmas.Bool.{false≢true}
use Rattle.std.proofs.lemmas.List.{append_cancel_right}
use Rattle.std.proofs.lemmas.List.Elements.{All-weaker}
use Rattle.std.specs.List.{slice_split}
use Rattle.std.proofs.lemmas.Option.{slice_get_cases}
use Rattle.std.proofs.lemmas.Slice.Eq.{bytes_eq-Decides}
use Rattle.form_urlencoded.specs.Form.{byte_serialize, decode, extend_pairs, serialize_pair}
use Rattle.form_urlencoded.proofs.FormLemmas.{IsSerializedByte, All-byte_serialize, decode-byte_serialize, split_once_after_at}
use Rattle.page_looks.specs.Sending.{next_pairs, query_text, without_fresh}
use Rattle.visit_replay.specs.Difference.{are_alike}
use Rattle.visit_replay.specs.Form.{Pair, bare, sent_to}
use Rattle.visit_replay.specs.inside.FieldsNow.{told}
use Rattle.visit_replay.specs.inside.Senders.{IsSender, SaysFresh, sent_all}
use Rattle.visit_replay.specs.inside.Tellings.{counted_told, pairs_told, told_request}
use Rattle.visit_replay.specs.declared.sent_pairs.SentPairs.{SentPairs}
use Rattle.visit_replay.specs.declared.told.ToldForm.{ToldForm}
use Rattle.visit_replay.specs.declared.told.ToldRequest.TheVariants.{Form}
use Rattle.visit_replay.proofs.FreshValues.{counted_address_is, forms_alike, name_of, not_equals, parts}
use Rattle.visit_replay.proofs.LeftBehind.{joined}
use Rattle.visit_replay.proofs.ToldLaws.{counted_here, got_address, told_at, told_from}

-- ---- a word, and a pair, are told by what they are written as

pub same_word : (a b : List ℕ) → All (λ x. x < 256) a → All (λ x. x < 256) b → byte_serialize a ≡ byte_serialize b → a ≡ b
same_word a b small small' same = sym (decode-byte_serialize a small) ∙ ap decode same ∙ decode-byte_serialize b small'

pub same_name : (p q : Pair) → serialize_pair p ≡ serialize_pair q → byte_serialize p.0 ≡ byte_serialize q.0
same_name p q same = sym (name_of p.0 p.1) ∙ ap (before_first (λ c. c == 61)) same ∙ name_of q.0 q.1

value_of : (name value : List ℕ) → drop (position_or_len (λ c. c == 61) (serialize_pair (name, value)) + 1) (serialize_pair (name, value)) ≡ byte_serialize value
value_of name value =
    ap (λ text. drop (position_or_len (λ c. c == 61) text + 1) text) (append_assoc (byte_serialize name) (61 ∷ []) (byte_serialize value))
    ∙ split_once_after_at 61 (byte_serialize name) (byte_serialize value) (All-weaker IsSerializedByte (λ b. b ≢ 61) not_equals (byte_serialize name) (All-byte_serialize name))

pub same_value : (p q : Pair) → serialize_pair p ≡ serialize_pair q → byte_serialize p.1 ≡ byte_serialize q.1
same_value p q same = sym (value_of p.0 p.1) ∙ ap (λ text. drop (position_or_len (λ c. c == 61) text + 1) text) same ∙ value_of q.0 q.1

-- ---- and so are the pairs of a query

next_is : (pairs : List Pair) → next_pairs (map serialize_pair pairs) ≡ joined (38 ∷ []) pairs
next_is [] = refl
next_is (pair ∷ pairs) = ap (λ l. 38 ∷ [] ++ serialize_pair pair ++ l) (next_is pairs)

query_is : (pair : Pair) (pairs : List Pair) → query_text (map serialize_pair (pair ∷ pairs)) ≡ 63 ∷ joined [] (pair ∷ pairs)
query_is pair pairs = ap (λ l. 63 ∷ [] ++ serialize_pair pair ++ l) (next_is pairs)

pub same_pairs : (ps qs : List Pair) → query_text (map serialize_pair ps) ≡ query_text (map serialize_pair qs) → map serialize_pair ps ≡ map serialize_pair qs
same_pairs [] [] same = refl
same_pairs [] (q ∷ qs) same = let other : [] ≡ 63 ∷ joined [] (q ∷ qs) = same ∙ query_is q qs in absurd cc
same_pairs (p ∷ ps) [] same = let other : 63 ∷ joined [] (p ∷ ps) ≡ [] = sym (query_is p ps) ∙ same in absurd cc
same_pairs (p ∷ ps) (q ∷ qs) same =
    let all : 63 ∷ joined [] (p ∷ ps) ≡ 63 ∷ joined [] (q ∷ qs) = sym (query_is p ps) ∙ same ∙ query_is q qs in
    sym (parts p ps) ∙ ap (λ l. slice_split (λ c. c == 38) (drop 1 l)) all ∙ parts q qs

-- ---- two forms whose next pairs that count are these

abbrev pub encoded_all : List Pair → List (List ℕ)
encoded_all pairs = map serialize_pair pairs

module _ (names : List (List ℕ)) (was is : SentPairs) (are : All (IsSender was.filled.page.now) was.senders.now) (are' : All (IsSender is.filled.page.now) is.senders.now)
    (marked : All (SaysFresh names) was.senders.now) (marked' : All (SaysFresh names) is.senders.now) (i j : ℕ) (p : Pair) (below : i < length was.senders.now)
    (first : Some p ≡ counted_here names was are marked i) where
  begins : told_from names was are marked i ≡ p ∷ told_from names was are marked (i + 1)
  begins = told_at names was are marked i below ∙ ap (λ o. cons_option o (told_from names was are marked (i + 1))) (sym first)

  pub not_over : told_from names is are' marked' j ≡ [] → encoded_all (told_from names was are marked i) ≢ encoded_all (told_from names is are' marked' j)
  not_over none same =
      let both : serialize_pair p ∷ encoded_all (told_from names was are marked (i + 1)) ≡ [] = ap encoded_all (sym begins) ∙ same ∙ ap encoded_all none in absurd cc

  module _ (q : Pair) (below' : j < length is.senders.now) (second : Some q ≡ counted_here names is are' marked' j) (same : encoded_all (told_from names was are marked i) ≡ encoded_all (told_from names is are' marked' j)) where
    begins' : told_from names is are' marked' j ≡ q ∷ told_from names is are' marked' (j + 1)
    begins' = told_at names is are' marked' j below' ∙ ap (λ o. cons_option o (told_from names is are' marked' (j + 1))) (sym second)

    both : serialize_pair p ∷ encoded_all (told_from names was are marked (i + 1)) ≡ serialize_pair q ∷ encoded_all (told_from names is are' marked' (j + 1))
    both = ap encoded_all (sym begins) ∙ same ∙ ap encoded_all begins'

    pub first_same : serialize_pair p ≡ serialize_pair q
    first_same = ap (λ l. get_or l 0 []) both

    pub rest_same : encoded_all (told_from names was are marked (i + 1)) ≡ encoded_all (told_from names is are' marked' (j + 1))
    rest_same = ap (drop 1) both

-- nothing is left of one of them
pub none_left : (names : List (List ℕ)) (pairs : SentPairs) (i : ℕ)
    → (i < length pairs.senders.now → is_some (option_and_then (counted_told pairs) (slice_get pairs.senders.now i)) ≡ true)
    → option_and_then (counted_told pairs) (slice_get pairs.senders.now i) ≡ None → told true names (sent_all pairs.filled (drop i pairs.senders.now)) ≡ []
none_left names pairs i some none = elim (slice_get_cases pairs.senders.now i).1 [
  | inl there ↦ absurd (false≢true (ap is_some (sym none) ∙ some there.1))
  | inr past ↦ ap (λ l. told true names (sent_all pairs.filled l)) (drop_of_length-le pairs.senders.now (omega (arith, past.0)))
]

some_there : {A : Type 0} (o : Option A) → is_some o ≡ true → (x : A) × (Some x ≡ o)
some_there None is = absurd (false≢true is)
some_there (Some x) is = (x, refl)

pub more_left : (names : List (List ℕ)) (was is : SentPairs) (are : All (IsSender was.filled.page.now) was.senders.now) (are' : All (IsSender is.filled.page.now) is.senders.now)
    (marked : All (SaysFresh names) was.senders.now) (marked' : All (SaysFresh names) is.senders.now) (i j : ℕ)
    → told_from names was are marked i ≡ [] → j < length is.senders.now → is_some (counted_here names is are' marked' j) ≡ true
    → encoded_all (told_from names was are marked i) ≢ encoded_all (told_from names is are' marked' j)
more_left names was is are are' marked marked' i j none below some same =
    let there = some_there (counted_here names is are' marked' j) some in
    not_over names is was are' are marked' marked j i there.0 below there.1 none (sym same)

-- ---- two forms

module _ (fresh : List (List ℕ)) where
  abbrev pub counted_of : ToldForm → List Pair
  counted_of form = told true fresh (pairs_told form.pairs)

  sent_there : (post : Bool) (number : ℕ) (action pairs : List ℕ) → (sent_to post number action pairs).pairs ≡ pairs
  sent_there true number action pairs = refl
  sent_there false number action pairs = refl

  -- what counts of what it sends
  sent_is : (form : ToldForm) → without_fresh fresh (codes "?" ++ (told_request (Form form)).pairs) ≡ query_text (encoded_all (counted_of form))
  sent_is form =
      ap (λ l. without_fresh fresh (codes "?" ++ l)) (sent_there form.post form.number form.action.now (extend_pairs [] (pairs_told form.pairs)))
      ∙ counted_address_is fresh [] (pairs_told form.pairs)

  not_true : (b : Bool) → b ≢ true → b ≡ false
  not_true true apart = absurd (apart refl)
  not_true false apart = refl

  off : (b : Bool) → (b && false) ≡ false
  off true = refl
  off false = refl

  on : (b : Bool) → (b && true) ≡ b
  on true = refl
  on false = refl

  differ : (a b : List ℕ) → a ≢ b → bytes_eq a b ≡ false
  differ a b apart = not_true (bytes_eq a b) (λ same. apart ((bytes_eq-Decides a b).0 same))

  pub forms_apart : (was is : ToldForm) → encoded_all (counted_of was) ≢ encoded_all (counted_of is) → are_alike fresh (told_request (Form was)) (told_request (Form is)) ≡ false
  forms_apart was is apart =
      let was_sent = without_fresh fresh (codes "?" ++ (told_request (Form was)).pairs) in
      let is_sent = without_fresh fresh (codes "?" ++ (told_request (Form is)).pairs) in
      let here = bytes_eq (without_fresh fresh (told_request (Form was)).address) (without_fresh fresh (told_request (Form is)).address) in
      ap (λ b. here && b) (differ was_sent is_sent (λ same. apart (same_pairs (counted_of was) (counted_of is) (sym (sent_is was) ∙ same ∙ sent_is is)))) ∙ off here

  -- under get
  got_is : (form : ToldForm) (start : List ℕ) → form.post ≡ false → start ≡ (if form.post then form.action.now else bare form.action.now)
      → without_fresh fresh (told_request (Form form)).address ≡ start ++ query_text (encoded_all (counted_of form))
  got_is form start got begins =
      let sent = extend_pairs [] (pairs_told form.pairs) in
      let is : start ≡ bare form.action.now = begins ∙ ap (λ (p : Bool). if p then form.action.now else bare form.action.now) got in
      ap (without_fresh fresh) (sym (got_address form start sent got begins refl)) ∙ ap (λ s. without_fresh fresh (s ++ codes "?" ++ sent)) is
      ∙ counted_address_is fresh form.action.now (pairs_told form.pairs) ∙ ap (λ s. s ++ query_text (encoded_all (counted_of form))) (sym is)

  pub got_alike : (was is : ToldForm) (start start' : List ℕ) → was.post ≡ false → is.post ≡ false
      → start ≡ (if was.post then was.action.now else bare was.action.now) → start' ≡ (if is.post then is.action.now else bare is.action.now)
      → counted_of was ≡ counted_of is → bytes_eq start start' ≡ are_alike fresh (told_request (Form was)) (told_request (Form is))
  got_alike was is start start' got got' begins begins' pairs = go (bytes_eq start start') refl
    where
      was_address : List ℕ
      was_address = without_fresh fresh (told_request (Form was)).address

      is_address : List ℕ
      is_address = without_fresh fresh (told_request (Form is)).address

      query : List ℕ
      query = query_text (encoded_all (counted_of is))

      go : (b : Bool) → bytes_eq start start' ≡ b → bytes_eq start start' ≡ are_alike fresh (told_request (Form was)) (told_request (Form is))
      go true eq =
          eq ∙ sym (forms_alike fresh was is (got ∙ sym got') (sym begins ∙ (bytes_eq-Decides start start').0 eq ∙ begins') pairs)
      go false eq =
          let sent = bytes_eq (without_fresh fresh (codes "?" ++ (told_request (Form was)).pairs)) (without_fresh fresh (codes "?" ++ (told_request (Form is)).pairs)) in
          let apart : was_address ≢ is_address = λ same.
          let whole : start ++ query ≡ start' ++ query = ap (λ l. start ++ query_text (encoded_all l)) (sym pairs) ∙ sym (got_is was start got begins) ∙ same ∙ got_is is start' got' begins' in
          let starts : start ≡ start' = append_cancel_right start start' query whole in
          false≢true (sym eq ∙ (bytes_eq-Decides start start').1 starts) in
          eq ∙ sym (ap (λ b. b && sent) (differ was_address is_address apart))

  -- under post
  posted : (post : Bool) (number : ℕ) (action pairs : List ℕ) → post ≡ true → (sent_to post number action pairs).address ≡ action
  posted true number action pairs is = refl
  posted false number action pairs is = absurd (false≢true is)

  pub posted_alike : (was is : ToldForm) → was.post ≡ true → is.post ≡ true → counted_of was ≡ counted_of is
      → bytes_eq (without_fresh fresh was.action.now) (without_fresh fresh is.action.now) ≡ are_alike fresh (told_request (Form was)) (told_request (Form is))
  posted_alike was is post post' pairs =
      let was_sent = without_fresh fresh (codes "?" ++ (told_request (Form was)).pairs) in
      let is_sent = without_fresh fresh (codes "?" ++ (told_request (Form is)).pairs) in
      let same : bytes_eq was_sent is_sent ≡ true = (bytes_eq-Decides was_sent is_sent).1 (sent_is was ∙ ap (λ l. query_text (encoded_all l)) pairs ∙ sym (sent_is is)) in
      sym (ap₂ (λ (a b : List ℕ). bytes_eq (without_fresh fresh a) (without_fresh fresh b) && bytes_eq was_sent is_sent)
      (posted was.post was.number was.action.now (extend_pairs [] (pairs_told was.pairs)) post) (posted is.post is.number is.action.now (extend_pairs [] (pairs_told is.pairs)) post')
      ∙ ap (λ b. bytes_eq (without_fresh fresh was.action.now) (without_fresh fresh is.action.now) && b) same ∙ on (bytes_eq (without_fresh fresh was.action.now) (without_fresh fresh is.action.now)))
