-- Pairs that count, told one after another.
use Rattle.std.proofs.Common.{◌≡◌, ℕ, ◌+◌, ◌<◌, List, [], ◌∷◌, ◌++◌, codes, Bool, true, false, not, if◌then◌else◌, All, length, drop, get_or, is_some, slice_get, Option, Some, None, option_map, option_and_then, inl, inr, refl, sym, ap, subst, ◌∙◌, arith}
use Rattle.std.specs.List.{cons_option}
use Rattle.std.specs.Str.{bytes_eq}
use Rattle.std.proofs.lemmas.Bool.{false≢true}
use Rattle.std.proofs.lemmas.Slice.Eq.{bytes_eq-Decides}
use Rattle.form_urlencoded.specs.Form.{extend_pairs}
use Rattle.std.proofs.lemmas.List.Elements.{filter-append}
use Rattle.std.proofs.lemmas.Option.{slice_get_cases}
use Rattle.visit_replay.specs.Form.{Pair, bare, sent_to}
use Rattle.visit_replay.specs.inside.FieldsNow.{is_of_one, pair_now, told}
use Rattle.visit_replay.specs.inside.Senders.{IsSender, SaysCounted, SaysFresh, sent_all}
use Rattle.visit_replay.specs.inside.Tellings.{counted_told, pairs_told, told_counted, told_request}
use Rattle.visit_replay.specs.declared.told.ToldForm.{ToldForm}
use Rattle.visit_replay.specs.declared.told.ToldRequest.{ToldRequest}
use Rattle.visit_replay.specs.declared.told.ToldRequest.TheVariants.{Form}
use Rattle.visit_replay.specs.declared.senders.Sender.{Sender}
use Rattle.visit_replay.specs.declared.sent_pairs.SentPairs.{SentPairs}
use Rattle.visit_replay.proofs.OneSenderMore.{sent_from, told_here}

told_first : (names : List (List ℕ)) (o : Option Pair) (rest : List Pair) → told true names (cons_option o rest) ≡ told true names (cons_option o []) ++ told true names rest
told_first names None rest = refl
told_first names (Some pair) rest = filter-append (λ p. not (is_of_one names p)) (pair ∷ []) rest

fresh_or : (b : Bool) (o : Option Pair) (rest : List Pair) → (if b then [] else cons_option o []) ++ rest ≡ cons_option (if b then None else o) rest
fresh_or true o rest = refl
fresh_or false None rest = refl
fresh_or false (Some pair) rest = refl

module _ (names : List (List ℕ)) (pairs : SentPairs) (are : All (IsSender pairs.filled.page.now) pairs.senders.now) (marked : All (SaysFresh names) pairs.senders.now) where
  -- of those that stand from that place on
  abbrev pub told_from : ℕ → List Pair
  told_from i = told true names (sent_all pairs.filled (drop i pairs.senders.now))

  -- the one at that place, if it counts
  abbrev pub counted_here : ℕ → Option Pair
  counted_here i = option_and_then (counted_told pairs) (slice_get pairs.senders.now i)

  one_told : (i : ℕ) (sender : Sender) → i < length pairs.senders.now → get_or pairs.senders.now i sender ≡ sender → told_from i ≡ cons_option (counted_told pairs sender) (told_from (i + 1))
  one_told i sender below here =
      let o = pair_now pairs.filled sender.number in
      let is : IsSender pairs.filled.page.now sender = subst (IsSender pairs.filled.page.now) here (are i sender below) in
      let says : SaysFresh names sender = subst (SaysFresh names) here (marked i sender below) in
      ap (told true names) (sent_from pairs.filled pairs.senders.now i sender below (sym here))
      ∙ told_first names o (sent_all pairs.filled (drop (i + 1) pairs.senders.now))
      ∙ ap (λ l. l ++ told_from (i + 1)) (told_here names pairs.filled sender is says)
      ∙ fresh_or sender.is_fresh o (told_from (i + 1))

  pub told_at : (i : ℕ) → i < length pairs.senders.now → told_from i ≡ cons_option (counted_here i) (told_from (i + 1))
  told_at i below = elim (slice_get_cases pairs.senders.now i).1 [
    | inl some ↦ one_told i some.0 some.1 some.3 ∙ ap (λ o. cons_option (option_and_then (counted_told pairs) o) (told_from (i + 1))) (sym some.2)
    | inr none ↦ absurd (omega (arith, below, none.0))
  ]

  pub told_past : (i : ℕ) → i < length pairs.senders.now → counted_here i ≡ None → told_from (i + 1) ≡ told_from i
  told_past i below none = sym (told_at i below ∙ ap (λ o. cons_option o (told_from (i + 1))) none)

pub is_none : {A : Type 0} (o : Option A) → is_some o ≡ false → o ≡ None
is_none None is = refl
is_none (Some x) is = cc

pub not_there : {A B : Type 0} (f : A → B) (r : Option A) (o : Option B) → option_map f r ≡ o → is_some r ≡ false → o ≡ None
not_there f None o is none = sym is
not_there f (Some x) o is none = cc

-- two forms whose next pairs that count are the same
module _ (names : List (List ℕ)) (was is : SentPairs) (are : All (IsSender was.filled.page.now) was.senders.now) (are' : All (IsSender is.filled.page.now) is.senders.now)
    (marked : All (SaysFresh names) was.senders.now) (marked' : All (SaysFresh names) is.senders.now) where
  pub both_told : (i j : ℕ) (p q : Pair) → i < length was.senders.now → j < length is.senders.now → Some p ≡ counted_here names was are marked i → Some q ≡ counted_here names is are' marked' j → p ≡ q
      → told_from names was are marked (i + 1) ≡ told_from names is are' marked' (j + 1) → told_from names was are marked i ≡ told_from names is are' marked' j
  both_told i j p q below below' first second same rest =
      told_at names was are marked i below ∙ ap (λ o. cons_option o (told_from names was are marked (i + 1))) (sym first)
      ∙ ap (λ r. r ∷ told_from names was are marked (i + 1)) same ∙ ap (λ l. q ∷ l) rest
      ∙ ap (λ o. cons_option o (told_from names is are' marked' (j + 1))) second ∙ sym (told_at names is are' marked' j below')

pub some_within : (pairs : SentPairs) (i : ℕ) (p : Pair) → Some p ≡ option_and_then (counted_told pairs) (slice_get pairs.senders.now i) → i < length pairs.senders.now
some_within pairs i p is = elim (slice_get_cases pairs.senders.now i).1 [
  | inl some ↦ some.1
  | inr none ↦ let nothing : Some p ≡ None = is ∙ ap (option_and_then (counted_told pairs)) none.1 in absurd cc
]

-- ---- all pairs, or those that count

pub uncounted : (names : List (List ℕ)) (senders : List Sender) → All (SaysCounted false names) senders
uncounted names senders = λ k d below. λ is. absurd (false≢true is)

pub says_counted : (counted : Bool) (names : List (List ℕ)) (senders : List Sender) → (counted ≡ true → All (SaysFresh names) senders) → All (SaysCounted counted names) senders
says_counted counted names senders given = λ k d below. λ is. given is k d below

pub told_or : (counted : Bool) (names : List (List ℕ)) (form : ToldForm) → sent_to form.post form.number form.action.now (extend_pairs [] (told counted names (pairs_told form.pairs)))
    ≡ (if counted then told_counted names (Form form) else told_request (Form form))
told_or true names form = refl
told_or false names form = refl

-- ---- where a form goes

abbrev pub is_posted : ToldRequest → Bool
is_posted (Form form) = form.post
is_posted other = false

got_there : (post : Bool) (number : ℕ) (action start pairs them : List ℕ) → post ≡ false → start ≡ (if post then action else bare action) → pairs ≡ them → start ++ codes "?" ++ pairs ≡ (sent_to post number action them).address
got_there true number action start pairs them is begins are = absurd (false≢true (sym is))
got_there false number action start pairs them is begins are = ap (λ s. s ++ codes "?" ++ pairs) begins ∙ ap (λ p. bare action ++ codes "?" ++ p) are

pub got_address : (form : ToldForm) (start pairs : List ℕ) → form.post ≡ false → start ≡ (if form.post then form.action.now else bare form.action.now) → pairs ≡ extend_pairs [] (pairs_told form.pairs)
    → start ++ codes "?" ++ pairs ≡ (told_request (Form form)).address
got_address form start pairs is begins are = got_there form.post form.number form.action.now start pairs (extend_pairs [] (pairs_told form.pairs)) is begins are

-- ---- texts that don't differ

pub same_text : (a b : List ℕ) (differ : Bool) → differ ≡ not (bytes_eq a b) → differ ≡ false → a ≡ b
same_text a b differ is none = go (bytes_eq a b) refl (sym is ∙ none)
  where
    go : (eq : Bool) → bytes_eq a b ≡ eq → not eq ≡ false → a ≡ b
    go true eq off = (bytes_eq-Decides a b).0 eq
    go false eq off = absurd (false≢true (sym off))
