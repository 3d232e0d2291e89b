-- What senders send is what one after the other does.
use Rattle.std.proofs.Common.{◌≡◌, ℕ, ◌+◌, ◌-◌, ◌<◌, ◌≤◌, List, [], ◌∷◌, ◌++◌, ◌==◌, ◌&&◌, Bool, true, false, if◌then◌else◌, option_map, option_and_then, map, drop, length, get_or, Option, Some, None, refl, arith, ap, ◌∙◌, sym, subst}
use Rattle.std.specs.List.{cons_option, filter_map, range_with_len}
use Rattle.std.specs.Option.{option_map_or}
use Rattle.std.proofs.lemmas.List.{at_drop_more}
use Rattle.std.proofs.lemmas.List.Elements.{filter_map-append}
use Rattle.form_urlencoded.specs.Form.{extend_pairs}
use Rattle.page_tree.specs.Tree.{Tree}
use Rattle.page_tree.specs.Limits.{nodes}
use Rattle.page_tree.specs.Number.{place_numbered}
use Rattle.page_tree.specs.Under.{places_under}
use Rattle.page_tree.proofs.Numbers.{range-append}
use Rattle.page_tree.specs.Control.{control_at}
use Rattle.visit_replay.specs.Form.{Pair, sent_name, sent_value}
use Rattle.visit_replay.specs.inside.KeptFields.{text_now, is_on_now}
use Rattle.visit_replay.specs.declared.forms.Filled.{Filled}
use Rattle.visit_replay.specs.declared.senders.Sender.{Sender}
use Rattle.visit_replay.specs.declared.senders.MaySend.TheVariants.{Text}
use Rattle.page_tree.specs.declared.starting.StartText.TheVariants.{Whole}
use Rattle.visit_replay.specs.inside.FieldsNow.{OfSent, is_of_one, pair_now, pairs_now, told}
use Rattle.visit_replay.specs.inside.OneEvent.{IsWithin}
use Rattle.visit_replay.specs.inside.Senders.{SaysCounted, SaysFresh, IsSender, sent_all}
use Rattle.visit_replay.proofs.FieldsStandForEvents.{same_sent}
use Rattle.visit_replay.proofs.Places.{read_here}

-- those from the i-th on
left_here : {A : Type 0} (xs : List A) (i : ℕ) (x : A) → i < length xs → x ≡ get_or xs i x → drop i xs ≡ x ∷ drop (i + 1) xs
left_here xs i x below is = at_drop_more (λ l. l) xs i x below ∙ ap (λ y. y ∷ drop (i + 1) xs) (sym is)

-- what a read past the end of senders would give, and the one there
abbrev pub no_sender : Sender
no_sender = record { number = 0; name = record { ref_ptr = (0, 0); now = [] }; is_fresh = false; sends = Text (Whole (record { ref_ptr = (0, 0); now = [] })) }

abbrev pub sender_there : List Sender → ℕ → Sender
sender_there senders i = get_or senders i no_sender

pub sender_is : (senders : List Sender) (i : ℕ) → i < length senders → sender_there senders i ≡ get_or senders i (sender_there senders i)
sender_is senders i below = read_here senders i no_sender below

pub sent_from : (filled : Filled) (senders : List Sender) (i : ℕ) (sender : Sender) → i < length senders → sender ≡ get_or senders i sender
    → sent_all filled (drop i senders) ≡ cons_option (pair_now filled sender.number) (sent_all filled (drop (i + 1) senders))
sent_from filled senders i sender below is = ap (sent_all filled) (left_here senders i sender below is)

-- and they are written so, all or those that count
extend_one : (counted : Bool) (names : List (List ℕ)) (form : List ℕ) (o : Option Pair) (rest : List Pair)
    → extend_pairs (extend_pairs form (told counted names (cons_option o []))) (told counted names rest) ≡ extend_pairs form (told counted names (cons_option o rest))
extend_one false names form None rest = refl
extend_one false names form (Some p) rest = refl
extend_one true names form None rest = refl
extend_one true names form (Some p) rest = go (is_of_one names p) refl
  where
    go : (b : Bool) → is_of_one names p ≡ b → extend_pairs (extend_pairs form (told true names (p ∷ []))) (told true names rest) ≡ extend_pairs form (told true names (p ∷ rest))
    go true is = rw is refl
    go false is = rw is refl

pub extend_sender : (counted : Bool) (names : List (List ℕ)) (filled : Filled) (senders : List Sender) (form : List ℕ) (i : ℕ) (sender : Sender) → i < length senders → sender ≡ get_or senders i sender
    → extend_pairs (extend_pairs form (told counted names (cons_option (pair_now filled sender.number) []))) (told counted names (sent_all filled (drop (i + 1) senders))) ≡ extend_pairs form (told counted names (sent_all filled (drop i senders)))
extend_sender counted names filled senders form i sender below is =
    extend_one counted names form (pair_now filled sender.number) (sent_all filled (drop (i + 1) senders))
    ∙ ap (λ them. extend_pairs form (told counted names them)) (sym (sent_from filled senders i sender below is))

-- ---- a sender whose name is fresh, or isn't

abbrev pub with_value : Option (List ℕ) → List ℕ → Option Pair
with_value o name = option_map (λ v. (name, v)) o

named : (name : List ℕ) (n o : Option (List ℕ)) → n ≡ Some name → option_and_then (with_value o) n ≡ with_value o name
named name n o is = ap (option_and_then (with_value o)) is

told_of : (names : List (List ℕ)) (name : List ℕ) (o : Option (List ℕ)) (b : Bool) → ((value : List ℕ) → b ≡ is_of_one names (name, value))
    → told true names (cons_option (option_map (λ v. (name, v)) o) []) ≡ (if b then [] else cons_option (option_map (λ v. (name, v)) o) [])
told_of names name None true marked = refl
told_of names name None false marked = refl
told_of names name (Some v) true marked = rw (← marked v) refl
told_of names name (Some v) false marked = rw (← marked v) refl

-- the value that it sends, if any
abbrev pub value_now : Filled → ℕ → Option (List ℕ)
value_now filled number =
    let new = filled.page.now in let place = place_numbered number new in
    sent_value (control_at place new) (text_now filled.fields.now new number) (is_on_now filled.fields.now new number)
    (option_map_or (λ pressed. pressed == number) filled.button false) new place

pub sender_sends : (filled : Filled) (sender : Sender) → IsSender filled.page.now sender → pair_now filled sender.number ≡ with_value (value_now filled sender.number) sender.name.now
sender_sends filled sender is = named sender.name.now (sent_name (place_numbered sender.number filled.page.now) filled.page.now) (value_now filled sender.number) is.name

pub told_here : (names : List (List ℕ)) (filled : Filled) (sender : Sender) → IsSender filled.page.now sender → SaysFresh names sender
    → told true names (cons_option (pair_now filled sender.number) []) ≡ (if sender.is_fresh then [] else cons_option (pair_now filled sender.number) [])
told_here names filled sender is marked =
    let whole = sender_sends filled sender is in
    ap (λ o. told true names (cons_option o [])) whole ∙ told_of names sender.name.now (value_now filled sender.number) sender.is_fresh marked ∙ ap (λ (o : Option Pair). if sender.is_fresh then [] else cons_option o []) (sym whole)

pub told_either : (counted : Bool) (names : List (List ℕ)) (filled : Filled) (sender : Sender) → IsSender filled.page.now sender → SaysCounted counted names sender
    → told counted names (cons_option (pair_now filled sender.number) []) ≡ (if counted && sender.is_fresh then [] else cons_option (pair_now filled sender.number) [])
told_either false names filled sender is marked = refl
told_either true names filled sender is marked = told_here names filled sender is (marked refl)

-- of the nodes up to one number, and of that one
pub numbered_more : (filled : Filled) (start number : ℕ) → start ≤ number → pairs_now filled start (number + 1) ≡ pairs_now filled start number ++ cons_option (pair_now filled number) []
numbered_more filled start number up =
    let many : (number + 1) - start ≡ (number - start) + 1 = omega (arith, up) in
    let here : start + (number - start) ≡ number = omega (arith, up) in
    ap (λ k. filter_map (pair_now filled) (range_with_len start k)) many
    ∙ ap (filter_map (pair_now filled)) (range-append start (number - start) 1)
    ∙ filter_map-append (pair_now filled) (range_with_len start (number - start)) (range_with_len (start + (number - start)) 1)
    ∙ ap (λ k. pairs_now filled start number ++ filter_map (pair_now filled) (range_with_len k 1)) here

pub none_numbered : (filled : Filled) (start : ℕ) → pairs_now filled start start ≡ []
none_numbered filled start = let none : start - start ≡ 0 = omega arith in ap (λ k. filter_map (pair_now filled) (range_with_len start k)) none

-- one sender more behind the others
pub sender_more : (filled : Filled) (senders : List Sender) (sender : Sender) → sent_all filled (senders ++ sender ∷ []) ≡ sent_all filled senders ++ cons_option (pair_now filled sender.number) []
sender_more filled senders sender = filter_map-append (λ s. pair_now filled s.number) senders (sender ∷ [])

-- the nodes of a form send what it sends, whatever the fields hold
pub sent_under : (filled : Filled) (page : Tree) → filled.page.now ≡ page → (form start end : ℕ) → IsWithin filled.button page
    → places_under (place_numbered form page) page ≡ map (λ k. place_numbered k page) (range_with_len start (end - start)) → start ≤ end → end ≤ nodes page
    → OfSent filled form (λ pairs. pairs_now filled start end ≡ pairs)
sent_under filled page on form start end within under some few = λ text states held.
    same_sent filled text states (place_numbered form filled.page.now) start end held (subst (IsWithin filled.button) (sym on) within)
    (subst (λ p. places_under (place_numbered form p) p ≡ map (λ k. place_numbered k p) (range_with_len start (end - start))) (sym on) under) some (subst (λ p. end ≤ nodes p) (sym on) few)
