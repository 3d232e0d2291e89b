-- Words and pairs as a form sends them: how they are added, and that a JSON string escapes none of their bytes.
use Rattle.std.proofs.Common.{◌≡◌, ◌≢◌, ℕ, zero, suc, ◌+◌, ◌<◌, ◌≤◌, List, [], ◌∷◌, ◌++◌, length, get_or, drop, drop-cons, Bool, true, false, Option, Some, None, option_and_then, slice_get, if◌then◌else◌, codes, decimal, ⊎_elim, All, refl, sym, ap, ap₂, ◌∙◌, append_assoc, append-nil, arith}
use Rattle.std.proofs.lemmas.Bool.Decides.{nat_tests}
use Rattle.std.proofs.lemmas.Grind.{flat_map-append}
use Rattle.std.proofs.lemmas.List.{drop_all}
use Rattle.std.proofs.lemmas.List.Elements.{All-head, All-tail}
use Rattle.std.specs.List.{cons_option, filter_map, flat_map}
use Rattle.form_urlencoded.specs.Form.{byte_serialize, serialize_byte, serialize_pair, extend_pairs}
use Rattle.form_urlencoded.specs.Percent.{percent_encode_byte}
use Rattle.form_urlencoded.proofs.FormLemmas.{IsSerializedByte, All-byte_serialize, byte_serialize-append}
use Rattle.json.specs.Print.{escape, escape_byte}
use Rattle.json.proofs.Printed.Strings.{escape_byte_plain}
use Rattle.visit_replay.specs.Form.{Pair, bare, sent_to}
use Rattle.visit_replay.specs.inside.Tellings.{pair_told, pairs_told, told_request}
use Rattle.visit_replay.specs.declared.sent_pairs.SentPairs.{SentPairs}
use Rattle.visit_replay.specs.declared.told.ToldForm.{ToldForm}
use Rattle.visit_replay.specs.declared.told.ToldRequest.TheVariants.{Form}
use Rattle.visit_replay.proofs.LeftBehind.{joined, joined_first}
use Rattle.warp_run.specs.Report.{json_string, report_line, request_line}
use Rattle.warp_run.specs.inside.{form_start}

-- ---- a word, byte by byte

pub three : (b : ℕ) → length (percent_encode_byte b) ≡ 3
unfolding percent_encode_byte
three b = refl

pub byte_held : (held next word : List ℕ) (i : ℕ) → i < length word → next ≡ held ++ serialize_byte (get_or word i 0)
    → next ++ byte_serialize (drop (i + 1) word) ≡ held ++ byte_serialize (drop i word)
unfolding byte_serialize
byte_held held next word i below is =
    let after : suc i ≡ i + 1 = omega arith in
    let here : drop i word ≡ get_or word i 0 ∷ drop (i + 1) word = drop-cons word i 0 below ∙ ap (λ n. get_or word i 0 ∷ drop n word) after in
    ap (λ h. h ++ byte_serialize (drop (i + 1) word)) is
    ∙ append_assoc held (serialize_byte (get_or word i 0)) (byte_serialize (drop (i + 1) word))
    ∙ ap (λ w. held ++ byte_serialize w) (sym here)

pub word_held : (held word : List ℕ) (i : ℕ) → length word ≤ i → held ≡ held ++ byte_serialize (drop i word)
unfolding byte_serialize
word_held held word i past = sym (ap (λ w. held ++ byte_serialize w) (drop_all i word past) ∙ append-nil held)

-- ---- several texts in one word

pub word_first : (word : List ℕ) (rest all : List (List ℕ)) → all ≡ word ∷ rest
    → byte_serialize word ++ byte_serialize (flat_map (λ w. w) rest) ≡ byte_serialize (flat_map (λ w. w) all)
word_first word rest all is = sym (ap (λ ws. byte_serialize (flat_map (λ w. w) ws)) is ∙ byte_serialize-append word (flat_map (λ w. w) rest))

pub no_word : (all : List (List ℕ)) → all ≡ [] → [] ≡ byte_serialize (flat_map (λ w. w) all)
unfolding byte_serialize
no_word all is = sym (ap (λ ws. byte_serialize (flat_map (λ w. w) ws)) is)

-- ---- pairs

-- those from that place on
abbrev pub pairs_from : SentPairs → ℕ → List Pair
pairs_from pairs place = filter_map (pair_told pairs) (drop place pairs.senders.now)

from_here : {A B : Type 0} (f : A → Option B) (xs : List A) (i : ℕ)
    → filter_map f (drop i xs) ≡ cons_option (option_and_then f (slice_get xs i)) (filter_map f (drop (suc i) xs))
from_here f [] zero = refl
from_here f [] (suc i) = refl
from_here f (x ∷ xs) zero = refl
from_here f (x ∷ xs) (suc i) = from_here f xs i

module _ (pairs : SentPairs) (mark : List ℕ) (place : ℕ) where
  abbrev pub there : Option Pair
  there = option_and_then (pair_told pairs) (slice_get pairs.senders.now place)

  next_is : (o : Option Pair) → o ≡ there → joined mark (cons_option o (pairs_from pairs (place + 1))) ≡ joined mark (pairs_from pairs place)
  next_is o is =
      let after : suc place ≡ place + 1 = omega arith in
      sym (ap (joined mark) (from_here (pair_told pairs) pairs.senders.now place ∙ ap₂ (λ (x : Option Pair) (n : ℕ). cons_option x (pairs_from pairs n)) (sym is) after))

  pub no_pair : None ≡ there → joined mark (pairs_from pairs (place + 1)) ≡ joined mark (pairs_from pairs place)
  no_pair is = next_is None is

  pub pair_first : (one : Pair) → Some one ≡ there
      → mark ++ (serialize_pair one ++ joined (38 ∷ []) (pairs_from pairs (place + 1))) ≡ joined mark (pairs_from pairs place)
  pair_first one is = sym (append_assoc mark (serialize_pair one) (joined (38 ∷ []) (pairs_from pairs (place + 1)))) ∙ next_is (Some one) is

  pub pairs_end : length pairs.senders.now ≤ place → [] ≡ joined mark (pairs_from pairs place)
  pairs_end past = sym (ap (λ senders. joined mark (filter_map (pair_told pairs) senders)) (drop_all place pairs.senders.now past))

-- ---- none of these bytes is escaped

plain_byte : (b : ℕ) → IsSerializedByte b → escape_byte b ≡ b ∷ []
plain_byte b h = escape_byte_plain b tests.0 tests.1 tests.2
  where
    tests : (b ≢ 34) × (b ≢ 92) × (32 ≤ b)
    tests = ⊎_elim (λ kept. (λ e. grind (arith, nat_tests), λ e. grind (arith, nat_tests), grind (arith, nat_tests)))
        (λ other. (λ e. grind arith, λ e. grind arith, grind arith)) h.allowed

all_plain : (bytes : List ℕ) → All IsSerializedByte bytes → escape bytes ≡ bytes
all_plain [] all = refl
all_plain (b ∷ bytes) all =
    ap₂ (λ (x y : List ℕ). x ++ y) (plain_byte b (All-head IsSerializedByte b bytes all)) (all_plain bytes (All-tail IsSerializedByte b bytes all))

plain_both : (a b : List ℕ) → escape a ≡ a → escape b ≡ b → escape (a ++ b) ≡ a ++ b
plain_both a b p q = flat_map-append escape_byte a b ∙ ap₂ (λ (x y : List ℕ). x ++ y) p q

plain_word : (word : List ℕ) → escape (byte_serialize word) ≡ byte_serialize word
plain_word word = all_plain (byte_serialize word) (All-byte_serialize word)

-- `=`, `&` and `?`
plain_equals : escape (61 ∷ []) ≡ 61 ∷ []
unfolding escape_byte
plain_equals = refl

plain_mark : escape (38 ∷ []) ≡ 38 ∷ []
unfolding escape_byte
plain_mark = refl

plain_question : escape (63 ∷ []) ≡ 63 ∷ []
unfolding escape_byte
plain_question = refl

plain_pair : (pair : Pair) → escape (serialize_pair pair) ≡ serialize_pair pair
plain_pair pair =
    plain_both (byte_serialize pair.0 ++ 61 ∷ []) (byte_serialize pair.1) (plain_both (byte_serialize pair.0) (61 ∷ []) (plain_word pair.0) plain_equals) (plain_word pair.1)

plain_joined : (mark : List ℕ) (pairs : List Pair) → escape mark ≡ mark → escape (joined mark pairs) ≡ joined mark pairs
plain_joined mark [] plain = refl
plain_joined mark (pair ∷ pairs) plain =
    plain_both (mark ++ serialize_pair pair) (joined (38 ∷ []) pairs) (plain_both mark (serialize_pair pair) plain (plain_pair pair)) (plain_joined (38 ∷ []) pairs plain_mark)

plain_pairs : (pairs : List Pair) → escape (extend_pairs [] pairs) ≡ extend_pairs [] pairs
plain_pairs pairs = ap escape (sym (joined_first pairs)) ∙ plain_joined [] pairs refl ∙ joined_first pairs

-- ---- the line of a request in the pieces in which it is put

pub bare_line : (method number address : List ℕ)
    → (method ++ number) ++ (codes " " ++ (address ++ 10 ∷ [])) ≡ method ++ number ++ codes " " ++ address ++ 10 ∷ []
bare_line method number address = simp append_assoc

pub load_line : (number address : List ℕ)
    → codes "load " ++ number ++ codes " " ++ address ++ 10 ∷ [] ≡ report_line (codes "load" ∷ number ∷ address ∷ [])
load_line number address = simp append_assoc

pub link_line : (number address : List ℕ)
    → codes "get " ++ number ++ codes " " ++ address ++ 10 ∷ [] ≡ report_line (codes "get" ∷ number ∷ address ∷ [])
link_line number address = simp append_assoc

pub start_posted : (post : Bool) (number action other : List ℕ) → post ≡ true
    → (codes "post " ++ number) ++ (codes " " ++ (action ++ 32 ∷ 34 ∷ []))
    ≡ (if post then codes "post " ++ number ++ codes " " ++ action ++ 32 ∷ 34 ∷ [] else other)
start_posted post number action other is = rw is (simp append_assoc)

pub start_got : (post : Bool) (number action start other : List ℕ) → post ≡ false → start ≡ (if post then action else bare action)
    → (codes "get " ++ number) ++ (32 ∷ 34 ∷ (escape start ++ codes "?"))
    ≡ (if post then other else codes "get " ++ number ++ 32 ∷ 34 ∷ [] ++ escape (bare action) ++ codes "?")
start_got post number action start other is begins = let plain : start ≡ bare action = rw is at begins in rw (is, plain) (simp append_assoc)

-- what stands at the end of the pairs, and at that of the line
posted_parts : (a number b action c pairs d e : List ℕ)
    → (a ++ number ++ b ++ action ++ c) ++ (pairs ++ (d ++ e)) ≡ (a ++ (number ++ (b ++ (action ++ (c ++ (pairs ++ d)))))) ++ e
posted_parts a number b action c pairs d e = simp append_assoc

got_parts : (a number b start c pairs d e : List ℕ)
    → (a ++ number ++ b ++ start ++ c) ++ (pairs ++ (d ++ e)) ≡ (a ++ (number ++ (b ++ (start ++ c ++ pairs ++ d)))) ++ e
got_parts a number b start c pairs d e = simp append_assoc

posted : (number action pairs : List ℕ) → escape pairs ≡ pairs
    → (codes "post " ++ number ++ codes " " ++ action ++ 32 ∷ 34 ∷ []) ++ (pairs ++ 34 ∷ 10 ∷ [])
    ≡ report_line (codes "post" ∷ number ∷ action ∷ json_string pairs ∷ [])
posted number action pairs plain = rw plain (posted_parts (codes "post ") number (codes " ") action (32 ∷ 34 ∷ []) pairs (34 ∷ []) (10 ∷ []))

queried : (start pairs : List ℕ) → escape pairs ≡ pairs → escape (start ++ codes "?" ++ pairs) ≡ escape start ++ codes "?" ++ pairs
queried start pairs plain =
    flat_map-append escape_byte (start ++ codes "?") pairs
    ∙ ap₂ (λ (x y : List ℕ). x ++ y) (flat_map-append escape_byte start (codes "?") ∙ ap (λ q. escape start ++ q) plain_question) plain

got : (number start pairs : List ℕ) → escape pairs ≡ pairs
    → (codes "get " ++ number ++ 32 ∷ 34 ∷ [] ++ escape start ++ codes "?") ++ (pairs ++ 34 ∷ 10 ∷ [])
    ≡ report_line (codes "get" ∷ number ∷ json_string (start ++ codes "?" ++ pairs) ∷ [])
got number start pairs plain =
    rw (queried start pairs plain) (got_parts (codes "get ") number (32 ∷ 34 ∷ []) (escape start) (codes "?") pairs (34 ∷ []) (10 ∷ []))

sent_line : (post : Bool) (number : ℕ) (action pairs : List ℕ) → escape pairs ≡ pairs
    → (if post then codes "post " ++ decimal number ++ codes " " ++ json_string action ++ 32 ∷ 34 ∷ [] else codes "get " ++ decimal number ++ 32 ∷ 34 ∷ [] ++ escape (bare action) ++ codes "?")
    ++ (pairs ++ 34 ∷ 10 ∷ []) ≡ request_line (sent_to post number action pairs)
sent_line true number action pairs plain = posted (decimal number) (json_string action) pairs plain
sent_line false number action pairs plain = got (decimal number) (bare action) pairs plain

pub form_line : (form : ToldForm)
    → form_start form ++ (extend_pairs [] (pairs_told form.pairs) ++ 34 ∷ 10 ∷ []) ≡ request_line (told_request (Form form))
form_line form = sent_line form.post form.number form.action.now (extend_pairs [] (pairs_told form.pairs)) (plain_pairs (pairs_told form.pairs))
