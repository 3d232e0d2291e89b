-- What is left of a text behind its front, and when a text is that of pairs.
use Rattle.std.proofs.Common.{◌≡◌, ◌≢◌, ℕ, suc, ◌+◌, ◌-◌, ◌<◌, ◌≤◌, ◌==◌, List, [], ◌∷◌, ◌++◌, length, drop, take, get_or, Bool, true, false, ◌&&◌, if◌then◌else◌, Option, Some, None, option_map, MatchOption, Bor, inl, inr, refl, sym, ap, ap₂, ◌∙◌, append_assoc, append-nil, drop-cons, drop_of_length-le, take_all, length-drop, length-append, eq-eqb, lt-ltb, arith}
use Rattle.std.specs.List.{cons_option}
use Rattle.std.specs.Option.{option_map_or}
use Rattle.std.specs.Str.{bytes_eq}
use Rattle.std.proofs.lemmas.Bool.{ne_eqb}
use Rattle.std.proofs.lemmas.Bool.Decides.{eqb_tells}
use Rattle.form_urlencoded.specs.Form.{append_pair, byte_serialize, extend_pairs, is_unchanged, separator, serialize_byte, serialize_pair}
use Rattle.form_urlencoded.specs.Percent.{percent_encode_byte}
use Rattle.visit_replay.specs.Form.{Pair}
use Rattle.visit_replay.specs.inside.FieldsNow.{left_behind}
use Rattle.visit_replay.specs.inside.FieldsNow.{pair_now}
use Rattle.visit_replay.specs.inside.Senders.{sent_all}
use Rattle.visit_replay.specs.declared.forms.Filled.{Filled}
use Rattle.visit_replay.specs.declared.senders.Sender.{Sender}
use Rattle.visit_replay.proofs.OneSenderMore.{sent_from}

-- ---- a front and what is behind it

behind_front : (front rest : List ℕ) → left_behind front (front ++ rest) ≡ Some rest
behind_front [] rest = refl
behind_front (b ∷ front) rest = rw (eq-eqb b b refl) (behind_front front rest)

is_front : (front text rest : List ℕ) → left_behind front text ≡ Some rest → text ≡ front ++ rest
is_front [] text rest is = cc
is_front (b ∷ front) [] rest is = cc
is_front (b ∷ front) (c ∷ text) rest is = elim (eqb_tells b c) [
  | inl same ↦ ap₂ (λ (x : ℕ) (xs : List ℕ). x ∷ xs) (sym same.1) (is_front front text rest (rw same.0 at is))
  | inr other ↦ let none : None ≡ Some rest = rw other.0 at is in cc
]

-- what `strip_prefix` answers
pub stripped : (front text : List ℕ) (r : Option (Bor (List ℕ))) → MatchOption r ((rest : List ℕ) → text ≢ front ++ rest) (λ x. text ≡ front ++ x.now) → option_map (λ x. x.now) r ≡ left_behind front text
stripped front text (Some x) is = sym (ap (left_behind front) is ∙ behind_front front x.now)
stripped front text None other = sym (nothing (left_behind front text) refl)
  where
    nothing : (o : Option (List ℕ)) → left_behind front text ≡ o → left_behind front text ≡ None
    nothing None e = e
    nothing (Some rest) e = absurd (other rest (is_front front text rest e))

-- ---- one front behind another

pub past_front : (front more text rest : List ℕ) → Some rest ≡ left_behind front text → left_behind (front ++ more) text ≡ left_behind more rest
past_front [] more text rest is = let same : rest ≡ text = cc in ap (left_behind more) (sym same)
past_front (b ∷ front) more [] rest is = cc
past_front (b ∷ front) more (c ∷ text) rest is = go (b == c) is (past_front front more text rest)
  where
    go : (t : Bool) → Some rest ≡ (if t then left_behind front text else None) → (Some rest ≡ left_behind front text → left_behind (front ++ more) text ≡ left_behind more rest)
        → (if t then left_behind (front ++ more) text else None) ≡ left_behind more rest
    go true here later = later here
    go false here later = cc

pub stops : (front more text : List ℕ) → None ≡ left_behind front text → left_behind (front ++ more) text ≡ None
stops [] more text is = cc
stops (b ∷ front) more [] is = refl
stops (b ∷ front) more (c ∷ text) is = go (b == c) is (stops front more text)
  where
    go : (t : Bool) → None ≡ (if t then left_behind front text else None) → (None ≡ left_behind front text → left_behind (front ++ more) text ≡ None)
        → (if t then left_behind (front ++ more) text else None) ≡ None
    go true here later = later here
    go false here later = refl

pub too_long : (front text : List ℕ) → length text < length front → left_behind front text ≡ None
too_long [] text less = absurd (omega (arith, less))
too_long (b ∷ front) [] less = refl
too_long (b ∷ front) (c ∷ text) less = go (b == c) (too_long front text (omega (arith, less)))
  where
    go : (t : Bool) → left_behind front text ≡ None → (if t then left_behind front text else None) ≡ None
    go true none = none
    go false none = refl

-- ---- equal texts

eq_front : (front more text : List ℕ) → bytes_eq (front ++ more) text ≡ option_map_or (bytes_eq more) (left_behind front text) false
eq_front [] more text = refl
eq_front (b ∷ front) more [] = refl
eq_front (b ∷ front) more (c ∷ text) = go (b == c) (eq_front front more text)
  where
    go : (t : Bool) → bytes_eq (front ++ more) text ≡ option_map_or (bytes_eq more) (left_behind front text) false
        → (t && bytes_eq (front ++ more) text) ≡ option_map_or (bytes_eq more) (if t then left_behind front text else None) false
    go true later = later
    go false later = refl

pub eq_behind : (front more text rest : List ℕ) → Some rest ≡ left_behind front text → bytes_eq (front ++ more) text ≡ bytes_eq more rest
eq_behind front more text rest is = eq_front front more text ∙ ap (λ o. option_map_or (bytes_eq more) o false) (sym is)

pub not_eq : (front more text : List ℕ) → None ≡ left_behind front text → bytes_eq (front ++ more) text ≡ false
not_eq front more text is = eq_front front more text ∙ ap (λ o. option_map_or (bytes_eq more) o false) (sym is)

pub eq_both : (front x y : List ℕ) → bytes_eq (front ++ x) (front ++ y) ≡ bytes_eq x y
eq_both front x y = eq_front front x (front ++ y) ∙ ap (λ o. option_map_or (bytes_eq x) o false) (behind_front front y)

-- ---- a word as it is encoded

byte_long : (b : ℕ) → 0 < length (serialize_byte b)
unfolding percent_encode_byte
byte_long b = go (is_unchanged b) (b == 32)
  where
    go : (s t : Bool) → 0 < length (if s then b ∷ [] else (if t then 43 ∷ [] else percent_encode_byte b))
    go true t = omega arith
    go false true = omega arith
    go false false = omega arith

pub no_shorter : (word : List ℕ) → length word ≤ length (byte_serialize word)
unfolding byte_serialize
no_shorter [] = omega arith
no_shorter (b ∷ word) = let long = byte_long b in let later = no_shorter word in omega (arith, length-append (serialize_byte b) (byte_serialize word))

byte_first : (b : ℕ) (word : List ℕ) → byte_serialize (b ∷ word) ≡ serialize_byte b ++ byte_serialize word
unfolding byte_serialize
byte_first b word = refl

nothing_first : byte_serialize [] ≡ []
unfolding byte_serialize
nothing_first = refl

-- where both are gone through side by side, behind that many bytes
module _ (word text : List ℕ) (at one : ℕ) (written : serialize_byte (get_or word at 0) ≡ one ∷ []) (in_word : at < length word) (in_text : at < length text) where
  abbrev there : ℕ
  there = get_or text at 0

  abbrev later : Option (List ℕ)
  later = left_behind (byte_serialize (drop (at + 1) word)) (drop (at + 1) text)

  side_by_side : left_behind (byte_serialize (drop at word)) (drop at text) ≡ (if one == there then later else None)
  side_by_side =
      let next : suc at ≡ at + 1 = omega arith in
      ap₂ (λ p q. left_behind (byte_serialize p) q)
      (drop-cons word at 0 in_word ∙ ap (λ n. get_or word at 0 ∷ drop n word) next)
      (drop-cons text at 0 in_text ∙ ap (λ n. get_or text at 0 ∷ drop n text) next)
      ∙ ap (λ front. left_behind front (there ∷ drop (at + 1) text))
      (byte_first (get_or word at 0) (drop (at + 1) word) ∙ ap (λ front. front ++ byte_serialize (drop (at + 1) word)) written)

  pub byte_met : one ≡ there → later ≡ left_behind (byte_serialize (drop at word)) (drop at text)
  byte_met same = sym (side_by_side ∙ ap (λ (x : Bool). if x then later else None) (eq-eqb one there same))

  pub byte_differs : one ≢ there → None ≡ left_behind (byte_serialize (drop at word)) (drop at text)
  byte_differs other = sym (side_by_side ∙ ap (λ (x : Bool). if x then later else None) (ne_eqb one there other))

pub word_met : (word text : List ℕ) (at : ℕ) → at ≡ length word
    → Some (take (length text - length word) (drop (length word) text)) ≡ left_behind (byte_serialize (drop at word)) (drop at text)
word_met word text at all =
    ap (λ n. Some (take (length text - n) (drop n text))) (sym all)
    ∙ ap Some (take_all (length text - at) (drop at text) (omega (arith, length-drop at text)))
    ∙ sym (ap (λ front. left_behind front (drop at text)) (ap byte_serialize (drop_of_length-le word (omega (arith, all))) ∙ nothing_first))

-- ---- a pair as it is encoded, behind a mark: its name, what stands between, its value

module _ (mark name mid value text : List ℕ) where
  pub value_left : (a b d : List ℕ) → Some a ≡ left_behind mark text → Some b ≡ left_behind name a → Some d ≡ left_behind mid b → left_behind (mark ++ (name ++ mid ++ value)) text ≡ left_behind value d
  value_left a b d first second third =
      past_front mark (name ++ mid ++ value) text a first ∙ past_front (name ++ mid) value a d (third ∙ sym (past_front name mid a b second))

  pub no_name : (a : List ℕ) → Some a ≡ left_behind mark text → None ≡ left_behind name a → left_behind (mark ++ (name ++ mid ++ value)) text ≡ None
  no_name a first second = past_front mark (name ++ mid ++ value) text a first ∙ stops (name ++ mid) value a (sym (stops name mid a second))

  pub no_mid : (a b : List ℕ) → Some a ≡ left_behind mark text → Some b ≡ left_behind name a → None ≡ left_behind mid b → left_behind (mark ++ (name ++ mid ++ value)) text ≡ None
  no_mid a b first second third =
      past_front mark (name ++ mid ++ value) text a first ∙ stops (name ++ mid) value a (third ∙ sym (past_front name mid a b second))

-- ---- pairs as they are encoded

-- the first behind that mark, each further one behind an `&`
abbrev pub joined : List ℕ → List Pair → List ℕ
joined mark [] = []
joined mark (pair ∷ pairs) = mark ++ serialize_pair pair ++ joined (38 ∷ []) pairs

marked : (form : List ℕ) (pair : Pair) → separator (append_pair form pair.0 pair.1) ≡ 38 ∷ []
marked form pair = ap (λ (b : Bool). if b then 38 ∷ [] else []) (lt-ltb 0 (length (append_pair form pair.0 pair.1)) (some form pair.0 pair.1))
  where
    some : (form name value : List ℕ) → 0 < length (append_pair form name value)
    some form name value = simp length-append (omega arith)

regroup : (a b c d : List ℕ) → a ++ b ++ c ++ d ≡ a ++ (b ++ c ++ d)
regroup a b c d = simp append_assoc

extends : (form : List ℕ) (pairs : List Pair) → extend_pairs form pairs ≡ form ++ joined (separator form) pairs
extends form [] = sym (append-nil form)
extends form (pair ∷ pairs) =
    extends (append_pair form pair.0 pair.1) pairs
    ∙ ap (λ mark. append_pair form pair.0 pair.1 ++ joined mark pairs) (marked form pair)
    ∙ regroup form (separator form) (serialize_pair pair) (joined (38 ∷ []) pairs)

pub joined_first : (pairs : List Pair) → joined [] pairs ≡ extend_pairs [] pairs
joined_first pairs = sym (extends [] pairs)

-- ---- of the senders from the i-th on

module _ (filled : Filled) (senders : List Sender) (mark rest : List ℕ) (i : ℕ) (sender : Sender) (below : i < length senders) (here : sender ≡ get_or senders i sender) where
  abbrev behind : List Pair
  behind = sent_all filled (drop (i + 1) senders)

  next_is : (o : Option Pair) → o ≡ pair_now filled sender.number → bytes_eq (joined mark (sent_all filled (drop i senders))) rest ≡ bytes_eq (joined mark (cons_option o behind)) rest
  next_is o is = ap (λ pairs. bytes_eq (joined mark pairs) rest) (sent_from filled senders i sender below here ∙ ap (λ x. cons_option x behind) (sym is))

  pub none_here : None ≡ pair_now filled sender.number → bytes_eq (joined mark behind) rest ≡ bytes_eq (joined mark (sent_all filled (drop i senders))) rest
  none_here is = sym (next_is None is)

  pub met_here : (one : Pair) (left : List ℕ) → Some one ≡ pair_now filled sender.number → Some left ≡ left_behind (mark ++ serialize_pair one) rest
      → bytes_eq (joined (38 ∷ []) behind) left ≡ bytes_eq (joined mark (sent_all filled (drop i senders))) rest
  met_here one left is met = sym (next_is (Some one) is ∙ eq_behind (mark ++ serialize_pair one) (joined (38 ∷ []) behind) rest left met)

  pub differs_here : (one : Pair) → Some one ≡ pair_now filled sender.number → None ≡ left_behind (mark ++ serialize_pair one) rest → false ≡ bytes_eq (joined mark (sent_all filled (drop i senders))) rest
  differs_here one is other = sym (next_is (Some one) is ∙ not_eq (mark ++ serialize_pair one) (joined (38 ∷ []) behind) rest other)
