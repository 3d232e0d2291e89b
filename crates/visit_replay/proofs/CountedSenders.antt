-- What senders send of the pairs that count, compared with a text as it comes.
use Rattle.std.proofs.Common.{◌≡◌, ℕ, ◌+◌, ◌<◌, List, [], ◌∷◌, ◌++◌, map, drop, length, get_or, Bool, true, false, if◌then◌else◌, Option, Some, None, refl, sym, ap, ◌∙◌}
use Rattle.std.specs.List.{cons_option}
use Rattle.std.specs.Str.{bytes_eq}
use Rattle.form_urlencoded.specs.Form.{serialize_pair}
use Rattle.page_looks.specs.Sending.{next_pairs, query_text}
use Rattle.visit_replay.specs.Form.{Pair}
use Rattle.visit_replay.specs.inside.FieldsNow.{is_of_one, left_behind, pair_now, told}
use Rattle.visit_replay.specs.inside.Senders.{IsSender, SaysFresh, sent_all}
use Rattle.visit_replay.specs.declared.forms.Filled.{Filled}
use Rattle.visit_replay.specs.declared.senders.Sender.{Sender}
use Rattle.visit_replay.proofs.LeftBehind.{eq_behind, joined, not_eq}
use Rattle.visit_replay.proofs.OneSenderMore.{sent_from, told_here}

-- ---- pairs as they are written behind a `?`

next_joined : (pairs : List Pair) → next_pairs (map serialize_pair pairs) ≡ joined (38 ∷ []) pairs
next_joined [] = refl
next_joined (pair ∷ pairs) = ap (λ rest. 38 ∷ (serialize_pair pair ++ rest)) (next_joined pairs)

pub text_joined : (pairs : List Pair) → query_text (map serialize_pair pairs) ≡ joined (63 ∷ []) pairs
text_joined [] = refl
text_joined (pair ∷ pairs) = ap (λ rest. 63 ∷ (serialize_pair pair ++ rest)) (next_joined pairs)

-- ---- of the senders from the i-th on

glued : (o : Option Pair) (rest : List Pair) → cons_option o [] ++ rest ≡ cons_option o rest
glued None rest = refl
glued (Some p) rest = refl

module _ (names : List (List ℕ)) where
  parted : (o : Option Pair) (rest : List Pair) → told true names (cons_option o rest) ≡ told true names (cons_option o []) ++ told true names rest
  parted None rest = refl
  parted (Some p) rest = go (is_of_one names p) refl
    where
      go : (b : Bool) → is_of_one names p ≡ b → told true names (p ∷ rest) ≡ told true names (p ∷ []) ++ told true names rest
      go true is = rw is refl
      go false is = rw is refl

  module _ (filled : Filled) (senders : List Sender) (mark rest : List ℕ) (i : ℕ) (sender : Sender) (below : i < length senders) (here : sender ≡ get_or senders i sender) (is_one : IsSender filled.page.now sender) (marked : SaysFresh names sender) where
    abbrev behind : List Pair
    behind = told true names (sent_all filled (drop (i + 1) senders))

    abbrev from_here : List Pair
    from_here = told true names (sent_all filled (drop i senders))

    pub cut_here : from_here ≡ (if sender.is_fresh then [] else cons_option (pair_now filled sender.number) []) ++ behind
    cut_here =
        ap (told true names) (sent_from filled senders i sender below here)
        ∙ parted (pair_now filled sender.number) (sent_all filled (drop (i + 1) senders))
        ∙ ap (λ front. front ++ behind) (told_here names filled sender is_one marked)

    pub passed_here : sender.is_fresh ≡ true → bytes_eq (joined mark behind) rest ≡ bytes_eq (joined mark from_here) rest
    passed_here fresh =
        sym (ap (λ pairs. bytes_eq (joined mark pairs) rest) (cut_here ∙ ap (λ b. (if b then [] else cons_option (pair_now filled sender.number) []) ++ behind) fresh))

    next_is : sender.is_fresh ≡ false → (o : Option Pair) → o ≡ pair_now filled sender.number → bytes_eq (joined mark from_here) rest ≡ bytes_eq (joined mark (cons_option o behind)) rest
    next_is counts o is =
        ap (λ pairs. bytes_eq (joined mark pairs) rest)
        (cut_here ∙ ap (λ b. (if b then [] else cons_option (pair_now filled sender.number) []) ++ behind) counts
        ∙ ap (λ x. cons_option x [] ++ behind) (sym is) ∙ glued o behind)

    pub nothing_here : sender.is_fresh ≡ false → None ≡ pair_now filled sender.number → bytes_eq (joined mark behind) rest ≡ bytes_eq (joined mark from_here) rest
    nothing_here counts is = sym (next_is counts None is)

    pub counted_here : sender.is_fresh ≡ false → (one : Pair) (left : List ℕ) → Some one ≡ pair_now filled sender.number → Some left ≡ left_behind (mark ++ serialize_pair one) rest
        → bytes_eq (joined (38 ∷ []) behind) left ≡ bytes_eq (joined mark from_here) rest
    counted_here counts one left is met = sym (next_is counts (Some one) is ∙ eq_behind (mark ++ serialize_pair one) (joined (38 ∷ []) behind) rest left met)

    pub other_here : sender.is_fresh ≡ false → (one : Pair) → Some one ≡ pair_now filled sender.number → None ≡ left_behind (mark ++ serialize_pair one) rest → false ≡ bytes_eq (joined mark from_here) rest
    other_here counts one is other = sym (next_is counts (Some one) is ∙ not_eq (mark ++ serialize_pair one) (joined (38 ∷ []) behind) rest other)
