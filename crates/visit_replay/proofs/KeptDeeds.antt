-- Deeds as they are kept: what is added behind them leaves them as they are.
use Rattle.std.proofs.Common.{◌≡◌, ℕ, List, [], ◌∷◌, ◌++◌, map, All, length, get_or, slice_range, Option, refl, ◌∙◌, ap, ap₂, arith}
use Rattle.std.specs.Prelude.{IsUtf8}
use Rattle.std.proofs.lemmas.List.{map-append}
use Rattle.std.proofs.lemmas.List.Elements.{All-append, All-cons, All-nil, All-tail}
use Rattle.std.proofs.lemmas.Str.{IsCharBoundary-end}
use lib.ListN.{get_or-append}
use Rattle.page_tree.specs.inside.Cuts.{IsCut}
use Rattle.page_tree.proofs.Cutting.{cut_added}
use Rattle.visit_replay.specs.inside.Deed.{Typed, Sent}
use Rattle.visit_replay.specs.inside.KeptDeeds.{no_submit, deed_kept, IsBacked}
use Rattle.visit_replay.specs.declared.deeds.KeptDeed.{KeptDeed}
use Rattle.visit_replay.specs.declared.deeds.KeptDeed.TheVariants as kept
use Rattle.visit_replay.specs.declared.deeds.Submit.{Submit}

same_mapped : {X Y : Type 0} (f g : X → Y) (P : X → Type 0) → ((x : X) → P x → f x ≡ g x) → (xs : List X) → All P xs → map f xs ≡ map g xs
same_mapped f g P same [] all = refl
same_mapped f g P same (x ∷ xs) all = ap₂ (λ y ys. y ∷ ys) (same x (all 0 x (omega arith))) (same_mapped f g P same xs (All-tail P x xs all))

all_mapped : {X : Type 0} (P Q : X → Type 0) → ((x : X) → P x → Q x) → (xs : List X) → All P xs → All Q xs
all_mapped P Q to xs all k d below = to _ (all k d below)

-- ---- a text more

part_stays : (typed text : List ℕ) (start end : ℕ) → IsUtf8 text → IsCut typed start end
    → (slice_range (typed ++ text) start end ≡ slice_range typed start end) × IsCut (typed ++ text) start end
part_stays typed text start end valid is =
    let rest : IsCut typed end (length typed) = record { order = is.ends.0; starts = is.ends; ends = IsCharBoundary-end typed } in
    let (same, are) = cut_added typed text start (end ∷ length typed ∷ []) valid (is, (rest, refl)) in
    (ap (λ texts. get_or texts 0 []) same, are.0)

part_added : (typed text : List ℕ) → IsUtf8 text → (slice_range (typed ++ text) (length typed) (length (typed ++ text)) ≡ text)
    × IsCut (typed ++ text) (length typed) (length (typed ++ text))
part_added typed text valid =
    let (same, are) = cut_added typed text (length typed) [] valid refl in
    (ap (λ texts. get_or texts 0 []) same, are.0)

module _ (typed text : List ℕ) (submits : List Submit) (valid : IsUtf8 text) where
  stays : (d : KeptDeed) → IsBacked typed submits d → (deed_kept (typed ++ text) submits d ≡ deed_kept typed submits d) × IsBacked (typed ++ text) submits d
  stays (kept.Typed field start end) is = let (same, still) = part_stays typed text start end valid is in (ap (Typed field) same, still)
  stays (kept.Clicked node req) is = (refl, tt)
  stays (kept.Sent form at) is = (refl, is)

  pub typed_added : (ds : List KeptDeed) (field start end : ℕ) → start ≡ length typed → end ≡ length (typed ++ text) → All (IsBacked typed submits) ds
      → (map (deed_kept (typed ++ text) submits) (ds ++ kept.Typed field start end ∷ []) ≡ map (deed_kept typed submits) ds ++ Typed field text ∷ [])
      × All (IsBacked (typed ++ text) submits) (ds ++ kept.Typed field start end ∷ [])
  typed_added ds field start end starts ends are =
      let (same, is) = part_added typed text valid in
      let P : KeptDeed → Type 0 = IsBacked (typed ++ text) submits in
      let one : KeptDeed = kept.Typed field start end in
      let here : P one = rw (starts, ends) is in
      let there : deed_kept (typed ++ text) submits one ≡ Typed field text = rw (starts, ends) (ap (Typed field) same) in (
        map-append (deed_kept (typed ++ text) submits) ds (one ∷ [])
            ∙ ap₂ (λ front last. front ++ last ∷ []) (same_mapped (deed_kept (typed ++ text) submits) (deed_kept typed submits) (IsBacked typed submits) (λ d is. (stays d is).0) ds are) there,
        All-append P ds (one ∷ []) (all_mapped (IsBacked typed submits) P (λ d is. (stays d is).1) ds are) (All-cons P one [] here (All-nil P)),
      )

-- ---- a submit more

module _ (typed : List ℕ) (submits : List Submit) (button : Option ℕ) (req : ℕ) where
  abbrev more : List Submit
  more = submits ++ record { button = button; req = req } ∷ []

  last_read : {X : Type 0} (xs : List X) (x d : X) → get_or (xs ++ x ∷ []) (length xs) d ≡ x
  last_read [] x d = refl
  last_read (y ∷ xs) x d = last_read xs x d

  unchanged : (d : KeptDeed) → IsBacked typed submits d → deed_kept typed more d ≡ deed_kept typed submits d
  unchanged (kept.Typed field start end) is = refl
  unchanged (kept.Clicked node req) is = refl
  unchanged (kept.Sent form at) is = ap (λ s. Sent form s.button s.req) (get_or-append submits (record { button = button; req = req } ∷ []) no_submit at is)

  pub sent_added : (ds : List KeptDeed) (form at : ℕ) → at ≡ length submits → All (IsBacked typed submits) ds
      → map (deed_kept typed (submits ++ record { button = button; req = req } ∷ [])) (ds ++ kept.Sent form at ∷ []) ≡ map (deed_kept typed submits) ds ++ Sent form button req ∷ []
  sent_added ds form at here are =
      map-append (deed_kept typed more) ds (kept.Sent form at ∷ [])
      ∙ ap₂ (λ front last. front ++ last ∷ []) (same_mapped (deed_kept typed more) (deed_kept typed submits) (IsBacked typed submits) unchanged ds are)
      (ap (λ n. let s = get_or more n no_submit in Sent form s.button s.req) here ∙ ap (λ s. Sent form s.button s.req) (last_read submits (record { button = button; req = req }) no_submit))
