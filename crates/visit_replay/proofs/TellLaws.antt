-- Requests that are told one after another along a trail.
use Rattle.std.proofs.Common.{◌≡◌, ℕ, ◌+◌, ◌<◌, List, [], ◌∷◌, length, is_some, true, Option, Some, None, IfSome, unwrap_or, refl, sym, ap, subst, ◌∙◌}
use Rattle.std.specs.List.{cons_option}
use Rattle.std.proofs.lemmas.Bool.{false≢true}
use Rattle.std.specs.Borrow.{Bor}
use Rattle.std.specs.Option.{option_map_or}
use Rattle.std.proofs.lemmas.List.Elements.{All-tail}
use Rattle.visit_replay.specs.Requests.{load_request}
use Rattle.visit_replay.specs.inside.Boards.{IsBefore, IsOn}
use Rattle.visit_replay.specs.inside.Marks.{AreMarks}
use Rattle.visit_replay.specs.inside.Told.{stage_told}
use Rattle.visit_replay.specs.declared.board.Board.{Board}
use Rattle.visit_replay.specs.declared.stage.Stage.{Stage}
use Rattle.visit_replay.specs.declared.stage.Stage.TheVariants.{Before, AtLoad}
use Rattle.visit_replay.specs.inside.Trails.{asked_at, asked_from}
use Rattle.visit_replay.specs.declared.requests.Request.{Request}
use Rattle.visit_replay.specs.declared.trail.Trail.{Trail}
use Rattle.visit_replay.proofs.TrailLaws.{asked_step}

-- the next one is there
pub told_next : (trail : Trail) (from place : ℕ) → asked_from trail from ≡ asked_from trail place → place < length trail.deeds.items → is_some (asked_at trail place) ≡ true
    → (now : Request) × (asked_from trail from ≡ now ∷ asked_from trail (place + 1)) × (asked_at trail place ≡ Some now)
told_next trail from place same below some = go (asked_at trail place) refl
  where
    go : (o : Option Request) → asked_at trail place ≡ o → (now : Request) × (asked_from trail from ≡ now ∷ asked_from trail (place + 1)) × (asked_at trail place ≡ Some now)
    go (Some now) is = (now, same ∙ asked_step trail place below ∙ ap (λ o. cons_option o (asked_from trail (place + 1))) is, is)
    go None is = absurd (false≢true (sym (ap is_some is) ∙ some))

-- ---- the last one

pub last_some : (o : Option Request) (other : Request) → is_some o ≡ true → Some (unwrap_or o other) ≡ o
last_some (Some r) other some = refl
last_some None other some = absurd (false≢true some)

nothing_first : (o : Option Request) (rest : List Request) → cons_option o rest ≡ [] → o ≡ None
nothing_first None rest is = refl
nothing_first (Some r) rest is = cc

pub last_none : (trail : Trail) (last : ℕ) → last < length trail.deeds.items → asked_from trail last ≡ [] → asked_at trail last ≡ None
last_none trail last below none = nothing_first (asked_at trail last) (asked_from trail (last + 1)) (sym (asked_step trail last below) ∙ none)

-- ---- those of a trail that is begun

pub begun : (trail : Option (Bor Trail)) (stage : Stage) (own : Bor Trail) (told : Option Request × List Request) → trail ≡ Some own → stage ≡ Before
    → option_map_or (λ t. stage_told t.now stage) trail (None, []) ≡ told
    → (x : Request) × (told.1 ≡ x ∷ (option_map_or (λ t. stage_told t.now AtLoad) trail (None, [])).1) × ((option_map_or (λ t. stage_told t.now AtLoad) trail (None, [])).0 ≡ Some x)
begun trail stage own told some before is =
    let load = load_request own.now.address in (
      load,
      sym (ap (λ (p : Option Request × List Request). p.1) is)
          ∙ ap (λ (o : Option (Bor Trail)). (option_map_or (λ t. stage_told t.now stage) o (None, [])).1) some
          ∙ ap (λ s. (stage_told own.now s).1) before
          ∙ ap (λ (o : Option (Bor Trail)). load ∷ (option_map_or (λ t. stage_told t.now AtLoad) o (None, [])).1) (sym some),
      ap (λ (o : Option (Bor Trail)). (option_map_or (λ t. stage_told t.now AtLoad) o (None, [])).0) some,
    )

-- ---- marks of a trail, of which the first is told

abbrev pub MarksOn : Option (Bor Trail) → List (Option ℕ) → Board → Option ℕ → Type 0
MarksOn own marks board mark =
    IfSome own (λ own. AreMarks own.now marks × IsOn own.now.page own.now.deeds.items board × IfSome mark (λ place. IsBefore own.now place board))

left_of : (own : Trail) (first : Option ℕ) (marks rest : List (Option ℕ)) → marks ≡ first ∷ rest → AreMarks own marks → AreMarks own rest
left_of own first marks rest is are = All-tail (λ mark. IfSome mark (λ place. place < length own.deeds.items)) first rest (subst (AreMarks own) is are)

pub marks_behind : (own : Option (Bor Trail)) (first : Option ℕ) (marks rest : List (Option ℕ)) (board : Board) (mark : Option ℕ) → marks ≡ first ∷ rest → MarksOn own marks board mark → MarksOn own rest board None
marks_behind None first marks rest board mark is held = tt
marks_behind (Some own) first marks rest board mark is held = (left_of own.now first marks rest is held.0, held.1, tt)

pub marks_at : (own : Option (Bor Trail)) (here : Bor Trail) (first : Option ℕ) (marks rest : List (Option ℕ)) (old board : Board) (mark : Option ℕ) (place : ℕ) → own ≡ Some here → marks ≡ first ∷ rest
    → MarksOn own marks old mark → IsBefore here.now place board → MarksOn own rest board (Some place)
marks_at own here first marks rest old board mark place some is held before =
    let was : MarksOn (Some here) marks old mark = subst (λ o. MarksOn o marks old mark) some held in
    subst (λ o. MarksOn o rest board (Some place)) (sym some) (left_of here.now first marks rest is was.0, before.on, before)
