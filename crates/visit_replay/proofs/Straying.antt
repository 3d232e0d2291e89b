-- The touched fields after one event more.
use Rattle.std.proofs.Common.{◌≡◌, ℕ, ◌<◌, List, [], ◌∷◌, ◌++◌, Bool, true, false, ◌||◌, ◌&&◌, ◌==◌, if◌then◌else◌, Option, Some, None, inl, inr, option_map, option_and_then, refl, sym, ap, ap₂, ◌∙◌}
use Rattle.std.specs.Option.{option_map_or}
use Rattle.std.specs.BTreeMap.{get}
use Rattle.std.specs.List.{list_any}
use Rattle.std.specs.Ordering.{nat_cmp}
use Rattle.std.proofs.lemmas.Bool.Decides.{eqb_tells}
use Rattle.std.proofs.lemmas.List.Elements.{All-push}
use Rattle.std.proofs.lemmas.List.Folds.{list_any-append}
use Rattle.page_tree.specs.Tree.{Tree}
use Rattle.page_tree.specs.Limits.{nodes}
use Rattle.page_tree.specs.Number.{place_numbered}
use Rattle.xpath_child.specs.Targets.{target_in, only_place}
use Rattle.upload_reader.specs.declared.message.Event.{Event}
use Rattle.visit_replay.specs.Aim.{Aim, place_of_aim, path_of, aim_of, by_element, touches, is_submit, is_under_one, strays, has_strayed}
use Rattle.visit_replay.specs.declared.touched.Touched.{Touched}
use Rattle.visit_replay.specs.inside.TouchedFields.{AreTouched, HasTouched, strays_now}

-- ---- truth values

or_known : (a b x : Bool) → b ≡ a → (x ≡ true → a ≡ true) → (b || (x || false)) ≡ a
or_known true b x is told = rw is refl
or_known false b true is told = let bad : false ≡ true = told refl in cc
or_known false b false is told = rw is refl

or_more : (a b : Bool) → a ≡ true → (a || b) ≡ true
or_more a b is = rw is refl

or_last : (a b : Bool) → b ≡ true → (a || (b || false)) ≡ true
or_last true b is = refl
or_last false b is = rw is refl

some_same : (x y : ℕ) → Some x ≡ Some y → x ≡ y
some_same x y is = cc

-- ---- one event

-- whether it touched a field that strays, where its path led and where it acts
pub strays_here : (aim : Event → Aim) (old : Tree) (f g : List ℕ) (event : Event) (p q : List ℕ) → only_place (target_in (path_of event) old) ≡ Some p → place_of_aim (aim event) ≡ Some q
    → strays aim old f g event ≡ (touches old event p && is_under_one f g p q)
strays_here aim old f g event p q led acts = rw (led, acts) refl

pub strays_nowhere : (aim : Event → Aim) (old : Tree) (f g : List ℕ) (event : Event) → place_of_aim (aim event) ≡ None → strays aim old f g event ≡ false
strays_nowhere aim old f g event acts = go (only_place (target_in (path_of event) old))
  where
    go : (o : Option (List ℕ)) → option_map_or (λ (at : List ℕ × List ℕ). touches old event at.0 && is_under_one f g at.0 at.1) (option_and_then (λ p. option_map (λ q. (p, q)) (place_of_aim (aim event))) o) false ≡ false
    go None = refl
    go (Some p) = rw acts refl

pub strays_unled : (aim : Event → Aim) (old : Tree) (f g : List ℕ) (event : Event) → only_place (target_in (path_of event) old) ≡ None → strays aim old f g event ≡ false
strays_unled aim old f g event led = rw led refl

module _ (aim : Event → Aim) (old new : Tree) (touched : Touched) (before : List Event) (event : Event) (has : HasTouched aim old new touched before) where
  -- it tells nothing that isn't known
  pub nothing_more : ((f g : List ℕ) → strays aim old f g event ≡ true → list_any (strays_now old new f g) touched.fields.items ≡ true) → HasTouched aim old new touched (before ++ event ∷ [])
  nothing_more told = record {
    within = has.within;
    known = has.known;
    strays = λ f g. list_any-append (strays aim old f g) before (event ∷ []) ∙ or_known _ _ (strays aim old f g event) (has.strays f g) (told f g);
  }

  pub never : ((f g : List ℕ) → strays aim old f g event ≡ false) → HasTouched aim old new touched (before ++ event ∷ [])
  never none = nothing_more (λ f g is. let bad : false ≡ true = sym (none f g) ∙ is in cc)

  module _ (touched' : Touched) (was is : ℕ) (there : was < nodes old) (here : is < nodes new)
      (pushed : touched'.fields.items ≡ touched.fields.items ++ record { was = was; is = is } ∷ [])
      (put : (other : ℕ) → get nat_cmp touched'.known other ≡ (if was == other then Some is else get nat_cmp touched.known other)) where
    abbrev Told : List ℕ → List ℕ → ℕ → ℕ → Type 0
    Told f g w i = is_under_one f g (place_numbered w old) (place_numbered i new) ≡ true → list_any (strays_now old new f g) touched'.fields.items ≡ true

    any_pushed : (f g : List ℕ) → list_any (strays_now old new f g) touched'.fields.items
        ≡ (list_any (strays_now old new f g) touched.fields.items || (is_under_one f g (place_numbered was old) (place_numbered is new) || false))
    any_pushed f g = ap (list_any (strays_now old new f g)) pushed ∙ list_any-append (strays_now old new f g) touched.fields.items (record { was = was; is = is } ∷ [])

    known_now : (w i : ℕ) → get nat_cmp touched'.known w ≡ Some i → (f g : List ℕ) → Told f g w i
    known_now w i got f g = elim (eqb_tells was w) [
      | inl same ↦
          let one : is ≡ i = some_same is i (ap (λ b. if b then Some is else get nat_cmp touched.known w) (sym same.0) ∙ sym (put w) ∙ got) in
          λ told. any_pushed f g ∙ or_last _ _ (ap₂ (λ (n m : ℕ). is_under_one f g (place_numbered n old) (place_numbered m new)) same.1 one ∙ told)
      | inr apart ↦
          let before_it : get nat_cmp touched.known w ≡ Some i = ap (λ b. if b then Some is else get nat_cmp touched.known w) (sym apart.0) ∙ sym (put w) ∙ got in
          λ told. any_pushed f g ∙ or_more _ _ (has.known w i before_it f g told)
    ]

    pub one_more : ((f g : List ℕ) → strays aim old f g event ≡ is_under_one f g (place_numbered was old) (place_numbered is new)) → HasTouched aim old new touched' (before ++ event ∷ [])
    one_more told = record {
      within = rw pushed (All-push (λ field. (field.was < nodes old) × (field.is < nodes new)) touched.fields.items (record { was = was; is = is }) has.within (there, here));
      known = known_now;
      strays = λ f g.
          list_any-append (strays aim old f g) before (event ∷ []) ∙ ap₂ (λ (a b : Bool). a || (b || false)) (has.strays f g) (told f g) ∙ sym (any_pushed f g);
    }

-- ---- a submit

pub submit_strays : (fresh : List (List ℕ)) (old new : Tree) (before : List Event) (event : Event) (f g : List ℕ) → is_submit event ≡ true → only_place (target_in (path_of event) old) ≡ Some f
    → place_of_aim (by_element fresh old new event) ≡ Some g → has_strayed (Some fresh) old new before event ≡ list_any (strays (by_element fresh old new) old f g) before
submit_strays fresh old new before event f g submit led acts = rw (submit, led, acts) refl

-- ---- an event that acts nowhere

pub touched_nowhere : (names : Option (List (List ℕ))) (old new : Tree) (touched : Touched) (before : List Event) (event : Event) → place_of_aim (aim_of names old new event) ≡ None
    → AreTouched names old new touched before → AreTouched names old new touched (before ++ event ∷ [])
touched_nowhere None old new touched before event acts has = tt
touched_nowhere (Some fresh) old new touched before event acts has =
    let aim = aim_of (Some fresh) old new in
    never aim old new touched before event has (λ f g. strays_nowhere aim old f g event acts)
