-- What a sender sends is what its node does.
use Rattle.std.proofs.Common.{◌≡◌, ℕ, ◌==◌, List, [], Bool, true, false, Option, Some, None, codes, refl, sym, ap, ◌∙◌}
use Rattle.std.specs.Option.{option_map_or}
use Rattle.page_tree.specs.Control.{control_at, start_checked_at}
use Rattle.page_tree.specs.Number.{place_numbered}
use Rattle.page_tree.specs.declared.control.Control.{Control}
use Rattle.page_tree.specs.declared.control.Control.TheVariants as control
use Rattle.visit_replay.specs.Form.{sent_value, value_or}
use Rattle.visit_replay.specs.inside.KeptFields.{text_now, is_on_now}
use Rattle.visit_replay.specs.inside.FieldsNow.{pair_now}
use Rattle.visit_replay.specs.inside.Senders.{IsSender}
use Rattle.visit_replay.specs.declared.forms.Filled.{Filled}
use Rattle.visit_replay.specs.declared.senders.Sender.{Sender}
use Rattle.visit_replay.proofs.OneSenderMore.{sender_sends, with_value}

module _ (filled : Filled) (sender : Sender) (is : IsSender filled.page.now sender) where
  abbrev number : ℕ
  number = sender.number

  abbrev place : List ℕ
  place = place_numbered number filled.page.now

  abbrev text : List ℕ
  text = text_now filled.fields.now filled.page.now number

  abbrev on : Bool
  on = is_on_now filled.fields.now filled.page.now number

  abbrev pressed : Bool
  pressed = option_map_or (λ pressed. pressed == number) filled.button false

  -- what one of that kind sends
  of_kind : (kind : Control) (value : Option (List ℕ)) → control_at place filled.page.now ≡ kind → sent_value kind text on pressed filled.page.now place ≡ value
      → with_value value sender.name.now ≡ pair_now filled number
  of_kind kind value here is_value =
      sym (sender_sends filled sender is ∙ ap (λ v. with_value v sender.name.now) (ap (λ c. sent_value c text on pressed filled.page.now place) here ∙ is_value))

  pub text_sent : control_at place filled.page.now ≡ control.Text → (held : List ℕ) → text ≡ held → Some (sender.name.now, held) ≡ pair_now filled number
  unfolding sent_value
  text_sent here held same = of_kind control.Text (Some held) here (ap Some same)

  pub check_sent : control_at place filled.page.now ≡ control.Check → (value : List ℕ) → value ≡ value_or (codes "on") place filled.page.now → on ≡ true → Some (sender.name.now, value) ≡ pair_now filled number
  unfolding sent_value
  check_sent here value same turned = of_kind control.Check (Some value) here (rw turned (ap Some (sym same)))

  pub check_passed : control_at place filled.page.now ≡ control.Check → on ≡ false → None ≡ pair_now filled number
  unfolding sent_value
  check_passed here turned = of_kind control.Check None here (rw turned refl)

  pub radio_sent : control_at place filled.page.now ≡ control.Radio → (value : List ℕ) → value ≡ value_or (codes "on") place filled.page.now → start_checked_at place filled.page.now ≡ true
      → Some (sender.name.now, value) ≡ pair_now filled number
  unfolding sent_value
  radio_sent here value same start = of_kind control.Radio (Some value) here (rw start (ap Some (sym same)))

  pub button_sent : control_at place filled.page.now ≡ control.Submit → (value : List ℕ) → value ≡ value_or [] place filled.page.now → pressed ≡ true → Some (sender.name.now, value) ≡ pair_now filled number
  unfolding sent_value
  button_sent here value same is_pressed = of_kind control.Submit (Some value) here (rw is_pressed (ap Some (sym same)))

  pub button_passed : control_at place filled.page.now ≡ control.Submit → pressed ≡ false → None ≡ pair_now filled number
  unfolding sent_value
  button_passed here is_pressed = of_kind control.Submit None here (rw is_pressed refl)
