-- What a form sends by the numbers of nodes is what it sends by their places.
use Rattle.std.proofs.Common.{◌≡◌, ℕ, zero, suc, ◌+◌, ◌-◌, ◌<◌, ◌≤◌, ◌==◌, List, map, Bool, false, cond, Option, Some, None, option_map, option_and_then, codes, refl, ap, sym, ◌∙◌, arith}
use Rattle.std.specs.List.{cons_option, filter_map, range_with_len}
use Rattle.std.specs.Option.{option_map_or, IfSome}
use Rattle.page_tree.specs.Tree.{Tree}
use Rattle.page_tree.specs.Limits.{nodes}
use Rattle.page_tree.specs.Control.{control_at}
use Rattle.page_tree.specs.Number.{place_numbered}
use Rattle.page_tree.specs.Under.{places_under}
use Rattle.page_tree.specs.declared.control.Control.{Control}
use Rattle.page_tree.specs.declared.control.Control.TheVariants as control
use Rattle.visit_replay.specs.Field.{is_there}
use Rattle.visit_replay.specs.Form.{Pair, sent_name, sent_value, sent_pair, value_or, pairs_held}
use Rattle.visit_replay.specs.inside.KeptFields.{Hold, text_now, is_on_now}
use Rattle.visit_replay.specs.inside.FieldsNow.{pair_now, pairs_now}
use Rattle.visit_replay.specs.declared.forms.Filled.{Filled}
use Rattle.visit_replay.proofs.Numbered.{same_place}

-- only a text control sends the text, and only a checkbox the state
same_value : (c : Control) (text other : List ℕ) (on was pressed : Bool) (new : Tree) (place : List ℕ) → text ≡ other → (c ≡ control.Check → on ≡ was) → sent_value c text on pressed new place ≡ sent_value c other was pressed new place
unfolding sent_value
same_value control.Text text other on was pressed new place texts checks = ap Some texts
same_value control.Check text other on was pressed new place texts checks = ap (λ b. cond b (Some (value_or (codes "on") place new)) None) (checks refl)
same_value _ text other on was pressed new place texts checks = refl

is_button : (new : Tree) (button : Option ℕ) (number : ℕ) → IfSome button (λ n. n < nodes new) → number < nodes new
    → option_map_or (λ pressed. pressed == number) button false ≡ is_there (place_numbered number new) (option_map (λ n. place_numbered n new) button)
is_button new None number within there = refl
is_button new (Some pressed) number within there = sym (same_place pressed number new within there)

-- what the node at a place sends that holds that, where the button at that place was pressed
abbrev pair_held : (List ℕ → List ℕ) → (List ℕ → Bool) → Tree → Option (List ℕ) → List ℕ → Option Pair
pair_held text on new by place = sent_pair (text place) (on place) (is_there place by) new place

same_pair : (filled : Filled) (text : List ℕ → List ℕ) (on : List ℕ → Bool) → Hold filled.fields.now filled.page.now text on → IfSome filled.button (λ n. n < nodes filled.page.now) → (number : ℕ) → number < nodes filled.page.now
    → pair_now filled number ≡ pair_held text on filled.page.now (option_map (λ n. place_numbered n filled.page.now) filled.button) (place_numbered number filled.page.now)
same_pair filled text on held within number there =
    let new = filled.page.now in
    let fields = filled.fields.now in
    let place = place_numbered number new in
    ap (λ pressed. sent_pair (text_now fields new number) (is_on_now fields new number) pressed new place) (is_button new filled.button number within there)
    ∙ ap (λ value. option_and_then (λ name. option_map (λ v. (name, v)) value) (sent_name place new))
    (same_value (control_at place new) _ _ _ _ (is_there place (option_map (λ n. place_numbered n new) filled.button)) new place (held.texts number there) (held.checks number there))

same_pairs : (f : List ℕ → Option Pair) (g : ℕ → Option Pair) (new : Tree) (start many : ℕ) → ((number : ℕ) → number < nodes new → g number ≡ f (place_numbered number new)) → start + many ≤ nodes new
    → filter_map g (range_with_len start many) ≡ filter_map f (map (λ k. place_numbered k new) (range_with_len start many))
same_pairs f g new start zero same within = refl
same_pairs f g new start (suc many) same within =
    ap (λ o. cons_option o (filter_map g (range_with_len (start + 1) many))) (same start (omega (arith, within)))
    ∙ ap (cons_option (f (place_numbered start new))) (same_pairs f g new (start + 1) many same (omega (arith, within)))

-- of the nodes under the form, whose numbers are those from start up to end
pub same_sent : (filled : Filled) (text : List ℕ → List ℕ) (on : List ℕ → Bool) (form : List ℕ) (start end : ℕ) → Hold filled.fields.now filled.page.now text on → IfSome filled.button (λ n. n < nodes filled.page.now)
    → places_under form filled.page.now ≡ map (λ k. place_numbered k filled.page.now) (range_with_len start (end - start)) → start ≤ end → end ≤ nodes filled.page.now
    → pairs_now filled start end ≡ pairs_held text on filled.page.now (option_map (λ n. place_numbered n filled.page.now) filled.button) form
same_sent filled text on form start end held within under some few =
    let pair = pair_held text on filled.page.now (option_map (λ n. place_numbered n filled.page.now) filled.button) in
    same_pairs pair (pair_now filled) filled.page.now start (end - start) (same_pair filled text on held within) (omega (arith, some, few))
    ∙ ap (filter_map pair) (sym under)
