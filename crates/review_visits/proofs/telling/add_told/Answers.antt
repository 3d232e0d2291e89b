use Rattle.std.proofs.Common.{[], codes, refl, sym, append-nil}
use Rattle.std.proofs.lemmas.Result.{on_ok_weaker}
use Rattle.made_html.proofs.Made.{made_note}
use Rattle.made_html.proofs.Nothing.{made_of_nothing}
use Rattle.review_pieces.specs.Pieces.{note_html}
use Rattle.review_visits.proofs.telling.add_told.Goals as goal

pub returns-in_default : goal.returns-in_default
returns-in_default g c = record { added = []; is_made = made_of_nothing [] refl; is = sym (append-nil c.args.out.now.items) }

pub returns-in_default-2 : goal.returns-in_default-2
returns-in_default-2 g c = record { added = []; is_made = made_of_nothing [] refl; is = sym (append-nil c.args.out.now.items) }

pub returns : goal.returns
returns g c =
    let role = codes "status" in
    let text = c.as_str.result.now in
    let note = note_html role text in
    on_ok_weaker c.add_note.result (λ e. record { added = note; is_made = made_note [] note role text (made_of_nothing [] refl) refl; is = e }) c.add_note.ensures
