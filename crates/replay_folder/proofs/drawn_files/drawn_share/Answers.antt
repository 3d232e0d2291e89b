use Rattle.std.proofs.Common.{[], ◌∷◌, ◌++◌, refl, sym, ap, subst, ◌∙◌}
use Rattle.byte_streams.specs.Reading.{WasRead}
use Rattle.shared_stock.specs.Slots.{AreMade}
use Rattle.shared_stock.specs.declared.slots.Made.{Made}
use Rattle.replay_folder.specs.inside.Stretch.{IsFileOf}
use Rattle.replay_folder.proofs.StretchLaws.{made_more}
use Rattle.replay_folder.proofs.drawn_files.drawn_share.Goals as goal
use Rattle.replay_folder.proofs.drawn_files.drawn_share.Goals.{else-loop-k-test, then-loop-k-test+in_default, then-loop-k-test+in-Ok+in_default-draw}

pub loop-k-preserved : goal.loop-k-preserved
loop-k-preserved g c =
    let was_read = WasRead g.F.Source.answers g.F.Read.remaining in let opened = g.O.OpensUploads.opened c.args.opener.now in
    let names = c.args.names.now in
    let here : IsFileOf was_read opened c.args.quota names c.in-Some.drawn.number c.in_ok-one.one = record { drawn = c.in-Some.drawn; number_is = refl; is_drawn = c.in-Some.ensures; file_is = c.in_ok-one.ensures } in
    let one : Made _ = record { number = c.in-Some.drawn.number; one = c.in_ok-one.one } in
    made_more (IsFileOf was_read opened c.args.quota names) c.loop-k.share.items c.push_reserved.new.self.items one (c.push_reserved.ensures.items ∙ ap (λ l. l ++ one ∷ []) c.reserve.ensures.items) here c.loop-k.invariant

pub returns : goal.returns
returns g c =
    let makes = IsFileOf (WasRead g.F.Source.answers g.F.Read.remaining) (g.O.OpensUploads.opened c.args.opener.now) c.args.quota c.args.names.now in
    elim c.loop-k-test.branch [
      | else-loop-k-test w ↦ subst (AreMade makes) (sym (ap (λ share. share.items) w.share-is)) c.loop-k.invariant
      | then-loop-k-test+in_default w ↦ subst (AreMade makes) (sym (ap (λ share. share.items) w.share-is ∙ w.reserve.ensures.items)) c.loop-k.invariant
      | then-loop-k-test+in-Ok+in_default-draw w ↦ subst (AreMade makes) (sym (ap (λ share. share.items) w.share-is ∙ w.reserve.ensures.items)) c.loop-k.invariant
    ]
