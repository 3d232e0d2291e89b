use Rattle.std.proofs.Common.{◌≡◌, ◌++◌, ◌∷◌, ap, arith, length, suc, sym, ◌∙◌}
use Rattle.upload_lanes.proofs.UploaderLaws.{gives_none, gives_then, held_none}
use Rattle.upload_lanes.proofs.uploader.fill.Goals as goal

pub loop-held-init : goal.loop-held-init
loop-held-init g c =
    (ap (λ more. suc (length more)) c.requires.alone, c.requires.going, gives_none c.args.upload.now c.requires.few, held_none c.args.parcel.now c.args.upload.now)

pub returns-in-Some-clause-gives : goal.returns-in-Some-clause-gives
returns-in-Some-clause-gives g c = gives_then c.args.upload.now c.loop-held.upload c.add_next.new.upload c.loop-held.invariant.2 c.add_next.ensures.gives

pub loop-held-preserved : goal.loop-held-preserved
loop-held-preserved g c =
    let more : length c.reserve.new.self.items ≡ length c.loop-held.parcel.more.items = ap length c.reserve.ensures.items in (
      omega (arith, c.in_default-add_next.ensures.count, more, c.loop-held.invariant.0),
      c.in_default-add_next.ensures.ending,
      gives_then c.args.upload.now c.loop-held.upload c.add_next.new.upload c.loop-held.invariant.2 c.add_next.ensures.gives,
      λ front all. c.add_next.ensures.held front (c.loop-held.invariant.3 front all ∙ ap (λ items. front ++ c.loop-held.parcel.first ∷ items) (sym c.reserve.ensures.items)),
    )
