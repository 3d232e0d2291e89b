use Rattle.std.proofs.Common.{◌≡◌, ◌∷◌, [], Some, length, slice_get, ap, sym, subst, ◌∙◌, arith, rules}
use Rattle.std.proofs.lemmas.List.{length-append}
use Rattle.shared_stock.specs.Slots.{AreMade}
use Rattle.shared_stock.specs.declared.slots.Made.{Made}
use Rattle.shared_stock.proofs.MadeLaws.{all_at, all_join}
use Rattle.shared_stock.proofs.drawing.share_of.Goals as goal

pub work-requires : goal.work-requires
work-requires g c =
    let drawn : slice_get c.args.stock.now c.in-Some.number ≡ Some c.in-Some.item = search rules in
    all_at (λ item. g.F.Fn.pre c.args.work.now (item, tt)) c.args.stock.now c.in-Some.number c.in-Some.item c.requires.accepts drawn

pub loop-k-preserved : goal.loop-k-preserved
loop-k-preserved g c =
    let makes = g.L.MadeOf.makes in
    let old = c.loop-k.share.items in
    let drawn : slice_get c.args.stock.now c.in-Some.number ≡ Some c.in-Some.item = search rules in
    let here = c.requires.makes c.in-Some.number c.in-Some.item c.work.result drawn c.work.ensures in
    let one : Made _ = record { number = c.in-Some.number; one = c.work.result } in
    let more = ap length c.push_reserved.ensures.items ∙ length-append old (one ∷ []) in
    record {
      made = subst (AreMade makes) (sym c.push_reserved.ensures.items)
          (all_join (λ made. makes made.number made.one) old (one ∷ []) c.loop-k.invariant.made (here, tt));
      room = omega (arith, more, c.push_reserved.ensures.capacity, c.loop-k.invariant.room);
    }
