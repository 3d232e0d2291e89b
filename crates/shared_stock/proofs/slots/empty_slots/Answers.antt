use Rattle.std.proofs.Common.{◌≡◌, ℕ, ◌∷◌, ◌++◌, [], None, length, replicate, ap, ◌∙◌, arith}
use Rattle.std.proofs.lemmas.List.{length-append, replicate_more}
use Rattle.shared_stock.proofs.slots.empty_slots.Goals as goal

pub loop-k-preserved : goal.loop-k-preserved
loop-k-preserved g c =
    let old = c.loop-k.slots.items in
    let more = ap length c.push_reserved.ensures.items ∙ length-append old (None ∷ []) in
    record {
      made = c.push_reserved.ensures.items ∙ ap (λ l. l ++ None ∷ []) c.loop-k.invariant.made ∙ replicate_more c.loop-k._k None;
      size = omega (arith, more, c.loop-k.invariant.size);
      room = omega (arith, c.push_reserved.ensures.capacity, c.loop-k.invariant.room);
    }

pub returns : goal.returns
returns g c =
    let end : c.loop-k._k ≡ c.args.count = omega arith in
    c.loop-k.invariant.made ∙ ap (λ (n : ℕ). replicate n None) end
