use Rattle.std.proofs.Common.{◌∷◌, [], sym, subst, refl, rules}
use Rattle.std.specs.List.{FoldsTo}
use Rattle.warp_server.proofs.RoundSteps.{all_more}
use Rattle.warp_server.proofs.program.greeting.accept_all.Goals as goal

pub loop-preserved : goal.loop-preserved
loop-preserved g c = record {
  count = search rules;
  room = search rules;
  brought =
      subst (λ items. FoldsTo g.C.Callers.brings c.args.callers.now items c.accept.new.self) (sym c.push_reserved.ensures.items)
      (all_more g.C.Callers.brings _ _ _ c.loop.readers.items (c.in-Some.reader ∷ []) c.loop.invariant.brought (c.accept.new.self, c.in-Some.ensures.brought, refl));
}
