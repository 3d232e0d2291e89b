use Rattle.std.proofs.Common.{length, [], ◌∷◌, ◌++◌, ap, sym, subst, length-append, arith}
use Rattle.conflict_desk.specs.inside.Links.{IsLink, AreLinks}
use Rattle.conflict_desk.proofs.Ways.{links_push}
use Rattle.conflict_desk.proofs.links.links_of.Goals as goal

pub loop-case-preserved : goal.loop-case-preserved
loop-case-preserved c =
    let link = c.link_of-link.result in
    record {
      links = subst (AreLinks c.args.cases.now) (sym c.in_ok-push.ensures.items)
          (links_push c.args.cases.now c.loop-case.links.items link c.loop-case.invariant.links
          (subst (λ l. IsLink c.args.cases.now (l ++ link ∷ []) (length l) link) c.as_slice.ensures.value c.link_of-link.ensures));
      count = omega (arith, ap length c.in_ok-push.ensures.items, length-append c.loop-case.links.items (link ∷ []), c.loop-case.invariant.count);
    }
