use Rattle.std.proofs.Common.{◌∷◌, [], ◌++◌, sym, ◌∙◌, ap, subst, arith}
use Rattle.std.specs.List.{list_any}
use Rattle.site_hooks.specs.Kept.{IsOfFirst}
use Rattle.site_hooks.proofs.KeptLaws.{popped, same_any, all_kept}
use Rattle.site_hooks.proofs.table.Table.watch.Goals as goal

pub invariant_of-self-in-Err : goal.invariant_of-self-in-Err
invariant_of-self-in-Err c =
    let watched = c.args.self.now.watched.items in
    record {
      same = λ test. ap (list_any test) (popped watched c.push.new.self.items c.pop.new.self.items c.in_ok-copy.field-0 c.pop.result c.in_ok-push.ensures.items c.pop.ensures.items (c.pop.ensures.variant.1 (omega (arith, c.in_ok-push.ensures.len)))) ∙ c.args.self.now.same test ∙ sym (ap (list_any test) c.in-Err.ensures.err);
      kept = λ address site_page is. subst (λ paths. IsOfFirst paths site_page) (sym c.in-Err.ensures.err) (c.args.self.now.kept address site_page is);
    }

pub invariant_of-self-in_default : goal.invariant_of-self-in_default
invariant_of-self-in_default c =
    let watched = c.args.self.now.watched.items in
    let list = c.args.self.now.list in
    record {
      same = λ test. ap (list_any test) c.in_ok-push.ensures.items ∙ ap (λ path. list_any test (watched ++ path ∷ [])) c.in_ok-copy.ensures
          ∙ same_any test watched list c.add.new.self c.args.path (c.args.self.now.same test) c.in_default.ensures.ok;
      kept = λ address site_page is. all_kept list c.add.new.self c.args.path _ c.in_default.ensures.ok (c.args.self.now.kept address) site_page is;
    }
