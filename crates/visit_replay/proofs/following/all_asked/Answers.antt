use Rattle.std.proofs.Common.{◌≡◌, ◌+◌, ◌==◌, ◌++◌, ◌∷◌, [], ℕ, if◌then◌else◌, Some, length, subst, sym, ap, ◌∙◌, arith, rules}
use Rattle.std.specs.BTreeMap.{get}
use Rattle.std.specs.Ordering.{nat_cmp}
use Rattle.visit_replay.specs.inside.Families.{AreFresh}
use Rattle.visit_replay.proofs.Families.{fresh_push, within_more}
use Rattle.visit_replay.proofs.Places.{written_back}
use Rattle.visit_replay.proofs.following.all_asked.Goals as goal

pub loop-j-preserved : goal.loop-j-preserved
loop-j-preserved c =
    let k = c.loop-j.j in
    let old = c.as_mut_slice.result.now in
    let value : old ≡ c.loop-j.all.items = c.as_mut_slice.ensures.value in
    let size : length old ≡ k = ap length value ∙ c.loop-j.invariant.fresh.many in
    let asked = c.in_ok-ask_parent.ensures (subst (λ n. AreFresh n old) (sym size) (subst (AreFresh k) (sym value) c.loop-j.invariant.fresh)) in
    let back = written_back c.ask_parent.new.all c.loop-j.all.items c.loop-j.all.len (omega (arith, c.loop-j.all.ok)) (c.ask_parent.auto.all ∙ ap length value) in
    let fresh = fresh_push k c.ask_parent.new.all c.new.result (subst (λ n. AreFresh n c.ask_parent.new.all) size asked) c.new.ensures in
    let number = c.index-visits-j-in-loop-j.result.number in
    let put : (n : ℕ) → get nat_cmp c.insert.new.self n ≡ (if number == n then Some k else get nat_cmp c.loop-j.earlier n) = λ n. search (rules, c.in_ok-insert.ensures.updates.0 n) in
    record {
      fresh = subst (AreFresh (k + 1)) (sym (c.push_reserved.ensures.items ∙ ap (λ them. them ++ c.new.result ∷ []) back)) fresh;
      few = omega (arith, c.loop-j-test.true);
      room = omega (arith, c.loop-j.invariant.room, c.push_reserved.ensures.capacity);
      within = λ n. within_more k n number (get nat_cmp c.loop-j.earlier) (get nat_cmp c.insert.new.self) c.loop-j.invariant.within put;
    }
