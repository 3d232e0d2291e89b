use Rattle.std.proofs.Common.{◌≡◌, ℕ, ◌==◌, ◌∙◌, if◌then◌else◌, false, Some, None, option_map, ap, sym, rules}
use Rattle.std.specs.BTreeMap.{get}
use Rattle.std.specs.Ordering.{nat_cmp}
use Rattle.visit_replay.specs.Moved.{are_apart, own_request}
use Rattle.visit_replay.specs.inside.Differing.{asked_as}
use Rattle.visit_replay.proofs.FirstAsked.{address_is}
use Rattle.visit_replay.proofs.Looking.{met_one, none_apart, same_keys}
use Rattle.visit_replay.proofs.moves.meet.Goals as goal

pub returns-in_default-clause-meets : goal.returns-in_default-clause-meets
returns-in_default-clause-meets c =
    let finding = c.args.finding.now in
    let visit = c.args.visit.now in
    let k = c.args.k in
    let old = c.args.numbers.now in
    let new = c.insert.new.self in
    let n = c.request-number.result in
    let pending = sym c.is_pending.ensures ∙ c.if-not-is_pending.false in
    let put : (m : ℕ) → get nat_cmp new m ≡ (if n == m then Some (Some false) else get nat_cmp old m) = λ m. search (rules, c.in_ok-insert.ensures.updates.0 m) in
    let none : None ≡ option_map (λ r. r.address) (asked_as c.args.trail.now n) = rw c.in_default.is at c.in_ok-now.ensures.address in
    record {
      met = λ outcome requests.
          met_one finding visit outcome k c.index-as_slice-k.result n c.requires.there (rw c.as_slice.ensures at c.index-as_slice-k.is) c.request-number.ensures old new false pending
          (λ other. sym (ap (are_apart finding (own_request visit k)) (sym (none ∙ address_is c.args.trail.now outcome n other requests)) ∙ none_apart finding visit k)) put;
      same = same_keys old new n (Some false) pending put;
    }

pub returns-clause-meets : goal.returns-clause-meets
returns-clause-meets c =
    let finding = c.args.finding.now in
    let visit = c.args.visit.now in
    let k = c.args.k in
    let old = c.args.numbers.now in
    let new = c.insert-2.new.self in
    let n = c.request-number.result in
    let apart = c.in_ok-apart.apart in
    let pending = sym c.is_pending.ensures ∙ c.if-not-is_pending.false in
    let put : (m : ℕ) → get nat_cmp new m ≡ (if n == m then Some (Some apart) else get nat_cmp old m) = λ m. search (rules, c.in_ok-insert-2.ensures.updates.0 m) in
    let some : Some c.in-Some.now ≡ option_map (λ r. r.address) (asked_as c.args.trail.now n) = rw c.in-Some.is at c.in_ok-now.ensures.address in
    record {
      met = λ outcome requests.
          met_one finding visit outcome k c.index-as_slice-k.result n c.requires.there (rw c.as_slice.ensures at c.index-as_slice-k.is) c.request-number.ensures old new apart pending
          (λ other. c.in_ok-apart.ensures.answer ∙ ap (are_apart finding (own_request visit k)) (ap Some c.as_str-now.ensures ∙ some ∙ address_is c.args.trail.now outcome n other requests)) put;
      same = same_keys old new n (Some apart) pending put;
    }
