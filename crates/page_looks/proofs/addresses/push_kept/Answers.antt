use Rattle.std.proofs.Common.{rules, string_bytes}
use Rattle.page_looks.proofs.AddressLaws.{kept_begin, kept_goes_on, kept_end}
use Rattle.page_looks.proofs.addresses.push_kept.Goals as goal

pub loop-mark-init : goal.loop-mark-init
loop-mark-init c = record {
  utf8 = search rules;
  mark_utf8 = search rules;
  kept = kept_begin c.args.fresh.now (string_bytes c.args.kept.now) c.args.query.now;
}

pub loop-mark-preserved : goal.loop-mark-preserved
loop-mark-preserved c = record {
  utf8 = search rules;
  mark_utf8 = search rules;
  kept = kept_goes_on c.args.fresh.now (string_bytes c.args.kept.now) c.args.query.now c.loop-mark.mark.now c.first_pair.result.0.now c.loop-mark.rest.now
      (string_bytes c.loop-mark.kept) (string_bytes c.push_pair.new.kept) _ c.in-Some.further.now c.loop-mark.invariant.kept
      (rw c.in-Some.is at c.first_pair.ensures.pairs) c.in_ok-mark.ensures.kept c.in_ok-mark.ensures.next;
}

pub returns-in-None : goal.returns-in-None
returns-in-None c =
    kept_end c.args.fresh.now (string_bytes c.args.kept.now) c.args.query.now c.loop-mark.mark.now c.first_pair.result.0.now c.loop-mark.rest.now
    (string_bytes c.loop-mark.kept) (string_bytes c.push_pair.new.kept) _ c.loop-mark.invariant.kept (rw c.in-None.is at c.first_pair.ensures.pairs)
    c.in_ok-mark.ensures.kept c.in_ok-mark.ensures.next
