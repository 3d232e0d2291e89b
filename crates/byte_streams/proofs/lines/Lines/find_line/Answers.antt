use Rattle.std.proofs.Common.{◌≡◌, ◌≤◌, ◌∙◌, ap, length, rules, arith, None}
use Rattle.std.proofs.lemmas.Result.{err_from_is_err_and}
use Rattle.byte_streams.specs.Cutting.{line_length}
use Rattle.byte_streams.specs.Reading.{uncut_bytes, input}
use Rattle.byte_streams.proofs.Searching.{cut_too_long, still_none, reads_for_line, refuses_ending}
use Rattle.byte_streams.proofs.lines.Lines.find_line.Goals as goal

pub loop-count-preserved : goal.loop-count-preserved
loop-count-preserved g c =
    let now = c.loop-count.self in
    let none : line_length c.args.limit (uncut_bytes now) ≡ None = cc in
    let short : length (uncut_bytes now) ≤ c.args.limit = omega (arith, c.if-scanned-limit.false, ap length c.uncut-scanned.ensures) in
    let within : now.place ≤ length (input now) = omega (arith, ap (λ lines. lines.place) c.self.view_is, ap (λ lines. length (input lines)) c.self.view_is) in
    record {
      reads = reads_for_line c.args.limit c.args.self.now now c.fill.new.self c.loop-count.invariant.place none short c.loop-count.invariant.reads c.fill.ensures.reads;
      place = c.fill.ensures.place ∙ c.loop-count.invariant.place;
      fault = search rules;
      none = rw (c.uncut-scanned.ensures) (still_none _ c.args.limit now c.fill.new.self within c.fill.ensures.place c.fill.ensures.reads none short);
      below = omega (arith, c.if-scanned-limit.false);
    }

pub returns-in_err-fill-clause-reads : goal.returns-in_err-fill-clause-reads
returns-in_err-fill-clause-reads g c =
    reads_for_line c.args.limit c.args.self.now c.loop-count.self c.fill.new.self c.loop-count.invariant.place (cc)
    (omega (arith, c.if-scanned-limit.false, ap length c.uncut-scanned.ensures)) c.loop-count.invariant.reads c.fill.ensures.reads

pub returns-in_err-fill-clause-tells : goal.returns-in_err-fill-clause-tells
returns-in_err-fill-clause-tells g c =
    let p = err_from_is_err_and c.from_residual.result c.from_residual.ensures.1 in
    rw (p.1, p.2)
    (refuses_ending c.args.limit c.loop-count.self c.fill.new.self _ _ c.fill.ensures.place (cc)
    (omega (arith, c.if-scanned-limit.false, ap length c.uncut-scanned.ensures)) c.in_err-fill.ensures.nothing c.in_err-fill.ensures.ends)

pub returns-then-scanned-limit-clause-tells : goal.returns-then-scanned-limit-clause-tells
returns-then-scanned-limit-clause-tells g c =
    rw (c.keep.ensures.given, ap uncut_bytes c.self.view_is)
    (cut_too_long c.args.limit (uncut_bytes c.loop-count.self) _ (cc) (omega (arith, c.if-scanned-limit.true, ap length c.uncut-scanned.ensures)))
