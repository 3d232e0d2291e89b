use Rattle.std.proofs.Common.{◌≡◌, ◌∙◌, ap, length, take, drop, ◌+◌, ◌-◌, sym, arith}
use Rattle.byte_streams.specs.Answers.{bytes_of}
use Rattle.byte_streams.specs.Reading.{uncut_bytes}
use Rattle.byte_streams.proofs.Searching.{advanced}
use Rattle.byte_streams.proofs.Feeds.{line_ends}
use Rattle.byte_streams.proofs.lines.Lines.advance.Goals as goal

pub cut-requires : goal.cut-requires
cut-requires g c = rw (sym c.self-2.invariant.2, ap uncut_bytes c.self-2.view_is) (line_ends c.args.limit c.in_ok-count.count (uncut_bytes c.find_line.new.self) c.in_ok-count.ensures.length).1

pub returns : goal.returns
returns g c =
    let now = c.find_line.new.self in
    let kept : c.self-2.inside.window.kept ≡ uncut_bytes now = sym c.self-2.invariant.2 ∙ ap uncut_bytes c.self-2.view_is in
    advanced c.args.limit c.args.self.now now _ c.in_ok-count.count (sym (ap (λ lines. lines.fault) c.self.view_is) ∙ c.in_default.is) c.find_line.ensures.reads c.find_line.ensures.place c.in_ok-count.ensures.length
    (ap (λ lines. lines.first) c.self-2.view_is) (ap (λ lines. lines.answers) c.self-2.view_is) (c.cut.ensures.line ∙ ap (take c.in_ok-count.count) kept)
    (ap (λ rest. length (bytes_of c.self-2.inside.history.answers) - length rest) (c.cut.ensures.kept ∙ ap (drop (c.in_ok-count.count + 1)) kept)) (ap (λ lines. lines.fault) c.self-2.view_is ∙ c.in_ok-count.ensures.fault) (omega (arith, c.self-2.invariant.1.small, c.self-2.invariant.1.few))
