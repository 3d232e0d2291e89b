use Rattle.std.proofs.Common.{ℕ, List, ◌≡◌, [], ◌∷◌, ◌++◌, Some, None, ◌∙◌, ap, take, refl, sym, arith, length-take}
use Rattle.std.proofs.lemmas.List.{with_items_is}
use Rattle.byte_streams.proofs.ReadLaws.{bytes_more, made_more, tail_more}
use Rattle.byte_streams.proofs.ReadingLaws.{was_then, was_given, reads_one}
use Rattle.byte_streams.proofs.lines.Lines.fill.Goals as goal

pub invariant_of-self-in-Ok : goal.invariant_of-self-in-Ok
invariant_of-self-in-Ok g c =
    let made = c.self.invariant.1 in
    let none : c.self.inside.fault ≡ None = ap (λ lines. lines.fault) c.self.view_is ∙ c.requires.going in
    let long = length-take c.in-Ok.count c.deref.result.now in
    let bytes : List ℕ = take c.in-Ok.count c.deref.result.now in
    let chunk : c.deref.result.now ≡ c.draw.new.buf = c.deref.ensures.value ∙ with_items_is c.self.inside.chunk c.draw.new.buf (c.draw.auto.buf ∙ c.deref_mut.ensures.len) in (
      c.self.invariant.0,
      rw (none, c.moved-in-Ok.ensures) (made_more _ bytes _ (rw none at made) (omega (arith, c.if-self-eq-MAX_READS.false, made.few)) (omega (arith, c.in-Ok.count-test.1, c.deref.ensures.len, c.self.invariant.0)) (omega (arith, c.deref.ensures.len, c.self.invariant.0))),
      rw (c.moved-in-Ok.ensures, c.append.ensures.kept, c.reserve.ensures.kept, bytes_more c.self.inside.history.answers bytes) (tail_more _ _ bytes c.self.invariant.2),
      rw c.moved-in-Ok.ensures (was_then g.R.Source.answers g.R.Read.remaining _ _ _ _ _ c.self.invariant.3 (was_given _ _ _ _ bytes (c.in-Ok.ensures.told ∙ ap (λ buf. g.R.Source.answers c.self.inside.reader ++ Some (take c.in-Ok.count buf) ∷ []) (sym chunk)) (rw chunk c.in-Ok.ensures.bytes.0))),
      c.draw.ensures.same ∙ c.self.invariant.4,
    )

pub returns-in-Ok-clause-reads : goal.returns-in-Ok-clause-reads
returns-in-Ok-clause-reads g c = rw (← c.self.view_is) (reads_one _ _ _ _ refl c.moved-in-Ok.ensures refl)

pub returns-in-Ok-eq0-clause-reads : goal.returns-in-Ok-eq0-clause-reads
returns-in-Ok-eq0-clause-reads g c = rw (← c.self.view_is) (reads_one _ _ _ _ refl c.moved.ensures refl)

pub returns-in-Err-draw-clause-reads : goal.returns-in-Err-draw-clause-reads
returns-in-Err-draw-clause-reads g c = rw (← c.self.view_is) (reads_one _ _ _ _ refl c.failed.ensures refl)
