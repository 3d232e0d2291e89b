use Rattle.std.proofs.Common.{◌≡◌, ◌⊎◌, ◌+◌, ◌*◌, ◌<◌, ◌^◌, ◌%◌, true, false, length, get_or, set, sym, ◌∙◌, ap, subst, arith}
use Rattle.std.specs.Prelude.{bit_or}
use Rattle.std.proofs.lemmas.List.{get_or_default, length-set}
use Rattle.xpath_child.specs.declared.path.Found.TheVariants.{Missing, Several}
use Rattle.site_hooks.specs.Sets.{Has}
use Rattle.site_hooks.specs.Findings.{noted}
use Rattle.site_hooks.proofs.WordNotes.{has_more, more_several, still_missing}
use Rattle.site_hooks.proofs.findings.Findings.note.Goals as goal
use Rattle.site_hooks.proofs.findings.Findings.note.Goals.{in-Several, in_default}

pub invariant_of-self : goal.invariant_of-self
invariant_of-self c =
    let self = c.args.self.now in
    let n = c.saturating_add-number.result in
    let less : n < length self.found.items = omega (arith, c.if-number-len.true, c.len.ensures, self.found.ok) in
    let inside : c.args.index < length self.settled.items = omega (arith, c.if-index-len.true, c.len-then-matches.ensures, self.settled.ok) in
    let n_is : n ≡ c.args.index * 64 + c.args.bit = omega (arith, less, c.saturating_add-number.ensures, c.saturating_mul.ensures, c.ranges, self.found.small) in
    let word_is : get_or self.settled.items c.args.index 0 ≡ c.index_mut-then-index-len.result.now = sym (c.index_mut-then-index-len.ensures.value ∙ get_or_default self.settled.items c.args.index c.index_mut-then-index-len.result.now 0 inside) in
    let found_is : c.with_node-found.result ≡ noted c.args.at (get_or self.found.items n Missing) =
    c.with_node-found.ensures ∙ ap (noted c.args.at) (c.index.ensures ∙ get_or_default self.found.items n c.index.result.now Missing less) in
    let several : c.with_node-found.result ≡ Several = elim c.match-matches.branch [
      | in-Several w ↦ w.in-Several.is
      | in_default w ↦ let clash : true ≡ false = sym c.if-matches.true ∙ w.matches-is in cc
    ] in
    record {
      room = omega (arith, self.room, length-set self.found.items n c.with_node-found.result);
      none = still_missing self.reached.items self.found.items n c.with_node-found.result self.none (subst (Has self.reached.items) (sym n_is) (c.requires.reached (omega (arith, n_is, less))));
      several = more_several self.settled.items self.found.items n c.args.at less self.several c.with_node-found.result found_is
          (set self.settled.items c.args.index (bit_or c.index_mut-then-index-len.result.now (1 * 2 ^ c.args.bit % 2 ^ 64))) several
          (λ k has. subst (λ m. Has self.settled.items k ⊎ (k ≡ m)) (sym n_is)
          (has_more self.settled.items c.args.index c.args.bit c.requires.bit inside k (subst (λ w. Has (set self.settled.items c.args.index (bit_or w (1 * 2 ^ c.args.bit % 2 ^ 64))) k) (sym word_is) has)));
    }
