use Rattle.page_looks.proofs.FormLaws.{InFormsSoFar}
use Rattle.page_looks.proofs.in_forms.nodes_in_forms.Given as goal

abbrev pub invariant-loop-number : goal.invariant-loop-number
invariant-loop-number l = InFormsSoFar l.page l.fresh l.below l.initial.own l.own l.all.items l.number
