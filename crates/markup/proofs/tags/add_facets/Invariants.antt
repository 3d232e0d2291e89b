use Rattle.std.proofs.Common.{◌≡◌, ◌++◌, drop}
use Rattle.std.specs.List.{flat_map}
use Rattle.markup.specs.Drawing.{facet_html, facets_seen}
use Rattle.markup.proofs.tags.add_facets.Given as goal

abbrev pub invariant-loop-facet : goal.invariant-loop-facet
invariant-loop-facet l = l.out.items ++ flat_map facet_html (facets_seen (drop l.facet-index l.facets)) ≡ l.initial.out.items ++ flat_map facet_html (facets_seen l.facets)
