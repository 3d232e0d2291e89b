use Rattle.std.proofs.Common.{◌≡◌, ◌++◌, ℕ, List}
use Rattle.site_hooks.specs.Table.{table_page, watched_in}
use Rattle.site_file.proofs.growing.watch_all.Given as goal

abbrev pub invariant-loop-path : goal.invariant-loop-path
invariant-loop-path l = record {
  watched : watched_in l.table ++ l.path-iterator.rest.items ≡ watched_in l.initial.table ++ l.initial.path-iterator.rest.items;
  pages : (address : List ℕ) → table_page l.table address ≡ table_page l.fn.table address;
}
