use Rattle.std.proofs.Common.{◌≡◌, ◌≤◌, [], length, bytes_eq}
use Rattle.std.specs.List.{AllByRecursion}
use Rattle.indexmap.specs.IndexMap.{spare, insert_all}
use Rattle.conflict_desk.specs.Docket.{AreAscending}
use Rattle.conflict_desk.specs.Desk.{new_books}
use Rattle.conflict_desk.proofs.desk.Desk.open.Given as goal

abbrev pub invariant-loop-docket : goal.invariant-loop-docket
invariant-loop-docket l = record {
  entries : insert_all bytes_eq l.open.entries (new_books l.docket-iterator.rest.items) ≡ insert_all bytes_eq [] (new_books l.initial.docket-iterator.rest.items);
  visits : AllByRecursion (λ docket. AreAscending docket.cases) l.docket-iterator.rest.items;
  room : length l.docket-iterator.rest.items ≤ spare l.open;
}
