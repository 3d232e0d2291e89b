use Rattle.std.proofs.Common.{◌≡◌, ◌++◌}
use Rattle.site_file.proofs.growing.push_all.Given as goal

abbrev pub invariant-loop-address : goal.invariant-loop-address
invariant-loop-address l = l.addresses.items ++ l.address-iterator.rest.items ≡ l.initial.addresses.items ++ l.initial.address-iterator.rest.items
