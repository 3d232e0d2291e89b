use Rattle.std.proofs.Common.{length, string_bytes}
use denote.Text.{Utf8}
use denote.Shadow.{shadow}
use Rattle.page_looks.proofs.AddressLaws.{KeptSoFar}
use Rattle.page_looks.proofs.addresses.push_kept.Given as goal

abbrev pub invariant-loop-mark : goal.invariant-loop-mark
invariant-loop-mark l = record {
  utf8 : shadow (Utf8 l.rest);
  mark_utf8 : shadow (Utf8 l.mark);
  kept : KeptSoFar l.fresh (string_bytes l.initial.kept) l.query (string_bytes l.kept) l.mark l.rest;
}

abbrev pub decreases-loop-mark : goal.decreases-loop-mark
decreases-loop-mark l = length l.rest
