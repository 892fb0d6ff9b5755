use Rattle.std.proofs.Common.{◌≡◌, ◌+◌, ◌++◌, length}
use Rattle.line_engine.specs.Listings.{names_bytes}
use Rattle.line_engine.proofs.listing.gather.Given as goal

abbrev pub invariant-loop-name : goal.invariant-loop-name
invariant-loop-name l = record {
  can : goal.iterator-loop-name.can_next l.name-iterator;
  finite : goal.iterator-loop-name.is_finite l.name-iterator;
  bytes : l.bytes.items ++ names_bytes l.name-iterator ≡ names_bytes l.fn.names;
  count : l.count + length l.name-iterator ≡ length l.fn.names;
}
