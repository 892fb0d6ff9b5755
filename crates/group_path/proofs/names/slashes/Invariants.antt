use Rattle.std.proofs.Common.{◌≡◌, ◌%◌, ◌^◌, take, count_by}
use Rattle.flat_model.specs.PathText.{is_slash}
use Rattle.group_path.proofs.names.slashes.Given as goal

abbrev pub invariant-loop-byte : goal.invariant-loop-byte
invariant-loop-byte l = record { counted : l.count ≡ count_by is_slash (take l.byte-index l.bytes) % 2 ^ 8 }
