-- What a seal owns: what a box of the engine owns, or nothing.
use Rattle.std.specs.Prelude.{Option, None, Some}
use Rattle.std.specs.Coded.{coded_option}
use base.Fml.{Fml, ftrue}
use base.Stored.{Coded}
use denote.RawPtr.{Ptr}
use Rattle.std.specs.Box.Ownership.{box_owns}
use Rattle.std.specs.Global.{Global}
use Rattle.std_heap.specs.contracts.GlobalAllocator.TheImpl.{ghosts}
use Rattle.line_engine.specs.contracts.engine.LineEngine.{the_row}

abbrev pub seal_owns : Global → Ptr → Option the_row.Denot → Fml
seal_owns alloc p None = ftrue
seal_owns alloc p (Some x) = box_owns (ghosts.dealloc_token alloc) the_row p x

abbrev pub held_coded : Coded (Option the_row.Denot)
held_coded = coded_option the_row.coded
