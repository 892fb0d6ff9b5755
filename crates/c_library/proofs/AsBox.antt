-- A seal and its parts own what a box at the same types owns.
use mir.Syntax.{impl, tnil, dnil}
use mathlib.Core.List.{[]}
use denote.Signature.{Slot, plain}
use Rattle.std_alloc.proofs.BoxSteps.Form.{Bx}
use Rattle.std_heap.specs.contracts.Global as Heap
use Rattle.std_heap.specs.contracts.GlobalAllocator.TheImpl.{ghosts, dict}
use Rattle.std_heap.proofs.Global.TheLaws as heap
use Rattle.line_engine.specs.contracts.engine.LineEngine as LineEngine
use Rattle.line_engine.proofs.engine.LineEngine.TheLaws as engine_laws
use Rattle.c_library.specs.contracts.parts.Parts as Parts
use Rattle.c_library.specs.contracts.seal.Seal as Seal

abbrev pub E : Bx
E = record { row = LineEngine.the_row; laws = engine_laws.the_row_laws; al = record { row = Heap.the_row; laws = heap.the_row_laws; g = ghosts; d = dict; drops = impl [] tnil dnil } }

abbrev pub FromParts : Slot 0
FromParts = plain (λ _. Parts.the_row LineEngine.the_row Heap.the_row ghosts)

abbrev pub FromSeal : Slot 0
FromSeal = plain (λ _. Seal.the_row)
