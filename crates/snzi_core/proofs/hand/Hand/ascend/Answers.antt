use Rattle.std.proofs.Common.{◌-◌, arith}
use Rattle.std.specs.Prelude.{slice_index}
use Rattle.snzi_core.proofs.NumberLists.{put_length}
use Rattle.snzi_core.proofs.Hands.{lose_else}
use Rattle.snzi_core.proofs.hand.Hand.ascend.Goals as goal

pub gain-requires : goal.gain-requires
gain-requires g c = record {
  place = rw c.lose.ensures (let e = put_length c.args.self.now.tokens c.args.word (slice_index c.args.self.now.tokens c.args.word - 1) c.requires.place.1 in omega arith);
  room = rw c.lose.ensures (let e = lose_else c.args.self.now c.args.word c.args.parent c.requires.place.2 in let h = c.requires.room in omega arith);
}
