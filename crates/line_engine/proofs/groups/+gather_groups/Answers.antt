use Rattle.std.proofs.Common.{rules, ◌-◌}
use Rattle.line_engine.proofs.GroupsBelow.{first_bytes, first_count, more_bytes, more_count, all_bytes, all_count}
use Rattle.line_engine.proofs.groups.+gather_groups.Goals as goal

pub loop-name-init : goal.loop-name-init
loop-name-init t c = record {
  can = search rules;
  finite = search rules;
  bytes = first_bytes c.args.bytes.now.items c.extend_from_slice.new.self.items c.push.new.self.items c.args.charges.now (c.args.levels - 1)
      c.args.path.now c.in-Some.names c.into_iter-name-iterator.result (search rules) c.in_ok-push.ensures.items c.in-Some.ensures.1
      c.into_iter-name-iterator.ensures.into_iter_gives;
  count = first_count c.args.charges.now (c.args.levels - 1) c.args.path.now c.in-Some.names c.into_iter-name-iterator.result c.in-Some.ensures.1 c.into_iter-name-iterator.ensures.into_iter_gives;
}

pub loop-name-preserved : goal.loop-name-preserved
loop-name-preserved t c = record {
  can = search rules;
  finite = search rules;
  bytes = more_bytes c.loop-name.bytes.items c.gather_groups.new.bytes.items _ c.args.charges.now (c.args.levels - 1) c.args.path.now
      c.in-Ok.child c.in-Some-name.name.now c.loop-name.name-iterator c.next.new.self (search rules) c.in-Ok.ensures.found
      c.in_ok-below.ensures.bytes c.loop-name.invariant.bytes;
  count = more_count c.loop-name.count c.in_ok-below.below _ c.args.charges.now (c.args.levels - 1) c.args.path.now c.in-Ok.child
      c.in-Some-name.name.now c.loop-name.name-iterator c.next.new.self (search rules) c.in-Ok.ensures.found c.in_ok-below.ensures.count
      c.loop-name.invariant.count;
}

pub returns-clause-bytes : goal.returns-clause-bytes
returns-clause-bytes t c =
    all_bytes c.args.bytes.now.items c.loop-name.bytes.items c.args.charges.now c.args.levels c.args.path.now c.loop-name.name-iterator
    c.if-levels-eq0.false (search rules) c.loop-name.invariant.bytes

pub returns-clause-count : goal.returns-clause-count
returns-clause-count t c = all_count c.loop-name.count c.args.charges.now c.args.levels c.args.path.now c.loop-name.name-iterator c.if-levels-eq0.false (search rules) c.loop-name.invariant.count
