use Rattle.std.proofs.Common.{ℕ, eqb, filter, IsSome, is_some, sym, ap, ◌∙◌}
use Rattle.std.specs.BTreeMap.{is_at}
use Rattle.std.specs.Map.{keys_of, lookup}
use Rattle.std.specs.Ordering.{nat_cmp}
use Rattle.std.proofs.lemmas.List.Elements.{All-weaker}
use Rattle.std.proofs.lemmas.Bool.{false≢true}
use Rattle.pids_charge.proofs.FlatGroups.{group-is}
use Rattle.pids_charge.proofs.RowsAt.{members_by_row, found_key}
use Rattle.flat_model.specs.CommandText.{IsPid}
use Rattle.pids_charge.specs.Lists.{Row}
use Rattle.pids_charge.proofs.GroupReads.{members-is}
use Rattle.pids_charge.proofs.charges.Charges.members.Goals as goal

pub returns-in_default-clause-listed : goal.returns-in_default-clause-listed
returns-in_default-clause-listed g c = group-is c.args.self.now c.self.inside.tree c.self.inside.processes c.self.view_is c.args.path.now ∙ ap is_some c.in_default.ensures

pub returns-in_err-pids-clause-absent : goal.returns-in_err-pids-clause-absent
returns-in_err-pids-clause-absent g c = λ e. absurd (false≢true (sym e ∙ group-is c.args.self.now c.self.inside.tree c.self.inside.processes c.self.view_is c.args.path.now ∙ c.in-Some.ensures.0))

pub returns-clause-listed : goal.returns-clause-listed
returns-clause-listed g c = (
  group-is c.args.self.now c.self.inside.tree c.self.inside.processes c.self.view_is c.args.path.now ∙ c.in-Some.ensures.0,
  c.unordered-numbers.ensures.sorted c.in_ok-pids.pids.items c.in_ok-pids.ensures.moved c.in_ok-pids.ensures.sorted
      ∙ ap (λ (row : ℕ). keys_of (filter (λ (e : Row g.row.A.Denot). eqb e.1.row row) c.self.inside.processes)) c.in-Some.ensures.1
      ∙ ap keys_of (members_by_row g.M.Meter.SLOTS c.self.inside.tree c.self.inside.free.items c.self.invariant.has_slots g.M.Meter.LEAVES
      c.args.path.now c.in-Some.ensures.0 c.self.inside.processes c.self.invariant.recounted.placed)
      ∙ members-is c.args.path.now c.self.inside.tree c.self.inside.processes c.args.self.now c.self.view_is c.self.invariant.recounted.ordered,
)

pub ascending-requires : goal.ascending-requires
ascending-requires g c =
    let es = c.self.inside.processes in
    All-weaker (λ q. IsSome (lookup (is_at (nat_cmp q)) es)) IsPid (λ q some. found_key IsPid q es c.self.invariant.recounted.pids some)
    c.unordered-numbers.result.now c.unordered-numbers.ensures.present
