use Rattle.std.proofs.Common.{◌≡◌, ℕ, ◌+◌, ◌%◌, None, IsSome, List, length, sum_by, arith, refl, sym, ap, ◌∙◌}
use Rattle.std.specs.FinMap as fin
use Rattle.std.specs.Map.{lookup}
use Rattle.std.specs.BTreeMap.{is_at}
use Rattle.std.specs.Ordering.{nat_cmp}
use Rattle.std.proofs.lemmas.List.Elements.{All-weaker}
use Rattle.flat_model.specs.State.{State}
use Rattle.flat_model.specs.Inverse.{back, Killed}
use Rattle.snzi_tokens.specs.Listed.{listed_at}
use Rattle.pids_charge.specs.Content.{Content}
use Rattle.pids_charge.specs.Lists.{rows_of}
use Rattle.pids_charge.specs.Recount.{state_of, charges_at}
use Rattle.snzi_tokens.specs.declared.token.Token.{Token}
use Rattle.pids_charge.proofs.MeterContents.{held_small, placed}
use Rattle.pids_charge.proofs.Entries.{home_rows, to_sorted, not_found, find_new}
use Rattle.pids_charge.proofs.ListedProcesses.{placed-is}
use Rattle.pids_charge.proofs.FlatGroups.{there-is}
use Rattle.pids_charge.proofs.charges.Charges.put_processes_back.Goals as goal

pub place_each-requires-clause-new : goal.place_each-requires-clause-new
place_each-requires-clause-new g c =
    All-weaker (λ l. fin.get c.args.self.now.home l.pid ≡ None) (λ l. lookup (is_at (nat_cmp l.pid)) c.self.inside.processes ≡ None) (λ l e.
    not_found l.pid c.self.inside.processes
    (sym (fin.get-from_sorted nat_cmp (home_rows c.self.inside.processes) l.pid
    (to_sorted c.self.inside.processes c.self.invariant.recounted.ordered)) ∙ ap (λ (t : State). fin.get t.home l.pid) c.self.view_is
    ∙ e))
    c.args.list.now c.requires.new

pub settle-requires-clause-room : goal.settle-requires-clause-room
settle-requires-clause-room g c =
    let leaf = c.args.who % c.LEAVES.result in
    let es = c.self.inside.processes in
    let content : Content = g.M.Meter.content c.self.inside.meter in
    let held : ℕ = g.M.Meter.held c.self.inside.meter in
    let d = c.self.invariant.recounted in
    let new = All-weaker (λ l. fin.get c.args.self.now.home l.pid
    ≡ None) (λ l. find_new l.pid es) (λ l e. sym (fin.get-from_sorted nat_cmp (home_rows es) l.pid (to_sorted es d.ordered))
    ∙ ap (λ (t : State). fin.get t.home l.pid) c.self.view_is ∙ e) c.args.list.now c.requires.new in
    let homes = All-weaker (λ l. IsSome (fin.get c.args.self.now.groups l.path)) (λ l. IsSome (fin.get c.self.inside.tree l.path))
    (λ l h. there-is c.args.self.now c.self.inside.tree es c.self.view_is l.path h) c.args.list.now c.requires.homes in
    let d2 = placed g.M.Meter.LEAVES c.self.inside.tree es content held d leaf c.args.list.now
    (λ s j. content s j + sum_by (λ l. charges_at c.self.inside.tree l.path leaf s j) c.args.list.now) (held + sum_by (λ l. length l.path) c.args.list.now)
    (omega (arith, c.LEAVES.ensures, g.met.M.Meter.leaves_positive)) (new, c.requires.apart) homes ((c.in_ok-place_each.ensures).pids) (λ s j. refl) refl in
    omega (arith, held_small _ _ _ _ _ d2 c.self.invariant.has_slots.shallow, ap length c.as_slice.ensures.value, (c.in_ok-tokens.ensures).many)

pub invariant_of-self-2 : goal.invariant_of-self-2
invariant_of-self-2 g c =
    let leaf = c.args.who % c.LEAVES.result in
    let es = c.self.inside.processes in
    let content : Content = g.M.Meter.content c.self.inside.meter in
    let held : ℕ = g.M.Meter.held c.self.inside.meter in
    let d = c.self.invariant.recounted in
    let new = All-weaker (λ l. fin.get c.args.self.now.home l.pid
    ≡ None) (λ l. find_new l.pid es) (λ l e. sym (fin.get-from_sorted nat_cmp (home_rows es) l.pid (to_sorted es d.ordered))
    ∙ ap (λ (t : State). fin.get t.home l.pid) c.self.view_is ∙ e) c.args.list.now c.requires.new in
    let homes = All-weaker (λ l. IsSome (fin.get c.args.self.now.groups l.path)) (λ l. IsSome (fin.get c.self.inside.tree l.path))
    (λ l h. there-is c.args.self.now c.self.inside.tree es c.self.view_is l.path h) c.args.list.now c.requires.homes in
    let counted = λ (s j : ℕ). ap (λ (ts : List Token). listed_at ts s j) c.as_slice.ensures.value ∙ (c.in_ok-tokens.ensures).counted s j in
    let many = ap length c.as_slice.ensures.value ∙ (c.in_ok-tokens.ensures).many in
    record {
      has_slots = c.self.invariant.has_slots;
      room = c.self.invariant.room;
      recounted = rw (c.in_ok-place_each.ensures).placed (placed g.M.Meter.LEAVES c.self.inside.tree es content held d leaf c.args.list.now
          (g.M.Meter.content c.settle.new.meter) (g.M.Meter.held c.settle.new.meter)
          (omega (arith, c.LEAVES.ensures, g.met.M.Meter.leaves_positive)) (new, c.requires.apart) homes ((c.in_ok-place_each.ensures).pids)
          (λ s j. omega (arith, c.settle.ensures.content s j, counted s j)) (omega (arith, c.settle.ensures.held, many)));
    }

pub returns-clause-placed : goal.returns-clause-placed
returns-clause-placed g c =
    let es = c.self.inside.processes in
    let leaf = c.args.who % c.LEAVES.result in
    ap (state_of c.self.inside.tree) ((c.in_ok-place_each.ensures).placed)
    ∙ placed-is c.self.inside.tree leaf es (to_sorted es c.self.invariant.recounted.ordered) c.args.list.now
    ∙ ap (λ (t : State). back (Killed (rows_of c.args.list.now)) t) c.self.view_is

pub tokens_of-requires-clause-homes : goal.tokens_of-requires-clause-homes
tokens_of-requires-clause-homes g c =
    All-weaker (λ l. IsSome (fin.get c.args.self.now.groups l.path)) (λ l. IsSome (fin.get c.self.inside.tree l.path))
    (λ l h. there-is c.args.self.now c.self.inside.tree c.self.inside.processes c.self.view_is l.path h) c.args.list.now
    c.requires.homes

pub place_each-requires-clause-homes : goal.place_each-requires-clause-homes
place_each-requires-clause-homes g c =
    All-weaker (λ l. IsSome (fin.get c.args.self.now.groups l.path)) (λ l. IsSome (fin.get c.self.inside.tree l.path))
    (λ l h. there-is c.args.self.now c.self.inside.tree c.self.inside.processes c.self.view_is l.path h) c.args.list.now
    c.requires.homes
