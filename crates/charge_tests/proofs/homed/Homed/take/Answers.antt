use Rattle.std.proofs.Common.{◌≡◌, ℕ, List, [], get_or, subst, sym}
use Rattle.std.specs.BTreeMap.{is_at}
use Rattle.std.specs.List.{All}
use Rattle.std.specs.Map.{values_of}
use Rattle.std.specs.Ordering.{nat_cmp}
use Rattle.std.proofs.lemmas.Map.Views.{All-map-remove_entry}
use Rattle.process_table.specs.declared.process.Process.{Process}
use Rattle.charge_tests.proofs.homed.Homed.take.Goals as goal

pub invariant_of-self : goal.invariant_of-self
invariant_of-self g c = record {
  homed = subst (λ (es : List (ℕ × Process g.row.A.Denot)). All (λ p. p.home ≡ get_or c.args.self.now.homes.items p.row []) (values_of es)) (sym c.take.ensures.entries)
      (All-map-remove_entry (is_at (nat_cmp c.args.pid)) (λ e. e.1) (λ p. p.home ≡ get_or c.args.self.now.homes.items p.row []) c.args.self.now.table c.args.self.now.homed);
}
