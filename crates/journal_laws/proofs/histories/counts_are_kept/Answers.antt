use Rattle.flat_model.proofs.PathLaws.{not_empty_is_not_root}
use Rattle.journal_laws.proofs.histories.counts_are_kept.Goals as goal

pub returns-clause-populated : goal.returns-clause-populated
returns-clause-populated c = λ slots old new d g k.
    let p = k.populations g in
    (λ t. (let h = p.0 t in (h.pid, h.at, h.home, h.below)), λ x. p.1 (record { pid = x.0; at = x.1; home = x.2; below = x.3 }))

pub returns-clause-peak : goal.returns-clause-peak
returns-clause-peak c = λ slots old new d g x k n there. k.peaks g x there (not_empty_is_not_root g n)
