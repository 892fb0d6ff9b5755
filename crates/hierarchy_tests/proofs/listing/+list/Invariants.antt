use Rattle.hierarchy_tests.proofs.listing.+list.Given as goal

abbrev pub decreases-list : goal.decreases-list
decreases-list g l = l.levels
