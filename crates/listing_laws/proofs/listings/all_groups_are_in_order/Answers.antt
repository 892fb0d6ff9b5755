use Rattle.std.proofs.Common.{[]}
use Rattle.flat_model.specs.Path.{path_cmp}
use Rattle.line_engine.specs.Listings.{all_groups}
use Rattle.listing_laws.proofs.InOrder.{groups_ascend, groups_are_keys}
use Rattle.listing_laws.proofs.Order.{ascends_pairs}
use Rattle.listing_laws.proofs.listings.all_groups_are_in_order.Goals as goal

pub returns : goal.returns
returns c = record { ascending = λ s. ascends_pairs path_cmp (all_groups s) (groups_ascend s 33 []); keys = λ slots s w shallow. groups_are_keys s slots w shallow }
