use Rattle.listing_laws.proofs.DepthBounds.{forgotten_well, forgotten_shallow}
use Rattle.listing_laws.proofs.listings.forgetting_keeps_the_lists.Goals as goal

pub returns : goal.returns
returns c = record { well_formed = forgotten_well; shallow = forgotten_shallow }
