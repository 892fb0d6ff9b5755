use Rattle.listing_laws.proofs.InOrder.{subtree_is}
use Rattle.listing_laws.proofs.listings.a_subtree_is_listed.Goals as goal

pub returns : goal.returns
returns c = λ slots s w shallow p g. subtree_is s slots w shallow p g
