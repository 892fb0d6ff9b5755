use Rattle.listing_laws.proofs.DepthBounds.{reached_shallow, reached_keys}
use Rattle.listing_laws.proofs.listings.reached_groups_are_listed.Goals as goal

pub returns : goal.returns
returns c = record { shallow = reached_shallow; keys = reached_keys }
