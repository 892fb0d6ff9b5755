use Rattle.listing_laws.proofs.AllGroups.{listed_are}
use Rattle.listing_laws.proofs.listings.all_groups_are_listed.Goals as goal

pub returns : goal.returns
returns c = record { listed = λ slots s w shallow q. listed_are s slots w shallow q }
