use Rattle.std.proofs.Common.{ap}
use Rattle.snzi_tree.specs.View.{holding}
use Rattle.snzi_tree.proofs.StepEvents.{load_makes, root_add_makes, child_add_makes, exchange_makes, leave_makes, stripe_add_makes}
use Rattle.snzi_tree.proofs.SplitEvents.{split_makes, join_makes}
use Rattle.indicator_laws.proofs.events.steps_are_events.Goals as goal

pub returns-clause-looked : goal.returns-clause-looked
returns-clause-looked c = λ g w l slots id j me board acts inside s m r at told. load_makes g w l board s r id me at acts j inside m (ap holding told.0)

pub returns-clause-queried : goal.returns-clause-queried
returns-clause-queried c = λ g w l slots id j me board acts inside s m r at told. load_makes g w l board s r id me at acts j inside m (ap holding told.0)

pub returns-clause-summed : goal.returns-clause-summed
returns-clause-summed c = λ g w l slots id j me board acts inside s m r at told. load_makes g w l board s r id me at acts j inside m (ap holding told.0)

pub returns-clause-staged : goal.returns-clause-staged
returns-clause-staged c = λ g w l slots id j me board acts inside s m r at told. load_makes g w l board s r id me at acts j inside m (ap holding told.0)

pub returns-clause-unstaged : goal.returns-clause-unstaged
returns-clause-unstaged c = λ g w l slots id j me board acts inside s m r at told. load_makes g w l board s r id me at acts j inside m (ap holding told.0)

pub returns-clause-root_added : goal.returns-clause-root_added
returns-clause-root_added c = λ g w l slots id j me board acts inside node root few s m r at told. root_add_makes g w l board s r id me at acts j inside node m root few told.0

pub returns-clause-child_added : goal.returns-clause-child_added
returns-clause-child_added c = λ g w l slots id j me board acts inside node child have few s m r at told. child_add_makes g w l board s r id me at acts j inside node child m slots have few told

pub returns-clause-fast_added : goal.returns-clause-fast_added
returns-clause-fast_added c = λ g w l slots id j old me board acts inside node filled few s m r at told. exchange_makes g w l board s r id me at acts j inside node m slots old filled few told

pub returns-clause-left : goal.returns-clause-left
returns-clause-left c = λ g w l slots id j me board acts inside node have few s m r at told. leave_makes g w l board s r id me at acts j inside node have few m slots told

pub returns-clause-added_on : goal.returns-clause-added_on
returns-clause-added_on c = λ g w l slots id j n me board acts inside striped s m r at told. stripe_add_makes g w l board s r id me at acts j inside striped m slots n told

pub returns-clause-split : goal.returns-clause-split
returns-clause-split c = λ g w l id v share board main room all plan fits s r at. split_makes g w l board s r id v share main room all plan fits at

pub returns-clause-join : goal.returns-clause-join
returns-clause-join c = λ g w l id other v u board main helper room tidy s r at apart there. join_makes g w l board s r id other v u main helper room tidy at apart there
