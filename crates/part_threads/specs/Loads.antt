-- A part is a place and what is done there.
use Rattle.outside.specs.declared.parts.Part.{Part}
use Rattle.outside.specs.declared.parts.Part.TheVariants as part
use Rattle.part_threads.specs.declared.load.Load.{Load}
use Rattle.part_threads.specs.declared.load.Load.TheVariants as load

abbrev pub part_of : {P C : Type 0} → P → Load C → Part P C
part_of place load.Worker = part.Worker place
part_of place load.Ticker = part.Ticker place
part_of place (load.Connection connection tickets) = part.Connection place connection tickets
part_of place (load.Follower follow) = part.Follower place follow
