use Rattle.redo_crew.proofs.RoomLemmas.{has_room}
use Rattle.redo_crew.proofs.laws.nobody_waits_for_room.Goals as goal

pub returns : goal.returns
returns c = λ workers ready left moves s few l h. has_room workers ready left moves s few l h
