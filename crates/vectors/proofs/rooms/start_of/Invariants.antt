-- `start_of`: no buffer ends behind the room.
use Rattle.std.proofs.Common.{◌≤◌}
use Rattle.vectors.proofs.rooms.start_of.Given as goal

abbrev pub invariant-loop-j : goal.invariant-loop-j
invariant-loop-j l = l.s ≤ 131072
