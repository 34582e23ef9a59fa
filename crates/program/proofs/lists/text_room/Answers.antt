-- `text_room`: so many zeros, by the law of their length: counted one by one they are too many for the checker.
use Rattle.std.proofs.Common.{ℕ, sym}
use Rattle.std.proofs.lemmas.List.{length-replicate}
use Rattle.program.proofs.lists.text_room.Goals as goal

pub returns : goal.returns
returns c = sym (length-replicate {A = ℕ} 1048577 0)
