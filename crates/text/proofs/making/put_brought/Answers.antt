-- `making::put_brought`: an instruction or nothing.
use Rattle.bits.proofs.Puts.{none-put}
use Rattle.text.specs.Make.{brought}
use Rattle.text.proofs.making.put_brought.Goals as goal

pub returns-else-s : goal.returns-else-s
unfolding brought
returns-else-s c = rw c.if-s.false (none-put c.args.at c.args.out.now)
