-- `put_visible`: nothing, or one byte.
use Rattle.bits.proofs.Puts.{none-put}
use Rattle.spelling.proofs.SpellLaws.{visible-none}
use Rattle.spelling.proofs.put_visible.Goals as goal

pub returns-then-c-eq0 : goal.returns-then-c-eq0
returns-then-c-eq0 c = rw (visible-none c.args.c c.if-c-eq0.true) (none-put c.args.at c.args.text.now)
