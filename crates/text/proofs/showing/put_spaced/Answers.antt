-- `showing::put_spaced`: nothing, or a blank and the word.
use Rattle.std.proofs.Common.{sym, arith}
use Rattle.bits.proofs.Puts.{none-put, then-put}
use Rattle.text.proofs.PutLaws.{spaced-none, spaced-some}
use Rattle.text.proofs.showing.put_spaced.Goals as goal

pub returns-then-w-eq0 : goal.returns-then-w-eq0
returns-then-w-eq0 c = rw (spaced-none c.args.w c.if-w-eq0.true) (none-put c.args.at c.args.text.now)

pub returns : goal.returns
returns c = then-put (omega arith) c.put-next.ensures c.put_word.ensures (sym (spaced-some c.args.w c.if-w-eq0.false))
