-- `showing::line_size`: a line is at most 192 characters.
use native.Mathlib.Omega.{arith}
use Rattle.text.proofs.ShownLaws.{line-fits}
use Rattle.text.proofs.showing.line_size.Goals as goal

pub put_instruction-requires : goal.put_instruction-requires
put_instruction-requires c = omega (arith, line-fits c.args.m c.args.i)

pub returns : goal.returns
returns c =
    let a = c.args in
    let e = c.put_instruction.ensures.behind in
    (omega (arith, e, line-fits a.m a.i), omega (arith, e))
