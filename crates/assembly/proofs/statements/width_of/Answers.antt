-- `statements::width_of`: a word's number is small.
use native.Mathlib.Omega.{arith}
use Rattle.assembly.proofs.ActLaws.{number-most}
use Rattle.assembly.proofs.statements.width_of.Goals as goal

pub overflow_cast-width : goal.overflow_cast-width
overflow_cast-width c = omega (arith, number-most c.args.w)

pub overflow_cast-number : goal.overflow_cast-number
overflow_cast-number c = omega (arith, number-most c.args.start)
