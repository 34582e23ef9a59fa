-- `quarters::quarters_of`: the four, one by one.
use Rattle.bits.specs.Bits.{bit_of}
use Rattle.bits.specs.Quarters.{quarter_of}
use Rattle.bits.proofs.QuarterLaws.{four}
use Rattle.bits.proofs.quarters.quarters_of.Goals as goal

pub returns : goal.returns
returns c =
    four (quarter_of (bit_of c.args.lines.now)) _ _ _ _ c.quarter_at.ensures c.quarter_at-2.ensures
    c.quarter_at-3.ensures c.quarter_at-4.ensures
