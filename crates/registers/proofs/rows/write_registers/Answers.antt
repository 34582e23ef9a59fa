-- `registers::rows::write_registers`: the three parts and the modes, written one after the other. Assumes nothing.
use Rattle.registers.proofs.RowLaws.{put_four}
use borrow.Author.Rules.{rules}
use Rattle.registers.proofs.rows.write_registers.Goals as goal

pub returns : goal.returns
returns c =
    put_four c.args.regs.now _ _ _ _ c.args.r c.requires (search rules) (search rules) (search rules)
    c.copy_from_slice.ensures.after c.copy_from_slice-2.ensures.after c.copy_from_slice-3.ensures.after c.copy_from_slice-4.ensures.after
