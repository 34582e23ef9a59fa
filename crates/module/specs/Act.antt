-- What one instruction makes of the memory, the out buffer, the registers and the counts. Document 01, Instructions; document 02, Seven.
use Rattle.std.specs.Prelude.{cond, List, ◌++◌, ℕ, zero, suc, ◌+◌, ◌*◌, eqb, take, drop}
use Rattle.bits.specs.Bits.{bit_of, item}
use Rattle.memory.specs.Access.{read_bit}
use Rattle.memory.specs.Memory.{cell, stored, every}
use Rattle.network.specs.Answer.{passed_item}
use Rattle.registers.specs.declared.Registers.{Registers}
use Rattle.registers.specs.Rows.{with_m, with_modes}
use Rattle.registers.specs.Logic.{logic_of}
use Rattle.registers.specs.Resolver.{resolved}
use Rattle.judge.specs.declared.Instruction.{Instruction}
use Rattle.judge.specs.Kinds.{logic, set_m, store, masked_store, deliver, resolve, set_mode}
use Rattle.judge.specs.Instructions.{takes, gives}
use Rattle.judge.specs.Modes.{modes_by, mode_of}

-- ---- parts of a buffer

-- Part k of a buffer: its bytes 32 k to 32 k + 31.
abbrev pub part_at : List ℕ → ℕ → List ℕ
part_at l k = take 32 (drop (32 * k) l)

-- A buffer with the item x as its part k.
unfoldable pub put_part : List ℕ → ℕ → List ℕ → List ℕ
put_part l k x = take (32 * k) l ++ (x ++ drop (32 * k + 32) l)

-- ---- the source item, and its pass

-- "Source: 0 memory, 1 M, 2 X, 3 Y": what the module itself holds.
abbrev pub held : ℕ → ℕ → ℕ → List ℕ → Registers → List ℕ
held zero mode addr mem r = item (read_bit (cell mem) mode addr)
held (suc zero) mode addr mem r = r.m
held (suc (suc zero)) mode addr mem r = r.x
held (suc (suc (suc n))) mode addr mem r = r.y

unfoldable pub held_item : Instruction → List ℕ → Registers → List ℕ
held_item i mem r = held i.source (mode_of r.modes i) i.addr mem r

-- "4 outside: each use takes the next 32 bytes of the lent items", of which some were taken.
unfoldable pub source_item : Instruction → List ℕ → List ℕ → Registers → ℕ → List ℕ
source_item i mem items r taken = cond (takes i) (part_at items taken) (held_item i mem r)

-- "The source item, unscrambled if from memory, makes one pass."
unfoldable pub passed_by : Instruction → List ℕ → List ℕ → Registers → ℕ → List ℕ
passed_by i mem items r taken = passed_item (source_item i mem items r taken) i.flip i.code

-- ---- what the passed item f does

-- The registers: kind 0 is logic, kind 1 sets M, kind 6 a mode register.
unfoldable pub regs_after : Instruction → Registers → List ℕ → Registers
regs_after i r f =
    cond (eqb i.kind logic) (logic_of r f i.logic)
    (cond (eqb i.kind set_m) (with_m r f) (cond (eqb i.kind set_mode) (with_modes r (modes_by i r.modes)) r))

-- The memory, under a mode: kind 2 stores at all lines. Kind 3, document 02, Three: "a masked store writes line P's bit exactly if M's bit P is 1". P is the line that points at the memory's bit, after the flip: the item has passed, and M has not.
unfoldable pub mem_after : Instruction → ℕ → List ℕ → List ℕ → List ℕ → List ℕ
mem_after i mode mem m f =
    cond (eqb i.kind store) (stored mem mode i.addr every (bit_of f))
    (cond (eqb i.kind masked_store) (stored mem mode i.addr (bit_of m) (bit_of f)) mem)

-- The out buffer: kind 4 puts the item out, kind 5 what the resolver says of Y.
unfoldable pub out_after : Instruction → List ℕ → ℕ → List ℕ → List ℕ → List ℕ
out_after i out given f y =
    cond (eqb i.kind deliver) (put_part out given f)
    (cond (eqb i.kind resolve) (put_part out given (resolved (bit_of y))) out)

-- ---- an instruction

-- The buffers and the registers, and how many items were taken and given.
pub record State : Type 0 where
  pub mem : List ℕ
  pub out : List ℕ
  pub regs : Registers
  pub taken : ℕ
  pub given : ℕ

-- What instruction i, whose passed item is f, makes of a state.
abbrev pub after : Instruction → List ℕ → State → State
after i f s =
    record {
      mem = mem_after i (mode_of s.regs.modes i) s.mem s.regs.m f;
      out = out_after i s.out s.given f s.regs.y;
      regs = regs_after i s.regs f;
      taken = s.taken + cond (takes i) 1 0;
      given = s.given + cond (gives i) 1 0;
    }

-- What instruction i makes of a state, with the lent items.
unfoldable pub acted : Instruction → List ℕ → State → State
acted i items s = after i (passed_by i s.mem items s.regs s.taken) s
