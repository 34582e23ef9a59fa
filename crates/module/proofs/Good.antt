-- A state of 8,192 bytes of memory and 32 in each row of its registers: bytes stay bytes, and what a run leaves has the lengths that were lent. Assumes nothing.
use mathlib.Core.Path.{◌≡◌, refl, sym, ap, subst, ◌∙◌}
use mathlib.Core.Bool.{Bool, true, false, cond}
use mathlib.Core.List.{List, ◌++◌}
use Prim.Native.Nat.{ℕ, zero, suc, ◌/◌, ◌%◌, ◌<◌}
use native.Mathlib.Omega.{arith}
use lib.Dec.{eqb}
use lib.ListN.{length, get_or, drop, length-drop}
use lib.Seq.{length-take-le}
use Rattle.bits.specs.Bits.{Bytes, bit_of, byte_of, item}
use Rattle.bits.proofs.Binary.{Bit}
use Rattle.bits.proofs.Items.{length-listed, bit_of-bit}
use Rattle.bits.proofs.ByteLaws.{bytes-of, pack-bytes, part_bytes, append-bytes}
use Rattle.memory.specs.Memory.{stored, every}
use Rattle.memory.proofs.MemoryLaws.{stored-bit}
use Rattle.network.specs.Shifts.{shift_of, p_of, m_of}
use Rattle.network.specs.Pass.{passed}
use Rattle.network.specs.Answer.{passed_item}
use Rattle.network.proofs.PassLaws.{passed-bit}
use Rattle.registers.specs.declared.Modes.{Modes}
use Rattle.registers.specs.declared.Registers.{Registers}
use Rattle.registers.specs.Logic.{logic_of}
use Rattle.registers.specs.Modes.{modes_of, mode_bytes}
use Rattle.registers.specs.Rows.{registers_of, bytes_of, with_m, with_modes}
use Rattle.registers.proofs.LogicLaws.{new_x-bit, new_y-bit}
use Rattle.registers.proofs.RowLaws.{length-bytes, registers-bytes}
use Rattle.judge.specs.declared.Instruction.{Instruction}
use Rattle.judge.specs.Answers.{Answer}
use Rattle.judge.specs.Instructions.{instruction_at}
use Rattle.judge.specs.Modes.{modes_by, mode_of}
use Rattle.judge.proofs.Accepted.{run-accepted, run-registers}
use Rattle.module.specs.Act.{State, source_item, passed_by, regs_after, mem_after, acted}
use Rattle.module.specs.Run.{Lent, Left, run_lengths, begun, ran_by, ran}
use Rattle.module.proofs.RunLaws.{ended, judged-done, ran-ended}

pub record Good (s : State) : Type 0 where
  pub mem_ok : Bytes s.mem 8192
  pub m-ok : Bytes s.regs.m 32
  pub x-ok : Bytes s.regs.x 32
  pub y-ok : Bytes s.regs.y 32

pub begun-good : (lent : Lent (List ℕ)) → Bytes lent.memory 8192 → Bytes lent.registers 100 → Good (begun lent (registers_of lent.registers))
begun-good lent a b =
    let part = part_bytes lent.registers 100 in
    record { mem_ok = a; m-ok = part 0 32 (omega arith) b; x-ok = part 32 32 (omega arith) b; y-ok = part 64 32 (omega arith) b }

-- ---- as bytes

-- the four bytes of the mode registers are bytes where those of 100 bytes are
modes-four : (l : List ℕ) → Bytes l 100 → Bytes (mode_bytes (modes_of l)) 4
modes-four l a = bytes-of (mode_bytes (modes_of l)) 4 refl go
  where
    go : (i : ℕ) → i < 4 → get_or (mode_bytes (modes_of l)) i 0 < 256
    go zero h = a.low 96
    go (suc zero) h = a.low 97
    go (suc (suc zero)) h = a.low 98
    go (suc (suc (suc zero))) h = a.low 99
    go (suc (suc (suc (suc i)))) h = absurd (omega arith)

-- so the registers of a good state that has the mode registers of a register set are one as bytes
pub registers-ok : (s : State) (l : List ℕ) → Good s → Bytes l 100 → s.regs.modes ≡ modes_of l → Bytes (bytes_of s.regs) 100
registers-ok s l g a e =
    let last = mode_bytes s.regs.modes in
    append-bytes s.regs.m (s.regs.x ++ (s.regs.y ++ last)) 32 68 g.m-ok
    (append-bytes s.regs.x (s.regs.y ++ last) 32 36 g.x-ok
    (append-bytes s.regs.y last 32 4 g.y-ok (subst (λ (m : Modes). Bytes (mode_bytes m) 4) (sym e) (modes-four l a))))

-- ---- an instruction: what every item of packed bits has, and the three rows, they have after it too

module _ (P : List ℕ → Type 0) (packed : (f : ℕ → ℕ) → ((k : ℕ) → Bit (f k)) → P (item f)) where
  abbrev Rows : Registers → Type 0
  Rows r = P r.m × P r.x × P r.y

  passed-row : (i : Instruction) (mem items : List ℕ) (r : Registers) (k : ℕ) → P (passed_by i mem items r k)
  unfolding passed_by passed_item
  passed-row i mem items r k =
      packed (passed (source_item i mem items r k) i.flip (p_of (shift_of i.code)) (m_of (shift_of i.code)))
      (λ j. passed-bit (source_item i mem items r k) i.flip (p_of (shift_of i.code)) (m_of (shift_of i.code)) j)

  rows-after : (i : Instruction) (r : Registers) (f : List ℕ) → P f → Rows r → Rows (regs_after i r f)
  unfolding regs_after logic_of
  rows-after i r f b g = go (eqb i.kind 0) (eqb i.kind 1) (eqb i.kind 6)
    where
      go : (zeroth first sixth : Bool)
          → Rows (cond zeroth (logic_of r f i.logic) (cond first (with_m r f) (cond sixth (with_modes r (modes_by i r.modes)) r)))
      go true first sixth = (
        g.0,
        packed _ (λ k. new_x-bit i.logic (bit_of r.x k) (bit_of r.y k) (bit_of f k) (bit_of-bit r.x k)),
        packed _ (λ k. new_y-bit i.logic (bit_of r.y k) (bit_of f k) (bit_of-bit r.y k)),
      )
      go false true sixth = (b, g.1, g.2)
      go false false true = g
      go false false false = g

  acted-rows : (i : Instruction) (items : List ℕ) (s : State) → Rows s.regs → Rows (acted i items s).regs
  unfolding acted
  acted-rows i items s = rows-after i s.regs (passed_by i s.mem items s.regs s.taken) (passed-row i s.mem items s.regs s.taken)

  ran-rows : (list items : List ℕ) (s : State) (k : ℕ) → Rows s.regs → Rows (ran_by list items s k).regs
  unfolding ran_by
  ran-rows list items s zero g = g
  ran-rows list items s (suc k) g = acted-rows (instruction_at list k) items (ran_by list items s k) (ran-rows list items s k g)

-- the memory stays one of 8,192 bytes
memory-after : (i : Instruction) (mode : ℕ) (mem m f : List ℕ) → Bytes mem 8192 → Bytes (mem_after i mode mem m f) 8192
unfolding mem_after stored
memory-after i mode mem m f a = go (eqb i.kind 2) (eqb i.kind 3)
  where
    kept : (mask : ℕ → ℕ) → Bytes (stored mem mode i.addr mask (bit_of f)) 8192
    kept mask = pack-bytes _ (λ k. stored-bit mem mode i.addr mask (bit_of f) (bit_of-bit f) (k / 256) (k % 256)) 8192

    go : (two three : Bool) → Bytes (cond two (stored mem mode i.addr every (bit_of f)) (cond three (stored mem mode i.addr (bit_of m) (bit_of f)) mem)) 8192
    go true three = kept every
    go false true = kept (bit_of m)
    go false false = a

acted-memory : (i : Instruction) (items : List ℕ) (s : State) → Bytes s.mem 8192 → Bytes (acted i items s).mem 8192
unfolding acted
acted-memory i items s = memory-after i (mode_of s.regs.modes i) s.mem s.regs.m (passed_by i s.mem items s.regs s.taken)

ran-memory : (list items : List ℕ) (s : State) (k : ℕ) → Bytes s.mem 8192 → Bytes (ran_by list items s k).mem 8192
unfolding ran_by
ran-memory list items s zero a = a
ran-memory list items s (suc k) a = acted-memory (instruction_at list k) items (ran_by list items s k) (ran-memory list items s k a)

pub acted-good : (i : Instruction) (items : List ℕ) (s : State) → Good s → Good (acted i items s)
acted-good i items s g =
    let r = acted-rows (λ l. Bytes l 32) (λ f bits. pack-bytes f bits 32) i items s (g.m-ok, g.x-ok, g.y-ok) in
    record { mem_ok = acted-memory i items s g.mem_ok; m-ok = r.0; x-ok = r.1; y-ok = r.2 }

-- ---- what a run that is done leaves, of a memory of bytes: a memory of 8,192 bytes and 100 of registers, for it was lent such

module _ (l : Lent (List ℕ)) (z : (ran l).answer.number ≡ 0) where
  pub memory-left : ((k : ℕ) → get_or l.memory k 0 < 256) → Bytes (ran l).memory 8192
  memory-left low =
      let size = (run-accepted (run_lengths l) (modes_of l.registers) l.list (judged-done l z)).memory in
      subst (λ (x : Left (List ℕ) Answer). Bytes x.memory 8192) (ran-ended l z)
      (ran-memory l.list l.items (begun l (registers_of l.registers)) (length l.list / 8) (record { size = size; low = low }))

  -- the three rows at its end
  rows_left : Rows (λ x. length x ≡ 32) (λ f bits. length-listed (byte_of f) 32) (ended l z).regs
  rows_left =
      let regs = l.registers in
      let size : length regs ≡ 100 = run-registers (run_lengths l) (modes_of regs) l.list (judged-done l z) in
      ran-rows (λ x. length x ≡ 32) (λ f bits. length-listed (byte_of f) 32) l.list l.items (begun l (registers_of regs)) (length l.list / 8)
      (length-take-le 32 regs (omega arith), length-take-le 32 (drop 32 regs) (omega (arith, length-drop 32 regs)), length-take-le 32 (drop 64 regs) (omega (arith, length-drop 64 regs)))

  pub registers-left : length (ran l).registers ≡ 100
  registers-left =
      sym (ap (λ (x : Left (List ℕ) Answer). length x.registers) (ran-ended l z))
      ∙ length-bytes (ended l z).regs rows_left.0 rows_left.1 rows_left.2

  -- as a record, they are those that it ended with
  pub registers-ended : registers_of (ran l).registers ≡ (ended l z).regs
  registers-ended =
      sym (ap (λ (x : Left (List ℕ) Answer). registers_of x.registers) (ran-ended l z))
      ∙ registers-bytes (ended l z).regs rows_left.0 rows_left.1 rows_left.2
