-- Demand 2, on a page: "Storage, access, flips, shifts, register logic and resolver follow Batcher's published rules as document 01 states them. What is stored under one mode reads, under each of the 256 modes, as from an unscrambled table. Pictures, lists and items come back from disk as they were written." Document 02, Three and Four, put their rules of the masked store and of the resolved item in place of document 01's; by Seven the mode comes "from the tag".
-- The names are those of specs/. `Memory`, `Network` and `Logic` say what the parts do; `ByTag` under which mode an instruction accesses memory, and which instruction sets a mode register; `Acts` that an instruction does this and nothing else, by its source and its kind; `MasksByLine` whose M bit a masked store asks; `Runs` that a run is all of its instructions, one after the other, and so that `run`, which promises `ran`, does it; `Returns` is the disk. It is proved in proofs/DemandTwo.antt, and assumes nothing.
use Rattle.std.specs.Prelude.{◌≡◌, true, cond, List, ◌∷◌, ◌⊎◌, ◌≢◌, ℕ, suc, ◌+◌, ◌*◌, ◌/◌, ◌%◌, ◌^◌, ◌<◌, ◌≤◌, eqb, length, take, replicate}
use Rattle.bits.specs.Bits.{bit_of, item, flipped}
use Rattle.bits.specs.Search.{Numbered}
use Rattle.memory.specs.Access.{word_at, read_bit}
use Rattle.memory.specs.Table.{table, line_bit, line_word, Updated}
use Rattle.memory.specs.Memory.{cell, stored, every}
use Rattle.network.specs.Shifts.{permitted}
use Rattle.network.specs.Pass.{moved}
use Rattle.network.specs.Wired.{wired, wired_item}
use Rattle.network.specs.Answer.{passed_item}
use Rattle.registers.specs.declared.Modes.{Modes}
use Rattle.registers.specs.declared.Registers.{Registers}
use Rattle.registers.specs.Modes.{modes_of}
use Rattle.registers.specs.Rows.{registers_of, bytes_of, with_m, with_modes}
use Rattle.registers.specs.Logic.{function_bit, new_x, new_y, logic_of}
use Rattle.registers.specs.Resolver.{responder_count, resolved}
use Rattle.judge.specs.declared.Instruction.{Instruction}
use Rattle.judge.specs.Instructions.{instruction_at, takes, gives}
use Rattle.judge.specs.Modes.{modes_by, mode_of}
use Rattle.judge.specs.Judge.{done, fault_of, judged}
use Rattle.module.specs.Act.{State, part_at, put_part, source_item, passed_by, acted}
use Rattle.module.specs.Run.{Lent, unmoved, run_lengths, begun, ran_by, ran}
use Rattle.blocks.specs.Sums.{at}
use Rattle.contents.specs.File.{done as put}
use Rattle.contents.specs.Content.{over, content_read, content_written}
use Rattle.pictures.specs.Picture.{picture_words, picture_read, picture_written}

-- ---- storage, access, and the unscrambled table

pub record Memory : Type 0 where
  -- "Location B of chip C holds bit B of word B xor C."
  pub storage : (mem : List ℕ) (c b : ℕ) → table (cell mem) (word_at b c) b ≡ cell mem c b
  -- under mode M and address G, "line P meets bit ((not M) and G) xor (M and P) of word (M and G) xor ((not M) and P)", and no two lines meet one bit
  pub access : (mem : List ℕ) (m g : ℕ) → m < 256 → g < 256
      → item (read_bit (cell mem) m g) ≡ item (λ p. table (cell mem) (line_word 8 m g p) (line_bit 8 m g p))
  pub distinct : (m g p q : ℕ) → m < 256 → g < 256 → p < 256 → q < 256
      → line_word 8 m g p ≡ line_word 8 m g q → line_bit 8 m g p ≡ line_bit 8 m g q → p ≡ q
  -- a store of the item l updates the table where the lines point whose mask bit is 1, and nowhere else
  pub stores : (mem l : List ℕ) (m g : ℕ) (mask : ℕ → ℕ) → m < 256 → g < 256
      → Updated 8 m g mask (bit_of l) (table (cell mem)) (table (cell (stored mem m g mask (bit_of l))))
  -- "What is stored under one mode reads, under each of the 256 modes, as from an unscrambled table": whatever table is the updated one
  pub every_mode : (mem l : List ℕ) (m g : ℕ) (mask : ℕ → ℕ) → m < 256 → g < 256
      → (t : ℕ → ℕ → ℕ) → Updated 8 m g mask (bit_of l) (table (cell mem)) t → (m' g' : ℕ) → m' < 256 → g' < 256
      → item (read_bit (cell (stored mem m g mask (bit_of l))) m' g') ≡ item (λ p. t (line_word 8 m' g' p) (line_bit 8 m' g' p))

-- ---- flips and shifts

pub record Network : Type 0 where
  -- the shifts of 2^m modulo 2^p are those with 0 ≤ m < p ≤ 8, and none
  pub none : permitted 0 ≡ true
  pub shifts : (p m : ℕ) → m < p → p ≤ 8 → permitted (16 * p + m) ≡ true
  pub no_others : (c : ℕ) → permitted c ≡ true → (c ≡ 0) ⊎ ((c % 16 < c / 16) × (c / 16 ≤ 8))
  -- a pass takes the bit of line I to the line where flip and shift move I; no two lines meet, and each line is reached
  pub moves : (l : List ℕ) (f c i : ℕ) → f < 256 → permitted c ≡ true → i < 256
      → bit_of (passed_item l f c) (moved f (c / 16) (c % 16) i) ≡ bit_of l i
  pub apart : (f c i j : ℕ) → permitted c ≡ true → moved f (c / 16) (c % 16) i ≡ moved f (c / 16) (c % 16) j → i ≡ j
  pub reaches : (f c k : ℕ) → f < 256 → permitted c ≡ true → k < 256 → (i : ℕ) × (i < 256) × (moved f (c / 16) (c % 16) i ≡ k)
  -- "The wired form must also be there and agree": line by line over the number of levels, so for 3 and 8, and for an item
  pub wired_line : (n f p m i : ℕ) → p ≤ n → f < 2 ^ n → i < 2 ^ n → wired n f p m i ≡ moved f p m i
  pub wired_pass : (l : List ℕ) (f c : ℕ) → f < 256 → permitted c ≡ true → wired_item 8 f (c / 16) (c % 16) l ≡ passed_item l f c

-- ---- logic and the resolver

-- The function n, by choice: "function bit 2r+f is the new register bit for old bit r and passed bit f".
pub record Choices (n x y f : ℕ) : Type 0 where
  -- "Choice 0: X"
  pub zeroth : (new_x (16 * 0 + n) x y f ≡ function_bit n x f) × (new_y (16 * 0 + n) y f ≡ y)
  -- "1: Y"
  pub first : (new_x (16 * 1 + n) x y f ≡ x) × (new_y (16 * 1 + n) y f ≡ function_bit n y f)
  -- "2: both"
  pub second : (new_x (16 * 2 + n) x y f ≡ function_bit n x f) × (new_y (16 * 2 + n) y f ≡ function_bit n y f)
  -- "3: X where Y is 1"
  pub third : (new_x (16 * 3 + n) x y f ≡ cond (eqb y 1) (function_bit n x f) x) × (new_y (16 * 3 + n) y f ≡ y)
  -- "4: X where the old Y is 1, and Y everywhere"
  pub fourth : (new_x (16 * 4 + n) x y f ≡ cond (eqb y 1) (function_bit n x f) x) × (new_y (16 * 4 + n) y f ≡ function_bit n y f)

pub record Logic : Type 0 where
  pub choices : (n x y f : ℕ) → n < 16 → Choices n x y f
  -- each line by itself, and "all read the old state"; M and the mode registers stay
  pub line_x : (r : Registers) (l : List ℕ) (t k : ℕ) → k < 256 → bit_of (logic_of r l t).x k ≡ new_x t (bit_of r.x k) (bit_of r.y k) (bit_of l k)
  pub line_y : (r : Registers) (l : List ℕ) (t k : ℕ) → k < 256 → bit_of (logic_of r l t).y k ≡ new_y t (bit_of r.y k) (bit_of l k)
  pub keeps_m : (r : Registers) (l : List ℕ) (t : ℕ) → (logic_of r l t).m ≡ r.m
  pub keeps_modes : (r : Registers) (l : List ℕ) (t : ℕ) → (logic_of r l t).modes ≡ r.modes
  -- document 02, Four: "byte 0 activity; bytes 1 and 2 the smallest responder, low byte first, 256 if there is none; bytes 3 and 4 the count of responders, 0 to 256; zeros after". The item where line k is the smallest responder, and the item where there is none; the count has its low byte first as well
  pub resolves : (y : ℕ → ℕ) (k : ℕ) → k < 256 → y k ≡ 1 → ((j : ℕ) → j < k → y j ≢ 1)
      → resolved y ≡ 1 ∷ k ∷ 0 ∷ responder_count y % 256 ∷ responder_count y / 256 ∷ replicate 27 0
  pub resolves_none : (y : ℕ → ℕ) → ((k : ℕ) → k < 256 → y k ≢ 1) → resolved y ≡ 0 ∷ 0 ∷ 1 ∷ 0 ∷ 0 ∷ replicate 27 0
  -- the count is the number of lines whose Y bit is 1, and no other number is; it is at most 256
  pub counts : (y : ℕ → ℕ) → Numbered (λ k. y k ≡ 1) 256 (responder_count y)
  pub counts_once : (y : ℕ → ℕ) (c : ℕ) → Numbered (λ k. y k ≡ 1) 256 c → responder_count y ≡ c
  pub counts_most : (y : ℕ → ℕ) → responder_count y ≤ 256

-- ---- the mode registers

-- Document 02, Seven, of instruction i where the mode registers are m.
pub record ByTag (m : Modes) (i : Instruction) : Type 0 where
  -- "Tags 2 and 3 take the mode from A or B"; with another tag it is byte 3
  pub from_a : i.tag ≡ 2 → mode_of m i ≡ m.a.mode
  pub from_b : i.tag ≡ 3 → mode_of m i ≡ m.b.mode
  pub given : i.tag ≢ 2 → i.tag ≢ 3 → mode_of m i ≡ i.mode
  -- "A new kind 6 with tag 2 or 3 sets that register from byte 3", and the other stays; no other kind changes either
  pub sets_a : i.kind ≡ 6 → i.tag ≡ 2 → modes_by i m ≡ record { a = record { set = 1; mode = i.mode }; b = m.b }
  pub sets_b : i.kind ≡ 6 → i.tag ≡ 3 → modes_by i m ≡ record { a = m.a; b = record { set = 1; mode = i.mode } }
  pub keeps : i.kind ≢ 6 → modes_by i m ≡ m

-- ---- an instruction

-- "The source item, unscrambled if from memory, makes one pass": what instruction i has of the memory, the items, the registers and the count of items taken.
pub record Sources (i : Instruction) (mem items : List ℕ) (r : Registers) (taken : ℕ) : Type 0 where
  pub from_memory : i.source ≡ 0 → passed_by i mem items r taken ≡ passed_item (item (read_bit (cell mem) (mode_of r.modes i) i.addr)) i.flip i.code
  pub from_m : i.source ≡ 1 → passed_by i mem items r taken ≡ passed_item r.m i.flip i.code
  pub from_x : i.source ≡ 2 → passed_by i mem items r taken ≡ passed_item r.x i.flip i.code
  pub from_y : i.source ≡ 3 → passed_by i mem items r taken ≡ passed_item r.y i.flip i.code
  pub from_outside : i.source ≡ 4 → passed_by i mem items r taken ≡ passed_item (part_at items taken) i.flip i.code

-- The state s with this memory, out buffer and register record, and with what i takes and gives counted.
abbrev pub left : Instruction → State → List ℕ → List ℕ → Registers → State
left i s mem out regs = record { mem = mem; out = out; regs = regs; taken = s.taken + cond (takes i) 1 0; given = s.given + cond (gives i) 1 0 }

-- What instruction i, whose passed item is f, leaves of the state s, by its kind.
pub record Acts (i : Instruction) (items f : List ℕ) (s : State) : Type 0 where
  pub logic : i.kind ≡ 0 → acted i items s ≡ left i s s.mem s.out (logic_of s.regs f i.logic)
  pub set_m : i.kind ≡ 1 → acted i items s ≡ left i s s.mem s.out (with_m s.regs f)
  pub store : i.kind ≡ 2 → acted i items s ≡ left i s (stored s.mem (mode_of s.regs.modes i) i.addr every (bit_of f)) s.out s.regs
  pub masked_store : i.kind ≡ 3 → acted i items s ≡ left i s (stored s.mem (mode_of s.regs.modes i) i.addr (bit_of s.regs.m) (bit_of f)) s.out s.regs
  pub deliver : i.kind ≡ 4 → acted i items s ≡ left i s s.mem (put_part s.out s.given f) s.regs
  pub resolve : i.kind ≡ 5 → acted i items s ≡ left i s s.mem (put_part s.out s.given (resolved (bit_of s.regs.y))) s.regs
  pub set_mode : i.kind ≡ 6 → acted i items s ≡ left i s s.mem s.out (with_modes s.regs (modes_by i s.regs.modes))

-- Document 02, Three: "a masked store writes line P's bit exactly if M's bit P is 1." P is the line that points at the memory's bit, after the flip F, and only the source item goes through the network: where M's bit P is 1, the bit that line P meets becomes the source item's bit P xor F; every other bit of the table stays. Of any masked store that no row refuses; mode and address are bytes.
abbrev pub MasksByLine : Instruction → List ℕ → State → Type 0
MasksByLine i items s =
    i.kind ≡ 3 → (fault_of s.regs.modes i).number ≡ 0 → mode_of s.regs.modes i < 256 → i.addr < 256
    → Updated 8 (mode_of s.regs.modes i) i.addr
    (bit_of s.regs.m)
    (flipped (source_item i s.mem items s.regs s.taken) i.flip)
    (table (cell s.mem))
    (table (cell (acted i items s).mem))

-- ---- a run

-- Judged whole; then refused, and every buffer as it was, or each instruction of the list in turn.
pub record Runs (l : Lent (List ℕ)) : Type 0 where
  pub refused : (judged (run_lengths l) (modes_of l.registers) l.list).number ≢ 0 → ran l ≡ unmoved l (judged (run_lengths l) (modes_of l.registers) l.list)
  pub accepted : (judged (run_lengths l) (modes_of l.registers) l.list).number ≡ 0
      → (let s = ran_by l.list l.items (begun l (registers_of l.registers)) (length l.list / 8) in
      ran l ≡ record { memory = s.mem; registers = bytes_of s.regs; out = s.out; answer = done l.list })
  pub before : (s : State) → ran_by l.list l.items s 0 ≡ s
  pub one_more : (s : State) (n : ℕ)
      → ran_by l.list l.items s (suc n) ≡ acted (instruction_at l.list n) l.items (ran_by l.list l.items s n)

-- ---- the disk

-- "Pictures, lists and items come back from disk as they were written", and a file that is read and written again is the same bytes.
pub record Returns : Type 0 where
  pub content : (kind : ℕ) (content out target : List ℕ)
      → (content_written kind content out).answer.number ≡ 0 → length content ≤ length target
      → (let w = content_written kind content out in
      content_read kind (take w.answer.bytes w.buffer) target
      ≡ record { answer = put (length content); buffer = over content target })
  pub content_again : (kind : ℕ) (bytes target out : List ℕ) → ((k : ℕ) → at bytes k < 256)
      → (content_read kind bytes target).answer.number ≡ 0 → length bytes ≤ length out
      → (let r = content_read kind bytes target in
      content_written kind (take r.answer.bytes r.buffer) out
      ≡ record { answer = put (length bytes); buffer = over bytes out })
  -- document 02, Eight: "demand 2's round trip, now run to 4"
  pub picture : (kind : ℕ) (memory registers out memory' registers' : List ℕ) → ((k : ℕ) → at memory k < 256)
      → (picture_written kind memory registers out).answer.number ≡ 0
      → length memory' ≡ picture_words → length registers' ≡ length registers
      → (let w = picture_written kind memory registers out in
      picture_read kind (take w.answer.bytes w.buffer) memory' registers'
      ≡ record { answer = put (picture_words + length registers); memory = memory; registers = registers })
  pub picture_again : (kind : ℕ) (bytes memory registers out : List ℕ) → ((k : ℕ) → at bytes k < 256)
      → (picture_read kind bytes memory registers).answer.number ≡ 0 → length bytes ≤ length out
      → (let r = picture_read kind bytes memory registers in
      picture_written kind r.memory r.registers out ≡ record { answer = put (length bytes); buffer = over bytes out })

-- ---- the demand

pub record DemandTwo : Type 0 where
  pub memory : Memory
  pub network : Network
  pub registers : Logic
  pub modes : (m : Modes) (i : Instruction) → ByTag m i
  pub sources : (i : Instruction) (mem items : List ℕ) (r : Registers) (taken : ℕ) → Sources i mem items r taken
  pub acts : (i : Instruction) (items : List ℕ) (s : State) → Acts i items (passed_by i s.mem items s.regs s.taken) s
  pub masks : (i : Instruction) (items : List ℕ) (s : State) → MasksByLine i items s
  pub runs : (l : Lent (List ℕ)) → Runs l
  pub disk : Returns
