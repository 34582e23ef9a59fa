-- The starred examples of document 01 as one table, in the document's order: its sentences, and of what each is; sums and differences are those of a run of the list that a builder wrote. Then the office's examples of document 02, Three, Four and Six, and four of Seven. All are proved in proofs/Examples.antt, and assume nothing.
use Rattle.std.specs.Prelude.{◌≡◌, List, [], ◌∷◌, ◌++◌, ◌⊎◌, ℕ, ◌-◌, ◌*◌, ◌%◌, ◌<◌, ◌≤◌, length, take, drop, replicate}
use Rattle.bits.specs.Bits.{bit_of, item}
use Rattle.memory.specs.Access.{chip_of}
use Rattle.memory.specs.Table.{table, line_bit, line_word}
use Rattle.memory.specs.Memory.{cell}
use Rattle.network.specs.Pass.{moved, passed}
use Rattle.network.specs.Answer.{answer}
use Rattle.registers.specs.declared.Modes.{Modes}
use Rattle.registers.specs.Modes.{none_set}
use Rattle.registers.specs.Rows.{registers_of}
use Rattle.registers.specs.Resolver.{resolved}
use Rattle.judge.specs.declared.Instruction.{Instruction}
use Rattle.judge.specs.Modes.{mode_of}
use Rattle.judge.specs.Judge.{fault_of, refusal, judged_alone}
use Rattle.builders.specs.Sums.{sum_built, difference_built}
use Rattle.module.specs.Act.{State, acted}
use Rattle.module.specs.Run.{Lent}
use Rattle.fields.specs.Value.{value, list_of, sum_run, difference_run}
use Rattle.fields.specs.Isolation.{store_by_a, set_a}
use Rattle.report.specs.Report.{printed}
use Rattle.promises.specs.DemandThree.{Given}

pub record Starred : Type 0 where
  -- "M 7, G 45, P 83: bit 43 of word 85, chip 126."
  pub mode_seven : (line_bit 8 7 45 83 ≡ 43) × (line_word 8 7 45 83 ≡ 85) × (chip_of 45 83 ≡ 126)
  -- "M 0, G 13, P 200: bit 13 of word 200."
  pub mode_zero : (line_bit 8 0 13 200 ≡ 13) × (line_word 8 0 13 200 ≡ 200)
  -- "M 255: bit 200 of word 13."
  pub mode_all : (line_bit 8 255 13 200 ≡ 200) × (line_word 8 255 13 200 ≡ 13)
  -- "1 mod 8 (byte 6 = 48): 3→4, 7→0, 255→248."
  pub forty_eight : (l : List ℕ) (f : ℕ) → answer l f 48 ≡ record { number = 0; item = item (passed l f 3 0) }
  pub one_mod8 : (moved 0 3 0 3 ≡ 4) × (moved 0 3 0 7 ≡ 0) × (moved 0 3 0 255 ≡ 248)
  -- "8 mod 256: 250→2."
  pub eight_mod256 : moved 0 8 3 250 ≡ 2
  -- "Flip 255 with 32 mod 256, then flip 255 with 1 mod 256: 40→9, 10→235."
  pub two_passes : (moved 255 8 0 (moved 255 8 5 40) ≡ 9) × (moved 255 8 0 (moved 255 8 5 10) ≡ 235)
  -- "128 mod 256 moves all lines as flip 128."
  pub half_is_flip : (i : ℕ) → i < 256 → moved 0 8 7 i ≡ moved 128 0 0 i
  -- "Byte 6 = 136 or 1: refused": both with 17, since document 02, Six, splits number 10.
  pub no_shift : (l : List ℕ) (f : ℕ) → (answer l f 136 ≡ record { number = 17; item = replicate 32 0 }) × (answer l f 1 ≡ record { number = 17; item = replicate 32 0 })
  -- "n 8: 200 + 100 leaves 44, Y 1."
  pub adds : (a b s : ℕ) (buffer buffer' : List ℕ) (lent : Lent (List ℕ)) → Given a b s 8 buffer buffer' lent → (w : ℕ) → w < 256
      → value lent.memory w a 8 ≡ 200 → value lent.memory w b 8 ≡ 100
      → (let r = sum_run a b s 8 buffer lent in (value r.memory w s 8 ≡ 44) × (bit_of (registers_of r.registers).y w ≡ 1))
  -- "44 − 100 leaves 200, Y 0."
  pub subtracts : (a b s : ℕ) (buffer buffer' : List ℕ) (lent : Lent (List ℕ)) → Given a b s 8 buffer buffer' lent → (w : ℕ) → w < 256
      → value lent.memory w a 8 ≡ 44 → value lent.memory w b 8 ≡ 100
      → (let r = difference_run a b s 8 buffer' lent in (value r.memory w s 8 ≡ 200) × (bit_of (registers_of r.registers).y w ≡ 0))
  -- "A sum with A 0, B 1, S 2, n 1 has six instructions; the fourth is `02 03 01 00 02 00 00 00`."
  pub six_instructions : (buffer : List ℕ) → 8 * 6 ≤ length buffer → (sum_built 0 1 2 1 buffer).answer ≡ record { number = 0; count = 8 * 6 }
  pub the_fourth : (buffer : List ℕ) → 8 * 6 ≤ length buffer → take 8 (drop (8 * 3) (list_of (sum_built 0 1 2 1 buffer))) ≡ 2 ∷ 3 ∷ 1 ∷ 0 ∷ 2 ∷ 0 ∷ 0 ∷ 0 ∷ []
  -- "S start 4, A start 0, B start 16, n 4 stands; n 5: 32."
  pub stands_apart : (buffer : List ℕ) → (168 ≤ length buffer → (sum_built 0 16 4 4 buffer).answer ≡ record { number = 0; count = 168 })
      × (176 ≤ length buffer → (difference_built 0 16 4 4 buffer).answer ≡ record { number = 0; count = 176 })
  pub overlapping : (buffer : List ℕ) → (sum_built 0 16 4 5 buffer ≡ record { answer = record { number = 32; count = 0 }; list = buffer })
      × (difference_built 0 16 4 5 buffer ≡ record { answer = record { number = 32; count = 0 }; list = buffer })
  -- "Start 192, n 64 stands; 193: 31."
  pub last_field : (buffer : List ℕ) → (2568 ≤ length buffer → (sum_built 192 192 192 64 buffer).answer ≡ record { number = 0; count = 2568 })
      × (2576 ≤ length buffer → (difference_built 192 192 192 64 buffer).answer ≡ record { number = 0; count = 2576 })
  pub past_the_word : (buffer : List ℕ) → (sum_built 193 192 192 64 buffer ≡ record { answer = record { number = 31; count = 0 }; list = buffer })
      × (sum_built 192 193 192 64 buffer ≡ record { answer = record { number = 31; count = 0 }; list = buffer })
      × (difference_built 192 192 193 64 buffer ≡ record { answer = record { number = 31; count = 0 }; list = buffer })

-- Document 02, Three: "Our old list for editing every second station writes the wrong half when it mirrors." What it comes to: a masked store of Y into one bit of every station, with flip 255, where M marks the stations 0, 2, 4 and so on.
pub record Mirrors (i : Instruction) (s : State) : Type 0 where
  pub masked : i.kind ≡ 3
  pub from_y : i.source ≡ 3
  pub slice : mode_of s.regs.modes i ≡ 0
  pub bit : i.addr < 256
  pub mirrored : i.flip ≡ 255
  pub accepted : (fault_of s.regs.modes i).number ≡ 0
  pub every_second : s.regs.m ≡ replicate 32 85

-- Now the half that M marks is written, whatever the memory held: that bit of a marked station becomes the Y bit of the station across, and every other bit of every station stays.
pub record EverySecond : Type 0 where
  pub written : (i : Instruction) (items : List ℕ) (s : State) → Mirrors i s
      → (w : ℕ) → w < 256 → w % 2 ≡ 0 → table (cell (acted i items s).mem) w i.addr ≡ bit_of s.regs.y (255 - w)
  pub stays : (i : Instruction) (items : List ℕ) (s : State) → Mirrors i s
      → (w b : ℕ) → w < 256 → b < 256 → (w % 2 ≡ 0 → b ≡ i.addr → ⊥) → table (cell (acted i items s).mem) w b ≡ table (cell s.mem) w b

-- Document 02, Four: "Operators read "0" as station 0 when nothing answered." The two items, which differ in all three things said, activity, smallest and count; and "document 01's printed item line then starts 0100000001 and goes on in zeros": what the program prints of a full Y, "r 0 0 0 2 0 1", with the byte of Six, and the item's 64 digits.
pub record SaysNone : Type 0 where
  pub nothing : resolved (bit_of (replicate 32 0)) ≡ 0 ∷ 0 ∷ 1 ∷ 0 ∷ 0 ∷ replicate 27 0
  pub station_zero : resolved (bit_of (1 ∷ replicate 31 0)) ≡ 1 ∷ 0 ∷ 0 ∷ 1 ∷ 0 ∷ replicate 27 0
  pub printed_item : printed 114 0 0 0 2 0 1 (resolved (bit_of (replicate 32 255)))
      ≡ (114 ∷ 32 ∷ 48 ∷ 32 ∷ 48 ∷ 32 ∷ 48 ∷ 32 ∷ 50 ∷ 32 ∷ 48 ∷ 32 ∷ 49 ∷ 10 ∷ [])
      ++ (48 ∷ 49 ∷ 48 ∷ 48 ∷ 48 ∷ 48 ∷ 48 ∷ 48 ∷ 48 ∷ 49 ∷ (replicate 54 48 ++ (10 ∷ [])))

-- Document 02, Six: "A list author gets "10 at 57" and has eight bytes to stare at." Instructions that were refused with 10, and one with 9, by what is wrong now: a number, and the first byte that is wrong by it, whatever the mode registers are.
pub record NamesByte : Type 0 where
  -- a store of Y with byte 6 = 144, a group of 512 lines: 18 comes before 16
  pub store_shifts : (m : Modes) → fault_of m (record { kind = 2; source = 3; tag = 1; mode = 0; addr = 9; flip = 0; code = 144; logic = 0 }) ≡ record { number = 18; byte = 6 }
  -- a resolve with a flip and a shift, and with the shift alone
  pub resolve_moves : (m : Modes) → (fault_of m (record { kind = 5; source = 0; tag = 0; mode = 0; addr = 0; flip = 1; code = 136; logic = 0 }) ≡ record { number = 18; byte = 5 })
      × (fault_of m (record { kind = 5; source = 0; tag = 0; mode = 0; addr = 0; flip = 0; code = 136; logic = 0 }) ≡ record { number = 18; byte = 6 })
  -- byte 6 = 159, p 9 and m 15, in a set M from X, and of a pass by itself: 16 comes before 17
  pub group_of512 : (m : Modes) → fault_of m (record { kind = 1; source = 2; tag = 0; mode = 0; addr = 0; flip = 0; code = 159; logic = 0 }) ≡ record { number = 16; byte = 6 }
  pub pass_of512 : (l : List ℕ) (f : ℕ) → answer l f 159 ≡ record { number = 16; item = replicate 32 0 }
  -- document 01's two, 136 and 1
  pub not_below_p : (m : Modes) (c : ℕ) → (c ≡ 136) ⊎ (c ≡ 1)
      → fault_of m (record { kind = 1; source = 2; tag = 0; mode = 0; addr = 0; flip = 0; code = c; logic = 0 }) ≡ record { number = 17; byte = 6 }
  -- a delivery of Y that has mode and address, but no tag: the mode is the first
  pub mode_unused : (m : Modes) → fault_of m (record { kind = 4; source = 3; tag = 0; mode = 255; addr = 13; flip = 0; code = 0; logic = 0 }) ≡ record { number = 9; byte = 3 }
  -- and what the program prints of it as instruction 57: "r 9 57 3 0 0 0"
  pub printed_byte : (out : List ℕ) → printed 114 9 57 3 0 0 0 out ≡ 114 ∷ 32 ∷ 57 ∷ 32 ∷ 53 ∷ 55 ∷ 32 ∷ 51 ∷ 32 ∷ 48 ∷ 32 ∷ 48 ∷ 32 ∷ 48 ∷ 10 ∷ []

-- Document 02, Seven: "a register counts as set if its flag is 1 at the start or an earlier kind 6 set it", and else it is "14, register unset (byte 2), after 9". A store of Y under the mode of register A, tag 2, where both registers are unset at the start; and lists of it and of a kind 6 that sets A to 255.
pub record AsksMode : Type 0 where
  -- nobody set A
  pub nobody_set : fault_of none_set (record { kind = 2; source = 3; tag = 2; mode = 0; addr = 13; flip = 0; code = 0; logic = 0 }) ≡ record { number = 14; byte = 2 }
  -- with a mode in byte 3 beside the tag: 9 comes before 14
  pub two_modes : fault_of none_set (record { kind = 2; source = 3; tag = 2; mode = 255; addr = 13; flip = 0; code = 0; logic = 0 }) ≡ record { number = 9; byte = 3 }
  -- a list that sets A first is not refused
  pub set_first : judged_alone none_set (set_a 255 ++ store_by_a) ≡ refusal 0 0 0
  -- the same two the other way round: 14 at place 0, since a kind 6 behind the store does not count
  pub set_later : judged_alone none_set (store_by_a ++ set_a 255) ≡ refusal 14 0 2
