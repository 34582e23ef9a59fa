-- The number that a run gives back, with its place, its byte and its counts. Document 01, Numbers given back; document 02, Six and Seven.
use Rattle.std.specs.Prelude.{Bool, true, false, cond, not, ◌&&◌, ◌||◌, List, [], ◌∷◌, ◌++◌, ℕ, ◌+◌, ◌*◌, ◌/◌, ◌%◌, eqb, ltb, length}
use Rattle.bits.specs.Rows.{Row, row, number_of}
use Rattle.bits.specs.Search.{first, count}
use Rattle.network.specs.Unlisted.{code_rows}
use Rattle.registers.specs.declared.Modes.{Modes}
use Rattle.registers.specs.Modes.{wrong_modes}
use Rattle.judge.specs.declared.Instruction.{Instruction}
use Rattle.judge.specs.declared.Lengths.{Lengths}
use Rattle.judge.specs.Answers.{Fault}
use Rattle.judge.specs.Answers.{Answer}
use Rattle.judge.specs.ByteRows.{ByteRow, byte_row, byte, fault_in, about_byte}
use Rattle.judge.specs.Kinds.{memory_bytes, register_bytes, most_bytes, logic, resolve, set_mode, in_memory, outside, tag_given, tag_a, tag_b}
use Rattle.judge.specs.Instructions.{instruction_at, stores, touches, takes, gives}
use Rattle.judge.specs.Modes.{modes_after, unset}

-- ---- the table's rows

-- "1 / 2: memory is not 8,192 bytes / registers" not 100.
abbrev pub wrong_memory : ℕ → Bool
wrong_memory n = not (eqb n memory_bytes)

abbrev pub wrong_registers : ℕ → Bool
wrong_registers n = not (eqb n register_bytes)

-- "3: list not a multiple of 8, or over 32,768 bytes. 4: items not a multiple of 32, or over 32,768 bytes."
abbrev pub unfit : ℕ → ℕ → Bool
unfit unit n = not (eqb (n % unit) 0) || ltb most_bytes n

-- "5 for kind over 6."
unfoldable pub wrong_kind : Instruction → Bool
wrong_kind i = ltb set_mode i.kind

-- "6: source over 4; 0 for kinds 2, 3; not 0 for kind 5"; kind 6 too gives it "for source not 0".
unfoldable pub wrong_source : Instruction → Bool
wrong_source i =
    ltb outside i.source || (stores i && eqb i.source in_memory)
    || ((eqb i.kind resolve || eqb i.kind set_mode) && not (eqb i.source 0))

-- It needs a tag: memory is touched, or it is of kind 6, whose tag is that of the register it sets.
abbrev pub tagged : Instruction → Bool
tagged i = touches i || eqb i.kind set_mode

-- "7: memory touched and tag 0"; kind 6 too gives "7 for tag 0".
unfoldable pub lacks_tag : Instruction → Bool
lacks_tag i = tagged i && eqb i.tag 0

-- "8 for tag over 3"; kind 6 gives "8 for tag 1".
unfoldable pub wrong_tag : Instruction → Bool
wrong_tag i = (tagged i && ltb tag_b i.tag) || (eqb i.kind set_mode && eqb i.tag tag_given)

-- "9: memory not touched and byte 2, 3 or 4 not 0", where kind 6 gives "9 for byte 4 alone"; "9 also for byte 3 with tags 2 and 3 outside kind 6". Of each of the three bytes.
unfoldable pub idle_tag : Instruction → Bool
idle_tag i = not (tagged i) && not (eqb i.tag 0)

unfoldable pub idle_mode : Instruction → Bool
idle_mode i = (not (tagged i) || (touches i && (eqb i.tag tag_a || eqb i.tag tag_b))) && not (eqb i.mode 0)

unfoldable pub idle_address : Instruction → Bool
idle_address i = not (touches i) && not (eqb i.addr 0)

-- "14, register unset": memory touched under the mode of a register that nobody set.
unfoldable pub unset_mode : Modes → Instruction → Bool
unset_mode m i = touches i && unset m i

-- "18: a move this kind may not make (stores and resolve)" and "18 for byte 5 or 6 of kind 6": a flip of a resolve or of kind 6; a shift of a store or of either.
unfoldable pub barred_flip : Instruction → Bool
barred_flip i = (eqb i.kind resolve || eqb i.kind set_mode) && not (eqb i.flip 0)

unfoldable pub barred_shift : Instruction → Bool
barred_shift i = (stores i || eqb i.kind resolve || eqb i.kind set_mode) && not (eqb i.code 0)

-- "11: kind 0: choice over 4; other kinds: byte 7 not 0."
unfoldable pub wrong_logic : Instruction → Bool
wrong_logic i = (eqb i.kind logic && ltb 4 (i.logic / 16)) || (not (eqb i.kind logic) && not (eqb i.logic 0))

-- "12 / 13: items too few / out buffer too short": instruction k uses an item, or room, and fewer than 32 of the bytes that there are were left by those before it, which used 32 each.
abbrev pub lacks : (Instruction → Bool) → List ℕ → ℕ → ℕ → Bool
lacks wants list have k = wants (instruction_at list k) && ltb have (32 * count (λ j. wants (instruction_at list j)) k + 32)

-- What an instruction uses: room in the out buffer (true), or an item (false).
abbrev pub uses : Bool → Instruction → Bool
uses true = gives
uses false = takes

-- ---- the tables, in their order

-- "1 to 4": what a run is lent; "after 4, 15", of the mode registers at the start.
abbrev pub run_rows : Lengths → Modes → List ℕ → List Row
run_rows l m list =
    row 1 (wrong_memory l.memory)
    ∷ row 2 (wrong_registers l.registers)
    ∷ row 3 (unfit 8 (length list))
    ∷ row 4 (unfit 32 l.items)
    ∷ row 15 (wrong_modes m)
    ∷ []

-- What a step is lent. Document 01, Memory: "Its instruction is exactly 8 bytes, else 3"; its registers are a record, so there is no 2.
abbrev pub step_rows : Lengths → Modes → List ℕ → List Row
step_rows l m instruction =
    row 1 (wrong_memory l.memory)
    ∷ row 3 (not (eqb (length instruction) 8))
    ∷ row 4 (unfit 32 l.items)
    ∷ row 15 (wrong_modes m)
    ∷ []

-- "Then each instruction in turn", in three parts. Each condition stands with its byte. First what it accesses, 5 to 9 and then 14, by the mode registers before it;
abbrev pub access_rows : Modes → Instruction → List ByteRow
access_rows m i =
    byte_row 5 (byte 0 (wrong_kind i) ∷ [])
    ∷ byte_row 6 (byte 1 (wrong_source i) ∷ [])
    ∷ byte_row 7 (byte 2 (lacks_tag i) ∷ [])
    ∷ byte_row 8 (byte 2 (wrong_tag i) ∷ [])
    ∷ byte_row 9 (byte 2 (idle_tag i) ∷ byte 3 (idle_mode i) ∷ byte 4 (idle_address i) ∷ [])
    ∷ byte_row 14 (byte 2 (unset_mode m i) ∷ [])
    ∷ []

-- then its move, 18 and, of byte 6 by itself, 16 and 17, "in 10's place, in this order";
abbrev pub move_rows : Instruction → List ByteRow
move_rows i = byte_row 18 (byte 5 (barred_flip i) ∷ byte 6 (barred_shift i) ∷ []) ∷ about_byte 6 (code_rows i.code)

-- then 11.
abbrev pub logic_rows : Instruction → List ByteRow
logic_rows i = byte_row 11 (byte 7 (wrong_logic i) ∷ []) ∷ []

abbrev pub instruction_rows : Modes → Instruction → List ByteRow
instruction_rows m i = access_rows m i ++ (move_rows i ++ logic_rows i)

-- The number and the byte of an instruction, by the mode registers before it: 0 and 0 where no row holds.
unfoldable pub fault_of : Modes → Instruction → Fault
fault_of m i = fault_in (instruction_rows m i)

-- The table of instruction k of a list that starts with these mode registers, and what it gives.
abbrev pub rows_at : Modes → List ℕ → ℕ → List ByteRow
rows_at m list k = instruction_rows (modes_after list m k) (instruction_at list k)

abbrev pub fault_at : Modes → List ℕ → ℕ → Fault
fault_at m list k = fault_of (modes_after list m k) (instruction_at list k)

-- Instruction k has a number.
abbrev pub faulty : Modes → List ℕ → ℕ → Bool
faulty m list k = not (eqb (fault_at m list k).number 0)

-- ---- the three judgements: each is an answer, with number 0 where it refuses nothing

-- Number, place and byte. "A refusal has the last three 0."
abbrev pub refusal : ℕ → ℕ → ℕ → Answer
refusal n p b = record { number = n; place = p; byte = b; steps = 0; taken = 0; given = 0 }

-- Of what is lent: "1 to 4 (place 0)", and 15. The byte is 0 "for refusals without an instruction".
abbrev pub judged_lent : List Row → Answer
judged_lent rows = refusal (number_of rows) 0 0

-- Of the list by itself, from the mode registers at the start: "each instruction in turn". "Place is the instruction's number". (Numbers from 0: docs/DECISIONS.md.)
unfoldable pub judged_alone : Modes → List ℕ → Answer
judged_alone m list =
    let n = length list / 8 in
    let bad = first (faulty m list) 0 n in
    let fault = fault_at m list bad in
    cond (ltb bad n) (refusal fault.number bad fault.byte) (refusal 0 0 0)

-- "Done is 0, place 0", byte 0; "steps is the count of instructions, taken of source 4, given of kinds 4 and 5."
abbrev pub done : List ℕ → Answer
done list =
    record {
      number = 0;
      place = 0;
      byte = 0;
      steps = length list / 8;
      taken = count (λ k. takes (instruction_at list k)) (length list / 8);
      given = count (λ k. gives (instruction_at list k)) (length list / 8);
    }

-- Of what it needs: "then 12; then 13". Place is, "for 12 and 13 the first that lacks its item or room"; the byte is 0.
unfoldable pub judged_needs : Lengths → List ℕ → Answer
judged_needs l list =
    let n = length list / 8 in
    let item = first (lacks takes list l.items) 0 n in
    let room = first (lacks gives list l.out) 0 n in
    cond (ltb item n) (refusal 12 item 0) (cond (ltb room n) (refusal 13 room 0) (done list))

-- ---- the order

-- What one judgement says, or else the next: the first that refuses gives the answer.
abbrev pub or_else : Answer → Answer → Answer
or_else a b = cond (eqb a.number 0) b a

abbrev pub judged_list : Lengths → Modes → List ℕ → Answer
judged_list l m list = or_else (judged_alone m list) (judged_needs l list)

-- What is given back for a list, where `rows` judge what is lent.
unfoldable pub judged_by : List Row → Lengths → Modes → List ℕ → Answer
judged_by rows l m list = or_else (judged_lent rows) (judged_list l m list)

-- What a run gives back.
abbrev pub judged : Lengths → Modes → List ℕ → Answer
judged l m list = judged_by (run_rows l m list) l m list

-- What a step gives back. Document 01, Memory: it "answers, refuses and leaves its buffers as a run of a list of that one instruction does".
abbrev pub judged_step : Lengths → Modes → List ℕ → Answer
judged_step l m instruction = judged_by (step_rows l m instruction) l m instruction
