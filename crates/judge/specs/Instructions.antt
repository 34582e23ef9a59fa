-- Instructions: the eight bytes of each, whether it stores or touches memory, takes an item or gives one. Document 01, Instructions.
use Rattle.std.specs.Prelude.{Bool, ◌&&◌, ◌||◌, List, ℕ, ◌+◌, ◌*◌, eqb, get_or}
use Rattle.judge.specs.declared.Instruction.{Instruction}
use Rattle.judge.specs.Kinds.{logic, set_m, store, masked_store, deliver, resolve, in_memory, outside}

-- Instruction k of a list, 8 bytes each: kind, source, mode tag, mode, global address, flip F, byte 6 (16p + m, or 0 for none), byte 7 (16 × choice + function).
unfoldable pub instruction_at : List ℕ → ℕ → Instruction
instruction_at l k =
    record {
      kind = get_or l (8 * k) 0;
      source = get_or l (8 * k + 1) 0;
      tag = get_or l (8 * k + 2) 0;
      mode = get_or l (8 * k + 3) 0;
      addr = get_or l (8 * k + 4) 0;
      flip = get_or l (8 * k + 5) 0;
      code = get_or l (8 * k + 6) 0;
      logic = get_or l (8 * k + 7) 0;
    }

-- Kinds 2 and 3 store.
abbrev pub stores : Instruction → Bool
stores i = eqb i.kind store || eqb i.kind masked_store

-- "Kinds 0, 1 and 4 with source 0, and kinds 2 and 3 always, touch memory."
abbrev pub touches : Instruction → Bool
touches i = stores i || (eqb i.source in_memory && (eqb i.kind logic || eqb i.kind set_m || eqb i.kind deliver))

-- "Outside: each use takes the next 32 bytes of the lent items."
abbrev pub takes : Instruction → Bool
takes i = eqb i.source outside

-- Deliver and resolve put 32 bytes out.
abbrev pub gives : Instruction → Bool
gives i = eqb i.kind deliver || eqb i.kind resolve
