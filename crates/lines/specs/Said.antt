-- An instruction as words. A line has 19 places for words; where a place is 0 there is no word. docs/TEXT.md, The instructions and The one form.
use Rattle.std.specs.Prelude.{Bool, cond, not, ◌&&◌, ◌||◌, List, [], ◌∷◌, ℕ, ◌/◌, ◌%◌, eqb, get_or}
use Rattle.spelling.specs.Tables.{heads, choices, functions, sources, mode_registers, powers, address_word, from_word, flip_word, shift_word, mod_word, comment_word, reaches_word, word_word, words_word, slice_word, mode_word, bytes_word, unknown_word, refused_word, byte_word}
use Rattle.spelling.specs.Words.{when, decimal, hex_pair}
use Rattle.registers.specs.declared.Modes.{Modes}
use Rattle.judge.specs.declared.Instruction.{Instruction}
use Rattle.judge.specs.Answers.{Fault}
use Rattle.judge.specs.Kinds.{logic, set_mode, tag_given}
use Rattle.judge.specs.Modes.{mode_of, unset}
use Rattle.reach.specs.Reach.{reach_of}
use Rattle.lines.specs.Alone.{stores, touches, fault_alone, refused}

-- ---- the place in memory, or the register that is set

-- The mode is given, and it is that of a slice or of a word.
abbrev pub short : Instruction → Bool
short i = eqb i.tag tag_given && (eqb i.mode 0 || eqb i.mode 255)

-- The place is named by its mode and its address.
abbrev pub general : Instruction → Bool
general i = touches i && not (short i)

-- The word that names the place: `slice` where mode 0 is given, `word` where mode 255 is, else `mode`.
abbrev pub place_word : Instruction → ℕ
place_word i = cond (short i) (cond (eqb i.mode 0) slice_word word_word) mode_word

-- The mode's number, or the name of the register that has it.
abbrev pub mode_name : Instruction → ℕ
mode_name i = cond (eqb i.tag tag_given) (decimal i.mode) (get_or mode_registers i.tag 0)

-- The register that an instruction of kind 6 sets, and the mode.
abbrev pub sets : Instruction → Bool
sets i = eqb i.kind set_mode

-- ---- behind a store

-- How many words it reaches, by the mode registers before it; `?` where its register is not set.
abbrev pub reach_word : Modes → Instruction → ℕ
reach_word m i = cond (unset m i) unknown_word (decimal (reach_of (mode_of m i)))

-- `word` behind 1, else `words`.
abbrev pub words_after : Modes → Instruction → ℕ
words_after m i = cond (not (unset m i) && eqb (mode_of m i) 255) word_word words_word

-- ---- a line

-- The instruction in words: its name; of logic, choice and function; the place in memory, or a register that is set, and its mode; `from` in a store;
-- the source, where it is not memory; `flip F`; `shift A mod B`; and behind a store how many words it reaches.
unfoldable pub said : Modes → Instruction → List ℕ
said m i =
    get_or heads i.kind 0
    ∷ when (eqb i.kind logic) (get_or choices (i.logic / 16) 0)
    ∷ when (eqb i.kind logic) (get_or functions (i.logic % 16) 0)
    ∷ cond (touches i) (place_word i) (when (sets i) (get_or mode_registers i.tag 0))
    ∷ when (general i) (mode_name i)
    ∷ when (general i) address_word
    ∷ cond (touches i) (decimal i.addr) (when (sets i) (decimal i.mode))
    ∷ when (stores i.kind) from_word
    ∷ get_or sources i.source 0
    ∷ when (not (eqb i.flip 0)) flip_word
    ∷ when (not (eqb i.flip 0)) (decimal i.flip)
    ∷ when (not (eqb i.code 0)) shift_word
    ∷ when (not (eqb i.code 0)) (get_or powers (i.code % 16) 0)
    ∷ when (not (eqb i.code 0)) mod_word
    ∷ when (not (eqb i.code 0)) (get_or powers (i.code / 16) 0)
    ∷ when (stores i.kind) comment_word
    ∷ when (stores i.kind) reaches_word
    ∷ when (stores i.kind) (reach_word m i)
    ∷ when (stores i.kind) (words_after m i)
    ∷ []

-- The instruction as `bytes` and its eight bytes in hex, and the number and the byte that it is refused with.
unfoldable pub in_bytes : Instruction → Fault → List ℕ
in_bytes i fault =
    bytes_word
    ∷ hex_pair i.kind
    ∷ hex_pair i.source
    ∷ hex_pair i.tag
    ∷ hex_pair i.mode
    ∷ hex_pair i.addr
    ∷ hex_pair i.flip
    ∷ hex_pair i.code
    ∷ hex_pair i.logic
    ∷ 0 ∷ 0 ∷ 0 ∷ 0 ∷ 0
    ∷ comment_word
    ∷ refused_word
    ∷ decimal fault.number
    ∷ byte_word
    ∷ decimal fault.byte
    ∷ []

-- In words, or in bytes where the judge refuses it.
unfoldable pub words_of : Modes → Instruction → List ℕ
words_of m i = cond (refused i) (in_bytes i (fault_alone i)) (said m i)
