-- Words as an instruction: what a line may go on with, and what each word makes of it. docs/TEXT.md, The instructions and Refusals.
use Rattle.std.specs.Prelude.{Bool, true, false, cond, not, ◌&&◌, ℕ, ◌+◌, ◌*◌, ◌/◌, eqb, ltb}
use Rattle.spelling.specs.Tables.{heads, choices, functions, sources, mode_registers, places, powers, address_word, from_word, flip_word, shift_word, mod_word}
use Rattle.bits.specs.Search.{index_of}
use Rattle.spelling.specs.Words.{number, pair_value}
use Rattle.judge.specs.declared.Instruction.{Instruction}
use Rattle.lines.specs.declared.Line.{Line}
use Rattle.lines.specs.declared.Phase.{Phase}
use Rattle.lines.specs.declared.Phase.TheVariants.{Head, Choice, Function, Source, Place, Mode, AddressWord, Address, From, Register, Moves, Flip, AfterFlip, Amount, Modulo, Group, SetWhich, SetTo, End, Byte, Whole, Comment, Refused}
use Rattle.lines.specs.Alone.{of_kind, stores}

abbrev pub line : Phase → Instruction → Line
line p i = record { phase = p; got = i }

abbrev pub with_source : Instruction → ℕ → Instruction
with_source i x = record { kind = i.kind; source = x; tag = i.tag; mode = i.mode; addr = i.addr; flip = i.flip; code = i.code; logic = i.logic }

abbrev pub with_mode : Instruction → ℕ → ℕ → Instruction
with_mode i t x = record { kind = i.kind; source = i.source; tag = t; mode = x; addr = i.addr; flip = i.flip; code = i.code; logic = i.logic }

abbrev pub with_addr : Instruction → ℕ → Instruction
with_addr i x = record { kind = i.kind; source = i.source; tag = i.tag; mode = i.mode; addr = x; flip = i.flip; code = i.code; logic = i.logic }

abbrev pub with_flip : Instruction → ℕ → Instruction
with_flip i x = record { kind = i.kind; source = i.source; tag = i.tag; mode = i.mode; addr = i.addr; flip = x; code = i.code; logic = i.logic }

abbrev pub with_code : Instruction → ℕ → Instruction
with_code i x = record { kind = i.kind; source = i.source; tag = i.tag; mode = i.mode; addr = i.addr; flip = i.flip; code = x; logic = i.logic }

abbrev pub with_logic : Instruction → ℕ → Instruction
with_logic i x = record { kind = i.kind; source = i.source; tag = i.tag; mode = i.mode; addr = i.addr; flip = i.flip; code = i.code; logic = x }

-- The bytes moved up by one, and x as the last.
abbrev pub with_byte : Instruction → ℕ → Instruction
with_byte i x = record { kind = i.source; source = i.tag; tag = i.mode; mode = i.addr; addr = i.flip; flip = i.code; code = i.logic; logic = x }

-- ---- each place of a line

-- 60: no instruction has this name.
abbrev pub after_head : ℕ → Phase
after_head k = cond (eqb k 0) Choice (cond (stores k) Place (cond (eqb k 5) End (cond (eqb k 6) SetWhich Source)))

unfoldable pub head_word : ℕ → Line
head_word w =
    cond (ltb (index_of w heads) 7) (line (after_head (index_of w heads)) (of_kind (index_of w heads)))
    (cond (eqb (index_of w heads) 7) (line (Byte 0) (of_kind 0))
    (line (Refused 60) (of_kind 0)))

-- 61: no choice.
unfoldable pub choice_word : Instruction → ℕ → Line
choice_word i w = cond (ltb (index_of w choices) 5) (line Function (with_logic i (16 * index_of w choices))) (line (Refused 61) i)

-- 62: no function: neither a name nor a number below 16.
abbrev pub with_function : Instruction → ℕ → Line
with_function i f = line Source (with_logic i (16 * (i.logic / 16) + f))

unfoldable pub function_word : Instruction → ℕ → Line
function_word i w =
    cond (ltb (index_of w functions) 16) (with_function i (index_of w functions))
    (cond (ltb (number w) 16) (with_function i (number w))
    (line (Refused 62) i))

-- 63: no source, no place, or no mode register.
unfoldable pub place_word : Instruction → ℕ → Line
place_word i w =
    cond (eqb (index_of w places) 0) (line Address (with_mode i 1 0))
    (cond (eqb (index_of w places) 1) (line Address (with_mode i 1 255))
    (cond (eqb (index_of w places) 2) (line Mode (with_mode i 1 0))
    (line (Refused 63) i)))

unfoldable pub source_word : Instruction → ℕ → Line
source_word i w = cond (ltb 0 (index_of w sources) && ltb (index_of w sources) 5) (line Moves (with_source i (index_of w sources))) (place_word i w)

unfoldable pub register_word : Instruction → ℕ → Line
register_word i w = cond (ltb 0 (index_of w sources) && ltb (index_of w sources) 5) (line Moves (with_source i (index_of w sources))) (line (Refused 63) i)

-- The tag of a mode register, 2 or 3.
abbrev pub register_tag : ℕ → Bool
register_tag t = ltb 1 t && ltb t 4

unfoldable pub which_word : Instruction → ℕ → Line
which_word i w = cond (register_tag (index_of w mode_registers)) (line SetTo (with_mode i (index_of w mode_registers) 0)) (line (Refused 63) i)

-- 64: no number below 256; behind `mode`, no mode register either.
unfoldable pub mode_number : Instruction → ℕ → Line
mode_number i w =
    cond (register_tag (index_of w mode_registers)) (line AddressWord (with_mode i (index_of w mode_registers) 0))
    (cond (ltb (number w) 256) (line AddressWord (with_mode i 1 (number w)))
    (line (Refused 64) i))

unfoldable pub set_number : Instruction → ℕ → Line
set_number i w = cond (ltb (number w) 256) (line End (with_mode i i.tag (number w))) (line (Refused 64) i)

abbrev pub after_place : ℕ → Phase
after_place kind = cond (stores kind) From Moves

unfoldable pub address_number : Instruction → ℕ → Line
address_number i w = cond (ltb (number w) 256) (line (after_place i.kind) (with_addr i (number w))) (line (Refused 64) i)

unfoldable pub flip_number : Instruction → ℕ → Line
flip_number i w = cond (ltb (number w) 256) (line AfterFlip (with_flip i (number w))) (line (Refused 64) i)

-- 65: not the word that has to stand here, `address`, `from` or `mod`.
unfoldable pub only : ℕ → Phase → Instruction → ℕ → Line
only word p i w = cond (eqb w word) (line p i) (line (Refused 65) i)

-- 66: no shift of 2^m modulo 2^p.
unfoldable pub amount_word : Instruction → ℕ → Line
amount_word i w = cond (ltb (index_of w powers) 8) (line Modulo (with_code i (index_of w powers))) (line (Refused 66) i)

unfoldable pub group_word : Instruction → ℕ → Line
group_word i w =
    cond (ltb i.code (index_of w powers))
    (cond (ltb (index_of w powers) 9) (line End (with_code i (16 * index_of w powers + i.code))) (line (Refused 66) i))
    (line (Refused 66) i)

-- 67: more than the instruction takes.
unfoldable pub shift_head : Instruction → ℕ → Line
shift_head i w = cond (eqb w shift_word && not (stores i.kind)) (line Amount i) (line (Refused 67) i)

unfoldable pub moves_word : Instruction → ℕ → Line
moves_word i w = cond (eqb w flip_word) (line Flip i) (shift_head i w)

-- 68: no byte of two hex digits.
abbrev pub after_byte : ℕ → Phase
after_byte n = cond (ltb n 7) (Byte (n + 1)) Whole

unfoldable pub byte_word : Instruction → ℕ → ℕ → Line
byte_word i n w = cond (ltb (pair_value w) 256) (line (after_byte n) (with_byte i (pair_value w))) (line (Refused 68) i)

-- ---- the line

-- What the word w makes of an instruction so far, where the line may go on as the phase says.
abbrev pub worded_at : Phase → Instruction → ℕ → Line
worded_at Head i w = head_word w
worded_at Choice i w = choice_word i w
worded_at Function i w = function_word i w
worded_at Source i w = source_word i w
worded_at Place i w = place_word i w
worded_at Mode i w = mode_number i w
worded_at AddressWord i w = only address_word Address i w
worded_at Address i w = address_number i w
worded_at From i w = only from_word Register i w
worded_at Register i w = register_word i w
worded_at Moves i w = moves_word i w
worded_at Flip i w = flip_number i w
worded_at AfterFlip i w = shift_head i w
worded_at Amount i w = amount_word i w
worded_at Modulo i w = only mod_word Group i w
worded_at Group i w = group_word i w
worded_at SetWhich i w = which_word i w
worded_at SetTo i w = set_number i w
worded_at End i w = line (Refused 67) i
worded_at (Byte n) i w = byte_word i n w
worded_at Whole i w = line (Refused 67) i
worded_at Comment i w = line Comment i
worded_at (Refused n) i w = line (Refused n) i

unfoldable pub worded : Line → ℕ → Line
worded l w = worded_at l.phase l.got w

-- What the end of a line finds there: 0 too early; 1 no instruction yet; 2 a whole one; 3 a comment; 4 a refusal.
abbrev pub sort_of : Phase → ℕ
sort_of Head = 1
sort_of Choice = 0
sort_of Function = 0
sort_of Source = 0
sort_of Place = 0
sort_of Mode = 0
sort_of AddressWord = 0
sort_of Address = 0
sort_of From = 0
sort_of Register = 0
sort_of Moves = 2
sort_of Flip = 0
sort_of AfterFlip = 2
sort_of Amount = 0
sort_of Modulo = 0
sort_of Group = 0
sort_of SetWhich = 0
sort_of SetTo = 0
sort_of End = 2
sort_of (Byte n) = 0
sort_of Whole = 2
sort_of Comment = 3
sort_of (Refused n) = 4

-- A whole instruction that is said in words: not in `bytes`.
abbrev pub in_words : Phase → Bool
in_words Head = false
in_words Choice = false
in_words Function = false
in_words Source = false
in_words Place = false
in_words Mode = false
in_words AddressWord = false
in_words Address = false
in_words From = false
in_words Register = false
in_words Moves = true
in_words Flip = false
in_words AfterFlip = true
in_words Amount = false
in_words Modulo = false
in_words Group = false
in_words SetWhich = false
in_words SetTo = false
in_words End = true
in_words (Byte n) = false
in_words Whole = false
in_words Comment = false
in_words (Refused n) = false
