-- What a line makes of its words is an instruction of eight bytes. Assumes nothing.
use mathlib.Core.Path.{◌≡◌, refl}
use mathlib.Core.Bool.{Bool, true, false, cond, ◌&&◌, not}
use Prim.Native.Nat.{ℕ, ◌*◌, ◌+◌, ◌/◌, ◌<◌}
use native.Mathlib.Omega.{arith}
use lib.Dec.{eqb, ltb}
use borrow.Author.Tests.{ltb-true}
use Rattle.bits.specs.Search.{index_of}
use Rattle.bits.proofs.Rows.{and_right}
use Rattle.spelling.specs.Tables.{heads, choices, functions, sources, mode_registers, places, powers, address_word, from_word, flip_word, shift_word, mod_word}
use Rattle.spelling.specs.Words.{number, pair_value}
use Rattle.judge.specs.declared.Instruction.{Instruction}
use Rattle.lines.specs.declared.Line.{Line}
use Rattle.lines.specs.declared.Phase.{Phase}
use Rattle.lines.specs.declared.Phase.TheVariants.{Head, Choice, Function, Source, Place, Mode, AddressWord, Address, From, Register, Moves, Flip, AfterFlip, Amount, Modulo, Group, SetWhich, SetTo, End, Byte, Whole, Comment, Refused}
use Rattle.lines.specs.Alone.{of_kind, stores}
use Rattle.lines.specs.Worded.{line, with_mode, register_tag, head_word, choice_word, function_word, place_word, source_word, register_word, which_word, mode_number, set_number, address_number, flip_number, only, amount_word, group_word, shift_head, moves_word, byte_word, worded_at, worded}
use Rattle.lines.proofs.Leads.{Bytes}

-- The line's instruction is of bytes.
record Kept (l : Line) : Type 0 where
  bytes : Bytes l.got

kept : {p : Phase} {i : Instruction} → Bytes i → Kept (line p i)
kept b = record { bytes = b }

-- by a test, which says what it says where it holds
chosen : (b : Bool) {x y : Line} → (b ≡ true → Kept x) → Kept y → Kept (cond b x y)
chosen true f q = f refl
chosen false f q = q

of-kind : (k : ℕ) → k < 256 → Bytes (of_kind k)
of-kind k h = record { kind = h; source = omega arith; tag = omega arith; mode = omega arith; addr = omega arith; flip = omega arith; code = omega arith; logic = omega arith }

module _ {i : Instruction} (b : Bytes i) where
  mode-kept : {t m : ℕ} → t < 256 → m < 256 → Bytes (with_mode i t m)
  mode-kept ht hm = record { kind = b.kind; source = b.source; tag = ht; mode = hm; addr = b.addr; flip = b.flip; code = b.code; logic = b.logic }

  -- the tag of a register
  tag-low : (t : ℕ) → register_tag t ≡ true → t < 256
  tag-low t e = omega (arith, ltb-true t 4 (and_right (ltb 1 t) (ltb t 4) e))

  choice-kept : (w : ℕ) → Kept (choice_word i w)
  unfolding choice_word
  choice-kept w =
      chosen (ltb (index_of w choices) 5)
      (λ e. kept record { kind = b.kind; source = b.source; tag = b.tag; mode = b.mode; addr = b.addr; flip = b.flip; code = b.code; logic = omega (arith, ltb-true (index_of w choices) 5 e) }) (kept b)

  function_of : (f : ℕ) → f < 16 → Kept (line Source (record { kind = i.kind; source = i.source; tag = i.tag; mode = i.mode; addr = i.addr; flip = i.flip; code = i.code; logic = 16 * (i.logic / 16) + f }))
  function_of f h = kept record { kind = b.kind; source = b.source; tag = b.tag; mode = b.mode; addr = b.addr; flip = b.flip; code = b.code; logic = omega (arith, b.logic) }

  function-kept : (w : ℕ) → Kept (function_word i w)
  unfolding function_word
  function-kept w =
      chosen (ltb (index_of w functions) 16) (λ e. function_of (index_of w functions) (ltb-true (index_of w functions) 16 e))
      (chosen (ltb (number w) 16) (λ e. function_of (number w) (ltb-true (number w) 16 e)) (kept b))

  place_kept : (w : ℕ) → Kept (place_word i w)
  unfolding place_word
  place_kept w =
      chosen (eqb (index_of w places) 0) (λ e. kept (mode-kept (omega arith) (omega arith)))
      (chosen (eqb (index_of w places) 1) (λ e. kept (mode-kept (omega arith) (omega arith)))
      (chosen (eqb (index_of w places) 2) (λ e. kept (mode-kept (omega arith) (omega arith))) (kept b)))

  source_of : (w : ℕ) → ltb 0 (index_of w sources) && ltb (index_of w sources) 5 ≡ true
      → Bytes (record { kind = i.kind; source = index_of w sources; tag = i.tag; mode = i.mode; addr = i.addr; flip = i.flip; code = i.code; logic = i.logic })
  source_of w e = record {
    kind = b.kind;
    source = omega (arith, ltb-true (index_of w sources) 5 (and_right (ltb 0 (index_of w sources)) (ltb (index_of w sources) 5) e));
    tag = b.tag;
    mode = b.mode;
    addr = b.addr;
    flip = b.flip;
    code = b.code;
    logic = b.logic;
  }

  source-kept : (w : ℕ) → Kept (source_word i w)
  unfolding source_word
  source-kept w = chosen (ltb 0 (index_of w sources) && ltb (index_of w sources) 5) (λ e. kept (source_of w e)) (place_kept w)

  register-kept : (w : ℕ) → Kept (register_word i w)
  unfolding register_word
  register-kept w = chosen (ltb 0 (index_of w sources) && ltb (index_of w sources) 5) (λ e. kept (source_of w e)) (kept b)

  which-kept : (w : ℕ) → Kept (which_word i w)
  unfolding which_word
  which-kept w = chosen (register_tag (index_of w mode_registers)) (λ e. kept (mode-kept (tag-low (index_of w mode_registers) e) (omega arith))) (kept b)

  number-kept : (w : ℕ) → Kept (mode_number i w)
  unfolding mode_number
  number-kept w =
      chosen (register_tag (index_of w mode_registers)) (λ e. kept (mode-kept (tag-low (index_of w mode_registers) e) (omega arith)))
      (chosen (ltb (number w) 256) (λ e. kept (mode-kept (omega arith) (ltb-true (number w) 256 e))) (kept b))

  set-kept : (w : ℕ) → Kept (set_number i w)
  unfolding set_number
  set-kept w = chosen (ltb (number w) 256) (λ e. kept (mode-kept b.tag (ltb-true (number w) 256 e))) (kept b)

  address_kept : (w : ℕ) → Kept (address_number i w)
  unfolding address_number
  address_kept w =
      chosen (ltb (number w) 256)
      (λ e. kept record { kind = b.kind; source = b.source; tag = b.tag; mode = b.mode; addr = ltb-true (number w) 256 e; flip = b.flip; code = b.code; logic = b.logic }) (kept b)

  flip-kept : (w : ℕ) → Kept (flip_number i w)
  unfolding flip_number
  flip-kept w =
      chosen (ltb (number w) 256)
      (λ e. kept record { kind = b.kind; source = b.source; tag = b.tag; mode = b.mode; addr = b.addr; flip = ltb-true (number w) 256 e; code = b.code; logic = b.logic }) (kept b)

  only_kept : (word : ℕ) (p : Phase) (w : ℕ) → Kept (only word p i w)
  unfolding only
  only_kept word p w = chosen (eqb w word) (λ e. kept b) (kept b)

  code-kept : {c : ℕ} → c < 256 → Bytes (record { kind = i.kind; source = i.source; tag = i.tag; mode = i.mode; addr = i.addr; flip = i.flip; code = c; logic = i.logic })
  code-kept h = record { kind = b.kind; source = b.source; tag = b.tag; mode = b.mode; addr = b.addr; flip = b.flip; code = h; logic = b.logic }

  amount-kept : (w : ℕ) → Kept (amount_word i w)
  unfolding amount_word
  amount-kept w = chosen (ltb (index_of w powers) 8) (λ e. kept (code-kept (omega (arith, ltb-true (index_of w powers) 8 e)))) (kept b)

  group-kept : (w : ℕ) → Kept (group_word i w)
  unfolding group_word
  group-kept w =
      chosen (ltb i.code (index_of w powers))
      (λ e. chosen (ltb (index_of w powers) 9) (λ q. kept (code-kept (omega (arith, ltb-true i.code (index_of w powers) e, ltb-true (index_of w powers) 9 q)))) (kept b)) (kept b)

  shift_kept : (w : ℕ) → Kept (shift_head i w)
  unfolding shift_head
  shift_kept w = chosen (eqb w shift_word && not (stores i.kind)) (λ e. kept b) (kept b)

  moves-kept : (w : ℕ) → Kept (moves_word i w)
  unfolding moves_word
  moves-kept w = chosen (eqb w flip_word) (λ e. kept b) (shift_kept w)

  byte-kept : (n w : ℕ) → Kept (byte_word i n w)
  unfolding byte_word
  byte-kept n w =
      chosen (ltb (pair_value w) 256)
      (λ e. kept record { kind = b.source; source = b.tag; tag = b.mode; mode = b.addr; addr = b.flip; flip = b.code; code = b.logic; logic = ltb-true (pair_value w) 256 e }) (kept b)

head-kept : (w : ℕ) → Kept (head_word w)
unfolding head_word
head-kept w =
    chosen (ltb (index_of w heads) 7) (λ e. kept (of-kind (index_of w heads) (omega (arith, ltb-true (index_of w heads) 7 e))))
    (chosen (eqb (index_of w heads) 7) (λ e. kept (of-kind 0 (omega arith))) (kept (of-kind 0 (omega arith))))

pub word_kept : (l : Line) (w : ℕ) → Bytes l.got → Bytes (worded l w).got
unfolding worded
word_kept l w b = (go l.phase l.got b).bytes
  where
    go : (p : Phase) (i : Instruction) → Bytes i → Kept (worded_at p i w)
    go Head i b = head-kept w
    go Choice i b = choice-kept b w
    go Function i b = function-kept b w
    go Source i b = source-kept b w
    go Place i b = place_kept b w
    go Mode i b = number-kept b w
    go AddressWord i b = only_kept b address_word Address w
    go Address i b = address_kept b w
    go From i b = only_kept b from_word Register w
    go Register i b = register-kept b w
    go Moves i b = moves-kept b w
    go Flip i b = flip-kept b w
    go AfterFlip i b = shift_kept b w
    go Amount i b = amount-kept b w
    go Modulo i b = only_kept b mod_word Group w
    go Group i b = group-kept b w
    go SetWhich i b = which-kept b w
    go SetTo i b = set-kept b w
    go End i b = kept b
    go (Byte n) i b = byte-kept b n w
    go Whole i b = kept b
    go Comment i b = kept b
    go (Refused n) i b = kept b
