-- The number of a line is one of 60 to 69 where it is refused, else 0, whatever its text. Assumes nothing.
use mathlib.Core.Path.{◌≡◌, refl, sym, ap, ap₂, ◌∙◌}
use mathlib.Core.Bool.{Bool, true, false, cond, not, ◌&&◌, ◌||◌, true≢false}
use mathlib.Core.List.{List, [], ◌∷◌, ◌++◌}
use Prim.Native.Nat.{ℕ, ◌+◌, ◌<◌, ◌≤◌}
use native.Mathlib.Omega.{arith}
use lib.Dec.{eqb, ltb, leb}
use borrow.Author.Tests.{ne_eqb, le-ltb, leb-true}
use Rattle.bits.specs.Search.{index_of}
use Rattle.bits.proofs.Rows.{taken, and_left, and_right}
use Rattle.spelling.specs.Tables.{heads, choices, functions, sources, mode_registers, places, powers, address_word, from_word, flip_word, shift_word, mod_word}
use Rattle.spelling.specs.Words.{number, pair_value}
use Rattle.judge.specs.declared.Instruction.{Instruction}
use Rattle.lines.specs.declared.Line.{Line}
use Rattle.lines.specs.declared.Phase.{Phase}
use Rattle.lines.specs.declared.Phase.TheVariants.{Head, Choice, Function, Source, Place, Mode, AddressWord, Address, From, Register, Moves, Flip, AfterFlip, Amount, Modulo, Group, SetWhich, SetTo, End, Byte, Whole, Comment, Refused}
use Rattle.lines.specs.Alone.{of_kind, stores}
use Rattle.lines.specs.Worded.{line, register_tag, after_head, after_place, after_byte, head_word, choice_word, function_word, place_word, source_word, register_word, which_word, mode_number, set_number, address_number, flip_number, only, amount_word, group_word, shift_head, moves_word, byte_word, worded_at, worded, sort_of}
use Rattle.text.specs.Make.{reading, begin, ends, number_of, last_of}
use Rattle.text.proofs.Carried.{Carries, ends-carried}

-- as a test, so that a phase that is written out passes it by `refl`: the line is not refused, or with 60 to 69
abbrev test : Phase → Bool
test p = (eqb (number_of p) 0 && ltb (sort_of p) 4) || (leb 60 (number_of p) && leb (number_of p) 69)

pub record Numbered (l : Line) : Type 0 where
  passes : test l.phase ≡ true

numbered : {p : Phase} {i : Instruction} → test p ≡ true → Numbered (line p i)
numbered e = record { passes = e }

-- one of two lines, whichever is taken
either : (b : Bool) {x y : Line} → Numbered x → Numbered y → Numbered (cond b x y)
either true p q = p
either false p q = q

-- ---- each place of a line

after-head : (k : ℕ) → test (after_head k) ≡ true
after-head k = go (eqb k 0) (stores k) (eqb k 5) (eqb k 6)
  where
    go : (a b c d : Bool) → test (cond a Choice (cond b Place (cond c End (cond d SetWhich Source)))) ≡ true
    go true b c d = refl
    go false true c d = refl
    go false false true d = refl
    go false false false true = refl
    go false false false false = refl

after-place : (k : ℕ) → test (after_place k) ≡ true
after-place k = taken (λ (p : Phase). test p ≡ true) From Moves (stores k) refl refl

after-byte : (n : ℕ) → test (after_byte n) ≡ true
after-byte n = taken (λ (p : Phase). test p ≡ true) (Byte (n + 1)) Whole (ltb n 7) refl refl

head-numbered : (w : ℕ) → Numbered (head_word w)
unfolding head_word
head-numbered w = either (ltb (index_of w heads) 7) (numbered (after-head (index_of w heads))) (either (eqb (index_of w heads) 7) (numbered refl) (numbered refl))

module _ (i : Instruction) (w : ℕ) where
  choice-numbered : Numbered (choice_word i w)
  unfolding choice_word
  choice-numbered = either (ltb (index_of w choices) 5) (numbered refl) (numbered refl)

  function-numbered : Numbered (function_word i w)
  unfolding function_word
  function-numbered = either (ltb (index_of w functions) 16) (numbered refl) (either (ltb (number w) 16) (numbered refl) (numbered refl))

  place-numbered : Numbered (place_word i w)
  unfolding place_word
  place-numbered = either (eqb (index_of w places) 0) (numbered refl) (either (eqb (index_of w places) 1) (numbered refl) (either (eqb (index_of w places) 2) (numbered refl) (numbered refl)))

  source-numbered : Numbered (source_word i w)
  unfolding source_word
  source-numbered = either (ltb 0 (index_of w sources) && ltb (index_of w sources) 5) (numbered refl) place-numbered

  register-numbered : Numbered (register_word i w)
  unfolding register_word
  register-numbered = either (ltb 0 (index_of w sources) && ltb (index_of w sources) 5) (numbered refl) (numbered refl)

  which-numbered : Numbered (which_word i w)
  unfolding which_word
  which-numbered = either (register_tag (index_of w mode_registers)) (numbered refl) (numbered refl)

  mode-numbered : Numbered (mode_number i w)
  unfolding mode_number
  mode-numbered = either (register_tag (index_of w mode_registers)) (numbered refl) (either (ltb (number w) 256) (numbered refl) (numbered refl))

  set-numbered : Numbered (set_number i w)
  unfolding set_number
  set-numbered = either (ltb (number w) 256) (numbered refl) (numbered refl)

  address-numbered : Numbered (address_number i w)
  unfolding address_number
  address-numbered = either (ltb (number w) 256) (numbered (after-place i.kind)) (numbered refl)

  flip-numbered : Numbered (flip_number i w)
  unfolding flip_number
  flip-numbered = either (ltb (number w) 256) (numbered refl) (numbered refl)

  only-numbered : (word : ℕ) (p : Phase) → test p ≡ true → Numbered (only word p i w)
  unfolding only
  only-numbered word p e = either (eqb w word) (numbered e) (numbered refl)

  amount-numbered : Numbered (amount_word i w)
  unfolding amount_word
  amount-numbered = either (ltb (index_of w powers) 8) (numbered refl) (numbered refl)

  group-numbered : Numbered (group_word i w)
  unfolding group_word
  group-numbered = either (ltb i.code (index_of w powers)) (either (ltb (index_of w powers) 9) (numbered refl) (numbered refl)) (numbered refl)

  shift-numbered : Numbered (shift_head i w)
  unfolding shift_head
  shift-numbered = either (eqb w shift_word && not (stores i.kind)) (numbered refl) (numbered refl)

  moves-numbered : Numbered (moves_word i w)
  unfolding moves_word
  moves-numbered = either (eqb w flip_word) (numbered refl) shift-numbered

  byte-numbered : (n : ℕ) → Numbered (byte_word i n w)
  unfolding byte_word
  byte-numbered n = either (ltb (pair_value w) 256) (numbered (after-byte n)) (numbered refl)

-- ---- the line, and the text

word-numbered : (l : Line) (w : ℕ) → Numbered l → Numbered (worded l w)
unfolding worded
word-numbered l w h = go l.phase l.got h.passes
  where
    go : (p : Phase) (i : Instruction) → test p ≡ true → Numbered (worded_at p i w)
    go Head i e = head-numbered w
    go Choice i e = choice-numbered i w
    go Function i e = function-numbered i w
    go Source i e = source-numbered i w
    go Place i e = place-numbered i w
    go Mode i e = mode-numbered i w
    go AddressWord i e = only-numbered i w address_word Address refl
    go Address i e = address-numbered i w
    go From i e = only-numbered i w from_word Register refl
    go Register i e = register-numbered i w
    go Moves i e = moves-numbered i w
    go Flip i e = flip-numbered i w
    go AfterFlip i e = shift-numbered i w
    go Amount i e = amount-numbered i w
    go Modulo i e = only-numbered i w mod_word Group refl
    go Group i e = group-numbered i w
    go SetWhich i e = which-numbered i w
    go SetTo i e = set-numbered i w
    go End i e = numbered refl
    go (Byte n) i e = byte-numbered i w n
    go Whole i e = numbered refl
    go Comment i e = numbered refl
    go (Refused n) i e = numbered e

carries : Carries Numbered
carries = record { word = word-numbered; head = λ l h. numbered refl; comment = λ l h. numbered refl; early = λ l h. numbered refl }

-- after any characters from a line's beginning
pub ends-numbered : (g : Instruction) (start at : ℕ) (r : Bool) (cs : List ℕ) → Numbered (ends (reading (line Head g) 0 start r) at cs).line
ends-numbered g start at r cs = ends-carried Numbered carries (reading (line Head g) 0 start r) at cs (numbered refl)

-- a refusal's number is not 0
pub refused-some : (l : Line) → Numbered l → 3 < sort_of l.phase → number_of l.phase ≡ 0 → ⊥
refused-some l h s z =
    true≢false (sym h.passes ∙ ap₂ (λ (n : ℕ) (b : Bool). (eqb n 0 && b) || (leb 60 n && leb n 69)) z (le-ltb (sort_of l.phase) 4 (omega arith)))

pub line-numbers : (text : List ℕ) → let n = number_of (last_of text).line.phase in (n ≡ 0 → ⊥) → (60 ≤ n) × (n ≤ 69)
unfolding last_of
line-numbers text u =
    let p = (ends begin 0 (text ++ (10 ∷ []))).line.phase in
    let n = number_of p in
    let h = (ends-carried Numbered carries begin 0 (text ++ (10 ∷ [])) (numbered refl)).passes in
    let both = or-none-left (eqb n 0 && ltb (sort_of p) 4) (leb 60 n && leb n 69) (ap (λ (b : Bool). b && ltb (sort_of p) 4) (ne_eqb n 0 u)) h in
    (leb-true 60 n (and_left (leb 60 n) (leb n 69) both), leb-true n 69 (and_right (leb 60 n) (leb n 69) both))
  where
    -- the other of two
    or-none-left : (a b : Bool) → a ≡ false → (a || b) ≡ true → b ≡ true
    or-none-left true b f e = absurd (true≢false f)
    or-none-left false b f e = e

-- what it was refused with
pub refused-numbers : (text : List ℕ) → let p = (last_of text).line.phase in sort_of p ≡ 4 → (60 ≤ number_of p) × (number_of p ≤ 69)
unfolding last_of
refused-numbers text e = line-numbers text (refused-some (last_of text).line (ends-numbered (of_kind 0) 0 0 false (text ++ (10 ∷ []))) (omega (arith, e)))
