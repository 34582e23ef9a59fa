-- What a pass answers, from where byte 6 stands in the table; the passed item in each form; that there is one answer. Assumes nothing.
use mathlib.Core.Path.{◌≡◌, refl, sym, ap, ◌∙◌, subst}
use mathlib.Core.Bool.{Bool, true, false, cond}
use mathlib.Core.List.{List}
use mathlib.Core.Logic.{◌↔◌}
use Prim.Native.Nat.{ℕ, ◌/◌, ◌%◌, ◌≤◌, ◌<◌}
use native.Mathlib.Omega.{arith}
use lib.Bits.{bit_or, bit_xor, xor_zero_r, xor_lt, or_add_and, and_le_l, and_le_r}
use lib.ListN.{length, get_or, replicate}
use borrow.Author.Tests.{lt-ltb, le-ltb}
use Rattle.std.specs.Prelude.{Result, Ok, Err}
use Rattle.bits.specs.declared.refusals.Refusal.{Refusal}
use Rattle.bits.proofs.RefusalLaws.{number-positive, number-injective}
use Rattle.bits.specs.Bits.{bit_of, byte_of, item, flipped}
use Rattle.bits.specs.Rows.{number_of, FirstRow}
use Rattle.bits.proofs.Rows.{none_number, number-none, number-first, first-number}
use Rattle.bits.specs.Quarters.{quarters, line_at, flipped_quarters}
use Rattle.bits.proofs.Xor.{xor-cancel}
use Rattle.bits.proofs.Items.{length-listed, bit_of-bit, bit_of-pack, pack-ext, pack-bit_of}
use Rattle.bits.proofs.QuarterLaws.{line_at-bit, line_at-quarters}
use Rattle.bits.proofs.FlipLaws.{line-flipped}
use Rattle.network.specs.Shifts.{codes, shift_of, permitted, p_of, m_of}
use Rattle.network.specs.Unlisted.{code_rows}
use Rattle.network.specs.Pass.{moved, unshifted, source, passed}
use Rattle.network.specs.Wired.{wired_item}
use Rattle.network.specs.Answer.{passed_item, Passed, passed_of, answer}
use Rattle.network.proofs.PassLaws.{unshifted-lt, unshifted-none, passed-bit, passed-only}
use Rattle.network.proofs.Agreement.{agree-item}
use Rattle.network.proofs.TableRules.{none-permitted, listed-none, shift, entry_of}

-- ---- whether a code is permitted, from where it was found

pub found-permitted : (c s : ℕ) → s ≡ shift_of c → s < 37 → permitted c ≡ true
unfolding permitted
found-permitted c s e h = lt-ltb (shift_of c) 37 (subst (λ (k : ℕ). k < 37) e h)

pub lost-refused : (c s : ℕ) → s ≡ shift_of c → 37 ≤ s → permitted c ≡ false
unfolding permitted
lost-refused c s e h = le-ltb (shift_of c) 37 (subst (λ (k : ℕ). 37 ≤ k) e h)

-- ---- the two answers

pub given : (l : List ℕ) (f c : ℕ) (r : List ℕ) → permitted c ≡ true → r ≡ passed_item l f c → ◌≡◌ {A = Passed} (record { number = 0; item = r }) (answer l f c)
unfolding answer
given l f c r t e = rw t (ap (λ (x : List ℕ). record { number = 0; item = x }) e)

pub refused : (l : List ℕ) (f c n : ℕ) → permitted c ≡ false → n ≡ number_of (code_rows c) → ◌≡◌ {A = Passed} (record { number = n; item = replicate 32 0 }) (answer l f c)
unfolding answer
refused l f c n t e = rw t (ap (λ (x : ℕ). record { number = x; item = replicate 32 0 }) e)

-- the number is that of byte 6 by itself, so that each is given exactly where its row is the first that holds
pub pass-number : (l : List ℕ) (f c : ℕ) → (answer l f c).number ≡ number_of (code_rows c)
unfolding answer
pass-number l f c = go (permitted c) refl
  where
    go : (t : Bool) → permitted c ≡ t
        → (cond {A = Passed} t (record { number = 0; item = passed_item l f c }) (record { number = number_of (code_rows c); item = replicate 32 0 })).number ≡ number_of (code_rows c)
    go true e = sym (none_number (code_rows c) ((listed-none c).1 e))
    go false e = refl

pub pass-0 : (l : List ℕ) (f c : ℕ) → ((answer l f c).number ≡ 0) ↔ (permitted c ≡ true)
pass-0 l f c = (
  λ e. (listed-none c).0 (number-none (code_rows c) refl (sym (pass-number l f c) ∙ e)),
  λ t. pass-number l f c ∙ none_number (code_rows c) ((listed-none c).1 t),
)

pub pass-refusals : (l : List ℕ) (f c n : ℕ) → (n ≡ 0 → ⊥) → ((answer l f c).number ≡ n) ↔ FirstRow (code_rows c) n
pass-refusals l f c n u = (
  λ e. number-first (code_rows c) n u (sym (pass-number l f c) ∙ e),
  λ w. pass-number l f c ∙ first-number (code_rows c) n w,
)

-- ---- the passed item in each form

-- for a permitted code it is that of p and m
pub passed_item-is : (l : List ℕ) (f c : ℕ) → permitted c ≡ true → passed_item l f c ≡ item (passed l f (c / 16) (c % 16))
unfolding passed_item
passed_item-is l f c t = ap (λ (k : ℕ). item (passed l f (k / 16) (k % 16))) (entry_of c t)

-- a flip and then a shift, of its quarters
pub flip-shift : (l q r t : List ℕ) (f c : ℕ) → f < 256 → permitted c ≡ true → q ≡ quarters (bit_of l) → r ≡ flipped_quarters q f
    → t ≡ quarters (λ k. line_at r (unshifted (c / 16) (c % 16) k)) → item (line_at t) ≡ passed_item l f c
unfolding passed source
flip-shift l q r t f c d y eq er et =
    let from : ℕ → ℕ = unshifted (c / 16) (c % 16) in
    ap (λ (x : List ℕ). item (line_at x)) et
    ∙ pack-ext (line_at (quarters (λ k. line_at r (from k)))) (λ k. flipped l f (from k)) 32
    (λ k h. line_at-quarters (λ i. line_at r (from i)) (λ i. line_at-bit r (from i)) k h
    ∙ line-flipped l q r f d eq er (from k) (unshifted-lt 8 (c / 16) (c % 16) k (shift c y).within h))
    ∙ sym (passed_item-is l f c y)

-- no shift, and no flip either
pub flip-none : (l : List ℕ) (f c : ℕ) → c ≡ 0 → item (flipped l f) ≡ passed_item l f c
unfolding passed source
flip-none l f c e =
    sym (ap (passed_item l f) e
    ∙ passed_item-is l f 0 none-permitted
    ∙ pack-ext (λ k. flipped l f (unshifted 0 0 k)) (flipped l f) 32 (λ k h. ap (flipped l f) (unshifted-none 0 k)))

pub stay_none : (l : List ℕ) (f : ℕ) → f ≡ 0 → item (bit_of l) ≡ item (flipped l f)
stay_none l f e = pack-ext (bit_of l) (flipped l f) 32 (λ k h. ap (bit_of l) (sym (ap (bit_xor k) e ∙ xor_zero_r k)))

-- neither, told by one test of both
pub none-moved : (l : List ℕ) (f c : ℕ) → bit_or f c ≡ 0 → item (bit_of l) ≡ passed_item l f c
none-moved l f c e =
    let sum = or_add_and f c in
    let left = and_le_l f c in
    let right = and_le_r f c in
    stay_none l f (omega arith) ∙ flip-none l f c (omega arith)

-- eight levels, by the agreement
pub wired-permitted : (l r : List ℕ) (f c s : ℕ) → f < 256 → permitted c ≡ true → s ≡ shift_of c → r ≡ wired_item 8 f (p_of s) (m_of s) l → r ≡ passed_item l f c
wired-permitted l r f c s q t e d =
    let w = shift c t in
    d
    ∙ ap (λ (k : ℕ). wired_item 8 f (k / 16) (k % 16) l) (ap (λ (k : ℕ). get_or codes k 0) e ∙ entry_of c t)
    ∙ agree-item f (c / 16) (c % 16) l w.below w.within q
    ∙ sym (passed_item-is l f c t)

-- the same, from where the code was found
pub wired-passed : (l r : List ℕ) (f c s : ℕ) → f < 256 → s ≡ shift_of c → s < 37 → r ≡ wired_item 8 f (p_of s) (m_of s) l → r ≡ passed_item l f c
wired-passed l r f c s q e h d = wired-permitted l r f c s q (found-permitted c s e h) e d

-- ---- what whoever goes on with a passed item asks of it

pub length-passed_item : (l : List ℕ) (f c : ℕ) → length (passed_item l f c) ≡ 32
unfolding passed_item
length-passed_item l f c = length-listed (byte_of (passed l f (p_of (shift_of c)) (m_of (shift_of c)))) 32

pub bit_of-passed_item : (l : List ℕ) (f c k : ℕ) → permitted c ≡ true → k < 256 → bit_of (passed_item l f c) k ≡ passed l f (c / 16) (c % 16) k
bit_of-passed_item l f c k t h =
    ap (λ (x : List ℕ). bit_of x k) (passed_item-is l f c t) ∙ bit_of-pack (passed l f (c / 16) (c % 16)) (passed-bit l f (c / 16) (c % 16)) 32 k h

-- with no shift it is the flipped item
pub passed_item-flipped : (l : List ℕ) (f c k : ℕ) → c ≡ 0 → k < 256 → bit_of (passed_item l f c) k ≡ flipped l f k
passed_item-flipped l f c k e h = ap (λ (x : List ℕ). bit_of x k) (sym (flip-none l f c e)) ∙ bit_of-pack (flipped l f) (λ i. bit_of-bit l _) 32 k h

-- a pass with no flip and no shift leaves an item, and a flip undoes itself
pub passed-idle : (l : List ℕ) → length l ≡ 32 → ((i : ℕ) → get_or l i 0 < 256) → passed_item l 0 0 ≡ l
passed-idle l n b = sym (stay_none l 0 refl ∙ flip-none l 0 0 refl) ∙ pack-bit_of l 32 n b

pub flip-undone : (l : List ℕ) (f : ℕ) → f < 256 → length l ≡ 32 → ((i : ℕ) → get_or l i 0 < 256) → passed_item (passed_item l f 0) f 0 ≡ l
flip-undone l f q n b =
    sym (flip-none (passed_item l f 0) f 0 refl)
    ∙ ap (λ (x : List ℕ). item (flipped x f)) (sym (flip-none l f 0 refl))
    ∙ pack-ext (flipped (item (flipped l f)) f) (bit_of l) 32
    (λ k h. bit_of-pack (flipped l f) (λ i. bit_of-bit l _) 32 (bit_xor k f) (xor_lt 8 k f h q) ∙ ap (bit_of l) (xor-cancel k f))
    ∙ pack-bit_of l 32 n b

-- ---- one answer

-- what a pass gives back says which result it is of
pub passed_of-injective : (x y : Result (List ℕ) Refusal) → passed_of x ≡ passed_of y → x ≡ y
passed_of-injective (Ok l) (Ok m) e = ap (λ (p : Passed). Ok p.item) e
passed_of-injective (Ok l) (Err s) e = absurd (omega (arith, ap (λ (p : Passed). p.number) e, number-positive s))
passed_of-injective (Err r) (Ok m) e = absurd (omega (arith, ap (λ (p : Passed). p.number) e, number-positive r))
passed_of-injective (Err r) (Err s) e = ap Err (number-injective r s (ap (λ (p : Passed). p.number) e))

-- an answer 0 that has each bit of the item at the line where the pass moves it is that one
pub answer-only : (l : List ℕ) (f c : ℕ) (r : List ℕ) → f < 256 → permitted c ≡ true → length r ≡ 32 → ((i : ℕ) → get_or r i 0 < 256)
    → ((i : ℕ) → i < 256 → bit_of r (moved f (c / 16) (c % 16) i) ≡ bit_of l i) → ◌≡◌ {A = Passed} (record { number = 0; item = r }) (answer l f c)
answer-only l f c r q t n bytes at =
    let w = shift c t in
    given l f c r t (passed-only l f (c / 16) (c % 16) w.below w.within q r n bytes at ∙ sym (passed_item-is l f c t))
