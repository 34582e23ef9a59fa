-- The one-word machine: word P of the array with line P's bits of M, X and Y. Where every access has mode 0 and nothing is flipped or shifted, line P of a run is a run of this machine (crate fields, proofs/LineLaws.antt).
use Rattle.std.specs.Prelude.{cond, ◌&&◌, ◌||◌, List, [], ◌∷◌, ℕ, zero, suc, ◌+◌, eqb}
use Rattle.registers.specs.Logic.{new_x, new_y}
use Rattle.judge.specs.declared.Instruction.{Instruction}
use Rattle.judge.specs.Instructions.{takes}

-- ---- the machine

-- The word's bits, the three register bits, and how many outside bits were taken.
pub record Word : Type 0 where
  pub bits : ℕ → ℕ
  pub m : ℕ
  pub x : ℕ
  pub y : ℕ
  pub taken : ℕ

-- "Source: 0 memory, 1 M, 2 X, 3 Y": what the word itself holds.
abbrev pub held_bit : ℕ → ℕ → ℕ → ℕ → ℕ → ℕ
held_bit zero b m x y = b
held_bit (suc zero) b m x y = m
held_bit (suc (suc zero)) b m x y = x
held_bit (suc (suc (suc n))) b m x y = y

-- "4 outside": bit number `taken` of those that o gives.
unfoldable pub source_bit : Instruction → (ℕ → ℕ) → Word → ℕ
source_bit i o v = cond (takes i) (o v.taken) (held_bit i.source (v.bits i.addr) v.m v.x v.y)

-- What instruction i, with source bit f, makes of the word: logic, set M, a store of bit `addr`, a masked store where the word's own M bit is 1; other kinds leave it.
unfoldable pub after_bit : Instruction → ℕ → Word → Word
after_bit i f v =
    record {
      bits = λ b. cond ((eqb i.kind 2 || (eqb i.kind 3 && eqb v.m 1)) && eqb b i.addr) f (v.bits b);
      m = cond (eqb i.kind 1) f v.m;
      x = cond (eqb i.kind 0) (new_x i.logic v.x v.y f) v.x;
      y = cond (eqb i.kind 0) (new_y i.logic v.y f) v.y;
      taken = cond (takes i) (suc v.taken) v.taken;
    }

unfoldable pub acted_word : Instruction → (ℕ → ℕ) → Word → Word
acted_word i o v = after_bit i (source_bit i o v) v

-- A list, for any machine that has a step.
unfoldable pub folded : {S : Type 0} → (Instruction → S → S) → List Instruction → S → S
folded f [] s = s
folded f (i ∷ l) s = folded f l (f i s)

abbrev pub ran_word : List Instruction → (ℕ → ℕ) → Word → Word
ran_word l o v = folded (λ i. acted_word i o) l v

-- How many instructions of a list take an item.
unfoldable pub taken_by : List Instruction → ℕ
taken_by [] = 0
taken_by (i ∷ l) = cond (takes i) 1 0 + taken_by l

-- A list on its items, for any machine whose step is handed the next one: o k, where k were taken before.
unfoldable pub folded_on : {S O : Type 0} → (Instruction → O → S → S) → (ℕ → O) → List Instruction → ℕ → S → S
folded_on f o [] k s = s
folded_on f o (i ∷ l) k s = folded_on f o l (k + cond (takes i) 1 0) (f i (o k) s)
