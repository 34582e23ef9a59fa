-- Demand 2's table law for the memory of 8,192 bytes, on a page: what is stored under one mode reads, under each of the 256 modes, as from an unscrambled table. Its names are those of specs/; the laws cited are over any width. Assumes nothing.
use mathlib.Core.Path.{◌≡◌, sym, ap, ◌∙◌}
use mathlib.Core.Bool.{cond}
use mathlib.Core.List.{List}
use Prim.Native.Nat.{ℕ, ◌<◌}
use lib.Bits.{bit_xor, xor_lt}
use lib.Dec.{eqb}
use Rattle.bits.specs.Bits.{item}
use Rattle.bits.proofs.Binary.{Bit}
use Rattle.bits.proofs.Items.{pack-ext}
use Rattle.memory.specs.Access.{read_bit, stored_bit}
use Rattle.memory.specs.Table.{table, line_bit, line_word, Updated}
use Rattle.memory.specs.Memory.{cell, stored}
use Rattle.memory.proofs.AccessLaws.{read-line, line_bit-lt, line_word-lt, line-inj}
use Rattle.memory.proofs.MemoryLaws.{cell-stored}
use Rattle.memory.proofs.TableLaws.{store-updates, updated-unique}

-- A load reads the table: line P of the item that `load` gives is bit ((not M) and G) xor (M and P) of word (M and G) xor ((not M) and P).
pub load-reads : (mem : List ℕ) (m g : ℕ) → m < 256 → g < 256
    → item (read_bit (cell mem) m g) ≡ item (λ p. table (cell mem) (line_word 8 m g p) (line_bit 8 m g p))
load-reads mem m g hm hg = pack-ext _ _ 32 (λ p hp. read-line 8 m g p hm hg hp (cell mem))

module _ (mem : List ℕ) (m g : ℕ) (mask f : ℕ → ℕ) (hm : m < 256) (hg : g < 256) (bits : (p : ℕ) → Bit (f p)) where
  same : (w b : ℕ) → w < 256 → b < 256 → table (cell (stored mem m g mask f)) w b ≡ table (stored_bit (cell mem) m g mask f) w b
  same w b hw hb = cell-stored mem m g mask f bits (bit_xor b w) b (xor_lt 8 b w hb hw) hb

  -- A store updates the table: the bit that each line points to becomes the line's, unless its mask bit is not 1, and every bit that no line points to stays.
  pub store-updates-table : Updated 8 m g mask f (table (cell mem)) (table (cell (stored mem m g mask f)))
  store-updates-table =
      let u = store-updates 8 (cell mem) m g mask f hm hg in
      record {
        lines = λ p hp. same (line_word 8 m g p) (line_bit 8 m g p) (line_word-lt 8 m g p hm hg hp) (line_bit-lt 8 m g p hm hg hp) ∙ u.lines p hp;
        others = λ w b hw hb off. same w b hw hb ∙ u.others w b hw hb off;
      }

  -- Stored under one mode and address, read under any mode and address: the updated table is read, whatever table that is.
  pub store-then-load : (t' : ℕ → ℕ → ℕ) → Updated 8 m g mask f (table (cell mem)) t' → (m' g' : ℕ) → m' < 256 → g' < 256
      → item (read_bit (cell (stored mem m g mask f)) m' g') ≡ item (λ p. t' (line_word 8 m' g' p) (line_bit 8 m' g' p))
  store-then-load t' u m' g' hm' hg' =
      load-reads (stored mem m g mask f) m' g' hm' hg'
      ∙ pack-ext _ _ 32
      (λ p hp.
      updated-unique 8 m g mask f (table (cell mem)) (table (cell (stored mem m g mask f))) t' hm hg store-updates-table u
      (line_word 8 m' g' p) (line_bit 8 m' g' p) (line_word-lt 8 m' g' p hm' hg' hp) (line_bit-lt 8 m' g' p hm' hg' hp))

  -- A line reads back what it stored, or what it met before where it is masked.
  pub reads-back : (p : ℕ) → p < 256 → read_bit (cell (stored mem m g mask f)) m g p ≡ cond (eqb (mask p) 1) (f p) (read_bit (cell mem) m g p)
  reads-back p hp =
      read-line 8 m g p hm hg hp (cell (stored mem m g mask f))
      ∙ store-updates-table.lines p hp
      ∙ ap (cond (eqb (mask p) 1) (f p)) (sym (read-line 8 m g p hm hg hp (cell mem)))

-- Distinct lines point to distinct bits.
pub distinct-lines : (m g p q : ℕ) → m < 256 → g < 256 → p < 256 → q < 256
    → line_word 8 m g p ≡ line_word 8 m g q → line_bit 8 m g p ≡ line_bit 8 m g q → p ≡ q
distinct-lines = line-inj 8
