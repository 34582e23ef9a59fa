-- The examples of specs/Examples.antt: the crates' own Examples compute the starred ones, those of the resolver, of the byte and of the mode registers; the office's of the mask is an instance of `masked-slice`. Assumes nothing.
use mathlib.Core.Path.{◌≡◌, refl, ap, ap₂, ◌∙◌}
use mathlib.Core.Bool.{Bool, cond, ◌&&◌}
use mathlib.Core.List.{List}
use Prim.Native.Nat.{ℕ, ◌+◌, ◌-◌, ◌*◌, ◌/◌, ◌%◌, ◌<◌}
use native.Mathlib.Decide.{ℕ_discrete}
use native.Mathlib.Omega.{arith}
use borrow.Author.Tests.{eq-eqb, ne_eqb}
use lib.Dec.{T, eqb, eqb→eq}
use lib.ListN.{take, drop, replicate}
use Rattle.bits.specs.Bits.{bit_of, flipped}
use Rattle.bits.proofs.Tests.{all, all-at}
use Rattle.bits.proofs.Xor.{xor-mirror}
use Rattle.memory.specs.Table.{table}
use Rattle.memory.specs.Memory.{cell}
use Rattle.memory.proofs.Examples.{mode-seven, mode-zero, mode-all}
use Rattle.network.proofs.Examples.{passed-48, one-mod-8, eight-mod-256, back-31, half-is-flip, refused-136, refused-1, refused-159}
use Rattle.registers.proofs.Examples.{none-responds, zero-responds, all-respond}
use Rattle.judge.specs.declared.Instruction.{Instruction}
use Rattle.judge.specs.Modes.{mode_of}
use Rattle.judge.proofs.Examples.{store-shifts, resolve-moves, group-of-512, not-below-p, mode-unused, nobody-set, two-modes, set_first, set-later}
use Rattle.module.specs.Act.{State, part_at, held, held_item, source_item, acted}
use Rattle.builders.proofs.Examples.{one_bit, the-fourth, stands, overlaps, reaches, goes-beyond}
use Rattle.fields.proofs.LineLaws.{masked-slice}
use Rattle.fields.proofs.SumRuns.{sum-built, difference-built, sum-listed}
use Rattle.report.specs.Report.{printed}
use Rattle.report.proofs.Examples.{printed-example, printed-byte}
use Rattle.promises.proofs.DemandThree.{demand-three}
use Rattle.promises.specs.Examples.{Starred, Mirrors, EverySecond, SaysNone, NamesByte, AsksMode}

pub starred : Starred
starred =
    record {
      mode_seven = mode-seven;
      mode_zero = mode-zero;
      mode_all = mode-all;
      forty_eight = passed-48;
      one_mod8 = one-mod-8;
      eight_mod256 = eight-mod-256;
      two_passes = back-31;
      half_is_flip = half-is-flip;
      no_shift = λ l f. (refused-136 l f, refused-1 l f);
      adds = λ a b s buffer buffer' lent given w word ea eb.
          let d = (demand-three a b s 8 buffer buffer' lent given).sum in
          (d.field w word ∙ ap₂ (λ (x y : ℕ). (x + y) % 256) ea eb, d.carry w word ∙ ap₂ (λ (x y : ℕ). (x + y) / 256) ea eb);
      subtracts = λ a b s buffer buffer' lent given w word ea eb.
          let d = (demand-three a b s 8 buffer buffer' lent given).difference in
          (d.field w word ∙ ap₂ (λ (x y : ℕ). (x + (256 - y)) % 256) ea eb, d.carry w word ∙ ap₂ (λ (x y : ℕ). (x + (256 - y)) / 256) ea eb);
      six_instructions = sum-built 0 1 2 1 one_bit;
      the_fourth = λ buffer room. ap (λ (l : List ℕ). take 8 (drop (8 * 3) l)) (sum-listed 0 1 2 1 one_bit buffer room) ∙ the-fourth;
      stands_apart = λ buffer. (sum-built 0 16 4 4 stands buffer, difference-built 0 16 4 4 stands buffer);
      overlapping = overlaps;
      last_field = λ buffer. (sum-built 192 192 192 64 reaches buffer, difference-built 192 192 192 64 reaches buffer);
      past_the_word = goes-beyond;
    }

-- ---- every second station, mirrored

-- 85 in every byte is a 1 at the even numbers: a test at each of the 256 stations
second : ℕ → Bool
second w = eqb (bit_of (replicate 32 85) w) (1 - w % 2)

seconds : T (all 256 second)
unfolding second bit_of
seconds = tt

module _ (i : Instruction) (items : List ℕ) (s : State) (m : Mirrors i s) where
  across : ℕ → ℕ
  across w = bit_of s.regs.y (255 - w)

  from-y : source_item i s.mem items s.regs s.taken ≡ s.regs.y
  unfolding source_item held_item
  from-y = ap (λ (n : ℕ). cond (eqb n 4) (part_at items s.taken) (held n (mode_of s.regs.modes i) i.addr s.mem s.regs)) m.from_y

  marked : (w : ℕ) → w < 256 → bit_of s.regs.m w ≡ 1 - w % 2
  unfolding second
  marked w hw = ap (λ (x : List ℕ). bit_of x w) m.every_second ∙ eqb→eq _ _ (all-at 256 second seconds w hw)

  mirrored : (w : ℕ) → w < 256 → flipped (source_item i s.mem items s.regs s.taken) i.flip w ≡ across w
  unfolding across
  mirrored w hw = ap₂ (λ (x : List ℕ) (f : ℕ). flipped x f w) from-y m.mirrored ∙ ap (bit_of s.regs.y) (xor-mirror w hw)

  station : (w b : ℕ) → w < 256 → b < 256
      → table (cell (acted i items s).mem) w b ≡ cond (eqb (1 - w % 2) 1 && eqb b i.addr) (across w) (table (cell s.mem) w b)
  station w b hw hb =
      masked-slice i items s m.masked m.accepted m.slice m.bit w b hw hb
      ∙ ap₂ (λ (x y : ℕ). cond (eqb x 1 && eqb b i.addr) y (table (cell s.mem) w b)) (marked w hw) (mirrored w hw)

  written : (w : ℕ) → w < 256 → w % 2 ≡ 0 → table (cell (acted i items s).mem) w i.addr ≡ across w
  written w hw e =
      station w i.addr hw m.bit
      ∙ ap₂ (λ (x : ℕ) (t : Bool). cond (eqb (1 - x) 1 && t) (across w) (table (cell s.mem) w i.addr)) e (eq-eqb i.addr i.addr refl)

  stays : (w b : ℕ) → w < 256 → b < 256 → (w % 2 ≡ 0 → b ≡ i.addr → ⊥) → table (cell (acted i items s).mem) w b ≡ table (cell s.mem) w b
  stays w b hw hb u = station w b hw hb ∙ go (ℕ_discrete (w % 2) 0) (ℕ_discrete b i.addr)
    where
      go : Dec (w % 2 ≡ 0) → Dec (b ≡ i.addr) → cond (eqb (1 - w % 2) 1 && eqb b i.addr) (across w) (table (cell s.mem) w b) ≡ table (cell s.mem) w b
      go (yes e) (yes q) = absurd (u e q)
      go (yes e) (no q) =
          ap₂ (λ (x : ℕ) (t : Bool). cond (eqb (1 - x) 1 && t) (across w) (table (cell s.mem) w b)) e (ne_eqb b i.addr q)
      go (no v) d =
          let odd : w % 2 ≡ 1 = omega arith in
          ap (λ (x : ℕ). cond (eqb (1 - x) 1 && eqb b i.addr) (across w) (table (cell s.mem) w b)) odd

pub every-second : EverySecond
unfolding across
every-second = record { written = written; stays = stays }

-- ---- the resolver says none

pub says_none : SaysNone
says_none = record { nothing = none-responds; station_zero = zero-responds; printed_item = ap (printed 114 0 0 0 2 0 1) all-respond ∙ printed-example }

-- ---- the byte

pub names-byte : NamesByte
names-byte =
    record {
      store_shifts = store-shifts;
      resolve_moves = resolve-moves;
      group_of512 = group-of-512;
      pass_of512 = refused-159;
      not_below_p = not-below-p;
      mode_unused = mode-unused;
      printed_byte = printed-byte;
    }

-- ---- the mode registers

pub asks-mode : AsksMode
asks-mode = record { nobody_set = nobody-set; two_modes = two-modes; set_first = set_first; set_later = set-later }
