-- Laws of what a line makes: how long its list and its items are, and what holds where neither 75 nor 77 is given. Assumes nothing.
use mathlib.Core.Path.{◌≡◌, refl, sym, ap, subst, ◌∙◌}
use mathlib.Core.Bool.{Bool, true, false, cond, not, ◌&&◌}
use mathlib.Core.List.{List}
use Prim.Native.Nat.{ℕ, ◌+◌, ◌-◌, ◌*◌, ◌/◌, ◌%◌, ◌<◌, ◌≤◌}
use native.Mathlib.Omega.{arith}
use lib.ListN.{length}
use lib.Dec.{eqb, ltb}
use borrow.Author.Tests.{ltb-true}
use Rattle.bits.proofs.Rows.{taken}
use Rattle.registers.specs.declared.Modes.{Modes}
use Rattle.spelling.specs.Words.{no_number, digit, number}
use Rattle.judge.specs.declared.Instruction.{Instruction}
use Rattle.builders.specs.Lists.{encoded}
use Rattle.builders.proofs.ListLaws.{sum-length, difference-length, search-length, greatest-length, number-length}
use Rattle.assembly.specs.declared.Act as lines
use Rattle.assembly.specs.declared.Act.TheVariants as act
use Rattle.assembly.specs.Act.{Act, Refused, One, Sum, Search, Greatest}
use Rattle.assembly.specs.Steps.{made}
use Rattle.assembly.specs.Words.{word_from}
use Rattle.assembly.specs.Fields.{Named}
use Rattle.assembly.specs.Acts.{number_of, fields_list, list_of, items_of, over_by, limited, searches, ordered}
use Rattle.assembly.specs.Statements.{line_by, line_act}

-- what the program's line makes is no refusal
pub made-stands : (act : lines.Act) → number_of (made act) ≡ 0
made-stands act.Nothing = refl
made-stands (act.Field name span) = refl
made-stands (act.Limit n) = refl
made-stands (act.One i) = refl
made-stands (act.Sum d a b s) = refl
made-stands (act.Search l a v) = refl
made-stands (act.Greatest a) = refl

-- the list of a sum or of a difference
pub fields-length : (d : Bool) (a b s n : ℕ) → length (fields_list d a b s n) ≡ 8 * (cond d 2 1 + 5 * n)
fields-length true a b s n = difference-length a b s n
fields-length false a b s n = sum-length a b s n

module _ {act : Act} where
  pub one-sized : {i : Instruction} → act ≡ One i → length (list_of act) ≡ 8
  unfolding encoded
  one-sized e = ap (λ (x : Act). length (list_of x)) e

  pub sum-sized : {d : Bool} {a b s n : ℕ} → act ≡ Sum d a b s n → length (list_of act) ≡ 8 * (cond d 2 1 + 5 * n)
  sum-sized {d} {a} {b} {s} {n} e = ap (λ (x : Act). length (list_of x)) e ∙ fields-length d a b s n

  pub search-sized : {l : Bool} {a n v : ℕ} → act ≡ Search l a n v → length (list_of act) ≡ 8 * (2 + 3 * n)
  search-sized {l} {a} {n} {v} e = ap (λ (x : Act). length (list_of x)) e ∙ search-length l a n

  pub items-sized : {l : Bool} {a n v : ℕ} → act ≡ Search l a n v → length (items_of act) ≡ 32 * n
  items-sized {l} {a} {n} {v} e = ap (λ (x : Act). length (items_of x)) e ∙ number-length v n

  pub greatest-sized : {a n : ℕ} → act ≡ Greatest a n → length (list_of act) ≡ 8 * (1 + 11 * n)
  greatest-sized {a} {n} e = ap (λ (x : Act). length (list_of x)) e ∙ greatest-length a n

-- a word's number is small, also where it is none
digit-most : (c : ℕ) → digit c ≤ 999
unfolding digit
digit-most c = go (ltb c 48) (ltb c 58) refl
  where
    go : (x y : Bool) → ltb c 58 ≡ y → cond x no_number (cond y (c - 48) no_number) ≤ 999
    go true y e = omega arith
    go false true e = omega (arith, ltb-true c 58 e)
    go false false e = omega arith

pub number-most : (w : ℕ) → number w ≤ 110889
unfolding number
number-most w =
    taken (λ (n : ℕ). n ≤ 110889) _ _ (ltb w 256) (omega (arith, digit-most w))
    (taken (λ (n : ℕ). n ≤ 110889) _ _ (ltb w 65536) (omega (arith, digit-most (w / 256), digit-most (w % 256)))
    (taken (λ (n : ℕ). n ≤ 110889) _ _ (ltb w 16777216) (omega (arith, digit-most (w / 65536), digit-most (w / 256 % 256), digit-most (w % 256)))
    (omega arith)))

-- ---- 75 and 77

-- where nothing is taken from outside, no line is refused for it
pub ordered-first : (start : ℕ) (act : Act) → ordered false start act ≡ act
unfolding ordered
ordered-first start act = go (searches act)
  where
    go : (b : Bool) → cond (b && false) (Refused 77 (start + 1)) act ≡ act
    go true = refl
    go false = refl

-- What a line makes that is not refused: what its words say; and neither refusal holds of it.
pub record Passed (t : Named) (limit : ℕ) (m : Modes) (taken : Bool) (line : List ℕ) : Type 0 where
  pub act : line_act t limit m taken line ≡ line_by t line (word_from line 0)
  pub low : (not (eqb limit 0) && over_by limit m (line_by t line (word_from line 0))) ≡ false
  pub order : (searches (line_by t line (word_from line 0)) && taken) ≡ false

off : (b : Bool) (n k : ℕ) (act : Act) → 0 < n → number_of (cond b (Refused n k) act) ≡ 0 → b ≡ false
off true n k act h z = absurd (omega (arith, h, z))
off false n k act h z = refl

pub line-passed : (t : Named) (limit : ℕ) (m : Modes) (taken : Bool) (line : List ℕ) → number_of (line_act t limit m taken line) ≡ 0 → Passed t limit m taken line
unfolding line_act limited ordered
line-passed t limit m taken line z = record { act = second ∙ first; low = low; order = subst (λ (x : Act). (searches x && taken) ≡ false) first order }
  where
    start : ℕ
    start = (word_from line 0).start + 1

    act : Act
    act = line_by t line (word_from line 0)

    by-limit : Act
    by-limit = cond (not (eqb limit 0) && over_by limit m act) (Refused 75 start) act

    order : (searches by-limit && taken) ≡ false
    order = off (searches by-limit && taken) 77 start by-limit (omega arith) z

    second : cond (searches by-limit && taken) (Refused 77 start) by-limit ≡ by-limit
    second = ap (λ (b : Bool). cond b (Refused 77 start) by-limit) order

    low : (not (eqb limit 0) && over_by limit m act) ≡ false
    low = off (not (eqb limit 0) && over_by limit m act) 75 start act (omega arith) (sym (ap number_of second) ∙ z)

    first : by-limit ≡ act
    first = ap (λ (b : Bool). cond b (Refused 75 start) act) low
