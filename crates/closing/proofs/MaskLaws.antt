-- Laws of the items of closing and spreading: one more at one line of an item, a mask on the way, the words from a number on, and the items in their order. Assumes nothing.
use mathlib.Core.Path.{◌≡◌, refl, sym, ap, ap₂, subst, ◌∙◌}
use mathlib.Core.Logic.{◌≢◌}
use mathlib.Core.Bool.{Bool, true, false, cond, ◌&&◌}
use mathlib.Core.List.{List}
use Prim.Native.Nat.{ℕ, zero, suc, ◌+◌, ◌-◌, ◌*◌, ◌/◌, ◌%◌, ◌^◌, ◌<◌, ◌≤◌}
use native.Mathlib.Nat.{add-zero, zero-add}
use native.Mathlib.Numerals.{add-one}
use native.Mathlib.Decide.{dec_lt, ℕ_discrete}
use native.Mathlib.Omega.{arith}
use lib.Dec.{eqb, ltb}
use lib.ListN.{length, get_or, take, drop, set, length-set}
use lib.Seq.{get_or-set_same, get_or-set_other}
use borrow.Author.Tests.{lt-ltb, le-ltb, eq-eqb}
use Rattle.bits.specs.Bits.{digit, digits_of, byte_of, item}
use Rattle.bits.specs.Steps.{put_at}
use Rattle.bits.specs.Search.{count}
use Rattle.bits.proofs.Binary.{Bit, off, on, cond-bit}
use Rattle.bits.proofs.Search.{count-more, count-le}
use Rattle.bits.proofs.Digits.{digits_of-ext}
use Rattle.bits.proofs.Items.{length-listed, get_d-listed, listed-is, byte_of-lt, pack-ext}
use Rattle.bits.proofs.Puts.{put_front}
use Rattle.builders.specs.Lists.{items_of}
use Rattle.closing.specs.Closing.{marked, distance, place_at, moves, arrivals, beyond_marks, closing_item, spreading_item}
use Rattle.builders.proofs.ListLaws.{items_at}
use Rattle.builders.proofs.PutLaws.{items_more}
use Rattle.closing.proofs.Ranks.{arrives, arrives-not, landed-bit}

-- ---- one more at one line

-- g has one more than f at q, and the same at every other number
pub record OneMore (f g : ℕ → ℕ) (q : ℕ) : Type 0 where
  pub more : g q ≡ f q + 1
  pub same : (p : ℕ) → p ≢ q → g p ≡ f p

digits-add : (f g : ℕ → ℕ) (s : ℕ) → OneMore f g s → (n : ℕ) → s < n → digits_of g n ≡ digits_of f n + 2 ^ s
unfolding digits_of
digits-add f g s o zero h = absurd (omega arith)
digits-add f g s o (suc n) h = go (ℕ_discrete s n) (digits-add f g s o n)
  where
    go : Dec (s ≡ n) → (s < n → digits_of g n ≡ digits_of f n + 2 ^ s) → g n * 2 ^ n + digits_of g n ≡ f n * 2 ^ n + digits_of f n + 2 ^ s
    go (yes e) ih =
        let l : digits_of g n ≡ digits_of f n = digits_of-ext g f n (λ j k. o.same j (λ q. omega arith)) in
        let m : g n * 2 ^ n ≡ (f n + 1) * 2 ^ n = ap (λ (x : ℕ). x * 2 ^ n) (ap g (sym e) ∙ o.more ∙ ap (λ (x : ℕ). f x + 1) e) in
        let p : 2 ^ s ≡ 2 ^ n = ap (λ (x : ℕ). 2 ^ x) e in
        omega (arith, l, m, p)
    go (no u) ih =
        let m : g n * 2 ^ n ≡ f n * 2 ^ n = ap (λ (x : ℕ). x * 2 ^ n) (o.same n (λ q. omega arith)) in
        omega (arith, m, ih (omega arith))

-- one more at line q of an item, as code puts it in
abbrev pub added : List ℕ → ℕ → List ℕ
added l q = set l (q / 8) (get_or l (q / 8) 0 + 2 ^ (q % 8))

module _ (f g : ℕ → ℕ) (q : ℕ) (h : q < 256) (o : OneMore f g q) where
  byte-add : byte_of g (q / 8) ≡ byte_of f (q / 8) + 2 ^ (q % 8)
  unfolding byte_of
  byte-add = digits-add (λ j. f (8 * (q / 8) + j)) (λ j. g (8 * (q / 8) + j)) (q % 8) within 8 (omega arith)
    where
      within : OneMore (λ j. f (8 * (q / 8) + j)) (λ j. g (8 * (q / 8) + j)) (q % 8)
      within =
          let e : 8 * (q / 8) + q % 8 ≡ q = omega arith in
          record {
            more = ap g e ∙ o.more ∙ ap (λ (x : ℕ). f x + 1) (sym e);
            same = λ j u. o.same (8 * (q / 8) + j) (λ z. u (omega arith));
          }

  byte-same : (i : ℕ) → i ≢ q / 8 → byte_of g i ≡ byte_of f i
  unfolding byte_of
  byte-same i u = digits_of-ext (λ j. g (8 * i + j)) (λ j. f (8 * i + j)) 8 (λ j l. o.same (8 * i + j) (λ z. u (omega arith)))

  module _ (l : List ℕ) (a : l ≡ item f) where
    at : (i : ℕ) → i < 32 → get_or l i 0 ≡ byte_of f i
    at i k = ap (λ (z : List ℕ). get_or z i 0) a ∙ get_d-listed (byte_of f) 32 i k

    size : length l ≡ 32
    size = ap length a ∙ length-listed (byte_of f) 32

    pub item-add : added l q ≡ item g
    item-add =
        listed-is (byte_of g) 32 (added l q) (length-set l (q / 8) (get_or l (q / 8) 0 + 2 ^ (q % 8)) ∙ size)
        (λ i k. go i k (ℕ_discrete i (q / 8)))
      where
        go : (i : ℕ) → i < 32 → Dec (i ≡ q / 8) → get_or (added l q) i 0 ≡ byte_of g i
        go i k (yes e) =
            ap (λ (j : ℕ). get_or (added l q) j 0) e
            ∙ get_or-set_same l (q / 8) (get_or l (q / 8) 0 + 2 ^ (q % 8)) 0 (omega (arith, size))
            ∙ ap (λ (x : ℕ). x + 2 ^ (q % 8)) (at (q / 8) (omega arith))
            ∙ sym byte-add
            ∙ ap (byte_of g) (sym e)
        go i k (no u) = get_or-set_other l (q / 8) i (get_or l (q / 8) 0 + 2 ^ (q % 8)) 0 u ∙ at i k ∙ sym (byte-same i u)

    -- there is room for it where g's are bits
    pub add-fits : ((p : ℕ) → Bit (g p)) → get_or l (q / 8) 0 + 2 ^ (q % 8) < 256
    add-fits bits = omega (arith, at (q / 8) (omega arith), byte-add, byte_of-lt g bits (q / 8))

-- ---- a mask on the way

-- one marked word more, or one that is not
pub rank-more : (m : ℕ → Bool) (w k : ℕ) (b : Bool) → k ≡ count m w → m w ≡ b → k + cond b 1 0 ≡ count m (w + 1)
rank-more m w k b e x = ap₂ (λ (n : ℕ) (b : Bool). n + cond b 1 0) e (sym x) ∙ sym (count-more m w)

module _ (m : ℕ → Bool) (t u : ℕ) where
  -- how many values have arrived at word p, of those of the words below w
  abbrev pub landed : ℕ → ℕ → ℕ
  landed w p = count (arrives m t u p) w

  landed-by : (w p : ℕ) (b : Bool) → arrives m t u p w ≡ b → landed (w + 1) p ≡ landed w p + cond b 1 0
  landed-by w p b e = sym (rank-more (arrives m t u p) w (landed w p) b refl e)

  landed-more : (w : ℕ) → moves m t w ≡ true → OneMore (landed w) (landed (w + 1)) (place_at m u w)
  landed-more w e =
      let q = place_at m u w in
      record {
        more = landed-by w q true (ap₂ (λ (a b : Bool). a && b) e (eq-eqb q q refl));
        same = λ p n. landed-by w p false (arrives-not m t u p w (λ x z. n (sym z))) ∙ add-zero (landed w p);
      }

  landed-same : (w : ℕ) → moves m t w ≡ false → (p : ℕ) → landed (w + 1) p ≡ landed w p
  landed-same w e p = landed-by w p false (ap (λ (a : Bool). a && eqb (place_at m u w) p) e) ∙ add-zero (landed w p)

-- the words below w are done: k of them are marked, and `out` has the values that have arrived
pub record SoFar (m : ℕ → Bool) (t u w k : ℕ) (out : List ℕ) : Type 0 where
  pub words : w ≤ 256
  pub below : k ≤ w
  pub ranked : k ≡ count m w
  pub filled : out ≡ item (landed m t u w)

module _ {m : ℕ → Bool} {t u w k : ℕ} {out : List ℕ} (s : SoFar m t u w k out) (h : w < 256) where
  -- the tests of the code, in their order: is word w marked, and has its distance the weight?
  moves-by : (a b : Bool) → m w ≡ a → eqb (digit (w - k) t) 1 ≡ b → moves m t w ≡ (a && b)
  unfolding moves distance
  moves-by a b x y = ap₂ (λ (a b : Bool). a && b) x (ap (λ (k : ℕ). eqb (digit (w - k) t) 1) (sym s.ranked) ∙ y)

  -- its value arrives
  module _ (x : m w ≡ true) (y : eqb (digit (w - k) t) 1 ≡ true) (r : ℕ) (z : r ≡ (w - k) % 2 ^ u) where
    place-by : place_at m u w ≡ w - r
    unfolding place_at distance
    place-by = ap (λ (k : ℕ). w - (w - k) % 2 ^ u) (sym s.ranked) ∙ ap (λ (r : ℕ). w - r) (sym z)

    lands : OneMore (landed m t u w) (landed m t u (w + 1)) (w - r)
    lands = subst (OneMore (landed m t u w) (landed m t u (w + 1))) place-by (landed-more m t u w (moves-by true true x y))

    pub mask_fits : get_or out ((w - r) / 8) 0 + 2 ^ ((w - r) % 8) < 256
    mask_fits = add-fits (landed m t u w) (landed m t u (w + 1)) (w - r) (omega arith) lands out s.filled (landed-bit m t u (w + 1))

    pub mask-more : added out (w - r) ≡ item (landed m t u (w + 1))
    mask-more = item-add (landed m t u w) (landed m t u (w + 1)) (w - r) (omega arith) lands out s.filled

  -- it stays, or word w is not marked
  mask-same : moves m t w ≡ false → out ≡ item (landed m t u (w + 1))
  mask-same n = s.filled ∙ pack-ext (landed m t u w) (landed m t u (w + 1)) 32 (λ p l. sym (landed-same m t u w n p))

  pub mask-stays : m w ≡ true → eqb (digit (w - k) t) 1 ≡ false → out ≡ item (landed m t u (w + 1))
  mask-stays x y = mask-same (moves-by true false x y)

  pub mask-unmarked : m w ≡ false → out ≡ item (landed m t u (w + 1))
  mask-unmarked x = mask-same (moves-by false (eqb (digit (w - k) t) 1) x refl)

  -- either way, one word more
  pub so_far : (b : Bool) {k' : ℕ} {out' : List ℕ} → m w ≡ b → k' ≡ k + cond b 1 0 → out' ≡ item (landed m t u (w + 1)) → SoFar m t u (w + 1) k' out'
  so_far b x e o =
      let r = e ∙ rank-more m w k b s.ranked x in
      record { words = omega arith; below = omega (arith, count-le m (w + 1)); ranked = r; filled = o }

-- ---- the words from number a on

-- of those below b
abbrev pub between : ℕ → ℕ → ℕ → ℕ
between a b p = cond (ltb p a) 0 (cond (ltb p b) 1 0)

by_tests : (a b p : ℕ) (x y : Bool) → ltb p a ≡ x → ltb p b ≡ y → between a b p ≡ cond x 0 (cond y 1 0)
by_tests a b p x y e f = ap₂ (λ (x y : Bool). cond x 0 (cond y 1 0)) e f

pub between-bit : (a b p : ℕ) → Bit (between a b p)
between-bit a b p = cond-bit (ltb p a) off (cond-bit (ltb p b) on off)

pub between_more : (a b : ℕ) → a ≤ b → OneMore (between a b) (between a (b + 1)) b
between_more a b h =
    record {
      more =
          by_tests a (b + 1) b false true (le-ltb b a h) (lt-ltb b (b + 1) (omega arith))
          ∙ sym (ap (λ (x : ℕ). x + 1) (by_tests a b b false false (le-ltb b a h) (le-ltb b b (omega arith))));
      same = λ p u. ap (λ (y : Bool). cond (ltb p a) 0 (cond y 1 0)) (below p u (dec_lt p b));
    }
  where
    below : (p : ℕ) → p ≢ b → Dec (p < b) → ltb p (b + 1) ≡ ltb p b
    below p u (yes l) = lt-ltb p (b + 1) (omega arith) ∙ sym (lt-ltb p b l)
    below p u (no n) = le-ltb p (b + 1) (more (ℕ_discrete p b)) ∙ sym (le-ltb p b (omega arith))
      where
        more : Dec (p ≡ b) → b + 1 ≤ p
        more (yes e) = absurd (u e)
        more (no v) = omega arith

-- at first there is none, and at last they are all there
pub between_none : (a : ℕ) → item (λ p. 0) ≡ item (between a a)
between_none a = pack-ext (λ p. 0) (between a a) 32 (λ p h. sym (none p (ltb p a) refl))
  where
    none : (p : ℕ) (x : Bool) → ltb p a ≡ x → between a a p ≡ 0
    none p true e = by_tests a a p true true e e
    none p false e = by_tests a a p false false e e

pub between-all : (a : ℕ) → item (between a 256) ≡ item (λ p. cond (ltb p a) 0 1)
between-all a =
    pack-ext (between a 256) (λ p. cond (ltb p a) 0 1) 32 (λ p h. ap (λ (y : Bool). cond (ltb p a) 0 (cond y 1 0)) (lt-ltb p 256 h))

-- ---- the items in their order

-- of a closing
pub closing-mask : (m : ℕ → Bool) (k : ℕ) → k < 8 → item (arrivals m k (k + 1)) ≡ item (closing_item m k)
closing-mask m k h =
    ap (λ (n : ℕ). item (arrivals m k n)) (add-one k)
    ∙ sym (ap (λ (b : Bool). item (λ p. cond b (arrivals m k (suc k) p) (beyond_marks m p))) (lt-ltb k 8 h))

-- of a spreading: those of the first slice
pub spreading-mask : (marks : List ℕ) (k : ℕ) → k < 8 → item (arrivals (marked marks) (7 - k) (7 - k)) ≡ item (spreading_item marks (suc k))
spreading-mask marks k h =
    let e : k ≡ k % 8 = omega arith in
    ap (λ (r : ℕ). item (arrivals (marked marks) (7 - r) (7 - r))) e

-- each slice behind it has the masks of the one before
again : (marks : List ℕ) (k : ℕ) → spreading_item marks (suc k) ≡ spreading_item marks (suc (k + 8))
again marks k =
    let e : k % 8 ≡ (k + 8) % 8 = omega arith in
    ap (λ (r : ℕ). arrivals (marked marks) (7 - r) (7 - r)) e

spreading-again : (marks : List ℕ) (k : ℕ) → 9 ≤ k → spreading_item marks (k - 8) ≡ spreading_item marks k
spreading-again marks k h =
    let e : k - 8 ≡ suc (k - 9) = omega arith in
    let f : suc (k - 9 + 8) ≡ k = omega arith in
    ap (spreading_item marks) e ∙ again marks (k - 9) ∙ ap (spreading_item marks) f

-- so that it is read back eight items before
spreading-before : (marks : List ℕ) (k : ℕ) (xs l : List ℕ) → 9 ≤ k → l ≡ put_at 0 (items_of (spreading_item marks) k) xs
    → take 32 (drop (32 * (k - 8)) l) ≡ item (spreading_item marks k)
spreading-before marks k xs l h a =
    ap (λ (z : List ℕ). take 32 (drop (32 * (k - 8)) z)) (a ∙ put_front (items_of (spreading_item marks) k) xs)
    ∙ items_at (spreading_item marks) k (k - 8) _ (omega arith)
    ∙ ap item (spreading-again marks k h)

pub spreading-more : (marks : List ℕ) (k : ℕ) (xs l l' : List ℕ) → 9 ≤ k
    → l ≡ put_at 0 (items_of (spreading_item marks) k) xs → l' ≡ put_at (32 * k) (take 32 (drop (32 * (k - 8)) l)) l
    → l' ≡ put_at 0 (items_of (spreading_item marks) (k + 1)) xs
spreading-more marks k xs l l' h a b =
    let g = spreading_item marks in
    items_more g k 0 xs l l' (omega arith) a (b ∙ ap₂ (λ (j : ℕ) (z : List ℕ). put_at (32 * j) z l) (sym (zero-add k)) (spreading-before marks k xs l h a))
