-- Laws of bytes put into a builder's buffer: a part that was copied, one piece after another, one round or one item more. For every builder. Assumes nothing.
use mathlib.Core.Path.{◌≡◌, sym, ap, ◌∙◌}
use mathlib.Core.List.{List, [], ◌∷◌, ◌++◌}
use Prim.Native.Nat.{ℕ, ◌+◌, ◌-◌, ◌*◌, ◌<◌, ◌≤◌}
use native.Mathlib.Numerals.{add-one}
use native.Mathlib.Omega.{arith}
use lib.ListN.{length, get_or, take}
use lib.Seq.{take-suc}
use Rattle.std.proofs.lemmas.List.{length-take-le}
use borrow.Rule.Slice.PartMut.{put_mid}
use Rattle.bits.specs.Bits.{item}
use Rattle.bits.specs.Steps.{put_at}
use Rattle.bits.proofs.Puts.{part-put, put-put}
use Rattle.judge.specs.declared.Instruction.{Instruction}
use Rattle.builders.specs.Lists.{encoded, rounds, items_of}
use Rattle.builders.proofs.ListLaws.{encoded-append, length-encoded, length-items}

-- a part of n bytes that was lent on and came back as those of its source
pub part-copied : (k n : ℕ) (xs ys from : List ℕ) → length from ≡ n → ys ≡ from → put_mid k (k + n - k) xs ys ≡ put_at k from xs
part-copied k n xs ys from h e =
    let size : length from ≡ k + n - k = omega arith in
    part-put k (k + n) xs ys (ap length e ∙ size) ∙ ap (λ (z : List ℕ). put_at k z xs) e

-- bytes behind those that stand there
bytes-more : (k j : ℕ) (p q xs l l' : List ℕ) → k ≤ length xs → j ≡ k + length p
    → l ≡ put_at k p xs → l' ≡ put_at j q l → l' ≡ put_at k (p ++ q) xs
bytes-more k j p q xs l l' h e a b = b ∙ ap (put_at j q) a ∙ put-put k j p q xs h e

-- instructions behind those that stand there
pub put-more : (at j : ℕ) (p q : List Instruction) (xs l l' : List ℕ) → 8 * at ≤ length xs → j ≡ at + length p
    → l ≡ put_at (8 * at) (encoded p) xs → l' ≡ put_at (8 * j) (encoded q) l → l' ≡ put_at (8 * at) (encoded (p ++ q)) xs
put-more at j p q xs l l' h e a b =
    bytes-more (8 * at) (8 * j) (encoded p) (encoded q) xs l l' h (omega (arith, length-encoded p)) a b
    ∙ ap (λ (z : List ℕ). put_at (8 * at) z xs) (sym (encoded-append p q))

-- one round more
pub rounds-more : (g : ℕ → List Instruction) (k at j : ℕ) (xs l l' : List ℕ) → 8 * at ≤ length xs → j ≡ at + length (rounds g k)
    → l ≡ put_at (8 * at) (encoded (rounds g k)) xs → l' ≡ put_at (8 * j) (encoded (g k)) l → l' ≡ put_at (8 * at) (encoded (rounds g (k + 1))) xs
unfolding rounds
rounds-more g k at j xs l l' h e a b =
    put-more at j (rounds g k) (g k) xs l l' h e a b ∙ ap (λ (n : ℕ). put_at (8 * at) (encoded (rounds g n)) xs) (sym (add-one k))

-- from what gives that round
pub round-more : (g : ℕ → List Instruction) (k at j : ℕ) (xs l l' : List ℕ) {r : List Instruction} → 8 * at ≤ length xs → j ≡ at + length (rounds g k)
    → l ≡ put_at (8 * at) (encoded (rounds g k)) xs → r ≡ g k → l' ≡ put_at (8 * j) (encoded r) l → l' ≡ put_at (8 * at) (encoded (rounds g (k + 1))) xs
round-more g k at j xs l l' h e a q b =
    rounds-more g k at j xs l l' h e a (b ∙ ap (λ (r : List Instruction). put_at (8 * j) (encoded r) l) q)

-- one instruction more, of several
pub all-more : (is : List Instruction) (d : Instruction) (k at : ℕ) (xs l l' : List ℕ) → k < length is → 8 * at ≤ length xs
    → l ≡ put_at (8 * at) (encoded (take k is)) xs → l' ≡ put_at (8 * (at + k)) (encoded (get_or is k d ∷ [])) l
    → l' ≡ put_at (8 * at) (encoded (take (k + 1) is)) xs
all-more is d k at xs l l' h e a b =
    put-more at (at + k) (take k is) (get_or is k d ∷ []) xs l l' e (omega (arith, length-take-le k is (omega arith))) a b
    ∙ ap (λ (z : List Instruction). put_at (8 * at) (encoded z) xs) (sym (take-suc is k d h) ∙ ap (λ (n : ℕ). take n is) (sym (add-one k)))

-- one item more, of those from item number `at` on
pub items_more : (g : ℕ → ℕ → ℕ) (k at : ℕ) (xs l l' : List ℕ) → 32 * at ≤ length xs
    → l ≡ put_at (32 * at) (items_of g k) xs → l' ≡ put_at (32 * (at + k)) (item (g k)) l → l' ≡ put_at (32 * at) (items_of g (k + 1)) xs
unfolding rounds
items_more g k at xs l l' h a b =
    bytes-more (32 * at) (32 * (at + k)) (items_of g k) (item (g k)) xs l l' h (omega (arith, length-items g k)) a b
    ∙ ap (λ (n : ℕ). put_at (32 * at) (items_of g n) xs) (sym (add-one k))
