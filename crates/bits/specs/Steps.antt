-- What loops do on the way. Only contracts of inner functions cite this file: no promise to a user rests on it.
use Rattle.std.specs.Prelude.{◌≡◌, List, ◌++◌, ℕ, zero, suc, ◌+◌, length, get_or, take, drop, set}
use Rattle.std.specs.Int.Bits.{bit_and, bit_xor}

-- The list l after n writes: write k puts v k of what stands at x k there.
unfoldable pub written : (ℕ → ℕ) → (ℕ → ℕ → ℕ) → List ℕ → ℕ → List ℕ
written x v l zero = l
written x v l (suc n) = set (written x v l n) (x n) (v n (get_or (written x v l n) (x n) 0))

-- The list xs with ys from place k on.
unfoldable pub put_at : ℕ → List ℕ → List ℕ → List ℕ
put_at k ys xs = take k xs ++ (ys ++ drop (k + length ys) xs)

-- The buffer xs became xs' as ys was put there from place k on, and e is the place behind it: every other byte is as it was.
pub record Put (k : ℕ) (ys xs : List ℕ) (e : ℕ) (xs' : List ℕ) : Type 0 where
  pub behind : e ≡ k + length ys
  pub left : xs' ≡ put_at k ys xs

-- The number a with b's digits where those of m are 1.
abbrev pub mixed : ℕ → ℕ → ℕ → ℕ
mixed a b m = bit_xor a (bit_and (bit_xor a b) m)
