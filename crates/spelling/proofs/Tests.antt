-- Tests that antt computes, one number after the other, and what they show of each number below a bound. Assumes nothing.
use mathlib.Core.Path.{◌≡◌}
use mathlib.Core.Bool.{Bool, true}
use mathlib.Core.List.{List}
use Prim.Native.Nat.{ℕ, ◌<◌}
use lib.Dec.{T, eqb}
use lib.Ieee.Bits.{is_true}
use lib.ListN.{get_or}
use borrow.Author.Tests.{eqb-true}
use Rattle.bits.proofs.Tests.{all, all-at}
use Rattle.spelling.specs.Tables.{choices, functions, powers}
use Rattle.bits.specs.Search.{index_of}
use Rattle.spelling.specs.Words.{decimal, number, digit, hex_digit, hex_pair, hex_value, pair_value, extended, visible, spelled_in, spelled, goods, extended_by, plain}

-- what the test f, computed at every number below n, says at each
pub below : (n : ℕ) (f : ℕ → Bool) → T (all n f) → (k : ℕ) → k < n → f k ≡ true
below n f t k h = is_true (f k) (all-at n f t k h)

-- ---- where the names stand

pub found : (n : ℕ) (t : List ℕ) → T (all n (λ k. eqb (index_of (get_or t k 0) t) k)) → (k : ℕ) → k < n → index_of (get_or t k 0) t ≡ k
found n t e k h = eqb-true (index_of (get_or t k 0) t) k (below n (λ k. eqb (index_of (get_or t k 0) t) k) e k h)

pub choice-found : (k : ℕ) → k < 5 → index_of (get_or choices k 0) choices ≡ k
unfolding index_of
choice-found = found 5 choices tt

pub function-found : (k : ℕ) → k < 16 → index_of (get_or functions k 0) functions ≡ k
unfolding index_of
function-found = found 16 functions tt

pub power-found : (k : ℕ) → k < 9 → index_of (get_or powers k 0) powers ≡ k
unfolding index_of
power-found = found 9 powers tt

-- ---- numbers

pub number-decimal : (n : ℕ) → n < 256 → number (decimal n) ≡ n
unfolding number decimal digit
number-decimal n h = eqb-true (number (decimal n)) n (below 256 (λ k. eqb (number (decimal k)) k) tt n h)

pub pair-hex : (n : ℕ) → n < 256 → pair_value (hex_pair n) ≡ n
unfolding pair_value hex_pair hex_value hex_digit
pair-hex n h = eqb-true (pair_value (hex_pair n)) n (below 256 (λ k. eqb (pair_value (hex_pair k)) k) tt n h)

-- ---- words that read back as themselves

pub decimal-plain : (n : ℕ) → n < 257 → plain (decimal n) ≡ true
unfolding plain decimal extended visible spelled_in spelled goods extended_by
decimal-plain = below 257 (λ k. plain (decimal k)) tt

pub hex-plain : (n : ℕ) → n < 256 → plain (hex_pair n) ≡ true
unfolding plain hex_pair hex_digit extended visible spelled_in spelled goods extended_by
hex-plain = below 256 (λ k. plain (hex_pair k)) tt

pub choice-plain : (k : ℕ) → k < 5 → plain (get_or choices k 0) ≡ true
unfolding plain extended visible spelled_in spelled goods extended_by
choice-plain = below 5 (λ k. plain (get_or choices k 0)) tt

pub function-plain : (k : ℕ) → k < 16 → plain (get_or functions k 0) ≡ true
unfolding plain extended visible spelled_in spelled goods extended_by
function-plain = below 16 (λ k. plain (get_or functions k 0)) tt

pub power-plain : (k : ℕ) → k < 9 → plain (get_or powers k 0) ≡ true
unfolding plain extended visible spelled_in spelled goods extended_by
power-plain = below 9 (λ k. plain (get_or powers k 0)) tt
