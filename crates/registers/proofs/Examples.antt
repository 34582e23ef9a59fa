-- The resolver's items where nothing responds, where station 0 alone does and where all do, by computation. Assumes nothing.
use mathlib.Core.Path.{◌≡◌, refl}
use mathlib.Core.List.{◌∷◌, replicate}
use Rattle.bits.specs.Bits.{bit_of}
use Rattle.bits.specs.Search.{first, count}
use Rattle.registers.specs.Resolver.{smallest, responder_count, resolved}

pub none-responds : resolved (bit_of (replicate 32 0)) ≡ 0 ∷ 0 ∷ 1 ∷ 0 ∷ 0 ∷ replicate 27 0
unfolding resolved smallest responder_count first count bit_of
none-responds = refl

pub zero-responds : resolved (bit_of (1 ∷ replicate 31 0)) ≡ 1 ∷ 0 ∷ 0 ∷ 1 ∷ 0 ∷ replicate 27 0
unfolding resolved smallest responder_count first count bit_of
zero-responds = refl

pub all-respond : resolved (bit_of (replicate 32 255)) ≡ 1 ∷ 0 ∷ 0 ∷ 0 ∷ 1 ∷ replicate 27 0
unfolding resolved smallest responder_count first count bit_of
all-respond = refl
