-- `put_picture`: each turn lays eight words more of the content; the blocks are made around it.
use mathlib.Core.Path.{◌≡◌}
use Prim.Native.Nat.{◌*◌}
use lib.ListN.{take}
use Rattle.contents.specs.Payloads.{laid}
use Rattle.pictures.specs.Picture.{plain_words}
use Rattle.pictures.proofs.put_picture.Given as goal

abbrev pub invariant-loop-v : goal.invariant-loop-v
invariant-loop-v l = l.out ≡ laid (take (256 * l.v) (plain_words l.memory)) 0 l.initial.out
