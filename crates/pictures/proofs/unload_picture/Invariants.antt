-- `unload_picture`: each turn puts eight words more of the content into the memory.
use mathlib.Core.Path.{◌≡◌}
use Rattle.contents.specs.File.{content_of}
use Rattle.pictures.proofs.PictureLaws.{with_words}
use Rattle.pictures.proofs.unload_picture.Given as goal

abbrev pub invariant-loop-v : goal.invariant-loop-v
invariant-loop-v l = l.memory ≡ with_words (content_of l.bytes) l.initial.memory l.v
