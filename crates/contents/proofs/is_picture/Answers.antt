-- `is_picture`: a number that no kind has is none of a picture.
use mathlib.Core.Path.{sym}
use Rattle.std.proofs.Common.{subst}
use Rattle.contents.specs.Kinds.{KindOf}
use Rattle.contents.proofs.FileLaws.{picture_none}
use Rattle.contents.proofs.is_picture.Goals as goal

pub returns-in_default-2 : goal.returns-in_default-2
returns-in_default-2 c = sym (picture_none _ (subst (KindOf c.args.kind) c.in_default.is c.try_from.ensures).1)
