-- `builders::searches::greatest_list`: a refusal, or the whole list; `greatest-sound` says that a field with no number is one. Assumes nothing.
use mathlib.Core.Path.{refl, sym, ◌∙◌}
use lib.ListN.{length}
use Rattle.builders.specs.Lists.{encoded}
use Rattle.builders.specs.Searches.{greatest_list, greatest_fault, greatest_built}
use Rattle.builders.proofs.ListLaws.{greatest-length}
use Rattle.builders.proofs.OneLaws.{one-err, one-done}
use Rattle.builders.proofs.SearchRefusals.{greatest-sound}
use Rattle.builders.proofs.searches.greatest_list.Goals as goal

pub returns-in_err-greatest_fault : goal.returns-in_err-greatest_fault
unfolding greatest_built
returns-in_err-greatest_fault c =
    let a = c.args in
    one-err (greatest_fault a.start a.n (length a.list.now)) (encoded (greatest_list a.start a.n)) a.list.now
    _ _ c.from_residual.ensures.1 c.in_err-greatest_fault.ensures

pub put_greatest-requires : goal.put_greatest-requires
put_greatest-requires c = greatest-sound c.args.start c.args.n _ 0 c.in_ok-greatest_fault.ensures refl

pub returns : goal.returns
unfolding greatest_built
returns c =
    let a = c.args in
    one-done (greatest_fault a.start a.n (length a.list.now)) (encoded (greatest_list a.start a.n)) a.list.now
    0 c.in_ok-greatest_fault.ensures refl
    _ _ (c.greatest_length.ensures ∙ sym (greatest-length a.start a.n)) c.put_greatest.ensures
