-- `builders::searches::search_list`: a refusal, or the whole list and its items; `search-sound` says what has no number. Assumes nothing.
use mathlib.Core.Path.{refl, sym, ◌∙◌}
use lib.ListN.{length}
use Rattle.builders.specs.Lists.{encoded}
use Rattle.builders.specs.Searches.{is_less, search_list, number_items, search_fault, search_built}
use Rattle.builders.proofs.ListLaws.{search-length, number-length}
use Rattle.builders.proofs.TwoLaws.{two-err, two-done}
use Rattle.builders.proofs.SearchRefusals.{search-sound}
use Rattle.builders.proofs.searches.search_list.Goals as goal

pub returns-in_err-search_fault : goal.returns-in_err-search_fault
unfolding search_built
returns-in_err-search_fault c =
    let a = c.args in
    two-err (search_fault a.start a.n a.number (length a.list.now) (length a.items.now))
    (encoded (search_list (is_less a.search) a.start a.n)) (number_items a.number a.n) a.list.now a.items.now
    _ _ c.from_residual.ensures.1 c.in_err-search_fault.ensures

pub put_list-requires : goal.put_list-requires
put_list-requires c =
    let s = search-sound c.args.start c.args.n c.args.number _ _ 0 c.in_ok-search_fault.ensures refl in
    (s.0, s.2)

pub put_number-requires : goal.put_number-requires
put_number-requires c =
    let s = search-sound c.args.start c.args.n c.args.number _ _ 0 c.in_ok-search_fault.ensures refl in
    (s.0.width, s.3)

pub returns : goal.returns
unfolding search_built
returns c =
    let a = c.args in
    two-done (search_fault a.start a.n a.number (length a.list.now) (length a.items.now))
    (encoded (search_list (is_less a.search) a.start a.n)) (number_items a.number a.n) a.list.now a.items.now
    0 c.in_ok-search_fault.ensures refl
    _ _ _ _ (c.search_sizes.ensures.0 ∙ sym (search-length (is_less a.search) a.start a.n))
    (c.search_sizes.ensures.1 ∙ sym (number-length a.number a.n))
    c.put_list.ensures c.put_number.ensures
