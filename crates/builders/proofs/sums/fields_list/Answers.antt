-- `builders::sums::fields_list`: a refusal, or the whole list; `sound` says that fields with no number are sound. Assumes nothing.
use mathlib.Core.Path.{refl, sym, ◌∙◌}
use mathlib.Core.List.{◌++◌}
use lib.ListN.{length}
use Rattle.builders.specs.Lists.{encoded}
use Rattle.builders.specs.Sums.{bit_rounds, fields_fault}
use Rattle.builders.proofs.ListLaws.{fields-length}
use Rattle.builders.proofs.OneLaws.{one-done}
use Rattle.builders.proofs.Refusals.{sound}
use Rattle.builders.proofs.sums.fields_list.Goals as goal

pub put_fields-requires : goal.put_fields-requires
put_fields-requires c =
    let f = c.args.f in
    let lead = length c.args.lead.now in
    let h = sound lead f.a f.b f.s f.n _ 0 c.in_ok-fields_fault.ensures refl in
    (h.0, c.requires, h.1)

pub returns : goal.returns
returns c =
    let a = c.args in
    let f = a.f in
    one-done (fields_fault (length a.lead.now) f.a f.b f.s f.n (length a.list.now)) (encoded (a.lead.now ++ bit_rounds a.byte7 f.a f.b f.s f.n)) a.list.now
    0 c.in_ok-fields_fault.ensures refl
    _ _ (c.list_length.ensures ∙ sym (fields-length a.lead.now a.byte7 f.a f.b f.s f.n)) c.put_fields.ensures
