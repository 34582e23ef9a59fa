-- `statements::target_of`: what is refused of a field of `n` bits is refused here.
use Rattle.std.proofs.lemmas.Result.{err_from_is_err_and}
use Rattle.assembly.proofs.FieldLaws.{target-refused}
use Rattle.assembly.proofs.statements.target_of.Goals as goal

pub returns-in_err-s-clause-refused : goal.returns-in_err-s-clause-refused
returns-in_err-s-clause-refused c =
    let a = c.args in
    let p = err_from_is_err_and c.from_residual.result c.from_residual.ensures.1 in
    rw (p.1, p.2) (target-refused a.fields.now a.a a.b a.n a.w _ c.in_err-s.ensures.refused)
