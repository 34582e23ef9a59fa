-- `print_line`: the line, which says nothing of an out buffer.
use mathlib.Core.Path.{refl, ap, ◌∙◌}
use mathlib.Core.List.{List, [], ◌++◌}
use Prim.Native.Nat.{ℕ}
use native.Mathlib.Omega.{arith}
use lib.ListN.{length, drop}
use Rattle.report.specs.Report.{printed}
use Rattle.session.proofs.SessionLaws.{line-alone}
use Rattle.session.proofs.print_line.Goals as goal

pub returns : goal.returns
returns c =
    let a = c.args in
    let p = c.report-n in
    let number = c.from.ensures ∙ c.number.ensures in
    let e = line-alone a.letter c.from.result a.a.place _ ∙ ap (λ (n : ℕ). printed a.letter n a.a.place 0 0 0 0 []) number in
    record {
      room = p.ensures.room;
      count = p.ensures.count ∙ ap length e;
      printed = p.ensures.text ∙ ap (λ (l : List ℕ). l ++ drop p.result a.text.now) e;
      written = refl;
      most = omega arith;
    }
