-- `keep`: the written picture, by `kept`.
use mathlib.Core.Path.{refl, ◌∙◌}
use native.Mathlib.Omega.{arith}
use Rattle.contents.specs.Moved.{moved_of}
use Rattle.contents.specs.Kinds.{number_of_kind}
use Rattle.session.proofs.SessionLaws.{bytes-given, kept}
use Rattle.session.proofs.keep.Goals as goal

pub returns : goal.returns
returns c =
    let a = c.args in
    let n = c.number-kind in
    let w = c.write_picture in
    let given = c.unwrap_or.ensures ∙ bytes-given w.result in
    let k = kept (number_of_kind a.took) 0 a.memory.now a.registers.now a.after.now w.new.out n.result c.registers_bytes-size.result (moved_of w.result)
    refl c.requires.0 c.requires.1 c.requires.2 c.requires.3 (n.ensures ∙ c.kind_written.ensures) c.registers_bytes-size.ensures w.ensures in
    (omega (arith, k.0, given), given ∙ k.1, k.2)
