-- `wording::head`: the name stands before the table's last, and what its kind goes on with.
use Rattle.std.proofs.Common.{◌≡◌, ◌<◌, arith}
use Rattle.std.proofs.lemmas.Grind.{common_steps}
use borrow.Author.Tests.{lt-ltb}
use Rattle.spelling.specs.Tables.{heads}
use Rattle.bits.specs.Search.{index_of}
use Rattle.spelling.proofs.FindLaws.{index_of_found}
use Rattle.lines.specs.Worded.{head_word}
use Rattle.lines.proofs.wording.head.Goals as goal

pub returns-in-Some : goal.returns-in-Some
unfolding head_word
returns-in-Some c =
    let e : index_of c.args.w heads ≡ c.in-Some.k = grind (arith, common_steps, index_of_found) in
    let h : c.in-Some.k < 7 = grind (arith, common_steps) in
    simp (e, lt-ltb _ _ h, c.after_head.ensures, c.of_kind-in-Some.ensures, c.line-in-Some.ensures)
