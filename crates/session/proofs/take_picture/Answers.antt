-- `take_picture`: each arm of the match is a law of FileLaws.
use mathlib.Core.Path.{refl, sym, ap, ◌∙◌}
use native.Mathlib.Omega.{arith}
use lib.ListN.{length}
use Rattle.contents.specs.Moved.{moved_of}
use Rattle.contents.specs.File.{refused}
use Rattle.pictures.proofs.PictureLaws.{registers-few}
use Rattle.session.specs.Session.{file_of, kind_taken, picture_judged}
use Rattle.session.proofs.FileLaws.{found-bytes, found-long, picture-unread, picture-refused, picture-taken}
use Rattle.session.proofs.take_picture.Goals as goal

pub returns-then-bytes-gt8704 : goal.returns-then-bytes-gt8704
returns-then-bytes-gt8704 c =
    let a = c.args in
    let told = picture-refused (file_of a.found) (refused 20 0) a.memory.now a.registers.now refl
    (found-long (refused 20 0) 8704 picture_judged c.in-Bytes.is c.if-bytes-gt8704.true) in
    record { answer = told.0; targets = told.1.0; place = told.1.1 }

pub slice_bounds-read_picture-end : goal.slice_bounds-read_picture-end
slice_bounds-read_picture-end c = omega (arith, c.registers_bytes-size.ensures, registers-few c.number-asked.result, ap length c.requires.2)

pub returns-in-Absent : goal.returns-in-Absent
returns-in-Absent c =
    let a = c.args in
    let told = picture-refused (file_of a.found) (refused 20 0) a.memory.now a.registers.now refl (picture-unread c.in-Absent.is) in
    record { answer = told.0; targets = told.1.0; place = told.1.1 }

pub returns-else-bytes-gt8704 : goal.returns-else-bytes-gt8704
returns-else-bytes-gt8704 c =
    let a = c.args in
    let r = c.read_picture in
    let e = found-bytes c.in-Bytes.is in
    let told = picture-taken c.in-Bytes.bytes.now a.memory.now a.registers.now r.new.memory r.new.registers c.number-asked.result c.registers_bytes-size.result (moved_of r.result)
    (c.number-asked.ensures ∙ c.requires.0 ∙ sym (ap kind_taken e)) c.registers_bytes-size.ensures c.requires.2 c.requires.1 r.ensures (file_of a.found) e c.if-bytes-gt8704.false in
    record { answer = told.0; targets = told.1.0; place = told.1.1 }
