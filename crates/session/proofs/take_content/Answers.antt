-- `take_content`: each arm of the match is a law of FileLaws.
use mathlib.Core.Path.{refl, sym, ap, ◌∙◌}
use Prim.Native.Nat.{ℕ}
use Rattle.contents.specs.Content.{content_read}
use Rattle.contents.specs.Moved.{moved_of}
use Rattle.contents.specs.Kinds.{number_of_kind}
use Rattle.contents.specs.File.{done, refused, file_judged}
use Rattle.session.specs.declared.Found.{Found}
use Rattle.session.specs.Session.{file_of, content_answer}
use Rattle.session.proofs.FileLaws.{found-bytes, found-long, content-absent, content-refused, content-taken}
use Rattle.session.proofs.take_content.Goals as goal

pub returns-then-bytes-gt8192 : goal.returns-then-bytes-gt8192
returns-then-bytes-gt8192 c =
    let a = c.args in
    let k = number_of_kind a.kind in
    let told = content-refused k (file_of a.found) (refused 20 0) a.target.now refl (found-long (done 0) 8192 (file_judged k) c.in-Bytes.is c.if-bytes-gt8192.true) in
    record { answer = told.0; target = told.1.0; place = told.1.1 }

pub returns-in-Absent : goal.returns-in-Absent
returns-in-Absent c =
    let a = c.args in
    let told = content-absent (number_of_kind a.kind) (file_of a.found) (done 0) a.target.now refl (sym (ap file_of c.in-Absent.is)) in
    record { answer = told.0; target = told.1.0; place = told.1.1 }

pub returns-in-Failed : goal.returns-in-Failed
returns-in-Failed c =
    let a = c.args in
    let k = number_of_kind a.kind in
    let told = content-refused k (file_of a.found) (refused 20 0) a.target.now refl (sym (ap (λ (f : Found). content_answer k (file_of f)) c.in-Failed.is)) in
    record { answer = told.0; target = told.1.0; place = told.1.1 }

pub returns-else-bytes-gt8192 : goal.returns-else-bytes-gt8192
returns-else-bytes-gt8192 c =
    let a = c.args in
    let r = c.read_content in
    let b = c.in-Bytes.bytes.now in
    let told = content-taken (number_of_kind a.kind) (file_of a.found) b a.target.now r.new.target (moved_of r.result) (found-bytes c.in-Bytes.is) c.requires.0
    c.if-bytes-gt8192.false c.requires.1 (r.ensures ∙ ap (λ (k : ℕ). content_read k b a.target.now) c.number.ensures) in
    record { answer = told.0; target = told.1.0; place = told.1.1 }
