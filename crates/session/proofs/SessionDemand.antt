-- What is promised of the program, on a page, in names of specs/: absent files, refusals that write nothing, kind 1 only where no mode register is set, and that the contract has one answer only. Assumes nothing.
use mathlib.Core.Path.{◌≡◌, refl, sym, ap, ◌∙◌}
use mathlib.Core.Bool.{Bool, true, false, cond, ◌||◌}
use mathlib.Core.List.{List, []}
use Prim.Native.Nat.{ℕ}
use native.Mathlib.Omega.{arith}
use lib.Dec.{eqb}
use lib.ListN.{length, take}
use Rattle.registers.specs.Modes.{modes_of, any_set}
use Rattle.contents.specs.File.{done, refused, blocks_of}
use Rattle.contents.specs.Content.{over}
use Rattle.pictures.specs.Picture.{picture_registers, picture_of}
use Rattle.judge.specs.Answers.{Answer}
use Rattle.module.specs.Run.{Left}
use Rattle.report.proofs.ReportLaws.{report-unique}
use Rattle.session.specs.declared.Counts.{Counts}
use Rattle.session.specs.Session.{File, absent, failed, Outcome, content_answer, only_line, kind_written, finished, outcome}
use Rattle.session.specs.Shown.{Shown}
use Rattle.session.proofs.SessionLaws.{after_none, after-done, after-size, front_length}

-- ---- absent, and not to be read

-- "An absent before.pic .. refused with 20", whatever the other files are; so is one that cannot be read
pub absent-picture : (list items : File) → outcome absent list items ≡ only_line 112 (refused 20 0)
unfolding outcome
absent-picture list items = refl

pub failed-picture : (list items : File) → outcome failed list items ≡ only_line 112 (refused 20 0)
unfolding outcome
failed-picture list items = refl

-- "An absent run.lst is the empty list and an absent in.itm means no items": both stand, with no bytes
pub absent-content : (kind : ℕ) → content_answer kind absent ≡ done 0
absent-content kind = refl

-- ---- after.pic

-- a run that is refused writes none
pub refused-run : (took : ℕ) (s : Left (List ℕ) Answer) → (s.answer.number ≡ 0 → ⊥) → (finished took s).after ≡ []
unfolding finished
refused-run took s u = after_none took s.answer.number s.memory s.registers u

-- a run that is done writes the picture of the memory and of the registers that it left, of the kind that was taken or of kind 4 where a mode register is set: 17 blocks
pub done-run : (took : ℕ) (s : Left (List ℕ) Answer) → s.answer.number ≡ 0
    → (let kind = kind_written took s.registers in (finished took s).after ≡ blocks_of kind (picture_of s.memory (take (picture_registers kind) s.registers)))
unfolding finished
done-run took s z = after-done took s.answer.number s.memory s.registers z

pub done-size : (took : ℕ) (s : Left (List ℕ) Answer) → s.answer.number ≡ 0 → length s.registers ≡ 100 → length (finished took s).after ≡ 8704
done-size took s z l =
    let kind = kind_written took s.registers in
    ap length (done-run took s z)
    ∙ after-size kind s.memory (take (picture_registers kind) s.registers) (front_length kind s.registers l)

-- no set register is lost: kind 1 is written only where neither is set
pub none-lost : (took : ℕ) (regs : List ℕ) → kind_written took regs ≡ 1 → any_set (modes_of regs) ≡ false
unfolding kind_written
none-lost took regs e = go (eqb took 4) (any_set (modes_of regs)) refl e
  where
    go : (t a : Bool) → any_set (modes_of regs) ≡ a → ◌≡◌ {A = ℕ} (cond (t || a) 4 1) 1 → any_set (modes_of regs) ≡ false
    go true a h e = absurd (omega arith)
    go false true h e = absurd (omega arith)
    go false false h e = h

-- where none is written its buffer stays
pub no-picture : (o : Outcome) (before : List ℕ) → o.after ≡ [] → over o.after before ≡ before
no-picture o before e = ap (λ (x : List ℕ). over x before) e

-- ---- one answer only, every byte of both buffers included

pub session-unique : (o : Outcome) (r r' : Counts) (old text text' before after after' : List ℕ)
    → Shown o r old text → after ≡ over o.after before → Shown o r' old text' → after' ≡ over o.after before
    → (r ≡ r') × (text ≡ text') × (after ≡ after')
session-unique o r r' old text text' before after after' s k s' k' =
    let u = report-unique o.text old text text' r.text r'.text s.count s.printed s'.count s'.printed in
    (λ j. record { text = u.0 j; after = (s.written ∙ sym s'.written) j }, u.1, k ∙ sym k')
