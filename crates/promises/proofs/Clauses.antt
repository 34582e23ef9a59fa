-- The promises of specs/Clauses.antt are the clauses of the entries' contracts as the check reads them from the sources, and none of these contracts has a `requires`: by computation. A clause that is changed in a source is refused here until its promise is. Assumes nothing.
use mathlib.Core.Path.{◌≡◌, refl}
use seplogic.Ra.Ura.{Ura}
use base.Logic.{SProp}
use prog.Memory.{Memory}
use prog.Routine.{Routine}
use types.Logic.{Logic}
use contract.Lifetimes.{Lfts}
use contract.Monad.{Fun}
use contract.Notation.{connectives}
use denote.Triple.Entry.{Args, Res}
use denote.Triple.Clauses.{Ended, Clauses, AtExit}
use Rattle.module.specs.contracts.run as run
use Rattle.module.specs.contracts.step as step
use Rattle.module.specs.contracts.advance as advance
use Rattle.network.specs.contracts.pass as pass
use Rattle.network.specs.contracts.wired_pass as wired_pass
use Rattle.builders.specs.contracts.sums.sum_list as sum_list
use Rattle.builders.specs.contracts.sums.difference_list as difference_list
use Rattle.builders.specs.contracts.searches.equal_list as equal_list
use Rattle.builders.specs.contracts.searches.less_list as less_list
use Rattle.builders.specs.contracts.searches.greatest_list as greatest_list
use Rattle.closing.specs.contracts.closing_list as closing_list
use Rattle.closing.specs.contracts.spreading_list as spreading_list
use Rattle.isolation.specs.contracts.isolated as isolated
use Rattle.reach.specs.contracts.reach as reach
use Rattle.text.specs.contracts.showing.show as show
use Rattle.text.specs.contracts.making.make as make
use Rattle.assembly.specs.contracts.assemble as assemble
use Rattle.contents.specs.contracts.read_content as read_content
use Rattle.contents.specs.contracts.write_content as write_content
use Rattle.pictures.specs.contracts.read_picture as read_picture
use Rattle.pictures.specs.contracts.write_picture as write_picture
use Rattle.pictures.specs.contracts.convert.to_new as to_new
use Rattle.pictures.specs.contracts.convert.to_old as to_old
use Rattle.network.specs.Answer.{passed_of}
use Rattle.judge.specs.Answers.{answer_of}
use Rattle.builders.specs.Results.{built_of, built_two_of}
use Rattle.module.specs.Left.{left_by}
use Rattle.isolation.specs.Isolation.{isolation_given}
use Rattle.reach.specs.Reach.{reached_of}
use Rattle.text.specs.Results.{made_of, shown_of}
use Rattle.assembly.specs.Results.{assembled_of}
use Rattle.contents.specs.Moved.{moved_of}
use Rattle.library.specs.Left.{sum_left, difference_left, equal_left, less_left, greatest_left, closing_left, spreading_left, reach_left, show_left, make_left, read_left, write_left, write_picture_left, to_new_left, to_old_left}
use Rattle.library.specs.contracts.staran_run_4 as library_run
use Rattle.library.specs.contracts.staran_step_5 as library_step
use Rattle.library.specs.contracts.staran_pass as staran_pass
use Rattle.library.specs.contracts.staran_wired_pass as staran_wired_pass
use Rattle.library.specs.contracts.staran_sum_list as staran_sum_list
use Rattle.library.specs.contracts.staran_difference_list as staran_difference_list
use Rattle.library.specs.contracts.staran_equal_list as staran_equal_list
use Rattle.library.specs.contracts.staran_less_list as staran_less_list
use Rattle.library.specs.contracts.staran_greatest_list as staran_greatest_list
use Rattle.library.specs.contracts.staran_closing_list as staran_closing_list
use Rattle.library.specs.contracts.staran_spreading_list as staran_spreading_list
use Rattle.library.specs.contracts.staran_isolated as staran_isolated
use Rattle.library.specs.contracts.staran_reach as staran_reach
use Rattle.library.specs.contracts.staran_show as staran_show
use Rattle.library.specs.contracts.staran_make as staran_make
use Rattle.library.specs.contracts.staran_read_content as staran_read_content
use Rattle.library.specs.contracts.staran_write_content as staran_write_content
use Rattle.library.specs.contracts.staran_read_picture as staran_read_picture
use Rattle.library.specs.contracts.staran_write_picture as staran_write_picture
use Rattle.library.specs.contracts.staran_picture_to_new as staran_picture_to_new
use Rattle.library.specs.contracts.staran_picture_to_old as staran_picture_to_old
use Rattle.library.specs.contracts.staran_version as staran_version
use Rattle.promises.specs.Clauses.{Run, Step, Pass, SumList, DifferenceList, EqualList, LessList, GreatestList, ClosingList, SpreadingList, Isolated, ReachAnswer, ReachBytes, ShowAnswer, ShowText, MakeAnswer, MakeBytes, AssembleAnswer, AssembleList, AssembleItems, ReadContent, WriteContent, ReadPicture, WritePicture, ToNew, ToOld, LibraryRun, LibraryStep, LibraryPass, LibraryBuffer, LibraryTwo, LibraryIsolated, LibraryReadPicture, LibraryVersion}

module _ {M : Type 1} {𝓤 : Ura M} (𝓛 : Logic 𝓤) (memory : Memory → SProp 𝓤) (runs : Routine → Fun 𝓤) where
  open connectives 𝓤 use {⌜◌⌝, ⊤ₛ, ◌∗◌}

  -- what a contract says: it asks nothing, and ensures p of the arguments a, the result r and the arguments at exit e
  abbrev Says : (T : Ended) → Clauses 𝓤 T → ((κs : Lfts T.signature.lifetimes) → Args T.signature κs → Res T.signature κs → AtExit T κs → SProp 𝓤) → Type 2
  Says T c p = (κs : Lfts T.signature.lifetimes) (a : Args T.signature κs) (g : (c κs a).ghost) (r : Res T.signature κs) (e : AtExit T κs)
      → ((c κs a).requires g ≡ ⊤ₛ) × ((c κs a).ensures g r e ≡ p κs a r e)

  pub run-clauses : Says run.ended (run.clauses 𝓛 memory runs) (λ κs a r e.
      ⌜ Run (record { memory = a.0.now; registers = a.1.0.now; list = a.1.1.0.now; items = a.1.1.1.0.now; out = a.1.1.1.1.0.now })
      (record { memory = e.0.now; registers = e.1.0.now; out = e.1.1.1.1.0.now; answer = answer_of r }) ⌝)
  run-clauses κs a g r e = (refl, refl)

  pub step-clauses : Says step.ended (step.clauses 𝓛 memory runs) (λ κs a r e.
      ⌜ Step (record { memory = a.0.now; registers = a.1.0.now; list = a.1.1.0.now; items = a.1.1.1.0.now; out = a.1.1.1.1.0.now })
      (record { memory = e.0.now; registers = e.1.0.now; out = e.1.1.1.1.0.now; answer = answer_of r }) ⌝)
  step-clauses κs a g r e = (refl, refl)

  pub advance-clauses : Says advance.ended (advance.clauses 𝓛 memory runs) (λ κs a r e.
      ⌜ Step (record { memory = a.0.now; registers = a.1.0; list = a.1.1.0.now; items = a.1.1.1.0.now; out = a.1.1.1.1.0.now })
      (left_by a.1.0 r e.0.now e.1.1.1.1.0.now) ⌝)
  advance-clauses κs a g r e = (refl, refl)

  pub pass-clauses : Says pass.ended (pass.clauses 𝓛 memory runs) (λ κs a r e.
      ⌜ Pass a.0.now a.1.0 a.1.1.0 (passed_of r) ⌝)
  pass-clauses κs a g r e = (refl, refl)

  pub wired-pass-clauses : Says wired_pass.ended (wired_pass.clauses 𝓛 memory runs) (λ κs a r e.
      ⌜ Pass a.0.now a.1.0 a.1.1.0 (passed_of r) ⌝)
  wired-pass-clauses κs a g r e = (refl, refl)

  pub sum-list-clauses : Says sum_list.ended (sum_list.clauses 𝓛 memory runs) (λ κs a r e.
      ⌜ SumList a.0 a.1.0 a.1.1.0 a.1.1.1.0 a.1.1.1.1.0.now e.1.1.1.1.0.now (built_of r) ⌝)
  sum-list-clauses κs a g r e = (refl, refl)

  pub difference-list-clauses : Says difference_list.ended (difference_list.clauses 𝓛 memory runs) (λ κs a r e.
      ⌜ DifferenceList a.0 a.1.0 a.1.1.0 a.1.1.1.0 a.1.1.1.1.0.now e.1.1.1.1.0.now (built_of r) ⌝)
  difference-list-clauses κs a g r e = (refl, refl)

  pub equal-list-clauses : Says equal_list.ended (equal_list.clauses 𝓛 memory runs) (λ κs a r e.
      ⌜ EqualList a.0 a.1.0 a.1.1.0 a.1.1.1.0.now a.1.1.1.1.0.now e.1.1.1.0.now e.1.1.1.1.0.now (built_two_of r) ⌝)
  equal-list-clauses κs a g r e = (refl, refl)

  pub less-list-clauses : Says less_list.ended (less_list.clauses 𝓛 memory runs) (λ κs a r e.
      ⌜ LessList a.0 a.1.0 a.1.1.0 a.1.1.1.0.now a.1.1.1.1.0.now e.1.1.1.0.now e.1.1.1.1.0.now (built_two_of r) ⌝)
  less-list-clauses κs a g r e = (refl, refl)

  pub greatest-list-clauses : Says greatest_list.ended (greatest_list.clauses 𝓛 memory runs) (λ κs a r e.
      ⌜ GreatestList a.0 a.1.0 a.1.1.0.now e.1.1.0.now (built_of r) ⌝)
  greatest-list-clauses κs a g r e = (refl, refl)

  pub closing-list-clauses : Says closing_list.ended (closing_list.clauses 𝓛 memory runs) (λ κs a r e.
      ⌜ ClosingList a.0 a.1.0 a.1.1.0 a.1.1.1.0.now a.1.1.1.1.0.now a.1.1.1.1.1.0.now e.1.1.1.1.0.now e.1.1.1.1.1.0.now (built_two_of r) ⌝)
  closing-list-clauses κs a g r e = (refl, refl)

  pub spreading-list-clauses : Says spreading_list.ended (spreading_list.clauses 𝓛 memory runs) (λ κs a r e.
      ⌜ SpreadingList a.0 a.1.0 a.1.1.0 a.1.1.1.0.now a.1.1.1.1.0.now a.1.1.1.1.1.0.now e.1.1.1.1.0.now e.1.1.1.1.1.0.now (built_two_of r) ⌝)
  spreading-list-clauses κs a g r e = (refl, refl)

  pub isolated-clauses : Says isolated.ended (isolated.clauses 𝓛 memory runs) (λ κs a r e.
      ⌜ Isolated a.0.now a.1.0.now (isolation_given r) ⌝)
  isolated-clauses κs a g r e = (refl, refl)

  -- of each of several clauses its own
  pub reach-clauses : Says reach.ended (reach.clauses 𝓛 memory runs) (λ κs a r e.
      ⌜ ReachAnswer a.0.now a.1.0.now a.1.1.0.now (reached_of r) ⌝ ∗ ⌜ ReachBytes a.0.now a.1.0.now a.1.1.0.now e.1.1.0.now ⌝)
  reach-clauses κs a g r e = (refl, refl)

  pub show-clauses : Says show.ended (show.clauses 𝓛 memory runs) (λ κs a r e.
      ⌜ ShowAnswer a.0.now a.1.0.now (shown_of r) ⌝ ∗ ⌜ ShowText a.0.now a.1.0.now e.1.0.now ⌝)
  show-clauses κs a g r e = (refl, refl)

  pub make-clauses : Says make.ended (make.clauses 𝓛 memory runs) (λ κs a r e.
      ⌜ MakeAnswer a.0.now a.1.0.now (made_of r) ⌝ ∗ ⌜ MakeBytes a.0.now a.1.0.now e.1.0.now ⌝)
  make-clauses κs a g r e = (refl, refl)

  pub assemble-clauses : Says assemble.ended (assemble.clauses 𝓛 memory runs) (λ κs a r e.
      ⌜ AssembleAnswer a.0.now a.1.0.now a.1.1.0.now (assembled_of r) ⌝
      ∗ (⌜ AssembleList a.0.now a.1.0.now a.1.1.0.now e.1.0.now ⌝
      ∗ ⌜ AssembleItems a.0.now a.1.0.now a.1.1.0.now e.1.1.0.now ⌝))
  assemble-clauses κs a g r e = (refl, refl)

  pub read-content-clauses : Says read_content.ended (read_content.clauses 𝓛 memory runs) (λ κs a r e.
      ⌜ ReadContent a.0 a.1.0.now a.1.1.0.now e.1.1.0.now (moved_of r) ⌝)
  read-content-clauses κs a g r e = (refl, refl)

  pub write-content-clauses : Says write_content.ended (write_content.clauses 𝓛 memory runs) (λ κs a r e.
      ⌜ WriteContent a.0 a.1.0.now a.1.1.0.now e.1.1.0.now (moved_of r) ⌝)
  write-content-clauses κs a g r e = (refl, refl)

  pub read-picture-clauses : Says read_picture.ended (read_picture.clauses 𝓛 memory runs) (λ κs a r e.
      ⌜ ReadPicture a.0 a.1.0.now a.1.1.0.now a.1.1.1.0.now e.1.1.0.now e.1.1.1.0.now (moved_of r) ⌝)
  read-picture-clauses κs a g r e = (refl, refl)

  pub write-picture-clauses : Says write_picture.ended (write_picture.clauses 𝓛 memory runs) (λ κs a r e.
      ⌜ WritePicture a.0 a.1.0.now a.1.1.0.now a.1.1.1.0.now e.1.1.1.0.now (moved_of r) ⌝)
  write-picture-clauses κs a g r e = (refl, refl)

  pub to-new-clauses : Says to_new.ended (to_new.clauses 𝓛 memory runs) (λ κs a r e.
      ⌜ ToNew a.0.now a.1.0.now e.1.0.now (moved_of r) ⌝)
  to-new-clauses κs a g r e = (refl, refl)

  pub to-old-clauses : Says to_old.ended (to_old.clauses 𝓛 memory runs) (λ κs a r e.
      ⌜ ToOld a.0.now a.1.0.now e.1.0.now (moved_of r) ⌝)
  to-old-clauses κs a g r e = (refl, refl)

  -- ---- the library for C

  pub library-run-clauses : Says library_run.ended (library_run.clauses 𝓛 memory runs) (λ κs a r e.
      ⌜ LibraryRun (record { memory = a.0.now; registers = a.1.0.now; list = a.1.1.0.now; items = a.1.1.1.0.now; out = a.1.1.1.1.0.now })
      (record { memory = e.0.now; registers = e.1.0.now; out = e.1.1.1.1.0.now; answer = e.1.1.1.1.1.0.now }) ⌝)
  library-run-clauses κs a g r e = (refl, refl)

  pub library-step-clauses : Says library_step.ended (library_step.clauses 𝓛 memory runs) (λ κs a r e.
      ⌜ LibraryStep (record { memory = a.0.now; registers = a.1.0.now; list = a.1.1.0.now; items = a.1.1.1.0.now; out = a.1.1.1.1.0.now })
      (record { memory = e.0.now; registers = e.1.0.now; out = e.1.1.1.1.0.now; answer = e.1.1.1.1.1.0.now }) ⌝)
  library-step-clauses κs a g r e = (refl, refl)

  pub library-pass-clauses : Says staran_pass.ended (staran_pass.clauses 𝓛 memory runs) (λ κs a r e.
      ⌜ LibraryPass a.0.now a.1.0 a.1.1.0 e.1.1.1.0.now e.1.1.1.1.0.now ⌝)
  library-pass-clauses κs a g r e = (refl, refl)

  pub library-wired-pass-clauses : Says staran_wired_pass.ended (staran_wired_pass.clauses 𝓛 memory runs) (λ κs a r e.
      ⌜ LibraryPass a.0.now a.1.0 a.1.1.0 e.1.1.1.0.now e.1.1.1.1.0.now ⌝)
  library-wired-pass-clauses κs a g r e = (refl, refl)

  pub library-sum-list-clauses : Says staran_sum_list.ended (staran_sum_list.clauses 𝓛 memory runs) (λ κs a r e.
      ⌜ LibraryBuffer (sum_left a.0 a.1.0 a.1.1.0 a.1.1.1.0 a.1.1.1.1.0.now) e.1.1.1.1.0.now e.1.1.1.1.1.0.now ⌝)
  library-sum-list-clauses κs a g r e = (refl, refl)

  pub library-difference-list-clauses : Says staran_difference_list.ended (staran_difference_list.clauses 𝓛 memory runs) (λ κs a r e.
      ⌜ LibraryBuffer (difference_left a.0 a.1.0 a.1.1.0 a.1.1.1.0 a.1.1.1.1.0.now) e.1.1.1.1.0.now e.1.1.1.1.1.0.now ⌝)
  library-difference-list-clauses κs a g r e = (refl, refl)

  pub library-equal-list-clauses : Says staran_equal_list.ended (staran_equal_list.clauses 𝓛 memory runs) (λ κs a r e.
      ⌜ LibraryTwo (equal_left a.0 a.1.0 a.1.1.0 a.1.1.1.0.now a.1.1.1.1.0.now) e.1.1.1.0.now e.1.1.1.1.0.now e.1.1.1.1.1.0.now ⌝)
  library-equal-list-clauses κs a g r e = (refl, refl)

  pub library-less-list-clauses : Says staran_less_list.ended (staran_less_list.clauses 𝓛 memory runs) (λ κs a r e.
      ⌜ LibraryTwo (less_left a.0 a.1.0 a.1.1.0 a.1.1.1.0.now a.1.1.1.1.0.now) e.1.1.1.0.now e.1.1.1.1.0.now e.1.1.1.1.1.0.now ⌝)
  library-less-list-clauses κs a g r e = (refl, refl)

  pub library-greatest-list-clauses : Says staran_greatest_list.ended (staran_greatest_list.clauses 𝓛 memory runs) (λ κs a r e.
      ⌜ LibraryBuffer (greatest_left a.0 a.1.0 a.1.1.0.now) e.1.1.0.now e.1.1.1.0.now ⌝)
  library-greatest-list-clauses κs a g r e = (refl, refl)

  pub library-closing-list-clauses : Says staran_closing_list.ended (staran_closing_list.clauses 𝓛 memory runs) (λ κs a r e.
      ⌜ LibraryTwo (closing_left a.0 a.1.0 a.1.1.0 a.1.1.1.0.now a.1.1.1.1.0.now a.1.1.1.1.1.0.now) e.1.1.1.1.0.now e.1.1.1.1.1.0.now e.1.1.1.1.1.1.0.now ⌝)
  library-closing-list-clauses κs a g r e = (refl, refl)

  pub library-spreading-list-clauses : Says staran_spreading_list.ended (staran_spreading_list.clauses 𝓛 memory runs) (λ κs a r e.
      ⌜ LibraryTwo (spreading_left a.0 a.1.0 a.1.1.0 a.1.1.1.0.now a.1.1.1.1.0.now a.1.1.1.1.1.0.now) e.1.1.1.1.0.now e.1.1.1.1.1.0.now e.1.1.1.1.1.1.0.now ⌝)
  library-spreading-list-clauses κs a g r e = (refl, refl)

  pub library-isolated-clauses : Says staran_isolated.ended (staran_isolated.clauses 𝓛 memory runs) (λ κs a r e.
      ⌜ LibraryIsolated a.0.now a.1.0.now e.1.1.0.now ⌝)
  library-isolated-clauses κs a g r e = (refl, refl)

  pub library-reach-clauses : Says staran_reach.ended (staran_reach.clauses 𝓛 memory runs) (λ κs a r e.
      ⌜ LibraryBuffer (reach_left a.0.now a.1.0.now a.1.1.0.now) e.1.1.0.now e.1.1.1.0.now ⌝)
  library-reach-clauses κs a g r e = (refl, refl)

  pub library-show-clauses : Says staran_show.ended (staran_show.clauses 𝓛 memory runs) (λ κs a r e.
      ⌜ LibraryBuffer (show_left a.0.now a.1.0.now) e.1.0.now e.1.1.0.now ⌝)
  library-show-clauses κs a g r e = (refl, refl)

  pub library-make-clauses : Says staran_make.ended (staran_make.clauses 𝓛 memory runs) (λ κs a r e.
      ⌜ LibraryTwo (make_left a.0.now a.1.0.now a.1.1.0.now) e.1.0.now e.1.1.0.now e.1.1.1.0.now ⌝)
  library-make-clauses κs a g r e = (refl, refl)

  pub library-read-content-clauses : Says staran_read_content.ended (staran_read_content.clauses 𝓛 memory runs) (λ κs a r e.
      ⌜ LibraryBuffer (read_left a.0 a.1.0.now a.1.1.0.now) e.1.1.0.now e.1.1.1.0.now ⌝)
  library-read-content-clauses κs a g r e = (refl, refl)

  pub library-write-content-clauses : Says staran_write_content.ended (staran_write_content.clauses 𝓛 memory runs) (λ κs a r e.
      ⌜ LibraryBuffer (write_left a.0 a.1.0.now a.1.1.0.now) e.1.1.0.now e.1.1.1.0.now ⌝)
  library-write-content-clauses κs a g r e = (refl, refl)

  pub library-read-picture-clauses : Says staran_read_picture.ended (staran_read_picture.clauses 𝓛 memory runs) (λ κs a r e.
      ⌜ LibraryReadPicture a.0 a.1.0.now a.1.1.0.now a.1.1.1.0.now e.1.1.0.now e.1.1.1.0.now e.1.1.1.1.0.now ⌝)
  library-read-picture-clauses κs a g r e = (refl, refl)

  pub library-write-picture-clauses : Says staran_write_picture.ended (staran_write_picture.clauses 𝓛 memory runs) (λ κs a r e.
      ⌜ LibraryBuffer (write_picture_left a.0 a.1.0.now a.1.1.0.now a.1.1.1.0.now) e.1.1.1.0.now e.1.1.1.1.0.now ⌝)
  library-write-picture-clauses κs a g r e = (refl, refl)

  pub library-to-new-clauses : Says staran_picture_to_new.ended (staran_picture_to_new.clauses 𝓛 memory runs) (λ κs a r e.
      ⌜ LibraryBuffer (to_new_left a.0.now a.1.0.now) e.1.0.now e.1.1.0.now ⌝)
  library-to-new-clauses κs a g r e = (refl, refl)

  pub library-to-old-clauses : Says staran_picture_to_old.ended (staran_picture_to_old.clauses 𝓛 memory runs) (λ κs a r e.
      ⌜ LibraryBuffer (to_old_left a.0.now a.1.0.now) e.1.0.now e.1.1.0.now ⌝)
  library-to-old-clauses κs a g r e = (refl, refl)

  pub library-version-clauses : Says staran_version.ended (staran_version.clauses 𝓛 memory runs) (λ κs a r e.
      ⌜ LibraryVersion r ⌝)
  library-version-clauses κs a g r e = (refl, refl)
