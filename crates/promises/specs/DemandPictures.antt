-- Document 02, Eight, on a page: a picture of either kind is made one of the other and back, and no mode register is lost on disk. The numbers of the conversions and their order are in DemandOne, the round trip of reading and writing in DemandTwo.
-- The names are those of specs/: `to_new` and `to_old` are what the conversions leave, `outcome` is the program on its three files, `finished` what it leaves after a run and `with_list` its run from a memory and registers. It is proved in proofs/DemandPictures.antt, and assumes nothing.
use Rattle.std.specs.Prelude.{◌≡◌, false, List, ◌++◌, ℕ, ◌<◌, ◌≤◌, length, take, drop}
use Rattle.registers.specs.Modes.{modes_of, mode_bytes, none_set, any_set}
use Rattle.module.specs.Run.{Lent, ran}
use Rattle.blocks.specs.Sums.{at}
use Rattle.contents.specs.File.{picture_kind, modes_picture_kind, picture_bytes, modes_picture_bytes, content_of, done}
use Rattle.contents.specs.Content.{over}
use Rattle.pictures.specs.Picture.{picture_words, picture_file, scrambled, picture_read}
use Rattle.pictures.specs.Conversion.{old_content, to_new, to_old}
use Rattle.session.specs.Session.{File, bytes, kind_written, finished, with_list, outcome}

-- "Either way and back gives the same bytes where allowed": of a file of bytes, into any output with room.
pub record Conversions : Type 0 where
  pub new_and_back : (file out : List ℕ) → (to_new file out).answer.number ≡ 0 → (out' : List ℕ) → ((k : ℕ) → at file k < 256) → picture_file ≤ length out'
      → (let r = to_new file out in
      to_old (take r.answer.bytes r.buffer) out' ≡ record { answer = done picture_file; buffer = over file out' })
  pub old_and_back : (file out : List ℕ) → (to_old file out).answer.number ≡ 0 → (out' : List ℕ) → ((k : ℕ) → at file k < 256) → picture_file ≤ length out'
      → (let r = to_old file out in
      to_new (take r.answer.bytes r.buffer) out' ≡ record { answer = done picture_file; buffer = over file out' })
  -- "Old to new puts both registers unset": read as kind 4, what is new has the words, M, X and Y of the old one, and behind them four zeros
  pub new_reads : (file out : List ℕ) → (to_new file out).answer.number ≡ 0 → (memory registers : List ℕ) → length memory ≡ picture_words → length registers ≡ 100
      → (let r = to_new file out in
      picture_read modes_picture_kind (take r.answer.bytes r.buffer) memory registers
      ≡ record { answer = done modes_picture_bytes; memory = scrambled (content_of file); registers = drop picture_words (content_of file) ++ mode_bytes none_set })
  -- and back: read as kind 1, what is old has the words, M, X and Y of the new one
  pub old_reads : (file out : List ℕ) → (to_old file out).answer.number ≡ 0 → (memory registers : List ℕ) → length memory ≡ picture_words → length registers ≡ 96
      → (let r = to_old file out in
      picture_read picture_kind (take r.answer.bytes r.buffer) memory registers
      ≡ record { answer = done picture_bytes; memory = scrambled (content_of file); registers = drop picture_words (old_content (content_of file)) })

-- The program on disk.
pub record ModesKept : Type 0 where
  -- kind 1 is written only where neither register is set
  pub none_lost : (took : ℕ) (registers : List ℕ) → kind_written took registers ≡ picture_kind → any_set (modes_of registers) ≡ false
  -- the next run, on the picture that a run has written of a memory of bytes, goes from the memory and all 100 register bytes that were left
  pub next_run : (took : ℕ) (l : Lent (List ℕ)) → (ran l).answer.number ≡ 0 → ((k : ℕ) → at l.memory k < 256) → (list items : File)
      → outcome (bytes (finished took (ran l)).after) list items
      ≡ with_list (kind_written took (ran l).registers) (ran l).memory (ran l).registers list items

pub record DemandPictures : Type 0 where
  pub conversions : Conversions
  pub modes_kept : ModesKept
