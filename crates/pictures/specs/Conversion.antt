-- A picture of kind 1 made one of kind 4, and back: what each conversion of a file of blocks leaves. Document 02, Eight.
use Rattle.std.specs.Prelude.{List, [], ◌∷◌, ◌++◌, ℕ, ltb, length, take}
use Rattle.bits.specs.Rows.{Row, row}
use Rattle.registers.specs.declared.Modes.{Modes}
use Rattle.registers.specs.Modes.{mode_bytes, none_set, wrong_modes, any_set}
use Rattle.contents.specs.File.{picture_kind, modes_picture_kind, picture_bytes, content_of, blocks_of}
use Rattle.contents.specs.Content.{read_answer, changed, over, ContentLeft}
use Rattle.pictures.specs.Picture.{picture_file, content_modes}

-- "Old to new puts both registers unset"; new to old leaves them out.
abbrev pub new_content : List ℕ → List ℕ
new_content content = content ++ mode_bytes none_set

abbrev pub old_content : List ℕ → List ℕ
old_content content = take picture_bytes content

-- Of a file that stands: "27 last".
abbrev pub to_new_rows : ℕ → List Row
to_new_rows room = row 27 (ltb room picture_file) ∷ []

-- "Then 15 for bad flags ..; then 28, new to old with a register set; 27 last."
abbrev pub to_old_rows : Modes → ℕ → List Row
to_old_rows modes room = row 15 (wrong_modes modes) ∷ row 28 (any_set modes) ∷ row 27 (ltb room picture_file) ∷ []

-- What `to_new` leaves: a file that is judged as one of kind 1, written as kind 4.
unfoldable pub to_new : List ℕ → List ℕ → ContentLeft
to_new bytes out =
    let a = read_answer picture_kind bytes (to_new_rows (length out)) picture_file in
    record { answer = a; buffer = changed a (over (blocks_of modes_picture_kind (new_content (content_of bytes))) out) out }

-- What `to_old` leaves: a file that is judged as one of kind 4, written as kind 1.
unfoldable pub to_old : List ℕ → List ℕ → ContentLeft
to_old bytes out =
    let a = read_answer modes_picture_kind bytes (to_old_rows (content_modes (content_of bytes)) (length out)) picture_file in
    record { answer = a; buffer = changed a (over (blocks_of picture_kind (old_content (content_of bytes))) out) out }
