-- What each function of the library leaves: the lent buffers, and the answer as numbers in document 01's order. Every value is that of the entry itself.
use Rattle.std.specs.Prelude.{List, [], ◌∷◌, ℕ, ◌+◌, ◌*◌, length}
use Rattle.network.specs.Answer.{answer}
use Rattle.registers.specs.declared.Registers.{Registers}
use Rattle.judge.specs.Answers.{Answer as Verdict}
use Rattle.module.specs.Run.{Lent, Left, ran, stepped}
use Rattle.builders.specs.Sums.{sum_built, difference_built}
use Rattle.builders.specs.Searches.{equal_built, less_built, greatest_built}
use Rattle.closing.specs.Closing.{closing_built, spreading_built}
use Rattle.builders.specs.Building.{BuiltLeft as Built, BuiltTwoLeft as BuiltTwo}
use Rattle.isolation.specs.Isolation.{isolation_of}
use Rattle.reach.specs.Reach.{reach_answer, reach_out}
use Rattle.text.specs.Show.{shown_answer, shown_out}
use Rattle.assembly.specs.Assembly.{Assembled}
use Rattle.assembly.specs.Assembly.{assembled_answer, assembled_list, assembled_items}
use Rattle.contents.specs.Moved.{Moved}
use Rattle.contents.specs.Content.{ContentLeft, content_read, content_written}
use Rattle.pictures.specs.Picture.{picture_read, picture_written}
use Rattle.pictures.specs.Conversion.{to_new, to_old}

-- ---- answers as numbers

-- "A run gives number, place, steps, items taken and items given"; document 02, Six: the offending byte after the place.
abbrev pub six : Verdict → List ℕ
six a = a.number ∷ a.place ∷ a.byte ∷ a.steps ∷ a.taken ∷ a.given ∷ []

-- "`make` gives a number with line and column"; "done has .. the counts of the list's bytes and of the items'" (docs/TEXT.md, Refusals).
abbrev pub five : Assembled → List ℕ
five a = a.number ∷ a.line ∷ a.column ∷ a.list ∷ a.items ∷ []

-- "Success gives 0, place 0 and the number of bytes put out; a refusal gives 0 bytes."
abbrev pub three : Moved → List ℕ
three a = a.number ∷ a.place ∷ a.bytes ∷ []

-- ---- the array

unfoldable pub run_left : Lent (List ℕ) → Left (List ℕ) (List ℕ)
run_left l = let s = ran l in record { memory = s.memory; registers = s.registers; out = s.out; answer = six s.answer }

unfoldable pub step_left : Lent Registers → Left Registers (List ℕ)
step_left l = let s = stepped l in record { memory = s.memory; registers = s.registers; out = s.out; answer = six s.answer }

-- ---- the network: either form

pub record PassLeft : Type 0 where
  pub passed : List ℕ
  pub answer : List ℕ

unfoldable pub pass_left : List ℕ → ℕ → ℕ → PassLeft
pass_left item flip code =
    let a = answer item flip code in
    record { passed = a.item; answer = a.number ∷ [] }

-- ---- lists, and contents on disk: one buffer is written

pub record BufferLeft : Type 0 where
  pub buffer : List ℕ
  pub answer : List ℕ

-- The number, and the count of the bytes written.
abbrev pub built_left : Built → BufferLeft
built_left b = record { buffer = b.list; answer = b.answer.number ∷ b.answer.count ∷ [] }

unfoldable pub sum_left : ℕ → ℕ → ℕ → ℕ → List ℕ → BufferLeft
sum_left a b s n list = built_left (sum_built a b s n list)

unfoldable pub difference_left : ℕ → ℕ → ℕ → ℕ → List ℕ → BufferLeft
difference_left a b s n list = built_left (difference_built a b s n list)

unfoldable pub greatest_left : ℕ → ℕ → List ℕ → BufferLeft
greatest_left start n list = built_left (greatest_built start n list)

-- The buffer, and the three numbers.
abbrev pub moved_left : ContentLeft → BufferLeft
moved_left l = record { buffer = l.buffer; answer = three l.answer }

unfoldable pub read_left : ℕ → List ℕ → List ℕ → BufferLeft
read_left kind bytes target = moved_left (content_read kind bytes target)

unfoldable pub write_left : ℕ → List ℕ → List ℕ → BufferLeft
write_left kind content out = moved_left (content_written kind content out)

unfoldable pub write_picture_left : ℕ → List ℕ → List ℕ → List ℕ → BufferLeft
write_picture_left kind memory registers out = moved_left (picture_written kind memory registers out)

unfoldable pub to_new_left : List ℕ → List ℕ → BufferLeft
to_new_left bytes out = moved_left (to_new bytes out)

unfoldable pub to_old_left : List ℕ → List ℕ → BufferLeft
to_old_left bytes out = moved_left (to_old bytes out)

-- ---- lists with their items: two buffers are written

pub record TwoLeft : Type 0 where
  pub list : List ℕ
  pub items : List ℕ
  pub answer : List ℕ

-- The number, and the counts of the bytes written to each.
abbrev pub built_two_left : BuiltTwo → TwoLeft
built_two_left b = record { list = b.list; items = b.items; answer = b.answer.number ∷ b.answer.list ∷ b.answer.items ∷ [] }

unfoldable pub equal_left : ℕ → ℕ → ℕ → List ℕ → List ℕ → TwoLeft
equal_left start n number list items = built_two_left (equal_built start n number list items)

unfoldable pub less_left : ℕ → ℕ → ℕ → List ℕ → List ℕ → TwoLeft
less_left start n number list items = built_two_left (less_built start n number list items)

unfoldable pub closing_left : ℕ → ℕ → ℕ → List ℕ → List ℕ → List ℕ → TwoLeft
closing_left a s n marks list items = built_two_left (closing_built a s n marks list items)

unfoldable pub spreading_left : ℕ → ℕ → ℕ → List ℕ → List ℕ → List ℕ → TwoLeft
spreading_left a s n marks list items = built_two_left (spreading_built a s n marks list items)

-- ---- a question about a list: no buffer is written

-- The number, and the place.
unfoldable pub isolated_left : List ℕ → List ℕ → List ℕ
isolated_left list registers = let a = isolation_of list registers in a.number ∷ a.place ∷ []

-- ---- what a list reaches, and its text: one buffer is written

-- The number, and the count of what was put out.
unfoldable pub reach_left : List ℕ → List ℕ → List ℕ → BufferLeft
reach_left registers list out =
    let a = reach_answer registers list (length out) in
    record { buffer = reach_out registers list out; answer = a.number ∷ a.count ∷ [] }

unfoldable pub show_left : List ℕ → List ℕ → BufferLeft
show_left list text =
    let a = shown_answer list (length text) in
    record { buffer = shown_out list text; answer = a.number ∷ a.count ∷ [] }

-- ---- the list of a text, with its items: two buffers are written

unfoldable pub make_left : List ℕ → List ℕ → List ℕ → TwoLeft
make_left text list items =
    record {
      list = assembled_list text list items;
      items = assembled_items text list items;
      answer = five (assembled_answer text (length list) (length items));
    }

-- ---- a picture that is read: two buffers are written

pub record TargetsLeft : Type 0 where
  pub memory : List ℕ
  pub registers : List ℕ
  pub answer : List ℕ

unfoldable pub read_picture_left : ℕ → List ℕ → List ℕ → List ℕ → TargetsLeft
read_picture_left kind bytes memory registers =
    let l = picture_read kind bytes memory registers in
    record { memory = l.memory; registers = l.registers; answer = three l.answer }

-- ---- the version: docs/CHANGELOG.md says what each brought

-- Two numbers in one of 32 bits: the minor in the low 16.
abbrev pub version : ℕ → ℕ → ℕ
version major minor = 65536 * major + minor
