-- The promises of the public entries: the clauses of each contract as types, in the source's words, the buffers at entry first and those at exit, primed, and the answer behind them. proofs/Clauses.antt shows that they are the contracts' own, and that no such contract has a `requires`; the page of demand 1 starts from them.
use Rattle.std.specs.Prelude.{◌≡◌, List, ℕ, length}
use Rattle.network.specs.Answer.{Passed}
use Rattle.network.specs.Answer.{answer}
use Rattle.registers.specs.declared.Registers.{Registers}
use Rattle.judge.specs.Answers.{Answer}
use Rattle.module.specs.Run.{Lent, Left, ran, stepped}
use Rattle.builders.specs.Building.{Built}
use Rattle.builders.specs.Building.{BuiltTwo}
use Rattle.builders.specs.Sums.{sum_built, difference_built}
use Rattle.builders.specs.Searches.{equal_built, less_built, greatest_built}
use Rattle.closing.specs.Closing.{closing_built, spreading_built}
use Rattle.builders.specs.Building.{BuiltLeft as Buffer, BuiltTwoLeft as Buffers}
use Rattle.isolation.specs.Isolation.{Isolation}
use Rattle.isolation.specs.Isolation.{isolation_of}
use Rattle.reach.specs.Reach.{Reached}
use Rattle.reach.specs.Reach.{reach_answer, reach_out}
use Rattle.text.specs.Show.{Shown}
use Rattle.text.specs.Make.{Made}
use Rattle.text.specs.Show.{shown_answer, shown_out}
use Rattle.text.specs.Make.{made_answer, made_out}
use Rattle.assembly.specs.Assembly.{Assembled}
use Rattle.assembly.specs.Assembly.{assembled_answer, assembled_list, assembled_items}
use Rattle.contents.specs.Moved.{Moved}
use Rattle.contents.specs.Content.{ContentLeft, content_read, content_written}
use Rattle.pictures.specs.Picture.{PictureLeft, picture_read, picture_written}
use Rattle.pictures.specs.Conversion.{to_new, to_old}
use Rattle.library.specs.Left.{run_left, step_left, PassLeft, pass_left, BufferLeft, TwoLeft, isolated_left, TargetsLeft, read_picture_left, version}

-- ---- the array

-- `module::run`: what is lent, and what is left of it
abbrev pub Run : Lent (List ℕ) → Left (List ℕ) Answer → Type 0
Run l u = u ≡ ran l

-- `module::step` on the record that it is lent, and `module::advance` on one by value
abbrev pub Step : Lent Registers → Left Registers Answer → Type 0
Step l u = u ≡ stepped l

-- ---- the network

-- `network::pass` and `network::wired_pass`
abbrev pub Pass : (lines : List ℕ) (flip code : ℕ) → Passed → Type 0
Pass lines flip code r = r ≡ answer lines flip code

-- ---- lists

-- `builders::sums::sum_list`
abbrev pub SumList : (a b s n : ℕ) (list list' : List ℕ) → Built → Type 0
SumList a b s n list list' r = ◌≡◌ {A = Buffer} (record { answer = r; list = list' }) (sum_built a b s n list)

-- `builders::sums::difference_list`
abbrev pub DifferenceList : (a b s n : ℕ) (list list' : List ℕ) → Built → Type 0
DifferenceList a b s n list list' r = ◌≡◌ {A = Buffer} (record { answer = r; list = list' }) (difference_built a b s n list)

-- `builders::searches::equal_list`
abbrev pub EqualList : (start n number : ℕ) (list items list' items' : List ℕ) → BuiltTwo → Type 0
EqualList start n number list items list' items' r =
    ◌≡◌ {A = Buffers} (record { answer = r; list = list'; items = items' }) (equal_built start n number list items)

-- `builders::searches::less_list`
abbrev pub LessList : (start n number : ℕ) (list items list' items' : List ℕ) → BuiltTwo → Type 0
LessList start n number list items list' items' r =
    ◌≡◌ {A = Buffers} (record { answer = r; list = list'; items = items' }) (less_built start n number list items)

-- `builders::searches::greatest_list`
abbrev pub GreatestList : (start n : ℕ) (list list' : List ℕ) → Built → Type 0
GreatestList start n list list' r = ◌≡◌ {A = Buffer} (record { answer = r; list = list' }) (greatest_built start n list)

-- `closing::closing_list`
abbrev pub ClosingList : (a s n : ℕ) (marks list items list' items' : List ℕ) → BuiltTwo → Type 0
ClosingList a s n marks list items list' items' r =
    ◌≡◌ {A = Buffers} (record { answer = r; list = list'; items = items' }) (closing_built a s n marks list items)

-- `closing::spreading_list`
abbrev pub SpreadingList : (a s n : ℕ) (marks list items list' items' : List ℕ) → BuiltTwo → Type 0
SpreadingList a s n marks list items list' items' r =
    ◌≡◌ {A = Buffers} (record { answer = r; list = list'; items = items' }) (spreading_built a s n marks list items)

-- `isolation::isolated`, which writes no buffer
abbrev pub Isolated : (list registers : List ℕ) → Isolation → Type 0
Isolated list registers r = r ≡ isolation_of list registers

-- ---- what a list reaches, and its text: a contract here has a clause of the answer and one of each buffer

-- `reach::reach`
abbrev pub ReachAnswer : (registers list out : List ℕ) → Reached → Type 0
ReachAnswer registers list out r = r ≡ reach_answer registers list (length out)

abbrev pub ReachBytes : (registers list out out' : List ℕ) → Type 0
ReachBytes registers list out out' = out' ≡ reach_out registers list out

abbrev pub Reach : (registers list out out' : List ℕ) → Reached → Type 0
Reach registers list out out' r = ReachAnswer registers list out r × ReachBytes registers list out out'

-- `text::showing::show`
abbrev pub ShowAnswer : (list text : List ℕ) → Shown → Type 0
ShowAnswer list text r = r ≡ shown_answer list (length text)

abbrev pub ShowText : (list text text' : List ℕ) → Type 0
ShowText list text text' = text' ≡ shown_out list text

abbrev pub Show : (list text text' : List ℕ) → Shown → Type 0
Show list text text' r = ShowAnswer list text r × ShowText list text text'

-- `text::making::make`
abbrev pub MakeAnswer : (text out : List ℕ) → Made → Type 0
MakeAnswer text out r = r ≡ made_answer text (length out)

abbrev pub MakeBytes : (text out out' : List ℕ) → Type 0
MakeBytes text out out' = out' ≡ made_out text out

abbrev pub Make : (text out out' : List ℕ) → Made → Type 0
Make text out out' r = MakeAnswer text out r × MakeBytes text out out'

-- `assembly::assemble`
abbrev pub AssembleAnswer : (text list items : List ℕ) → Assembled → Type 0
AssembleAnswer text list items r = r ≡ assembled_answer text (length list) (length items)

abbrev pub AssembleList : (text list items list' : List ℕ) → Type 0
AssembleList text list items list' = list' ≡ assembled_list text list items

abbrev pub AssembleItems : (text list items items' : List ℕ) → Type 0
AssembleItems text list items items' = items' ≡ assembled_items text list items

abbrev pub Assemble : (text list items list' items' : List ℕ) → Assembled → Type 0
Assemble text list items list' items' r = AssembleAnswer text list items r × AssembleList text list items list' × AssembleItems text list items items'

-- ---- the disk

-- `contents::read_content`
abbrev pub ReadContent : (kind : ℕ) (bytes target target' : List ℕ) → Moved → Type 0
ReadContent kind bytes target target' r =
    ◌≡◌ {A = ContentLeft} (record { answer = r; buffer = target' }) (content_read kind bytes target)

-- `contents::write_content`
abbrev pub WriteContent : (kind : ℕ) (content out out' : List ℕ) → Moved → Type 0
WriteContent kind content out out' r =
    ◌≡◌ {A = ContentLeft} (record { answer = r; buffer = out' }) (content_written kind content out)

-- `pictures::read_picture`
abbrev pub ReadPicture : (kind : ℕ) (bytes memory registers memory' registers' : List ℕ) → Moved → Type 0
ReadPicture kind bytes memory registers memory' registers' r =
    ◌≡◌ {A = PictureLeft} (record { answer = r; memory = memory'; registers = registers' })
    (picture_read kind bytes memory registers)

-- `pictures::write_picture`
abbrev pub WritePicture : (kind : ℕ) (memory registers out out' : List ℕ) → Moved → Type 0
WritePicture kind memory registers out out' r =
    ◌≡◌ {A = ContentLeft} (record { answer = r; buffer = out' }) (picture_written kind memory registers out)

-- `pictures::convert::to_new` and `pictures::convert::to_old`
abbrev pub ToNew : (bytes out out' : List ℕ) → Moved → Type 0
ToNew bytes out out' r = ◌≡◌ {A = ContentLeft} (record { answer = r; buffer = out' }) (to_new bytes out)

abbrev pub ToOld : (bytes out out' : List ℕ) → Moved → Type 0
ToOld bytes out out' r = ◌≡◌ {A = ContentLeft} (record { answer = r; buffer = out' }) (to_old bytes out)

-- ---- the library for C: each contract is one equation of all that a function leaves, its answer's numbers included

-- `staran_run_4`
abbrev pub LibraryRun : Lent (List ℕ) → Left (List ℕ) (List ℕ) → Type 0
LibraryRun l u = u ≡ run_left l

-- `staran_step_5`
abbrev pub LibraryStep : Lent Registers → Left Registers (List ℕ) → Type 0
LibraryStep l u = u ≡ step_left l

-- `staran_pass` and `staran_wired_pass`
abbrev pub LibraryPass : (item : List ℕ) (flip code : ℕ) (passed' answer' : List ℕ) → Type 0
LibraryPass item flip code passed' answer' = ◌≡◌ {A = PassLeft} (record { passed = passed'; answer = answer' }) (pass_left item flip code)

-- `staran_sum_list`, `staran_difference_list`, `staran_greatest_list`, `staran_reach`, `staran_show`, `staran_read_content`, `staran_write_content`, `staran_write_picture`, `staran_picture_to_new` and `staran_picture_to_old`, which write one buffer: l is what the function leaves
abbrev pub LibraryBuffer : BufferLeft → (buffer' answer' : List ℕ) → Type 0
LibraryBuffer l buffer' answer' = ◌≡◌ {A = BufferLeft} (record { buffer = buffer'; answer = answer' }) l

-- `staran_equal_list`, `staran_less_list`, `staran_closing_list`, `staran_spreading_list` and `staran_make`, which write a list and its items
abbrev pub LibraryTwo : TwoLeft → (list' items' answer' : List ℕ) → Type 0
LibraryTwo l list' items' answer' = ◌≡◌ {A = TwoLeft} (record { list = list'; items = items'; answer = answer' }) l

-- `staran_isolated`
abbrev pub LibraryIsolated : (list registers answer' : List ℕ) → Type 0
LibraryIsolated list registers answer' = answer' ≡ isolated_left list registers

-- `staran_read_picture`
abbrev pub LibraryReadPicture : (kind : ℕ) (bytes memory registers memory' registers' answer' : List ℕ) → Type 0
LibraryReadPicture kind bytes memory registers memory' registers' answer' =
    ◌≡◌ {A = TargetsLeft} (record { memory = memory'; registers = registers'; answer = answer' }) (read_picture_left kind bytes memory registers)

-- `staran_version`: 5.4
abbrev pub LibraryVersion : ℕ → Type 0
LibraryVersion r = r ≡ version 5 4
