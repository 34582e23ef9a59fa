-- What a function of the library leaves, from what the entry that it calls leaves and from the answer as numbers; and that these numbers are small, whatever the entry is called on.
-- A proof takes the arguments of a law from what the call ensures, so that a wrong call is refused at the contract's own equation. Assumes nothing.
use mathlib.Core.Path.{◌≡◌, refl, sym, ap, ap₂, ◌∙◌, subst}
use mathlib.Core.Bool.{Bool}
use mathlib.Core.List.{List, [], ◌∷◌}
use Prim.Native.Nat.{ℕ, ◌≤◌}
use native.Mathlib.Omega.{arith}
use lib.ListN.{length}
use Rattle.network.specs.Answer.{Passed}
use Rattle.network.specs.Answer.{answer}
use Rattle.registers.specs.declared.Registers.{Registers}
use Rattle.registers.specs.Modes.{modes_of}
use Rattle.judge.specs.Answers.{Answer as Verdict}
use Rattle.judge.proofs.Bounds.{Bounded as Bounded6, judged-bounds, step-bounds}
use Rattle.module.specs.Run.{Lent, Left, run_lengths, step_lengths, ran, stepped}
use Rattle.module.proofs.RunLaws.{ran-answer}
use Rattle.module.proofs.StepLaws.{stepped-answer}
use Rattle.builders.specs.Sums.{sum_built, difference_built}
use Rattle.builders.specs.Searches.{search_built, equal_built, less_built, greatest_built}
use Rattle.closing.specs.Closing.{closing_built, spreading_built}
use Rattle.builders.specs.Building.{BuiltLeft as Buffer, BuiltTwoLeft as Buffers}
use Rattle.builders.proofs.Bounds.{Bounded as Bounded2, BoundedTwo, sum-bounds, difference-bounds, search-bounds, greatest-bounds}
use Rattle.closing.proofs.Bounds.{closing-bounds, spreading-bounds}
use Rattle.isolation.specs.Isolation.{Isolation, isolation_of}
use Rattle.reach.specs.Reach.{Reached, reached_of, reach_answer, reach_out}
use Rattle.reach.proofs.Answers.{reach_few}
use Rattle.std.specs.Prelude.{Result, Ok, Err}
use Rattle.bits.specs.declared.refusals.Refusal.{Refusal}
use Rattle.builders.specs.Results.{built_of}
use Rattle.text.specs.Results.{shown_of}
use Rattle.text.specs.Show.{Shown}
use Rattle.text.specs.Show.{shown_answer, shown_out}
use Rattle.text.proofs.RoundTrip.{shown-few}
use Rattle.assembly.specs.Assembly.{Assembled}
use Rattle.assembly.specs.Assembly.{assembled_answer, assembled_list, assembled_items}
use Rattle.assembly.proofs.Bounds.{Bounded as Bounded5, assembled-bounds}
use Rattle.isolation.proofs.Answers.{place-few}
use Rattle.contents.specs.Moved.{Moved}
use Rattle.contents.specs.File.{content_of}
use Rattle.contents.specs.Content.{ContentLeft, content_read, content_written}
use Rattle.contents.proofs.Bounds.{Bounded as Bounded3, answered-bounds, read-bounds, size_small, read-content-bounds, write-content-bounds}
use Rattle.pictures.specs.Picture.{content_modes, picture_fits, picture_read_rows, picture_write_rows, PictureLeft, picture_read, picture_written}
use Rattle.pictures.specs.Conversion.{to_new_rows, to_old_rows, to_new, to_old}
use Rattle.library.specs.Left.{six, five, three, run_left, step_left, PassLeft, pass_left, BufferLeft, built_left, sum_left, difference_left, greatest_left, TwoLeft, built_two_left, equal_left, less_left, closing_left, spreading_left, isolated_left, reach_left, show_left, make_left, moved_left, read_left, write_left, write_picture_left, to_new_left, to_old_left, TargetsLeft, read_picture_left}

-- ---- the array

small-six : (a b : Verdict) → a ≡ b → Bounded6 b → (a.place ≤ 4096) × (a.steps ≤ 4096) × (a.taken ≤ 4096) × (a.given ≤ 4096)
small-six a b e h = let s = subst Bounded6 (sym e) h in (s.place, s.steps, s.taken, s.given)

module _ {R : Type 0} (u v : Left R Verdict) where
  -- the same registers and buffers, and the answer's numbers in its place
  abbrev numbers : Left R Verdict → Left R (List ℕ)
  numbers x = record { memory = x.memory; registers = x.registers; out = x.out; answer = six x.answer }

  left_as : (w : List ℕ) → u ≡ v → w ≡ six u.answer
      → ◌≡◌ {A = Left R (List ℕ)} (record { memory = u.memory; registers = u.registers; out = u.out; answer = w }) (numbers v)
  left_as w e d = ap (λ (x : List ℕ). record { memory = u.memory; registers = u.registers; out = u.out; answer = x }) d ∙ ap numbers e

module _ (l : Lent (List ℕ)) (u : Left (List ℕ) Verdict) where
  pub ran-small : u ≡ ran l → (u.answer.place ≤ 4096) × (u.answer.steps ≤ 4096) × (u.answer.taken ≤ 4096) × (u.answer.given ≤ 4096)
  ran-small e =
      small-six u.answer _ (ap (λ (x : Left (List ℕ) Verdict). x.answer) e ∙ ran-answer l) (judged-bounds (run_lengths l) (modes_of l.registers) l.list)

  pub run-left : (w : List ℕ) → u ≡ ran l → w ≡ six u.answer
      → ◌≡◌ {A = Left (List ℕ) (List ℕ)} (record { memory = u.memory; registers = u.registers; out = u.out; answer = w }) (run_left l)
  unfolding run_left
  run-left = left_as u (ran l)

module _ (l : Lent Registers) (u : Left Registers Verdict) where
  pub stepped-small : u ≡ stepped l → (u.answer.place ≤ 4096) × (u.answer.steps ≤ 4096) × (u.answer.taken ≤ 4096) × (u.answer.given ≤ 4096)
  stepped-small e =
      small-six u.answer _ (ap (λ (x : Left Registers Verdict). x.answer) e ∙ stepped-answer l) (step-bounds (step_lengths l) l.registers.modes l.list)

  pub step-left : (w : List ℕ) → u ≡ stepped l → w ≡ six u.answer
      → ◌≡◌ {A = Left Registers (List ℕ)} (record { memory = u.memory; registers = u.registers; out = u.out; answer = w }) (step_left l)
  unfolding step_left
  step-left = left_as u (stepped l)

-- ---- the network

pub pass-left : (item : List ℕ) (flip code : ℕ) (r : Passed) (passed w : List ℕ) → r ≡ answer item flip code → passed ≡ r.item → w ≡ r.number ∷ []
    → ◌≡◌ {A = PassLeft} (record { passed = passed; answer = w }) (pass_left item flip code)
unfolding pass_left
pass-left item flip code r passed w e p d =
    ap₂ (λ (x y : List ℕ). record { passed = x; answer = y }) p d ∙ ap (λ (x : Passed). record { passed = x.item; answer = x.number ∷ [] }) e

-- ---- lists

built-left : (b c : Buffer) (w : List ℕ) → b ≡ c → w ≡ b.answer.number ∷ b.answer.count ∷ []
    → ◌≡◌ {A = BufferLeft} (record { buffer = b.list; answer = w }) (built_left c)
built-left b c w e d = ap (λ (x : List ℕ). record { buffer = b.list; answer = x }) d ∙ ap built_left e

-- 5,640 bytes are the most of any list
small-built : (last most : ℕ) → most ≤ 5640 → (b c : Buffer) → b ≡ c → Bounded2 last most c.answer → b.answer.count ≤ 5640
small-built last most m b c e h = let s = (subst (λ (x : Buffer). Bounded2 last most x.answer) (sym e) h).count in omega arith

module _ (a b s n : ℕ) (list : List ℕ) (l : Buffer) where
  pub sum-small : l ≡ sum_built a b s n list → l.answer.count ≤ 5640
  sum-small e = small-built 33 2576 (omega arith) l _ e (sum-bounds a b s n list)

  pub sum-left : (w : List ℕ) → l ≡ sum_built a b s n list → w ≡ l.answer.number ∷ l.answer.count ∷ []
      → ◌≡◌ {A = BufferLeft} (record { buffer = l.list; answer = w }) (sum_left a b s n list)
  unfolding sum_left
  sum-left w e d = built-left l (sum_built a b s n list) w e d

  pub difference-small : l ≡ difference_built a b s n list → l.answer.count ≤ 5640
  difference-small e = small-built 33 2576 (omega arith) l _ e (difference-bounds a b s n list)

  pub difference-left : (w : List ℕ) → l ≡ difference_built a b s n list → w ≡ l.answer.number ∷ l.answer.count ∷ []
      → ◌≡◌ {A = BufferLeft} (record { buffer = l.list; answer = w }) (difference_left a b s n list)
  unfolding difference_left
  difference-left w e d = built-left l (difference_built a b s n list) w e d

module _ (a n : ℕ) (list : List ℕ) (l : Buffer) where
  pub greatest-small : l ≡ greatest_built a n list → l.answer.count ≤ 5640
  greatest-small e = small-built 33 5640 (omega arith) l _ e (greatest-bounds a n list)

  pub greatest-left : (w : List ℕ) → l ≡ greatest_built a n list → w ≡ l.answer.number ∷ l.answer.count ∷ []
      → ◌≡◌ {A = BufferLeft} (record { buffer = l.list; answer = w }) (greatest_left a n list)
  unfolding greatest_left
  greatest-left w e d = built-left l (greatest_built a n list) w e d

-- ---- a question about a list

module _ (list registers : List ℕ) (a : Isolation) where
  pub isolated-small : a ≡ isolation_of list registers → a.place ≤ 4096
  isolated-small e = subst (λ (x : Isolation). x.place ≤ 4096) (sym e) (place-few list registers)

  pub isolated-left : (w : List ℕ) → a ≡ isolation_of list registers → w ≡ a.number ∷ a.place ∷ [] → w ≡ isolated_left list registers
  unfolding isolated_left
  isolated-left w e d = d ∙ ap (λ (x : Isolation). x.number ∷ x.place ∷ []) e

-- ---- what a list reaches, and its text

module _ (a : Reached) (registers list : List ℕ) where
  pub reach-small : (room : ℕ) → a ≡ reach_answer registers list room → a.count ≤ 786432
  reach-small room e = subst (λ (x : Reached). x.count ≤ 786432) (sym e) (omega (arith, reach_few registers list room))

  pub reach-left : (out out' w : List ℕ) → a ≡ reach_answer registers list (length out) → out' ≡ reach_out registers list out → w ≡ a.number ∷ a.count ∷ []
      → ◌≡◌ {A = BufferLeft} (record { buffer = out'; answer = w }) (reach_left registers list out)
  unfolding reach_left
  reach-left out out' w e o d = ap₂ (λ (x y : List ℕ). record { buffer = x; answer = y }) o (d ∙ ap (λ (x : Reached). x.number ∷ x.count ∷ []) e)

-- a number and a count: of what reach answers, of showing and of a builder alike
pub count-reached : (r : Result ℕ Refusal) → (built_of r).count ≡ (reached_of r).count
count-reached (Ok n) = refl
count-reached (Err e) = refl

pub numbers-reached : (r : Result ℕ Refusal) → (built_of r).number ∷ (built_of r).count ∷ [] ≡ (reached_of r).number ∷ (reached_of r).count ∷ []
numbers-reached (Ok n) = refl
numbers-reached (Err e) = refl

pub count-shown : (r : Result ℕ Refusal) → (built_of r).count ≡ (shown_of r).count
count-shown (Ok n) = refl
count-shown (Err e) = refl

pub numbers-shown : (r : Result ℕ Refusal) → (built_of r).number ∷ (built_of r).count ∷ [] ≡ (shown_of r).number ∷ (shown_of r).count ∷ []
numbers-shown (Ok n) = refl
numbers-shown (Err e) = refl

module _ (a : Shown) (list : List ℕ) where
  pub show-small : (room : ℕ) → a ≡ shown_answer list room → a.count ≤ 786432
  show-small room e = subst (λ (x : Shown). x.count ≤ 786432) (sym e) (shown-few list room)

  pub show-left : (text text' w : List ℕ) → a ≡ shown_answer list (length text) → text' ≡ shown_out list text → w ≡ a.number ∷ a.count ∷ []
      → ◌≡◌ {A = BufferLeft} (record { buffer = text'; answer = w }) (show_left list text)
  unfolding show_left
  show-left text text' w e o d = ap₂ (λ (x y : List ℕ). record { buffer = x; answer = y }) o (d ∙ ap (λ (x : Shown). x.number ∷ x.count ∷ []) e)

-- ---- the list of a text, with its items

module _ (a : Assembled) (text : List ℕ) where
  pub make-small : (room room_items : ℕ) → a ≡ assembled_answer text room room_items
      → (a.line ≤ 1048577) × (a.column ≤ 1048577) × (a.list ≤ 32768) × (a.items ≤ 32768)
  make-small room room_items e =
      let s = subst Bounded5 (sym e) (assembled-bounds text room room_items) in
      (s.line, s.column, s.list, s.items)

  pub make-left : (list items list' items' w : List ℕ) → a ≡ assembled_answer text (length list) (length items)
      → list' ≡ assembled_list text list items → items' ≡ assembled_items text list items → w ≡ five a
      → ◌≡◌ {A = TwoLeft} (record { list = list'; items = items'; answer = w }) (make_left text list items)
  unfolding make_left
  make-left list items list' items' w e l i d = λ t. record { list = l t; items = i t; answer = (d ∙ ap five e) t }

-- ---- lists with their items

built-two-left : (b c : Buffers) (w : List ℕ) → b ≡ c → w ≡ b.answer.number ∷ b.answer.list ∷ b.answer.items ∷ []
    → ◌≡◌ {A = TwoLeft} (record { list = b.list; items = b.items; answer = w }) (built_two_left c)
built-two-left b c w e d = ap (λ (x : List ℕ). record { list = b.list; items = b.items; answer = x }) d ∙ ap built_two_left e

-- 4,944 bytes are the most of any such list, and 8,224 of its items
small-two : (last most most_items : ℕ) → most ≤ 4944 → most_items ≤ 8224 → (b c : Buffers) → b ≡ c → BoundedTwo last most most_items c.answer
    → (b.answer.list ≤ 4944) × (b.answer.items ≤ 8224)
small-two last most most_items m i b c e h =
    let s = subst (λ (x : Buffers). BoundedTwo last most most_items x.answer) (sym e) h in
    (omega (arith, s.list), omega (arith, s.items))

-- either search
pub search-small : (less : Bool) (a n number : ℕ) (list items : List ℕ) (l : Buffers) → l ≡ search_built less a n number list items
    → (l.answer.list ≤ 4944) × (l.answer.items ≤ 8224)
search-small less a n number list items l e = small-two 34 1552 2048 (omega arith) (omega arith) l _ e (search-bounds less a n number list items)

module _ (a n number : ℕ) (list items : List ℕ) (l : Buffers) (w : List ℕ) where
  pub equal-left : l ≡ equal_built a n number list items → w ≡ l.answer.number ∷ l.answer.list ∷ l.answer.items ∷ []
      → ◌≡◌ {A = TwoLeft} (record { list = l.list; items = l.items; answer = w }) (equal_left a n number list items)
  unfolding equal_left
  equal-left e d = built-two-left l (equal_built a n number list items) w e d

  pub less-left : l ≡ less_built a n number list items → w ≡ l.answer.number ∷ l.answer.list ∷ l.answer.items ∷ []
      → ◌≡◌ {A = TwoLeft} (record { list = l.list; items = l.items; answer = w }) (less_left a n number list items)
  unfolding less_left
  less-left e d = built-two-left l (less_built a n number list items) w e d

module _ (a s n : ℕ) (marks list items : List ℕ) (l : Buffers) where
  pub closing-small : l ≡ closing_built a s n marks list items → (l.answer.list ≤ 4944) × (l.answer.items ≤ 8224)
  closing-small e = small-two 35 4944 288 (omega arith) (omega arith) l _ e (closing-bounds a s n marks list items)

  pub closing-left : (w : List ℕ) → l ≡ closing_built a s n marks list items → w ≡ l.answer.number ∷ l.answer.list ∷ l.answer.items ∷ []
      → ◌≡◌ {A = TwoLeft} (record { list = l.list; items = l.items; answer = w }) (closing_left a s n marks list items)
  unfolding closing_left
  closing-left w e d = built-two-left l (closing_built a s n marks list items) w e d

  pub spreading-small : l ≡ spreading_built a s n marks list items → (l.answer.list ≤ 4944) × (l.answer.items ≤ 8224)
  spreading-small e = small-two 35 4616 8224 (omega arith) (omega arith) l _ e (spreading-bounds a s n marks list items)

  pub spreading-left : (w : List ℕ) → l ≡ spreading_built a s n marks list items → w ≡ l.answer.number ∷ l.answer.list ∷ l.answer.items ∷ []
      → ◌≡◌ {A = TwoLeft} (record { list = l.list; items = l.items; answer = w }) (spreading_left a s n marks list items)
  unfolding spreading_left
  spreading-left w e d = built-two-left l (spreading_built a s n marks list items) w e d

-- ---- disk

small-three : (r a : Moved) → r ≡ a → Bounded3 a → (r.place ≤ 67) × (r.bytes ≤ 34304)
small-three r a e h = let s = subst Bounded3 (sym e) h in (s.place, s.bytes)

moved-left : (l m : ContentLeft) (w : List ℕ) → l ≡ m → w ≡ three l.answer → ◌≡◌ {A = BufferLeft} (record { buffer = l.buffer; answer = w }) (moved_left m)
moved-left l m w e d = ap (λ (x : List ℕ). record { buffer = l.buffer; answer = x }) d ∙ ap moved_left e

-- of a content that is read
module _ (kind : ℕ) (bytes target : List ℕ) (l : ContentLeft) (e : l ≡ content_read kind bytes target) where
  pub read_small : (l.answer.place ≤ 67) × (l.answer.bytes ≤ 34304)
  unfolding content_read
  read_small = small-three l.answer _ (ap (λ (x : ContentLeft). x.answer) e) (read-content-bounds kind bytes target)

  pub read-left : (w : List ℕ) → w ≡ three l.answer → ◌≡◌ {A = BufferLeft} (record { buffer = l.buffer; answer = w }) (read_left kind bytes target)
  unfolding read_left
  read-left w d = moved-left l (content_read kind bytes target) w e d

-- and of one that is written
module _ (kind : ℕ) (content out : List ℕ) (l : ContentLeft) (e : l ≡ content_written kind content out) where
  pub write-small : (l.answer.place ≤ 67) × (l.answer.bytes ≤ 34304)
  unfolding content_written
  write-small = small-three l.answer _ (ap (λ (x : ContentLeft). x.answer) e) (write-content-bounds kind content (length out))

  pub write-left : (w : List ℕ) → w ≡ three l.answer → ◌≡◌ {A = BufferLeft} (record { buffer = l.buffer; answer = w }) (write_left kind content out)
  unfolding write_left
  write-left w d = moved-left l (content_written kind content out) w e d

-- of a picture that is read
module _ (kind : ℕ) (bytes memory registers : List ℕ) (l : PictureLeft) (e : l ≡ picture_read kind bytes memory registers) where
  pub read-picture-small : (l.answer.place ≤ 67) × (l.answer.bytes ≤ 34304)
  unfolding picture_read
  read-picture-small =
      small-three l.answer _ (ap (λ (x : PictureLeft). x.answer) e)
      (read-bounds (picture_read_rows (picture_fits kind (length memory) (length registers)) (content_modes (content_of bytes))) (length (content_of bytes)) refl kind bytes (size_small kind bytes))

  pub read-picture-left : (w : List ℕ) → w ≡ three l.answer
      → ◌≡◌ {A = TargetsLeft} (record { memory = l.memory; registers = l.registers; answer = w }) (read_picture_left kind bytes memory registers)
  unfolding read_picture_left
  read-picture-left w d =
      ap (λ (x : List ℕ). record { memory = l.memory; registers = l.registers; answer = x }) d
      ∙ ap (λ (x : PictureLeft). record { memory = x.memory; registers = x.registers; answer = three x.answer }) e

-- and of one that is written
module _ (kind : ℕ) (memory registers out : List ℕ) (l : ContentLeft) (e : l ≡ picture_written kind memory registers out) where
  pub write-picture-small : (l.answer.place ≤ 67) × (l.answer.bytes ≤ 34304)
  unfolding picture_written
  write-picture-small =
      small-three l.answer _ (ap (λ (x : ContentLeft). x.answer) e)
      (answered-bounds (picture_write_rows kind (picture_fits kind (length memory) (length registers)) (modes_of registers) (length out)) 8704 refl (λ z. omega arith))

  pub write-picture-left : (w : List ℕ) → w ≡ three l.answer → ◌≡◌ {A = BufferLeft} (record { buffer = l.buffer; answer = w }) (write_picture_left kind memory registers out)
  unfolding write_picture_left
  write-picture-left w d = moved-left l (picture_written kind memory registers out) w e d

-- and of one that is converted
module _ (bytes out : List ℕ) (l : ContentLeft) where
  pub to-new-small : l ≡ to_new bytes out → (l.answer.place ≤ 67) × (l.answer.bytes ≤ 34304)
  unfolding to_new
  to-new-small e = small-three l.answer _ (ap (λ (x : ContentLeft). x.answer) e) (read-bounds (to_new_rows (length out)) 8704 refl 1 bytes (λ s. omega arith))

  pub to-new-left : l ≡ to_new bytes out → (w : List ℕ) → w ≡ three l.answer → ◌≡◌ {A = BufferLeft} (record { buffer = l.buffer; answer = w }) (to_new_left bytes out)
  unfolding to_new_left
  to-new-left e w d = moved-left l (to_new bytes out) w e d

  pub to-old-small : l ≡ to_old bytes out → (l.answer.place ≤ 67) × (l.answer.bytes ≤ 34304)
  unfolding to_old
  to-old-small e =
      small-three l.answer _ (ap (λ (x : ContentLeft). x.answer) e)
      (read-bounds (to_old_rows (content_modes (content_of bytes)) (length out)) 8704 refl 4 bytes (λ s. omega arith))

  pub to-old-left : l ≡ to_old bytes out → (w : List ℕ) → w ≡ three l.answer → ◌≡◌ {A = BufferLeft} (record { buffer = l.buffer; answer = w }) (to_old_left bytes out)
  unfolding to_old_left
  to-old-left e w d = moved-left l (to_old bytes out) w e d
