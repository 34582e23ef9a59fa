-- The documents' numbers that a contract speaks of, led back to the result that they are of: each result's numbers are its own. Assumes nothing.
use mathlib.Core.Path.{◌≡◌, refl, sym, ap, ◌∙◌}
use mathlib.Core.Bool.{Bool, cond}
use mathlib.Core.List.{List}
use Prim.Native.Nat.{ℕ}
use lib.Dec.{eqb}
use Rattle.std.specs.Prelude.{Result, Ok, Err}
use Rattle.bits.specs.declared.refusals.Refusal.{Refusal}
use Rattle.bits.specs.declared.refusals.Refusal.TheVariants.{BlockKind}
use Rattle.bits.specs.Refusals.{number_of_refusal}
use Rattle.bits.proofs.RefusalLaws.{refusal_of, refusal_of-number, number-never-zero}
use Rattle.network.specs.Answer.{Passed, passed_of}
use Rattle.judge.specs.declared.Done.{Done}
use Rattle.judge.specs.declared.Refused.{Refused as AtInstruction}
use Rattle.judge.specs.Answers.{Answer, answer_of}
use Rattle.builders.specs.declared.Sizes.{Sizes}
use Rattle.builders.specs.Building.{Built, BuiltTwo}
use Rattle.builders.specs.Results.{built_of, built_two_of}
use Rattle.text.specs.declared.Refused.{Refused as AtWord}
use Rattle.text.specs.Make.{Made}
use Rattle.text.specs.Show.{Shown}
use Rattle.text.specs.Results.{made_of, shown_of}
use Rattle.assembly.specs.Assembly.{Assembled}
use Rattle.assembly.specs.Results.{assembled_of}
use Rattle.contents.specs.declared.Refused.{Refused as AtBlock}
use Rattle.contents.specs.Moved.{Moved, moved_of}
use Rattle.contents.specs.declared.Kind.{Kind}
use Rattle.contents.specs.declared.Kind.TheVariants.{Picture, List as ListKind, Items, ModesPicture}
use Rattle.contents.specs.File.{kind_right}
use Rattle.contents.specs.Kinds.{number_of_kind, KindOf}
use Rattle.judge.specs.declared.Fault.{Fault as Wrong}
use Rattle.judge.specs.Answers.{Fault, fault_given}
use Rattle.bits.specs.Refusals.{number_given}
use Rattle.module.specs.Run.{Left}
use Rattle.module.specs.declared.Stepped.{Stepped}
use Rattle.module.specs.Left.{left_by}
use Rattle.registers.specs.declared.Registers.{Registers}
use Rattle.isolation.specs.declared.Refused.{Refused as Breaking}
use Rattle.isolation.specs.Isolation.{Isolation, isolation_given}
use Rattle.reach.specs.Reach.{Reached, reached_of}
use Rattle.builders.specs.Building.{BuiltLeft, BuiltTwoLeft}
use Rattle.contents.specs.Content.{ContentLeft}
use Rattle.pictures.specs.Picture.{PictureLeft}
use Rattle.lines.specs.declared.Sort.{Sort}
use Rattle.lines.specs.declared.Sort.TheVariants.{TooEarly, Nothing, Whole, Comment, Refused}
use Rattle.lines.specs.Sorts.{number_of_sort}

-- 0 is what was done, any other number a reason
back : {A E : Type 0} → ℕ → A → (Refusal → E) → Result A E
back n a e = cond (eqb n 0) (Ok a) (Err (e (refusal_of n)))

-- a reason's number leads back to it
back-reason : {A E : Type 0} (r : Refusal) (a : A) (e : Refusal → E) → back (number_of_refusal r) a e ≡ Err (e r)
unfolding back
back-reason r a e =
    ap (λ (b : Bool). cond b (Ok a) (Err (e (refusal_of (number_of_refusal r))))) (number-never-zero r) ∙ ap (λ (x : Refusal). Err (e x)) (refusal_of-number r)

-- ---- for each kind of result

pub passed_back : Passed → Result (List ℕ) Refusal
passed_back p = back p.number p.item (λ r. r)

pub passed-back : (r : Result (List ℕ) Refusal) → passed_back (passed_of r) ≡ r
unfolding passed_back back
passed-back (Ok l) = refl
passed-back (Err r) = back-reason r _ (λ x. x)

pub answer_back : Answer → Result Done AtInstruction
answer_back a = back a.number (record { steps = a.steps; taken = a.taken; given = a.given }) (λ r. record { why = r; place = a.place; byte = a.byte })

pub answer-back : (r : Result Done AtInstruction) → answer_back (answer_of r) ≡ r
unfolding answer_back back
answer-back (Ok d) = refl
answer-back (Err r) = back-reason r.why _ (λ x. record { why = x; place = r.place; byte = r.byte })

pub built_back : Built → Result ℕ Refusal
built_back b = back b.number b.count (λ r. r)

pub built-back : (r : Result ℕ Refusal) → built_back (built_of r) ≡ r
unfolding built_back back
built-back (Ok n) = refl
built-back (Err r) = back-reason r _ (λ x. x)

pub built_two_back : BuiltTwo → Result Sizes Refusal
built_two_back b = back b.number (record { list = b.list; items = b.items }) (λ r. r)

pub built-two-back : (r : Result Sizes Refusal) → built_two_back (built_two_of r) ≡ r
unfolding built_two_back back
built-two-back (Ok z) = refl
built-two-back (Err r) = back-reason r _ (λ x. x)

pub shown_back : Shown → Result ℕ Refusal
shown_back s = back s.number s.count (λ r. r)

pub shown-back : (r : Result ℕ Refusal) → shown_back (shown_of r) ≡ r
unfolding shown_back back
shown-back (Ok n) = refl
shown-back (Err r) = back-reason r _ (λ x. x)

pub made_back : Made → Result ℕ AtWord
made_back m = back m.number m.count (λ r. record { why = r; line = m.line; column = m.column })

pub made-back : (r : Result ℕ AtWord) → made_back (made_of r) ≡ r
unfolding made_back back
made-back (Ok n) = refl
made-back (Err r) = back-reason r.why _ (λ x. record { why = x; line = r.line; column = r.column })

pub assembled_back : Assembled → Result Sizes AtWord
assembled_back m = back m.number (record { list = m.list; items = m.items }) (λ r. record { why = r; line = m.line; column = m.column })

pub assembled-back : (r : Result Sizes AtWord) → assembled_back (assembled_of r) ≡ r
unfolding assembled_back back
assembled-back (Ok z) = refl
assembled-back (Err r) = back-reason r.why _ (λ x. record { why = x; line = r.line; column = r.column })

pub moved_back : Moved → Result ℕ AtBlock
moved_back m = back m.number m.bytes (λ r. record { why = r; place = m.place })

pub moved-back : (r : Result ℕ AtBlock) → moved_back (moved_of r) ≡ r
unfolding moved_back back
moved-back (Ok n) = refl
moved-back (Err r) = back-reason r.why _ (λ x. record { why = x; place = r.place })

-- nothing is done but that nothing is refused
pub given_back : ℕ → Result (Unit {0}) Refusal
given_back n = back n _ (λ r. r)

pub given-back : (r : Result (Unit {0}) Refusal) → given_back (number_given r) ≡ r
unfolding given_back back
given-back (Ok _) = refl
given-back (Err r) = back-reason r _ (λ x. x)

pub fault_back : Fault → Result (Unit {0}) Wrong
fault_back f = back f.number _ (λ r. record { why = r; byte = f.byte })

pub fault-back : (r : Result (Unit {0}) Wrong) → fault_back (fault_given r) ≡ r
unfolding fault_back back
fault-back (Ok _) = refl
fault-back (Err f) = back-reason f.why _ (λ x. record { why = x; byte = f.byte })

-- the end of a line, from its number: 4 where it is none of the others
sort_of_number : ℕ → Sort
sort_of_number n = cond (eqb n 0) TooEarly (cond (eqb n 1) Nothing (cond (eqb n 2) Whole (cond (eqb n 3) Comment Refused)))

pub sort_back : ℕ → Sort
sort_back = sort_of_number

pub sort-back : (s : Sort) → sort_back (number_of_sort s) ≡ s
unfolding sort_back sort_of_number
sort-back TooEarly = refl
sort-back Nothing = refl
sort-back Whole = refl
sort-back Comment = refl
sort-back Refused = refl

-- the kind of a number, from the number: 4 where it is none of the others
kind_of_number : ℕ → Kind
kind_of_number n = cond (eqb n 1) Picture (cond (eqb n 2) ListKind (cond (eqb n 3) Items ModesPicture))

kind-of-number : (k : Kind) → kind_of_number (number_of_kind k) ≡ k
unfolding kind_of_number
kind-of-number Picture = refl
kind-of-number ListKind = refl
kind-of-number Items = refl
kind-of-number ModesPicture = refl

-- what `KindOf` tells: the kind of a number, or that no kind has it
pub kind_told : ℕ → Result Kind Refusal
kind_told n = cond (kind_right n) (Ok (kind_of_number n)) (Err BlockKind)

pub kind-told : (n : ℕ) (r : Result Kind Refusal) → KindOf n r → r ≡ kind_told n
unfolding kind_told
kind-told n (Ok k) h =
    ap Ok (sym (kind-of-number k) ∙ ap kind_of_number h.0)
    ∙ ap (λ (b : Bool). cond b (Ok (kind_of_number n)) (Err BlockKind)) (sym h.1)
kind-told n (Err why) h =
    ap Err h.0 ∙ ap (λ (b : Bool). cond b (Ok (kind_of_number n)) (Err BlockKind)) (sym h.1)

pub reached_back : Reached → Result ℕ Refusal
reached_back r = back r.number r.count (λ x. x)

pub reached-back : (r : Result ℕ Refusal) → reached_back (reached_of r) ≡ r
unfolding reached_back back
reached-back (Ok n) = refl
reached-back (Err r) = back-reason r _ (λ x. x)

pub isolation_back : Isolation → Result (Unit {0}) Breaking
isolation_back a = back a.number _ (λ r. record { why = r; place = a.place })

pub isolation-back : (r : Result (Unit {0}) Breaking) → isolation_back (isolation_given r) ≡ r
unfolding isolation_back back
isolation-back (Ok _) = refl
isolation-back (Err r) = back-reason r.why _ (λ x. record { why = x; place = r.place })

-- ---- with the buffers beside the answer

pub left_back : {R : Type 0} → Left R Answer → Left R (Result Done AtInstruction)
left_back l = record { memory = l.memory; registers = l.registers; out = l.out; answer = answer_back l.answer }

pub left-back : {R : Type 0} (m : List ℕ) (r : R) (o : List ℕ) (x : Result Done AtInstruction)
    → left_back (record { memory = m; registers = r; out = o; answer = answer_of x }) ≡ record { memory = m; registers = r; out = o; answer = x }
unfolding left_back
left-back m r o x = λ i. record { memory = m; registers = r; out = o; answer = answer-back x i }

pub buffer_back : BuiltLeft → Result ℕ Refusal × List ℕ
buffer_back l = (built_back l.answer, l.list)

pub buffer-back : (l : List ℕ) (x : Result ℕ Refusal) → buffer_back (record { answer = built_of x; list = l }) ≡ (x, l)
unfolding buffer_back
buffer-back l x = λ i. (built-back x i, l)

pub buffers_back : BuiltTwoLeft → Result Sizes Refusal × List ℕ × List ℕ
buffers_back l = (built_two_back l.answer, l.list, l.items)

pub buffers-back : (l i : List ℕ) (x : Result Sizes Refusal) → buffers_back (record { answer = built_two_of x; list = l; items = i }) ≡ (x, l, i)
unfolding buffers_back
buffers-back l i x = λ k. (built-two-back x k, l, i)

pub content_back : ContentLeft → Result ℕ AtBlock × List ℕ
content_back l = (moved_back l.answer, l.buffer)

pub content-back : (b : List ℕ) (x : Result ℕ AtBlock) → content_back (record { answer = moved_of x; buffer = b }) ≡ (x, b)
unfolding content_back
content-back b x = λ i. (moved-back x i, b)

pub picture_back : PictureLeft → Result ℕ AtBlock × List ℕ × List ℕ
picture_back l = (moved_back l.answer, l.memory, l.registers)

pub picture-back : (m r : List ℕ) (x : Result ℕ AtBlock) → picture_back (record { answer = moved_of x; memory = m; registers = r }) ≡ (x, m, r)
unfolding picture_back
picture-back m r x = λ i. (moved-back x i, m, r)

-- what a step by value leaves
stepped_as : Left Registers Answer → Result Stepped AtInstruction
stepped_as l =
    back l.answer.number (record { regs = l.registers; done = record { steps = l.answer.steps; taken = l.answer.taken; given = l.answer.given } })
    (λ r. record { why = r; place = l.answer.place; byte = l.answer.byte })

pub stepped_back : Left Registers Answer → Result Stepped AtInstruction × List ℕ × List ℕ
stepped_back l = (stepped_as l, l.memory, l.out)

pub stepped-back : (r : Registers) (x : Result Stepped AtInstruction) (m o : List ℕ) → stepped_back (left_by r x m o) ≡ (x, m, o)
unfolding stepped_back stepped_as back
stepped-back r (Ok s) m o = refl
stepped-back r (Err e) m o = λ i. (back-reason e.why (record { regs = r; done = record { steps = 0; taken = 0; given = 0 } }) (λ x. record { why = x; place = e.place; byte = e.byte }) i, m, o)
