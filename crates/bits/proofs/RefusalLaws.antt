-- No two reasons have one number, and none has 0: what is given back tells which result it is of.
use Rattle.std.specs.Prelude.{◌≡◌, ◌<◌, ℕ, false, cond, eqb, List, [], ◌∷◌}
use Rattle.bits.specs.declared.refusals.Refusal.{Refusal}
use Rattle.bits.specs.declared.refusals.Refusal.TheVariants.{MemoryLength, RegistersLength, ListLength, ItemsLength, Kind, Source, NoMode, ModeTag, ModeUnused, Logic, ItemsTooFew, OutTooShort, ModeUnset, ModeRegisters, GroupTooWide, ShiftNotBelow, MoveBarred, FileLength, BlockSums, BlockKind, BlockNumber, BlockForm, ContentSize, LentLength, OutputTooShort, ModeSet, Width, FieldBeyond, FieldsCross, ListTooShort, NumberTooLarge, MarksLength, NotIsolated, TextLength, TextName, TextChoice, TextFunction, TextSource, TextNumber, TextWord, TextShift, TextTooMuch, TextByte, TextTooEarly, TextFieldName, TextFieldTwice, TextFieldsTooMany, TextFieldUnknown, TextFieldWidth, TextReach, TextValue, TextItemAbove}
use Rattle.bits.specs.Refusals.{number_of_refusal}
use mathlib.Core.Path.{refl, sym, ap, ◌∙◌}
use native.Mathlib.Decide.{ℕ_discrete}
use native.Mathlib.Omega.{arith}
use native.Mathlib.Omega.{arith}
use borrow.Author.Tests.{ne_eqb}

-- The first of these reasons that has a number, or else the last of all.
named : List Refusal → ℕ → Refusal
named [] n = TextItemAbove
named (r ∷ rs) n = cond (eqb n (number_of_refusal r)) r (named rs n)

-- The reason that has a number.
pub refusal_of : ℕ → Refusal
refusal_of = named (MemoryLength ∷ RegistersLength ∷ ListLength ∷ ItemsLength ∷ Kind ∷ Source ∷ NoMode ∷ ModeTag ∷ ModeUnused ∷ Logic ∷ ItemsTooFew ∷ OutTooShort ∷ ModeUnset ∷ ModeRegisters ∷ GroupTooWide ∷ ShiftNotBelow ∷ MoveBarred ∷ FileLength ∷ BlockSums ∷ BlockKind ∷ BlockNumber ∷ BlockForm ∷ ContentSize ∷ LentLength ∷ OutputTooShort ∷ ModeSet ∷ Width ∷ FieldBeyond ∷ FieldsCross ∷ ListTooShort ∷ NumberTooLarge ∷ MarksLength ∷ NotIsolated ∷ TextLength ∷ TextName ∷ TextChoice ∷ TextFunction ∷ TextSource ∷ TextNumber ∷ TextWord ∷ TextShift ∷ TextTooMuch ∷ TextByte ∷ TextTooEarly ∷ TextFieldName ∷ TextFieldTwice ∷ TextFieldsTooMany ∷ TextFieldUnknown ∷ TextFieldWidth ∷ TextReach ∷ TextValue ∷ TextItemAbove ∷ [])

-- The number says which reason it is.
pub refusal_of-number : (r : Refusal) → refusal_of (number_of_refusal r) ≡ r
unfolding refusal_of named
refusal_of-number MemoryLength = refl
refusal_of-number RegistersLength = refl
refusal_of-number ListLength = refl
refusal_of-number ItemsLength = refl
refusal_of-number Kind = refl
refusal_of-number Source = refl
refusal_of-number NoMode = refl
refusal_of-number ModeTag = refl
refusal_of-number ModeUnused = refl
refusal_of-number Logic = refl
refusal_of-number ItemsTooFew = refl
refusal_of-number OutTooShort = refl
refusal_of-number ModeUnset = refl
refusal_of-number ModeRegisters = refl
refusal_of-number GroupTooWide = refl
refusal_of-number ShiftNotBelow = refl
refusal_of-number MoveBarred = refl
refusal_of-number FileLength = refl
refusal_of-number BlockSums = refl
refusal_of-number BlockKind = refl
refusal_of-number BlockNumber = refl
refusal_of-number BlockForm = refl
refusal_of-number ContentSize = refl
refusal_of-number LentLength = refl
refusal_of-number OutputTooShort = refl
refusal_of-number ModeSet = refl
refusal_of-number Width = refl
refusal_of-number FieldBeyond = refl
refusal_of-number FieldsCross = refl
refusal_of-number ListTooShort = refl
refusal_of-number NumberTooLarge = refl
refusal_of-number MarksLength = refl
refusal_of-number NotIsolated = refl
refusal_of-number TextLength = refl
refusal_of-number TextName = refl
refusal_of-number TextChoice = refl
refusal_of-number TextFunction = refl
refusal_of-number TextSource = refl
refusal_of-number TextNumber = refl
refusal_of-number TextWord = refl
refusal_of-number TextShift = refl
refusal_of-number TextTooMuch = refl
refusal_of-number TextByte = refl
refusal_of-number TextTooEarly = refl
refusal_of-number TextFieldName = refl
refusal_of-number TextFieldTwice = refl
refusal_of-number TextFieldsTooMany = refl
refusal_of-number TextFieldUnknown = refl
refusal_of-number TextFieldWidth = refl
refusal_of-number TextReach = refl
refusal_of-number TextValue = refl
refusal_of-number TextItemAbove = refl

pub number-injective : (r s : Refusal) → number_of_refusal r ≡ number_of_refusal s → r ≡ s
number-injective r s h = sym (refusal_of-number r) ∙ ap refusal_of h ∙ refusal_of-number s

pub number-never-zero : (r : Refusal) → eqb (number_of_refusal r) 0 ≡ false
unfolding refusal_of named
number-never-zero r = ne_eqb (number_of_refusal r) 0 (λ e. omega (arith, e, ap number_of_refusal (sym (refusal_of-number r) ∙ ap refusal_of e)))

-- 0 is no reason's.
pub number-positive : (r : Refusal) → 0 < number_of_refusal r
unfolding refusal_of named
number-positive r = go (ℕ_discrete (number_of_refusal r) 0)
  where
    go : Dec (number_of_refusal r ≡ 0) → 0 < number_of_refusal r
    go (yes h) = let last : number_of_refusal r ≡ 77 = ap number_of_refusal (sym (refusal_of-number r) ∙ ap refusal_of h) in absurd (omega arith)
    go (no u) = omega arith
