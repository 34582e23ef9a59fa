-- The number of each reason to refuse, and of a call's result. Documents 01 and 02, Numbers given back; docs/numbers.tsv.
use Rattle.std.specs.Prelude.{ℕ, Result, Ok, Err}
use Rattle.bits.specs.declared.refusals.Refusal.{Refusal}
use Rattle.bits.specs.declared.refusals.Refusal.TheVariants.{MemoryLength, RegistersLength, ListLength, ItemsLength, Kind, Source, NoMode, ModeTag, ModeUnused, Logic, ItemsTooFew, OutTooShort, ModeUnset, ModeRegisters, GroupTooWide, ShiftNotBelow, MoveBarred, FileLength, BlockSums, BlockKind, BlockNumber, BlockForm, ContentSize, LentLength, OutputTooShort, ModeSet, Width, FieldBeyond, FieldsCross, ListTooShort, NumberTooLarge, MarksLength, NotIsolated, TextLength, TextName, TextChoice, TextFunction, TextSource, TextNumber, TextWord, TextShift, TextTooMuch, TextByte, TextTooEarly, TextFieldName, TextFieldTwice, TextFieldsTooMany, TextFieldUnknown, TextFieldWidth, TextReach, TextValue, TextItemAbove}

abbrev pub number_of_refusal : Refusal → ℕ
number_of_refusal MemoryLength = 1
number_of_refusal RegistersLength = 2
number_of_refusal ListLength = 3
number_of_refusal ItemsLength = 4
number_of_refusal Kind = 5
number_of_refusal Source = 6
number_of_refusal NoMode = 7
number_of_refusal ModeTag = 8
number_of_refusal ModeUnused = 9
number_of_refusal Logic = 11
number_of_refusal ItemsTooFew = 12
number_of_refusal OutTooShort = 13
number_of_refusal ModeUnset = 14
number_of_refusal ModeRegisters = 15
number_of_refusal GroupTooWide = 16
number_of_refusal ShiftNotBelow = 17
number_of_refusal MoveBarred = 18
number_of_refusal FileLength = 20
number_of_refusal BlockSums = 21
number_of_refusal BlockKind = 22
number_of_refusal BlockNumber = 23
number_of_refusal BlockForm = 24
number_of_refusal ContentSize = 25
number_of_refusal LentLength = 26
number_of_refusal OutputTooShort = 27
number_of_refusal ModeSet = 28
number_of_refusal Width = 30
number_of_refusal FieldBeyond = 31
number_of_refusal FieldsCross = 32
number_of_refusal ListTooShort = 33
number_of_refusal NumberTooLarge = 34
number_of_refusal MarksLength = 35
number_of_refusal NotIsolated = 40
number_of_refusal TextLength = 50
number_of_refusal TextName = 60
number_of_refusal TextChoice = 61
number_of_refusal TextFunction = 62
number_of_refusal TextSource = 63
number_of_refusal TextNumber = 64
number_of_refusal TextWord = 65
number_of_refusal TextShift = 66
number_of_refusal TextTooMuch = 67
number_of_refusal TextByte = 68
number_of_refusal TextTooEarly = 69
number_of_refusal TextFieldName = 70
number_of_refusal TextFieldTwice = 71
number_of_refusal TextFieldsTooMany = 72
number_of_refusal TextFieldUnknown = 73
number_of_refusal TextFieldWidth = 74
number_of_refusal TextReach = 75
number_of_refusal TextValue = 76
number_of_refusal TextItemAbove = 77

-- What a result gives back: 0 where the call is done, else the number of its refusal.
abbrev pub number_given : {A : Type 0} → Result A Refusal → ℕ
number_given (Ok _) = 0
number_given (Err r) = number_of_refusal r
