-- The words of a line lead to an instruction: what the reader of words makes of them, one after the other, from what the line is so far. Assumes nothing.
use mathlib.Core.Path.{◌≡◌, refl}
use mathlib.Core.Bool.{true}
use mathlib.Core.List.{List, [], ◌∷◌}
use Prim.Native.Nat.{ℕ, ◌<◌}
use lib.Dec.{ltb}
use borrow.Author.Tests.{lt-ltb}
use Rattle.bits.specs.Search.{index_of}
use Rattle.spelling.specs.Tables.{refused_word, byte_word}
use Rattle.spelling.specs.Words.{plain, decimal, hex_pair, extended, visible, spelled_in, spelled, goods, extended_by}
use Rattle.spelling.proofs.Tests.{pair-hex, hex-plain, decimal-plain}
use Rattle.judge.specs.declared.Instruction.{Instruction}
use Rattle.judge.specs.Answers.{Fault}
use Rattle.lines.specs.declared.Line.{Line}
use Rattle.lines.specs.declared.Phase.TheVariants.{Head, Byte}
use Rattle.lines.specs.Said.{in_bytes}
use Rattle.lines.specs.Alone.{of_kind}
use Rattle.lines.specs.Worded as worded
use Rattle.lines.specs.Worded.{line, with_byte, after_byte, sort_of, head_word}

-- Each is a word that reads back as itself.
abbrev pub Plains : List ℕ → Type 0
Plains [] = Unit {0}
Plains (w ∷ ws) = (plain w ≡ true) × Plains ws

-- From the line l on, the words ws lead to the instruction i. A place with no word is passed over; a comment behind a whole instruction does not matter.
pub data Leads : Line → List ℕ → Instruction → Type 0 where
  stop : {l : Line} {i : Instruction} → sort_of l.phase ≡ 2 → l.got ≡ i → Leads l [] i
  skip : {l : Line} {w : ℕ} {ws : List ℕ} {i : Instruction} → w ≡ 0 → Leads l ws i → Leads l (w ∷ ws) i
  word : {l : Line} {w : ℕ} {ws : List ℕ} {i : Instruction} (next : Line) → ltb (sort_of l.phase) 3 ≡ true → plain w ≡ true → worded.worded l w ≡ next → Leads next ws i → Leads l (w ∷ ws) i
  comment : {l : Line} {w : ℕ} {ws : List ℕ} {i : Instruction} → w ≡ 59 → sort_of l.phase ≡ 2 → l.got ≡ i → Plains ws → Leads l (w ∷ ws) i

-- Eight bytes.
pub record Bytes (i : Instruction) : Type 0 where
  pub kind : i.kind < 256
  pub source : i.source < 256
  pub tag : i.tag < 256
  pub mode : i.mode < 256
  pub addr : i.addr < 256
  pub flip : i.flip < 256
  pub code : i.code < 256
  pub logic : i.logic < 256

byte-word : (n x : ℕ) (i : Instruction) → x < 256 → worded.worded (line (Byte n) i) (hex_pair x) ≡ line (after_byte n) (with_byte i x)
unfolding worded.worded worded.byte_word
byte-word n x i h = simp (pair-hex x h, lt-ltb x 256 h)

byte-lead : (n x : ℕ) (a : Instruction) {ws : List ℕ} {i : Instruction} → x < 256 → Leads (line (after_byte n) (with_byte a x)) ws i → Leads (line (Byte n) a) (hex_pair x ∷ ws) i
byte-lead n x a h rest = word (line (after_byte n) (with_byte a x)) refl (hex-plain x h) (byte-word n x a h) rest

-- An instruction in bytes leads to itself, whatever it is said to be refused with.
pub bytes-lead : (old i : Instruction) (fault : Fault) → Bytes i → fault.number < 257 → fault.byte < 257 → Leads (line Head old) (in_bytes i fault) i
unfolding in_bytes worded.worded head_word index_of plain extended visible spelled_in spelled goods extended_by
bytes-lead old i fault b n y =
    let plains : Plains (refused_word ∷ decimal fault.number ∷ byte_word ∷ decimal fault.byte ∷ []) =
    (refl, (decimal-plain fault.number n, (refl, (decimal-plain fault.byte y, tt)))) in
    word (line (Byte 0) (of_kind 0)) refl refl refl
    (byte-lead 0 i.kind (of_kind 0) b.kind
    (byte-lead 1 i.source _ b.source
    (byte-lead 2 i.tag _ b.tag
    (byte-lead 3 i.mode _ b.mode
    (byte-lead 4 i.addr _ b.addr
    (byte-lead 5 i.flip _ b.flip
    (byte-lead 6 i.code _ b.code
    (byte-lead 7 i.logic _ b.logic
    (skip refl (skip refl (skip refl (skip refl (skip refl
    (comment refl refl refl plains))))))))))))))
