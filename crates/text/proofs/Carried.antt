-- What every word leaves true of a line holds of the line after any characters. Assumes nothing.
use mathlib.Core.Bool.{true, false}
use mathlib.Core.List.{List, [], ◌∷◌}
use Prim.Native.Nat.{ℕ, ◌+◌}
use lib.Dec.{eqb, ltb}
use Rattle.bits.proofs.Rows.{taken}
use Rattle.spelling.specs.Words.{extended}
use Rattle.lines.specs.declared.Line.{Line}
use Rattle.lines.specs.declared.Phase.{Phase}
use Rattle.lines.specs.declared.Phase.TheVariants.{Head, Comment, Refused}
use Rattle.lines.specs.Worded.{line, worded, sort_of}
use Rattle.text.specs.declared.Reading.{Reading}
use Rattle.text.specs.Make.{reading, start_of, blank, ended, closed, character, commented, stepped, ends}

-- It is left true by a word, and where a line ends, is commented or is refused for ending too early.
pub record Carries (P : Line → Type 0) : Type 0 where
  pub word : (l : Line) (w : ℕ) → P l → P (worded l w)
  pub head : (l : Line) → P l → P (line Head l.got)
  pub comment : (l : Line) → P l → P (line Comment l.got)
  pub early : (l : Line) → P l → P (line (Refused 69) l.got)

module _ (P : Line → Type 0) (carries : Carries P) where
  abbrev Read : Reading → Type 0
  Read s = P s.line

  pub ended-carried : (l : Line) (w : ℕ) → P l → P (ended l w)
  unfolding ended
  ended-carried l w h = taken P l (worded l w) (eqb w 0) h (carries.word l w h)

  closed-carried : (next : Phase) (l : Line) (at start : ℕ) → P (line next l.got) → P l → Read (closed next l at start)
  unfolding closed
  closed-carried next l at start n h =
      taken Read (reading (line next l.got) 0 at false) _ (eqb (sort_of l.phase) 1) n
      (taken Read (reading (line next l.got) 0 at true) _ (eqb (sort_of l.phase) 2) n
      (taken Read (reading l 0 start false) (reading (line (Refused 69) l.got) 0 at false) (eqb (sort_of l.phase) 4) h (carries.early l h)))

  module _ (s : Reading) (at c : ℕ) (h : P s.line) where
    character-carried : Read (character s at c)
    unfolding character
    character-carried =
        let l = ended s.line s.word in
        let e = ended-carried s.line s.word h in
        taken Read _ _ (eqb c 10) (closed-carried Head l at s.start (carries.head l e) e)
        (taken Read _ _ (eqb c 59) (closed-carried Comment l at s.start (carries.comment l e) e)
        (taken Read (reading l 0 s.start false) (reading s.line (extended s.word c) (start_of s.word at s.start) false) (blank c) e h))

    commented-carried : Read (commented s at c)
    unfolding commented
    commented-carried = taken Read (reading (line Head s.line.got) 0 at false) (reading s.line s.word s.start false) (eqb c 10) (carries.head s.line h) h

    pub stepped-carried : Read (stepped s at c)
    unfolding stepped
    stepped-carried =
        taken Read (character s at c) _ (ltb (sort_of s.line.phase) 3) character-carried
        (taken Read (commented s at c) (reading s.line s.word s.start false) (eqb (sort_of s.line.phase) 3) commented-carried h)

  pub ends-carried : (s : Reading) (at : ℕ) (cs : List ℕ) → P s.line → Read (ends s at cs)
  unfolding ends
  ends-carried s at [] h = h
  ends-carried s at (c ∷ cs) h = ends-carried (stepped s at c) (at + 1) cs (stepped-carried s at c h)
