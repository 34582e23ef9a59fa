-- How an outcome stands in the lent buffers: the text in its buffer, and the two counts.
use Rattle.std.specs.Prelude.{◌≡◌, List, ◌++◌, ℕ, ◌≤◌, length, drop}
use Rattle.session.specs.declared.Counts.{Counts}
use Rattle.session.specs.Session.{Outcome}

-- The text buffer, which was `old`, begins with the characters to be printed, and behind them is as it was; the picture to be written has so many bytes, 0 where none is.
pub record Shown (o : Outcome) (r : Counts) (old text : List ℕ) : Type 0 where
  pub room : r.text ≤ length text
  pub count : r.text ≡ length o.text
  pub printed : text ≡ o.text ++ drop r.text old
  pub written : r.after ≡ length o.after
  pub most : r.after ≤ 8704
