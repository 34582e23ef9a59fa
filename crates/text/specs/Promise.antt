-- What is promised of texts and lists, where the pages say it: no contract cites this file. docs/TEXT.md, The one form.
use Rattle.std.specs.Prelude.{◌≡◌, false, List, ℕ, ◌<◌, length, get_or}
use Rattle.judge.specs.Judge.{unfit}
use Rattle.text.specs.Show.{shown_text}

-- A text in its one form: it shows a list of whole instructions, whatever their bytes.
pub record Canonical (text : List ℕ) : Type 0 where
  pub list : List ℕ
  pub fits : unfit 8 (length list) ≡ false
  pub bytes : (k : ℕ) → get_or list k 0 < 256
  pub shown : text ≡ shown_text list
