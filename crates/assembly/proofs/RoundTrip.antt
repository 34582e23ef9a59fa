-- The promise: the shown text of every list of whole instructions, whatever its bytes, assembles to that list, with no items and no refusal. Assumes nothing.
use mathlib.Core.Path.{◌≡◌, ap, ◌∙◌}
use mathlib.Core.Bool.{false}
use mathlib.Core.List.{List, ◌++◌}
use Prim.Native.Nat.{ℕ, ◌≤◌}
use native.Mathlib.Omega.{arith}
use lib.ListN.{length, drop}
use Rattle.judge.specs.Judge.{unfit}
use Rattle.text.specs.Make.{Made}
use Rattle.text.specs.Show.{shown_text}
use Rattle.text.proofs.ReadLaws.{AllBytes}
use Rattle.text.proofs.RoundTrip.{make-after-show}
use Rattle.assembly.specs.Assembly.{answer, assembled_answer, assembled_list, assembled_items}
use Rattle.assembly.proofs.Extends.{extends}

-- Where a list of whole instructions, of at most 32,768 bytes, whatever its bytes, is shown, and the text is assembled into a buffer that is long enough, the list comes back, with no items.
pub assemble-show : (list out items : List ℕ) → unfit 8 (length list) ≡ false → AllBytes list → length list ≤ length out
    → (assembled_answer (shown_text list) (length out) (length items) ≡ answer 0 0 0 (length list) 0)
    × (assembled_list (shown_text list) out items ≡ list ++ drop (length list) out)
    × (assembled_items (shown_text list) out items ≡ items)
assemble-show list out items w b r =
    let m = make-after-show list (shown_text list) out w b (omega arith) r in
    let a = extends (shown_text list) out items (ap (λ (x : Made). x.number) m.2) in
    (a.0 ∙ ap (λ (x : Made). answer 0 0 0 x.count 0) m.2, a.1 ∙ m.3, a.2)
