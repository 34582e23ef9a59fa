-- `modes_in`: the mode registers are the content's last four bytes.
use mathlib.Core.Path.{◌≡◌, sym, ap, ◌∙◌}
use Prim.Native.Nat.{ℕ, ◌+◌, ◌<◌}
use mathlib.Core.List.{List}
use native.Mathlib.Omega.{arith}
use lib.ListN.{get_or, drop}
use lib.Seq.{get_or-take, get_or-drop}
use Rattle.contents.specs.File.{content_of}
use Rattle.contents.proofs.PayloadLaws.{payloads-content, payloads-room}
use Rattle.pictures.proofs.PictureLaws.{picture-stands, picture-size}
use Rattle.pictures.proofs.modes_in.Goals as goal

pub part_of-requires : goal.part_of-requires
part_of-requires c =
    let s = c in
    let b = s.args.bytes.now in
    payloads-room 4 b (picture-stands 4 b 8292 s.requires) 8292 (omega (arith, picture-size 4 b 8292 s.requires))

pub returns : goal.returns
returns c =
    let s = c in
    let b = s.args.bytes.now in
    let x = content_of b in
    let n = picture-size 4 b 8292 s.requires in
    let e = c.part_of.ensures ∙ payloads-content 4 b (picture-stands 4 b 8292 s.requires) 8288 4 (omega (arith, n)) in
    let at : (k : ℕ) → k < 4 → get_or c.part_of.new.part k 0 ≡ get_or (drop 8192 x) (96 + k) 0 =
    λ k h. ap (λ (l : List ℕ). get_or l k 0) e ∙ get_or-take 4 (drop 8288 x) k 0 h ∙ get_or-drop 8288 x k 0
    ∙ ap (λ (j : ℕ). get_or x j 0) (omega arith) ∙ sym (get_or-drop 8192 x (96 + k) 0) in
    λ i. record { a = record { set = at 0 (omega arith) i; mode = at 1 (omega arith) i }; b = record { set = at 2 (omega arith) i; mode = at 3 (omega arith) i } }
