-- `put_line`: each text behind what stands.
use mathlib.Core.Path.{◌≡◌, refl, subst, ◌∙◌}
use mathlib.Core.List.{List, [], ◌∷◌}
use Prim.Native.Nat.{ℕ}
use lib.ListN.{take}
use Rattle.std.specs.List.{flat_map}
use Rattle.report.specs.Report.{line, spaced}
use Rattle.bits.specs.Steps.{Put}
use Rattle.bits.proofs.Puts.{none-put, then-put}
use Rattle.report.proofs.ReportLaws.{spaced-more, line_spaced}
use native.Mathlib.Omega.{arith}
use Rattle.report.proofs.put_line.Goals as goal

pub loop-n-init : goal.loop-n-init
loop-n-init c = (refl, omega (arith, c.put-next.ensures.behind), none-put _ _)

pub loop-n-preserved : goal.loop-n-preserved
loop-n-preserved c =
    let a = c.args.a in
    let l = c.loop-n in
    let s = c.put_spaced-next in
    let items : List ℕ = a.number ∷ a.place ∷ a.byte ∷ a.steps ∷ a.taken ∷ a.given ∷ [] in (
      s.auto.text ∙ l.invariant.0,
      omega (arith, s.ensures.0),
      then-put (omega (arith, c.put-next.ensures.behind)) l.invariant.2 s.ensures.1 (spaced-more items l.n-index c.loop-n-test.true),
    )

pub returns : goal.returns
unfolding line
returns c =
    let a = c.args.a in
    let l = c.loop-n in
    let p = c.put in
    let items : List ℕ = a.number ∷ a.place ∷ a.byte ∷ a.steps ∷ a.taken ∷ a.given ∷ [] in
    let e : l.n-index ≡ 6 = omega arith in
    let start = c.put-next.ensures in
    let six = subst (λ (n : ℕ). Put c.put-next.result (flat_map spaced (take n items)) c.put-next.new.buffer l.next l.text) e l.invariant.2 in (
      omega (arith, p.ensures.behind, l.invariant.1),
      then-put (omega (arith, start.behind)) (then-put (omega arith) start six refl) p.ensures (line_spaced c.args.letter a.number a.place a.byte a.steps a.taken a.given),
    )
