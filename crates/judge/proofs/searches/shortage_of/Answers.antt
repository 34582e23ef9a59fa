-- `judge::searches::shortage_of`: none of the instructions passed lacks what it wants, and those that want some were counted. Assumes nothing.
use mathlib.Core.Path.{refl, sym, ap, ◌∙◌}
use Prim.Native.Nat.{◌/◌}
use native.Mathlib.Omega.{arith}
use lib.ListN.{length}
use Rattle.bits.specs.Search.{count}
use Rattle.bits.proofs.Search.{none-start, none_more, found, found_none}
use Rattle.judge.specs.Judge.{lacks}
use Rattle.judge.proofs.Shortage.{counts-le, lacks-is, counted}
use Rattle.judge.proofs.searches.shortage_of.Goals as goal

pub loop-k-init : goal.loop-k-init
unfolding count
loop-k-init g c = (omega arith, λ uses w. (refl, none-start (lacks uses _ _)))

pub returns-then-u-have : goal.returns-then-u-have
returns-then-u-have g c uses w =
    let l = c.loop-k in
    let a = c.args in
    let u = w _ _ c.wants-u.ensures ∙ ap uses c.decode.ensures in
    found (lacks uses a.list.now a.have) (length a.list.now / 8) l.k (omega arith) (l.invariant.1 uses w).1
    (sym (lacks-is uses a.list.now a.have l.k l.used _ (l.invariant.1 uses w).0 u) ∙ c.if-u-have.true)

pub loop-k-preserved : goal.loop-k-preserved
loop-k-preserved g c = (
  omega (arith, counts-le c.wants-u.result, c.from-used.ensures),
  λ uses w.
      let l = c.loop-k in
      let a = c.args in
      let u = w _ _ c.wants-u.ensures ∙ ap uses c.decode.ensures in (
        counted uses a.list.now l.k l.used _ c.wants-u.result (l.invariant.1 uses w).0 c.from-used.ensures u,
        none_more (lacks uses a.list.now a.have) l.k (l.invariant.1 uses w).1
            (sym (lacks-is uses a.list.now a.have l.k l.used _ (l.invariant.1 uses w).0 u) ∙ c.if-u-have.false),
      ),
)

pub returns : goal.returns
returns g c uses w =
    let l = c.loop-k in
    let a = c.args in
    found_none (lacks uses a.list.now a.have) (length a.list.now / 8) (λ j h. (l.invariant.1 uses w).1 j (omega arith))
