-- `wired_pass`: the two answers, by where the code was found; eight levels are the pass, by the agreement.
use mathlib.Core.Path.{sym, ◌∙◌}
use Rattle.network.proofs.AnswerLaws.{given, refused, wired-permitted}
use Rattle.network.proofs.TableRules.{found-some, found_none}
use Rattle.network.proofs.wired_pass.Goals as goal

pub unlisted-requires : goal.unlisted-requires
unlisted-requires c = found_none c.args.code (sym c.find.ensures ∙ c.in_default.is)

pub returns-in_default : goal.returns-in_default
returns-in_default c = refused _ _ _ _ (found_none c.args.code (sym c.find.ensures ∙ c.in_default.is)) c.unlisted.ensures

pub of-signals-requires : goal.of-signals-requires
of-signals-requires c = (found-some c.args.code c.in-Some.s (sym c.find.ensures ∙ c.in-Some.is)).2

pub returns : goal.returns
returns c =
    let a = c.args in
    let w = found-some a.code c.in-Some.s (sym c.find.ensures ∙ c.in-Some.is) in
    given _ _ _ _ w.0 (wired-permitted _ _ a.flip a.code _ c.ranges.flip.fits w.0 (c.of-signals.ensures ∙ w.1) c.wired_item.ensures)
