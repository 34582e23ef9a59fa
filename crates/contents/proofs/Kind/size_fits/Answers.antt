-- `Kind::size_fits`: each branch is a test of the definition.
use borrow.Author.Tests.{eq-eqb, ne_eqb}
use Rattle.contents.specs.File.{size_fits}
use Rattle.contents.proofs.Kind.size_fits.Goals as goal

pub returns-in-Picture : goal.returns-in-Picture
unfolding size_fits
returns-in-Picture c = simp c.in-Picture.is

pub returns-in-ModesPicture : goal.returns-in-ModesPicture
unfolding size_fits
returns-in-ModesPicture c = simp c.in-ModesPicture.is

pub returns-then-size-eq0 : goal.returns-then-size-eq0
unfolding size_fits
returns-then-size-eq0 c = simp (c.in-List.is, eq-eqb _ _ c.if-size-eq0.true)

pub returns-else-size-eq0 : goal.returns-else-size-eq0
unfolding size_fits
returns-else-size-eq0 c = simp (c.in-List.is, ne_eqb _ _ c.if-size-eq0.false)

pub returns-then-size-eq0-2 : goal.returns-then-size-eq0-2
unfolding size_fits
returns-then-size-eq0-2 c = simp (c.in-Items.is, eq-eqb _ _ c.if-size-eq0-2.true)

pub returns-else-size-eq0-2 : goal.returns-else-size-eq0-2
unfolding size_fits
returns-else-size-eq0-2 c = simp (c.in-Items.is, ne_eqb _ _ c.if-size-eq0-2.false)
