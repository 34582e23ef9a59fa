-- `used_right`: each branch is a test of the definition.
use borrow.Author.Tests.{le-ltb, lt-ltb, le-leb, lt-leb, eq-eqb, ne_eqb}
use Rattle.blocks.specs.Block.{used_right}
use Rattle.blocks.proofs.used_right.Goals as goal

pub returns-then-place-count : goal.returns-then-place-count
unfolding used_right
returns-then-place-count c = simp (lt-ltb _ _ c.if-place-count.true)

pub returns-then-count-eq1 : goal.returns-then-count-eq1
unfolding used_right
returns-then-count-eq1 c = simp (le-ltb _ _ c.if-place-count.false, le-leb _ _ c.if-used-le-PAYLOAD_BYTES.true, eq-eqb _ _ c.if-count-eq1.true)

pub returns-else-count-eq1 : goal.returns-else-count-eq1
unfolding used_right
returns-else-count-eq1 c = simp (le-ltb _ _ c.if-place-count.false, le-leb _ _ c.if-used-le-PAYLOAD_BYTES.true, ne_eqb _ _ c.if-count-eq1.false)

pub returns-else-used-le-PAYLOAD_BYTES : goal.returns-else-used-le-PAYLOAD_BYTES
unfolding used_right
returns-else-used-le-PAYLOAD_BYTES c = simp (le-ltb _ _ c.if-place-count.false, lt-leb _ _ c.if-used-le-PAYLOAD_BYTES.false)
