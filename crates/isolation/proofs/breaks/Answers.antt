-- `isolation::breaks`: its move, its kind and its access, one after the other. Assumes nothing.
use mathlib.Core.Path.{ap}
use mathlib.Core.Bool.{not}
use Rattle.isolation.proofs.BreakLaws.{moved-breaks, kind-breaks, idle-keeps, access-breaks}
use Rattle.isolation.proofs.breaks.Goals as goal

pub returns-then-not-i : goal.returns-then-not-i
returns-then-not-i c =
    let a = c.args in
    moved-breaks a.m a.i (ap not c.if-not-i.true)

pub returns-then-i-gt-MASKED_STORE : goal.returns-then-i-gt-MASKED_STORE
returns-then-i-gt-MASKED_STORE c =
    let still = c in
    let a = still.args in
    kind-breaks a.m a.i (ap not still.if-not-i.false) c.if-i-gt-MASKED_STORE.true

pub returns-then-i : goal.returns-then-i
returns-then-i c =
    let stays = c in
    let still = stays in
    let a = still.args in
    idle-keeps a.m a.i (ap not still.if-not-i.false) stays.if-i-gt-MASKED_STORE.false c.if-i.true

pub returns : goal.returns
returns c =
    let access = c in
    let stays = access in
    let still = stays in
    let a = still.args in
    access-breaks a.m a.i (ap not still.if-not-i.false) stays.if-i-gt-MASKED_STORE.false access.if-i.false c.mode_zero.result c.mode_zero.ensures
