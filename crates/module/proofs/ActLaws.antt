-- An act, from what its parts leave; what the judge has seen to before it. Assumes nothing.
use mathlib.Core.Path.{◌≡◌, refl, sym, ap, subst, ◌∙◌}
use mathlib.Core.Bool.{Bool, true, false, cond, ◌||◌, false≢true}
use mathlib.Core.List.{List}
use Prim.Native.Nat.{ℕ, zero, suc, ◌+◌, ◌<◌, ◌≤◌}
use native.Mathlib.Omega.{arith}
use native.Mathlib.Decide.{ℕ_discrete}
use lib.Dec.{eqb}
use borrow.Author.Tests.{eq-eqb, ne_eqb}
use Rattle.bits.specs.Bits.{bit_of, flipped}
use Rattle.bits.proofs.Items.{bit_of-bit}
use Rattle.memory.specs.Table.{table, line_bit, line_word, Updated}
use Rattle.memory.specs.Memory.{cell, stored, every}
use Rattle.memory.proofs.TableDemand.{store-updates-table}
use Rattle.network.specs.Answer.{passed_item}
use Rattle.network.proofs.AnswerLaws.{passed_item-flipped}
use Rattle.registers.specs.declared.Modes.{Modes}
use Rattle.registers.specs.declared.Registers.{Registers}
use Rattle.registers.specs.Rows.{with_m, with_modes}
use Rattle.registers.specs.Logic.{logic_of}
use Rattle.registers.specs.Resolver.{resolved}
use Rattle.judge.specs.declared.Instruction.{Instruction}
use Rattle.judge.specs.Instructions.{takes, gives}
use Rattle.judge.specs.Modes.{modes_by, mode_of}
use Rattle.judge.specs.Judge.{fault_of}
use Rattle.judge.specs.declared.modes.Settled.{Settled}
use Rattle.judge.specs.Steps.{settled_by}
use Rattle.judge.proofs.Accepted.{well-formed}
use Rattle.judge.proofs.ModeLaws.{other-kind}
use Rattle.module.specs.Act.{State, part_at, put_part, held, held_item, source_item, passed_by, regs_after, mem_after, out_after, after, acted}
use Rattle.module.specs.Ready.{passed_under}

-- ---- the source

pub held-y : (n mode addr : ℕ) (mem : List ℕ) (r : Registers) → 3 ≤ n → r.y ≡ held n mode addr mem r
held-y zero mode addr mem r h = absurd (omega arith)
held-y (suc zero) mode addr mem r h = absurd (omega arith)
held-y (suc (suc zero)) mode addr mem r h = absurd (omega arith)
held-y (suc (suc (suc n))) mode addr mem r h = refl

-- ---- the passed item

module _ (i : Instruction) (mode : ℕ) (mem items : List ℕ) (r : Registers) (taken : ℕ) where
  abbrev source-by : Bool → List ℕ
  source-by t = cond t (part_at items taken) (held i.source mode i.addr mem r)

  pub passed-outside : takes i ≡ true → (x : List ℕ) → x ≡ part_at items taken → passed_item x i.flip i.code ≡ passed_under mode i mem items r taken
  passed-outside t x e = ap (λ (l : List ℕ). passed_item l i.flip i.code) (e ∙ sym (ap source-by t))

  pub passed-held : takes i ≡ false → (x : List ℕ) → x ≡ held i.source mode i.addr mem r → passed_item x i.flip i.code ≡ passed_under mode i mem items r taken
  passed-held t x e = ap (λ (l : List ℕ). passed_item l i.flip i.code) (e ∙ sym (ap source-by t))

-- ---- the out buffer

-- an instruction that gives nothing leaves it as it was
pub no-out : (i : Instruction) (out : List ℕ) (given : ℕ) (f y : List ℕ) → gives i ≡ false → out ≡ out_after i out given f y
unfolding out_after
no-out i out given f y t = go (eqb i.kind 4) (eqb i.kind 5) t
  where
    go : (a b : Bool) → (a || b) ≡ false → out ≡ cond a (put_part out given f) (cond b (put_part out given (resolved (bit_of y))) out)
    go true b t = absurd (false≢true (sym t))
    go false true t = absurd (false≢true (sym t))
    go false false t = refl

-- ---- an act

-- a record that has the mode registers after an instruction which leaves them is the record before it
same-modes : (i : Instruction) (r : Registers) (m : Modes) → (i.kind ≡ 6 → ⊥) → r.modes ≡ modes_by i m → r ≡ with_modes r m
same-modes i r m u e = λ j. record { m = r.m; x = r.x; y = r.y; modes = (e ∙ other-kind i m u) j }

-- the state before an instruction, of which only the mode registers are told apart
abbrev pub state_of : List ℕ → List ℕ → Registers → ℕ → ℕ → State
state_of mem out r taken given = record { mem = mem; out = out; regs = r; taken = taken; given = given }

-- of an instruction that passes an item: what its parts leave, f passed, k of the memory, o of the out buffer, q of the registers, and its counts
module _ (i : Instruction) (mode : ℕ) (mem items out : List ℕ) (r : Registers) (taken given : ℕ) (low : i.kind ≤ 4)
    (f k o : List ℕ) (q : Registers) (t g : ℕ)
    (ef : f ≡ passed_under mode i mem items r taken)
    (ek : k ≡ mem_after i mode mem r.m f)
    (eo : o ≡ cond (eqb i.kind 4) (put_part out given f) out)
    (eq : q ≡ cond (eqb i.kind 0) (logic_of r f i.logic) (cond (eqb i.kind 1) (with_m r f) r))
    (et : t ≡ cond (takes i) 1 0) (eg : g ≡ cond (gives i) 1 0) where
  -- in the state in which it finds the mode registers that it leaves
  found : mode ≡ mode_of r.modes i → state_of k o q (taken + t) (given + g) ≡ acted i items (state_of mem out r taken given)
  unfolding acted out_after regs_after passed_by source_item held_item
  found em = parts ∙ ap (λ (x : List ℕ). after i x (state_of mem out r taken given)) (ef ∙ ap (λ (n : ℕ). passed_under n i mem items r taken) em)
    where
      unresolved : o ≡ out_after i out given f r.y
      unresolved =
          eo ∙ ap (λ (b : Bool). cond (eqb i.kind 4) (put_part out given f) (cond b (put_part out given (resolved (bit_of r.y))) out))
          (sym (ne_eqb i.kind 5 (λ e. omega arith)))

      modes-stay : q ≡ regs_after i r f
      modes-stay =
          eq ∙ ap (λ (b : Bool). cond (eqb i.kind 0) (logic_of r f i.logic) (cond (eqb i.kind 1) (with_m r f) (cond b (with_modes r (modes_by i r.modes)) r)))
          (sym (ne_eqb i.kind 6 (λ e. omega arith)))

      parts : state_of k o q (taken + t) (given + g) ≡ after i f (state_of mem out r taken given)
      parts = λ j. record { mem = (ek ∙ ap (λ (n : ℕ). mem_after i n mem r.m f) em) j; out = unresolved j; regs = modes-stay j; taken = taken + et j; given = given + eg j }

  -- and in the one in which the mode registers are m
  pub act-is : (m : Modes) → ◌≡◌ {A = Settled} (record { mode = mode; modes = r.modes }) (settled_by i m)
      → state_of k o q (taken + t) (given + g) ≡ acted i items (state_of mem out (with_modes r m) taken given)
  act-is m e =
      let same : r ≡ with_modes r m = same-modes i r m (λ z. omega arith) (ap (λ (x : Settled). x.modes) e) in
      let em : mode ≡ mode_of r.modes i = ap (λ (x : Settled). x.mode) e ∙ sym (ap (λ (x : Registers). mode_of x.modes i) same) in
      found em ∙ ap (λ (x : Registers). acted i items (state_of mem out x taken given)) same

-- ---- an act by its source and by its kind

module _ (i : Instruction) (mem items : List ℕ) (r : Registers) (taken : ℕ) where
  -- the passed item of source n
  abbrev pub by_source : ℕ → List ℕ
  by_source n = passed_item (cond (eqb n 4) (part_at items taken) (held n (mode_of r.modes i) i.addr mem r)) i.flip i.code

  pub passed-source : (n : ℕ) → i.source ≡ n → passed_by i mem items r taken ≡ by_source n
  unfolding passed_by source_item held_item
  passed-source n e = ap by_source e

module _ (i : Instruction) (items : List ℕ) (s : State) where
  -- the state that kind n leaves, whose passed item is f
  abbrev pub by_kind : List ℕ → ℕ → State
  by_kind f n =
      record {
        mem =
            let mode = mode_of s.regs.modes i in
            cond (eqb n 2) (stored s.mem mode i.addr every (bit_of f))
            (cond (eqb n 3) (stored s.mem mode i.addr (bit_of s.regs.m) (bit_of f)) s.mem);
        out = cond (eqb n 4) (put_part s.out s.given f) (cond (eqb n 5) (put_part s.out s.given (resolved (bit_of s.regs.y))) s.out);
        regs =
            cond (eqb n 0) (logic_of s.regs f i.logic)
            (cond (eqb n 1) (with_m s.regs f) (cond (eqb n 6) (with_modes s.regs (modes_by i s.regs.modes)) s.regs));
        taken = s.taken + cond (takes i) 1 0;
        given = s.given + cond (gives i) 1 0;
      }

  pub acted-kind : (n : ℕ) → i.kind ≡ n → acted i items s ≡ by_kind (passed_by i s.mem items s.regs s.taken) n
  unfolding acted mem_after out_after regs_after
  acted-kind n e = ap (by_kind (passed_by i s.mem items s.regs s.taken)) e

  -- an instruction that passes none: a resolve, and kind 6
  module _ (untaken : takes i ≡ false) where
    same_taken : s.taken ≡ s.taken + cond (takes i) 1 0
    same_taken = let e : cond {A = ℕ} (takes i) 1 0 ≡ 0 = ap (λ (b : Bool). cond {A = ℕ} b 1 0) untaken in omega arith

    still-resolves : i.kind ≡ 5 → (o : List ℕ) → o ≡ put_part s.out s.given (resolved (bit_of s.regs.y))
        → ◌≡◌ {A = State} (record { mem = s.mem; out = o; regs = s.regs; taken = s.taken; given = s.given + 1 }) (acted i items s)
    still-resolves e o q =
        let one : 1 ≡ cond {A = ℕ} (gives i) 1 0 = sym (ap (λ (k : ℕ). cond {A = ℕ} (eqb k 4 || eqb k 5) 1 0) e) in
        (λ j. record { mem = s.mem; out = q j; regs = s.regs; taken = same_taken j; given = s.given + one j }) ∙ sym (acted-kind 5 e)

    still-sets : i.kind ≡ 6 → (r : Registers) → r ≡ with_modes s.regs (modes_by i s.regs.modes)
        → ◌≡◌ {A = State} (record { mem = s.mem; out = s.out; regs = r; taken = s.taken; given = s.given }) (acted i items s)
    still-sets e r q =
        let none : cond {A = ℕ} (gives i) 1 0 ≡ 0 = ap (λ (k : ℕ). cond {A = ℕ} (eqb k 4 || eqb k 5) 1 0) e in
        let same : s.given ≡ s.given + cond {A = ℕ} (gives i) 1 0 = omega arith in
        (λ j. record { mem = s.mem; out = s.out; regs = q j; taken = same_taken j; given = same j }) ∙ sym (acted-kind 6 e)

  -- a masked store in the unscrambled table: line p by M's bit p, and its bit from the source item's line across the flip
  pub masks-by-line : i.kind ≡ 3 → (fault_of s.regs.modes i).number ≡ 0 → mode_of s.regs.modes i < 256 → i.addr < 256
      → Updated 8 (mode_of s.regs.modes i) i.addr (bit_of s.regs.m) (flipped (source_item i s.mem items s.regs s.taken) i.flip)
      (table (cell s.mem)) (table (cell (acted i items s).mem))
  unfolding passed_by
  masks-by-line e good hm hg =
      let mode = mode_of s.regs.modes i in
      let mask = bit_of s.regs.m in
      let l = source_item i s.mem items s.regs s.taken in
      let f = passed_by i s.mem items s.regs s.taken in
      let u = store-updates-table s.mem mode i.addr mask (bit_of f) hm hg (bit_of-bit f) in
      let code0 = (well-formed s.regs.modes i good).unshifted (ap (λ (k : ℕ). eqb k 2 || eqb k 3) e) in
      subst (λ (x : List ℕ). Updated 8 mode i.addr mask (flipped l i.flip) (table (cell s.mem)) (table (cell x)))
      (sym (ap (λ (t : State). t.mem) (acted-kind 3 e)))
      (record {
        lines = λ p hp. u.lines p hp
            ∙ ap (λ (b : ℕ). cond (eqb (mask p) 1) b (table (cell s.mem) (line_word 8 mode i.addr p) (line_bit 8 mode i.addr p))) (passed_item-flipped l i.flip i.code p code0 hp);
        others = u.others;
      })

-- ---- an act that passes no item, where the record has the mode registers after it

module _ (i : Instruction) (r : Registers) (m : Modes) (e : r.modes ≡ modes_by i m) (mem items out : List ℕ) (taken given : ℕ) (untaken : takes i ≡ false) where
  pub resolved-is : i.kind ≡ 5 → (o : List ℕ) → o ≡ put_part out given (resolved (bit_of r.y))
      → state_of mem o r taken (given + 1) ≡ acted i items (state_of mem out (with_modes r m) taken given)
  resolved-is k o q =
      still-resolves i items (state_of mem out r taken given) untaken k o q
      ∙ ap (λ (x : Registers). acted i items (state_of mem out x taken given)) (same-modes i r m (λ z. omega arith) e)

  pub set_is : i.kind ≡ 6 → state_of mem out r taken given ≡ acted i items (state_of mem out (with_modes r m) taken given)
  set_is k = still-sets i items (state_of mem out (with_modes r m) taken given) untaken k r (λ j. record { m = r.m; x = r.x; y = r.y; modes = e j })

-- ---- the mode registers

-- after an instruction they are what the list's own fold says: logic and set M leave them
pub modes-acted : (i : Instruction) (items : List ℕ) (s : State) → (acted i items s).regs.modes ≡ modes_by i s.regs.modes
unfolding acted regs_after logic_of
modes-acted i items s = go (ℕ_discrete i.kind 0) (ℕ_discrete i.kind 1) (ℕ_discrete i.kind 6)
  where
    go : Dec (i.kind ≡ 0) → Dec (i.kind ≡ 1) → Dec (i.kind ≡ 6) → (acted i items s).regs.modes ≡ modes_by i s.regs.modes
    go (yes e) one six = simp (ap (λ (k : ℕ). eqb k 0) e, ap (λ (k : ℕ). eqb k 6) e)
    go (no u) (yes e) six = simp (ap (λ (k : ℕ). eqb k 0) e, ap (λ (k : ℕ). eqb k 1) e, ap (λ (k : ℕ). eqb k 6) e)
    go (no u) (no v) (yes e) = simp (ne_eqb i.kind 0 u, ne_eqb i.kind 1 v, eq-eqb i.kind 6 e)
    go (no u) (no v) (no w) = simp (ne_eqb i.kind 0 u, ne_eqb i.kind 1 v, ne_eqb i.kind 6 w)
