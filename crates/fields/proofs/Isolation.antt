-- One station cannot disturb another: an instruction that does not break the condition keeps to its line, so that line P of what a list leaves is what the one-word machine makes of line P, in two runs alike. Assumes nothing.
use mathlib.Core.Path.{◌≡◌, refl, sym, ap, ap₂, subst, ◌∙◌}
use mathlib.Core.Bool.{Bool, true, false, cond, not, ◌&&◌, ◌||◌, true≢false}
use mathlib.Core.List.{List, [], ◌∷◌}
use Prim.Native.Nat.{ℕ, zero, suc, ◌+◌, ◌*◌, ◌/◌, ◌<◌}
use native.Mathlib.Decide.{ℕ_discrete}
use native.Mathlib.Omega.{arith}
use borrow.Author.Tests.{eqb-true, eq-eqb, ne_eqb, not-false}
use lib.Dec.{eqb}
use lib.ListN.{length, get_or}
use Rattle.bits.specs.Bits.{bit_of}
use Rattle.bits.proofs.Rows.{or-none, and_none, and_right}
use Rattle.bits.proofs.Search.{found_none, none_found}
use Rattle.registers.specs.declared.ModeRegister.{ModeRegister}
use Rattle.registers.specs.declared.Modes.{Modes}
use Rattle.registers.specs.declared.Registers.{Registers}
use Rattle.registers.specs.Modes.{modes_of}
use Rattle.registers.specs.Rows.{registers_of}
use Rattle.judge.specs.declared.Instruction.{Instruction}
use Rattle.judge.specs.Answers.{Answer}
use Rattle.judge.specs.Instructions.{instruction_at, touches, gives}
use Rattle.judge.specs.Modes.{modes_after, mode_of}
use Rattle.judge.specs.Judge.{idle_tag, idle_mode, instruction_rows, fault_of, fault_at}
use Rattle.judge.proofs.ByteRowLaws.{condition-off}
use Rattle.judge.proofs.Numbers.{unfaulted}
use Rattle.judge.proofs.Accepted.{run-accepted, run-done}
use Rattle.module.specs.Act.{State, passed_by, acted}
use Rattle.module.specs.Run.{Lent, Left, run_lengths, begun, ran_by}
use Rattle.module.proofs.ActLaws.{no-out}
use Rattle.module.proofs.RunLaws.{modes-ran, ran-refused, ended, judged-done, ran-ended, ran-answer}
use Rattle.module.proofs.Good.{registers-ended}
use Rattle.builders.specs.Lists.{decoded}
use Rattle.builders.specs.Word.{Word, acted_word, folded, ran_word, taken_by}
use Rattle.builders.proofs.Folds.{folded-append}
use Rattle.builders.proofs.Takes.{taken-decoded, ran_word-ext}
use Rattle.fields.specs.Line.{At, Local, word_of, outside_at}
use Rattle.fields.specs.Value.{word_bit, run_of}
use Rattle.fields.specs.Isolation.{staying_kind, is_set, holds_zero, mode_zero, flips, shifts, breaks, breaks_at, Keeps, first_breaking, isolated, SameAt, Agree}
use Rattle.fields.proofs.LineLaws.{acted-at, set_at, at_self}

-- ---- an instruction that does not break the condition

module _ (m : Modes) (i : Instruction) (keeps : breaks m i ≡ false) where
  -- the first two tests of the condition
  abbrev leaving : Bool
  leaving = not (staying_kind i.kind)

  abbrev elsewhere : Bool
  elsewhere = touches i && not (mode_zero m i)

  -- byte 6 is 0: it has no shift
  code0 : i.code ≡ 0
  unfolding breaks
  code0 = eqb-true i.code 0 (not-false (eqb i.code 0) (or-none (leaving || elsewhere || flips i) (shifts i) keeps).1)

  unshifted : (leaving || elsewhere || flips i) ≡ false
  unfolding breaks
  unshifted = (or-none (leaving || elsewhere || flips i) (shifts i) keeps).0

  -- byte 5 is 0: it has no flip
  flip0 : i.flip ≡ 0
  flip0 = eqb-true i.flip 0 (not-false (eqb i.flip 0) (or-none (leaving || elsewhere) (flips i) unshifted).1)

  both : (leaving ≡ false) × (elsewhere ≡ false)
  both = or-none leaving elsewhere (or-none (leaving || elsewhere) (flips i) unshifted).0

  -- its kind is 0 to 3, or 6
  staying : staying_kind i.kind ≡ true
  staying = not-false (staying_kind i.kind) both.0

  -- its access has mode 0
  zero-access : touches i ≡ true → mode_of m i ≡ 0
  zero-access t = go (ℕ_discrete i.tag 2) (ℕ_discrete i.tag 3)
    where
      -- both, by the tag
      zero_by : ℕ → Bool
      zero_by tag = (eqb tag 1 && eqb i.mode 0) || (eqb tag 2 && holds_zero m.a) || (eqb tag 3 && holds_zero m.b)

      mode_by : ℕ → ℕ
      mode_by tag = cond (eqb tag 2) m.a.mode (cond (eqb tag 3) m.b.mode i.mode)

      zeroed : zero_by i.tag ≡ true
      zeroed = not-false (zero_by i.tag) (and_none (touches i) (not (zero_by i.tag)) both.1 t)

      or_off : (b : Bool) → (b || false) ≡ true → b ≡ true
      or_off true e = refl
      or_off false e = e

      held : (r : ModeRegister) → holds_zero r ≡ true → r.mode ≡ 0
      held r e = eqb-true r.mode 0 (and_right (is_set r) (eqb r.mode 0) e)

      go : Dec (i.tag ≡ 2) → Dec (i.tag ≡ 3) → mode_by i.tag ≡ 0
      go (yes e) d = ap mode_by e ∙ held m.a (or_off (holds_zero m.a) (sym (ap zero_by e) ∙ zeroed))
      go (no u) (yes e) = ap mode_by e ∙ held m.b (sym (ap zero_by e) ∙ zeroed)
      go (no u) (no v) =
          let two = ne_eqb i.tag 2 u in
          let three = ne_eqb i.tag 3 v in
          let given : Bool = eqb i.tag 1 && eqb i.mode 0 in
          ap₂ (λ (x y : Bool). cond x m.a.mode (cond y m.b.mode i.mode)) two three
          ∙ eqb-true i.mode 0 (and_right (eqb i.tag 1) (eqb i.mode 0) (or_off given (or_off (given || false)
          (sym (ap₂ (λ (x y : Bool). given || (x && holds_zero m.a) || (y && holds_zero m.b)) two three) ∙ zeroed))))

  -- nothing is put out
  gives_none : gives i ≡ false
  gives_none = ap₂ (λ (x y : Bool). x || y) (ne_eqb i.kind 4 (other 4 refl)) (ne_eqb i.kind 5 (other 5 refl))
    where
      other : (n : ℕ) → staying_kind n ≡ false → i.kind ≡ n → ⊥
      other n f e = true≢false (sym staying ∙ ap staying_kind e ∙ f)

  -- where it is not refused either, it keeps to its line, but for kind 6, whose tag names the register that it sets
  module _ (formed : (fault_of m i).number ≡ 0) (inside : i.addr < 256) where
    idle-mode : touches i ≡ false → (i.kind ≡ 6 → ⊥) → mode_of m i ≡ 0
    unfolding idle_tag idle_mode
    idle-mode t u =
        let off = condition-off (instruction_rows m i) ((unfaulted m i).0 formed) in
        let idle : not (touches i || eqb i.kind 6) ≡ true = ap₂ (λ (x y : Bool). not (x || y)) t (ne_eqb i.kind 6 u) in
        let tag0 = eqb-true i.tag 0 (not-false _ (and_none _ _ (off 9 2) idle)) in
        let more : Bool = touches i && (eqb i.tag 2 || eqb i.tag 3) in
        let mode0 = eqb-true i.mode 0 (not-false _ (and_none _ _ (off 9 3) (ap (λ (x : Bool). x || more) idle))) in
        ap (λ (t : ℕ). cond (eqb t 2) m.a.mode (cond (eqb t 3) m.b.mode i.mode)) tag0 ∙ mode0

    keeps_line : (i.kind ≡ 6 → ⊥) → Local m i
    keeps_line u = record { mode0 = go (touches i) refl; flip0 = flip0; code0 = code0; inside = inside }
      where
        go : (t : Bool) → touches i ≡ t → mode_of m i ≡ 0
        go true t = zero-access t
        go false t = idle-mode t u

kept_at : (p : ℕ) → p < 256 → (i : Instruction) (items : List ℕ) (s : State) (v : Word)
    → breaks s.regs.modes i ≡ false → (fault_of s.regs.modes i).number ≡ 0 → i.addr < 256
    → At p s v → At p (acted i items s) (acted_word i (outside_at p items) v)
kept_at p hp i items s v keeps formed inside a = go (ℕ_discrete i.kind 6)
  where
    go : Dec (i.kind ≡ 6) → At p (acted i items s) (acted_word i (outside_at p items) v)
    go (yes e) = set_at p hp i items s v e a
    go (no u) = acted-at p hp i items s v (keeps_line s.regs.modes i keeps formed inside u) a

-- ---- a list

-- of bytes
low-address : (list : List ℕ) → ((k : ℕ) → get_or list k 0 < 256) → (n : ℕ) → (instruction_at list n).addr < 256
unfolding instruction_at
low-address list low n = low (8 * n + 4)

module _ (list items : List ℕ) (s : State) where
  abbrev start : Modes
  start = s.regs.modes

  -- none has a number, by the mode registers with which it starts
  abbrev Formed : ℕ → Type 0
  Formed n = (k : ℕ) → k < n → (fault_at start list k).number ≡ 0

  -- line p of a run of its first n instructions is a run of the one-word machine
  pub line-ran : (p : ℕ) → p < 256 → (v : Word) → At p s v → ((k : ℕ) → get_or list k 0 < 256) → (n : ℕ) → Keeps start list n → Formed n
      → At p (ran_by list items s n) (ran_word (decoded list n) (outside_at p items) v)
  unfolding ran_by decoded folded
  line-ran p hp v a low zero keeps formed = a
  line-ran p hp v a low (suc n) keeps formed =
      let t = ran_by list items s n in
      let i = instruction_at list n in
      let o = outside_at p items in
      let modes : modes_after list start n ≡ t.regs.modes = sym (modes-ran list items s n) in
      subst (At p (acted i items t)) (sym (folded-append (λ i. acted_word i o) (decoded list n) (i ∷ []) v))
      (kept_at p hp i items t (ran_word (decoded list n) o v)
      (subst (λ (m : Modes). breaks m i ≡ false) modes (keeps n (omega arith)))
      (subst (λ (m : Modes). (fault_of m i).number ≡ 0) modes (formed n (omega arith)))
      (low-address list low n)
      (line-ran p hp v a low n (λ k h. keeps k (omega arith)) (λ k h. formed k (omega arith))))

  -- and nothing is put out
  pub out-ran : (n : ℕ) → Keeps start list n → (ran_by list items s n).out ≡ s.out
  unfolding ran_by acted
  out-ran zero keeps = refl
  out-ran (suc n) keeps =
      let t = ran_by list items s n in
      let i = instruction_at list n in
      sym (no-out i t.out t.given (passed_by i t.mem items t.regs t.taken) t.regs.y
      (gives_none (modes_after list start n) i (keeps n (omega arith))))
      ∙ out-ran n (λ k h. keeps k (omega arith))

-- the condition on a list is that none of its instructions breaks it
pub isolated-keeps : (m : Modes) (list : List ℕ) → isolated m list ≡ true → Keeps m list (length list / 8)
isolated-keeps m list e k h =
    let end = eqb-true (first_breaking m list) (length list / 8) e in
    none_found (breaks_at m list) (length list / 8) k (omega arith)

pub keeps-isolated : (m : Modes) (list : List ℕ) → Keeps m list (length list / 8) → isolated m list ≡ true
keeps-isolated m list k = eq-eqb (first_breaking m list) (length list / 8) (sym (found_none (breaks_at m list) (length list / 8) k))

-- ---- two runs

module _ (list : List ℕ) where
  abbrev lent_of : Lent (List ℕ) → Lent (List ℕ)
  lent_of l = record { memory = l.memory; registers = l.registers; list = list; items = l.items; out = l.out }

  module _ (l : Lent (List ℕ)) where
    abbrev begin : State
    begin = begun l (registers_of l.registers)

    module _ (done : (run_of list l).answer.number ≡ 0) where
      abbrev end : State
      end = ended (lent_of l) done

      memory-end : (run_of list l).memory ≡ end.mem
      memory-end = sym (ap (λ (x : Left (List ℕ) Answer). x.memory) (ran-ended (lent_of l) done))

      modes-end : modes_of (run_of list l).registers ≡ modes_after list (modes_of l.registers) (length list / 8)
      modes-end = ap (λ (r : Registers). r.modes) (registers-ended (lent_of l) done) ∙ modes-ran list l.items begin (length list / 8)

      taken-end : (run_of list l).answer.taken ≡ taken_by (decoded list (length list / 8))
      taken-end =
          ap (λ (a : Answer). a.taken) (ran-answer (lent_of l) ∙ run-done (run_lengths (lent_of l)) (modes_of l.registers) list (judged-done (lent_of l) done))
          ∙ sym (taken-decoded list (length list / 8))

    module _ (alone : isolated (modes_of l.registers) list ≡ true) where
      -- line p of what a run leaves, from any word that it was
      line-left : ((k : ℕ) → get_or list k 0 < 256) → (done : (run_of list l).answer.number ≡ 0) (p : ℕ) → p < 256 → (v : Word) → At p begin v
          → At p (end done) (ran_word (decoded list (length list / 8)) (outside_at p l.items) v)
      line-left low done p hp v a =
          line-ran list l.items begin p hp v a low (length list / 8) (isolated-keeps (modes_of l.registers) list alone)
          (run-accepted (run_lengths (lent_of l)) (modes_of l.registers) list (judged-done (lent_of l) done)).formed

      -- nothing is put out, done or refused
      pub nothing-out : (run_of list l).out ≡ l.out
      nothing-out = go (ℕ_discrete (run_of list l).answer.number 0)
        where
          go : Dec ((run_of list l).answer.number ≡ 0) → (run_of list l).out ≡ l.out
          go (yes done) =
              sym (ap (λ (x : Left (List ℕ) Answer). x.out) (ran-ended (lent_of l) done))
              ∙ out-ran list l.items begin (length list / 8) (isolated-keeps (modes_of l.registers) list alone)
          go (no u) =
              sym (ap (λ (x : Left (List ℕ) Answer). x.out) (ran-refused (lent_of l) (run_of list l).answer (ran-answer (lent_of l)) u))

  pub isolation : ((k : ℕ) → get_or list k 0 < 256) → (p : ℕ) → p < 256 → (l l' : Lent (List ℕ)) → isolated (modes_of l.registers) list ≡ true → Agree p list l l'
      → SameAt p (run_of list l).memory (run_of list l).registers (run_of list l').memory (run_of list l').registers
  isolation low p hp l l' alone g =
      let same = g.same in
      let done = g.done in
      let done' = g.done' in
      let n = length list / 8 in
      let v = word_of p (begin l) in
      let alone' : isolated (modes_of l'.registers) list ≡ true = subst (λ (m : Modes). isolated m list ≡ true) same.modes alone in
      let start : At p (begin l') v = record {
        word = λ b h. sym (same.word b h);
        bit_m = sym same.bit_m;
        bit_x = sym same.bit_x;
        bit_y = sym same.bit_y;
        count = refl;
      } in
      let items = ran_word-ext (outside_at p l'.items) (outside_at p l.items) (decoded list n) v
      (λ j a b. sym (g.items j (omega (arith, taken-end l done)))) in
      let a = line-left l alone low done p hp v (at_self p (begin l)) in
      let b = subst (At p (end l' done')) items (line-left l' alone' low done' p hp v start) in
      let r = registers-ended (lent_of l) done in
      let r' = registers-ended (lent_of l') done' in
      record {
        word = λ k h. ap (λ (x : List ℕ). word_bit x p k) (memory-end l done) ∙ a.word k h ∙ sym (b.word k h)
            ∙ sym (ap (λ (x : List ℕ). word_bit x p k) (memory-end l' done'));
        bit_m = ap (λ (x : Registers). bit_of x.m p) r ∙ a.bit_m ∙ sym b.bit_m ∙ sym (ap (λ (x : Registers). bit_of x.m p) r');
        bit_x = ap (λ (x : Registers). bit_of x.x p) r ∙ a.bit_x ∙ sym b.bit_x ∙ sym (ap (λ (x : Registers). bit_of x.x p) r');
        bit_y = ap (λ (x : Registers). bit_of x.y p) r ∙ a.bit_y ∙ sym b.bit_y ∙ sym (ap (λ (x : Registers). bit_of x.y p) r');
        modes = modes-end l done ∙ ap (λ (m : Modes). modes_after list m n) same.modes ∙ sym (modes-end l' done');
      }
