-- Demand 2 of specs/DemandTwo.antt: the laws that prove its fields. Assumes nothing.
use mathlib.Core.Path.{◌≡◌, refl, sym, ap, ◌∙◌}
use mathlib.Core.List.{List}
use Prim.Native.Nat.{ℕ, ◌/◌, ◌%◌, ◌<◌}
use lib.Dec.{eqb}
use borrow.Author.Tests.{eq-eqb, ne_eqb}
use Rattle.bits.specs.Bits.{bit_of}
use Rattle.bits.proofs.Items.{bit_of-bit}
use Rattle.memory.specs.Memory.{cell}
use Rattle.memory.proofs.AccessLaws.{table-storage}
use Rattle.memory.proofs.TableDemand.{load-reads, distinct-lines, store-updates-table, store-then-load}
use Rattle.network.specs.Pass.{moved}
use Rattle.network.proofs.PassLaws.{moved-onto, moved-injective, passed-at}
use Rattle.network.proofs.Agreement.{agree, agree-item}
use Rattle.network.proofs.TableRules.{none-permitted, pair-permitted, permitted-pair, shift}
use Rattle.network.proofs.AnswerLaws.{passed_item-is}
use Rattle.registers.specs.declared.Modes.{Modes}
use Rattle.registers.specs.declared.Registers.{Registers}
use Rattle.registers.specs.Modes.{modes_of}
use Rattle.registers.specs.Rows.{registers_of, bytes_of}
use Rattle.registers.specs.Logic.{logic_of}
use Rattle.registers.proofs.LogicLaws.{logic-X, logic-Y, choice-X, choice-Y}
use Rattle.registers.proofs.ResolverLaws.{resolved-first, resolved-none, responders-numbered, responders-once, responders-le}
use Rattle.judge.specs.declared.Instruction.{Instruction}
use Rattle.judge.specs.Answers.{Answer}
use Rattle.judge.specs.Judge.{judged}
use Rattle.judge.proofs.Accepted.{run-done}
use Rattle.module.specs.Run.{Lent, run_lengths, ran_by, ran_all}
use Rattle.module.proofs.ActLaws.{passed-source, acted-kind, masks-by-line}
use Rattle.module.proofs.RunLaws.{ran-done, ran-refused}
use Rattle.pictures.proofs.RoundTripDemand.{content-back, content-again, picture-back, picture-again}
use Rattle.promises.specs.DemandTwo.{Choices, ByTag, Runs, DemandTwo}

chosen : (n x y f : ℕ) → n < 16 → Choices n x y f
chosen n x y f h =
    record {
      zeroth = (choice-X 0 n h x y f, choice-Y 0 n h y f);
      first = (choice-X 1 n h x y f, choice-Y 1 n h y f);
      second = (choice-X 2 n h x y f, choice-Y 2 n h y f);
      third = (choice-X 3 n h x y f, choice-Y 3 n h y f);
      fourth = (choice-X 4 n h x y f, choice-Y 4 n h y f);
    }

keeps-modes : (r : Registers) (l : List ℕ) (t : ℕ) → (logic_of r l t).modes ≡ r.modes
unfolding logic_of
keeps-modes r l t = refl

keeps-M : (r : Registers) (l : List ℕ) (t : ℕ) → (logic_of r l t).m ≡ r.m
unfolding logic_of
keeps-M r l t = refl

by-tag : (m : Modes) (i : Instruction) → ByTag m i
by-tag m i =
    record {
      from_a = λ e. simp (eq-eqb i.tag 2 e);
      from_b = λ e. simp (ap (λ (t : ℕ). eqb t 2) e, ap (λ (t : ℕ). eqb t 3) e);
      given = λ u v. simp (ne_eqb i.tag 2 u, ne_eqb i.tag 3 v);
      sets_a = λ k e. simp (eq-eqb i.kind 6 k, eq-eqb i.tag 2 e);
      sets_b = λ k e. simp (eq-eqb i.kind 6 k, ap (λ (t : ℕ). eqb t 2) e, ap (λ (t : ℕ). eqb t 3) e);
      keeps = λ u. simp (ne_eqb i.kind 6 u);
    }

a-run : (l : Lent (List ℕ)) → Runs l
unfolding ran_by
a-run l =
    let a = judged (run_lengths l) (modes_of l.registers) l.list in
    let s = ran_all l (registers_of l.registers) in
    record {
      refused = λ u. sym (ran-refused l a refl u);
      accepted = λ e. sym (ran-done l a refl e (registers_of l.registers) s (bytes_of s.regs) refl refl refl)
          ∙ ap (λ (b : Answer). record { memory = s.mem; registers = bytes_of s.regs; out = s.out; answer = b }) (run-done (run_lengths l) (modes_of l.registers) l.list e);
      before = λ s. refl;
      one_more = λ s n. refl;
    }

pub demand-two : DemandTwo
demand-two =
    record {
      memory =
          record {
            storage = λ mem. table-storage (cell mem);
            access = load-reads;
            distinct = distinct-lines;
            stores = λ mem l m g mask hm hg. store-updates-table mem m g mask (bit_of l) hm hg (bit_of-bit l);
            every_mode = λ mem l m g mask hm hg. store-then-load mem m g mask (bit_of l) hm hg (bit_of-bit l);
          };
      network =
          record {
            none = none-permitted;
            shifts = pair-permitted;
            no_others = permitted-pair;
            moves = λ l f c i hf t hi. ap (λ (x : List ℕ). bit_of x (moved f (c / 16) (c % 16) i)) (passed_item-is l f c t) ∙ passed-at l f (c / 16) (c % 16) (shift c t).below (shift c t).within hf i hi;
            apart = λ f c i j t. moved-injective f (c / 16) (c % 16) i j (shift c t).below;
            reaches = λ f c k hf t hk. moved-onto 8 f (c / 16) (c % 16) k (shift c t).below (shift c t).within hf hk;
            wired_line = agree;
            wired_pass = λ l f c hf t. agree-item f (c / 16) (c % 16) l (shift c t).below (shift c t).within hf ∙ sym (passed_item-is l f c t);
          };
      registers =
          record {
            choices = chosen;
            line_x = logic-X;
            line_y = logic-Y;
            keeps_m = keeps-M;
            keeps_modes = keeps-modes;
            resolves = resolved-first;
            resolves_none = resolved-none;
            counts = responders-numbered;
            counts_once = responders-once;
            counts_most = responders-le;
          };
      modes = by-tag;
      sources = λ i mem items r taken.
          let from = passed-source i mem items r taken in
          record { from_memory = from 0; from_m = from 1; from_x = from 2; from_y = from 3; from_outside = from 4 };
      acts = λ i items s.
          let by = acted-kind i items s in
          record { logic = by 0; set_m = by 1; store = by 2; masked_store = by 3; deliver = by 4; resolve = by 5; set_mode = by 6 };
      masks = masks-by-line;
      runs = a-run;
      disk = record { content = content-back; content_again = content-again; picture = picture-back; picture_again = picture-again };
    }
