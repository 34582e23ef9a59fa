-- One outcome of each function of specs/Uniqueness.antt. A contract's clause that is an equation with something computed from the input is one by computation, so that a line names the law alone; `told` is found in the clause. Assumes nothing.
use mathlib.Core.Path.{◌≡◌, refl, sym, ap, subst, ◌∙◌}
use mathlib.Core.List.{List, [], ◌∷◌, ◌++◌}
use Prim.Native.Nat.{ℕ, ◌+◌}
use seplogic.Ra.Ura.{Ura}
use base.Logic.{SProp, ent, sep, id⊢, via, mono∗, mono_r, fst∗, snd∗}
use prog.Memory.{Memory}
use prog.Routine.{Routine}
use types.Logic.{Logic}
use contract.Lifetimes.{Lfts}
use contract.Monad.{Fun, fact, fact_use, fact_mono}
use denote.Triple.Entry.{Args, Res}
use denote.Triple.Clauses.{Ended, Clauses, AtExit}
use lib.ListN.{length, drop}
use Rattle.bits.specs.Steps.{put_at, Put}
use Rattle.spelling.specs.Words.{spelled}
use Rattle.contents.specs.Content.{over}
use Rattle.report.specs.Report.{printed}
use Rattle.session.specs.declared.Counts.{Counts}
use Rattle.session.specs.Session.{Outcome}
use Rattle.session.specs.Shown.{Shown}
use Rattle.bits.specs.Refusals.{number_of_refusal, number_given}
use Rattle.bits.proofs.RefusalLaws.{refusal_of, refusal_of-number}
use Rattle.network.specs.Answer.{passed_of}
use Rattle.judge.specs.Answers.{answer_of, fault_given}
use Rattle.builders.specs.Results.{built_of, built_two_of}
use Rattle.lines.specs.Sorts.{number_of_sort}
use Rattle.isolation.specs.Isolation.{isolation_given}
use Rattle.module.specs.Run.{stepped}
use Rattle.contents.specs.Moved.{moved_of}
use Rattle.promises.proofs.Results.{passed_back, passed-back, answer_back, answer-back, fault_back, fault-back, given_back, given-back, sort_back, sort-back, reached_back, reached-back, isolation_back, isolation-back, stepped_back, stepped-back, shown_back, shown-back, made_back, made-back, assembled_back, assembled-back, moved_back, moved-back, left_back, left-back, buffer_back, buffer-back, buffers_back, buffers-back, content_back, content-back, picture_back, picture-back, kind_told, kind-told}
use Rattle.promises.specs.Uniqueness.{Sight, OneOutcome, Same, Entries, Library, Program, OfBits, OfMemory, OfWords, OfNetwork, OfRegisters, OfJudge, OfBuilders, OfIsolation, OfReach, OfSpelling, OfLines, OfText, OfBlocks, OfContents, OfPictures, Uniqueness}

-- ---- the laws

module _ {M : Type 1} (𝓤 : Ura M) where
  -- what two clauses say together
  two : (P Q R : Type 0) → (P → Q → R) → ent 𝓤 (sep 𝓤 (fact 𝓤 P) (fact 𝓤 Q)) (fact 𝓤 R)
  two P Q R f = fact_use 𝓤 P (fst∗ 𝓤 (fact 𝓤 P) (fact 𝓤 Q)) (λ p. via 𝓤 (fact 𝓤 Q) (snd∗ 𝓤 (fact 𝓤 P) (fact 𝓤 Q)) (fact_mono 𝓤 Q R (f p)))

  -- and three
  three : (P Q R S : Type 0) → (P → Q → R → S) → ent 𝓤 (sep 𝓤 (fact 𝓤 P) (sep 𝓤 (fact 𝓤 Q) (fact 𝓤 R))) (fact 𝓤 S)
  three P Q R S f = via 𝓤 (sep 𝓤 (fact 𝓤 P) (fact 𝓤 (Q × R))) (mono_r 𝓤 (fact 𝓤 P) (two Q R (Q × R) (λ q r. (q, r)))) (two P (Q × R) S (λ p t. f p t.0 t.1))

  module _ {T : Ended} {c : Clauses 𝓤 T} {O : Type 0} {seen : Sight T O} (told : (κs : Lfts T.signature.lifetimes) → Args T.signature κs → O) where
    -- a clause that is an equation with something computed from the input leaves one outcome
    equation : ((κs : Lfts T.signature.lifetimes) (a : Args T.signature κs) (g : (c κs a).ghost) (r : Res T.signature κs) (e : AtExit T κs)
        → (c κs a).ensures g r e ≡ fact 𝓤 (seen κs r e ≡ told κs a)) → OneOutcome 𝓤 T c seen
    equation h = record { told = told; tells = λ κs a g r e. subst (λ (P : SProp 𝓤). ent 𝓤 P (fact 𝓤 (seen κs r e ≡ told κs a))) (sym (h κs a g r e)) (id⊢ 𝓤 _) }

    -- so does one that says more of the result beside it
    equation-and : (more : (κs : Lfts T.signature.lifetimes) → Args T.signature κs → Res T.signature κs → Type 0)
        → ((κs : Lfts T.signature.lifetimes) (a : Args T.signature κs) (g : (c κs a).ghost) (r : Res T.signature κs) (e : AtExit T κs)
        → (c κs a).ensures g r e ≡ fact 𝓤 ((seen κs r e ≡ told κs a) × more κs a r)) → OneOutcome 𝓤 T c seen
    equation-and more h =
        record {
          told = told;
          tells = λ κs a g r e.
              subst (λ (P : SProp 𝓤). ent 𝓤 P (fact 𝓤 (seen κs r e ≡ told κs a))) (sym (h κs a g r e)) (fact_mono 𝓤 ((seen κs r e ≡ told κs a) × more κs a r) (seen κs r e ≡ told κs a) (λ p. p.0));
        }

  module _ {T : Ended} {c : Clauses 𝓤 T} {N O : Type 0} {seen : Sight T O} (numbers : Sight T N) (back : N → O) (told : (κs : Lfts T.signature.lifetimes) → Args T.signature κs → N) where
    -- and so does one of the documents' numbers, where these lead back to the result that they are of
    converted : ((κs : Lfts T.signature.lifetimes) (r : Res T.signature κs) (e : AtExit T κs) → back (numbers κs r e) ≡ seen κs r e)
        → ((κs : Lfts T.signature.lifetimes) (a : Args T.signature κs) (g : (c κs a).ghost) (r : Res T.signature κs) (e : AtExit T κs)
        → (c κs a).ensures g r e ≡ fact 𝓤 (numbers κs r e ≡ told κs a)) → OneOutcome 𝓤 T c seen
    converted same h =
        record {
          told = λ κs a. back (told κs a);
          tells = λ κs a g r e.
              subst (λ (P : SProp 𝓤). ent 𝓤 P (fact 𝓤 (seen κs r e ≡ back (told κs a)))) (sym (h κs a g r e))
              (fact_mono 𝓤 (numbers κs r e ≡ told κs a) (seen κs r e ≡ back (told κs a)) (λ p. sym (same κs r e) ∙ ap back p));
        }

  module _ (T : Ended) (c : Clauses 𝓤 T) (O : Type 0) (seen : Sight T O) where
    -- and what is told is told of both of two outcomes
    same_outcome : OneOutcome 𝓤 T c seen → Same 𝓤 T c seen
    same_outcome o κs a g r₁ r₂ e₁ e₂ =
        via 𝓤 (sep 𝓤 (fact 𝓤 (seen κs r₁ e₁ ≡ o.told κs a)) (fact 𝓤 (seen κs r₂ e₂ ≡ o.told κs a)))
        (mono∗ 𝓤 (o.tells κs a g r₁ e₁) (o.tells κs a g r₂ e₂))
        (two _ _ _ (λ p q. p ∙ sym q))

-- what follows from an answer is told with it
followed : {A B : Type 0} (f : A → B) {x r : A} {t : B} → r ≡ x → t ≡ f r → ◌≡◌ {A = A × B} (r, t) (x, f x)
followed f e h = λ i. (e i, (h ∙ ap f e) i)

-- an answer and a buffer, each with its own equation
both : {A B : Type 0} {r x : A} {t y : B} → r ≡ x → t ≡ y → ◌≡◌ {A = A × B} (r, t) (x, y)
both e h = λ i. (e i, h i)

-- an answer and two buffers
all_three : {A B C : Type 0} {r x : A} {t y : B} {u z : C} → r ≡ x → t ≡ y → u ≡ z → ◌≡◌ {A = A × B × C} (r, t, u) (x, y, z)
all_three e h k = λ i. (e i, h i, k i)

-- where bytes end that are put into a buffer, and the buffer
put-told : (k : ℕ) (ys xs : List ℕ) {e : ℕ} {xs' : List ℕ} → Put k ys xs e xs' → ◌≡◌ {A = ℕ × List ℕ} (e, xs') (k + length ys, put_at k ys xs)
put-told k ys xs p = both p.behind p.left

-- what the program shows, and the picture that it writes
shown-told : {o : Outcome} {r : Counts} {old text after : List ℕ} (before : List ℕ) → Shown o r old text → after ≡ over o.after before
    → ◌≡◌ {A = Counts × List ℕ × List ℕ} (r, after, text) (record { text = length o.text; after = length o.after }, over o.after before, o.text ++ drop (length o.text) old)
shown-told {o} {r} {old} before s k =
    λ i. (record { text = s.count i; after = s.written i }, k i, (s.printed ∙ ap (λ (n : ℕ). o.text ++ drop n old) s.count) i)

module _ {M : Type 1} {𝓤 : Ura M} (𝓛 : Logic 𝓤) (memory : Memory → SProp 𝓤) (runs : Routine → Fun 𝓤) where
  entries : Entries 𝓛 memory runs
  entries =
      record {
        pass = converted 𝓤 (λ κs r e. passed_of r) passed_back _ (λ κs r e. passed-back r) (λ κs a g r e. refl);
        wired_pass = converted 𝓤 (λ κs r e. passed_of r) passed_back _ (λ κs r e. passed-back r) (λ κs a g r e. refl);
        run = converted 𝓤 (λ κs r e. record { memory = e.0.now; registers = e.1.0.now; out = e.1.1.1.1.0.now; answer = answer_of r }) left_back _ (λ κs r e. left-back (e.0.now) (e.1.0.now) (e.1.1.1.1.0.now) r) (λ κs a g r e. refl);
        step = converted 𝓤 (λ κs r e. record { memory = e.0.now; registers = e.1.0.now; out = e.1.1.1.1.0.now; answer = answer_of r }) left_back _ (λ κs r e. left-back (e.0.now) (e.1.0.now) (e.1.1.1.1.0.now) r) (λ κs a g r e. refl);
        advance = record { told = λ κs a. stepped_back (stepped (record { memory = a.0.now; registers = a.1.0; list = a.1.1.0.now; items = a.1.1.1.0.now; out = a.1.1.1.1.0.now })); tells = λ κs a g r e. fact_mono 𝓤 _ _ (λ p. sym (stepped-back a.1.0 r e.0.now e.1.1.1.1.0.now) ∙ ap stepped_back p) };
        sum_list = converted 𝓤 (λ κs r e. record { answer = built_of r; list = e.1.1.1.1.0.now }) buffer_back _ (λ κs r e. buffer-back (e.1.1.1.1.0.now) r) (λ κs a g r e. refl);
        difference_list = converted 𝓤 (λ κs r e. record { answer = built_of r; list = e.1.1.1.1.0.now }) buffer_back _ (λ κs r e. buffer-back (e.1.1.1.1.0.now) r) (λ κs a g r e. refl);
        equal_list = converted 𝓤 (λ κs r e. record { answer = built_two_of r; list = e.1.1.1.0.now; items = e.1.1.1.1.0.now }) buffers_back _ (λ κs r e. buffers-back (e.1.1.1.0.now) (e.1.1.1.1.0.now) r) (λ κs a g r e. refl);
        less_list = converted 𝓤 (λ κs r e. record { answer = built_two_of r; list = e.1.1.1.0.now; items = e.1.1.1.1.0.now }) buffers_back _ (λ κs r e. buffers-back (e.1.1.1.0.now) (e.1.1.1.1.0.now) r) (λ κs a g r e. refl);
        greatest_list = converted 𝓤 (λ κs r e. record { answer = built_of r; list = e.1.1.0.now }) buffer_back _ (λ κs r e. buffer-back (e.1.1.0.now) r) (λ κs a g r e. refl);
        closing_list = converted 𝓤 (λ κs r e. record { answer = built_two_of r; list = e.1.1.1.1.0.now; items = e.1.1.1.1.1.0.now }) buffers_back _ (λ κs r e. buffers-back (e.1.1.1.1.0.now) (e.1.1.1.1.1.0.now) r) (λ κs a g r e. refl);
        spreading_list = converted 𝓤 (λ κs r e. record { answer = built_two_of r; list = e.1.1.1.1.0.now; items = e.1.1.1.1.1.0.now }) buffers_back _ (λ κs r e. buffers-back (e.1.1.1.1.0.now) (e.1.1.1.1.1.0.now) r) (λ κs a g r e. refl);
        isolated = converted 𝓤 (λ κs r e. isolation_given r) isolation_back _ (λ κs r e. isolation-back r) (λ κs a g r e. refl);
        reach = record { told = _; tells = λ κs a g r e. two 𝓤 _ _ _ (λ p q. both (sym (reached-back r) ∙ ap reached_back p) q) };
        show = record { told = _; tells = λ κs a g r e. two 𝓤 _ _ _ (λ p q. both (sym (shown-back r) ∙ ap shown_back p) q) };
        make = record { told = _; tells = λ κs a g r e. two 𝓤 _ _ _ (λ p q. both (sym (made-back r) ∙ ap made_back p) q) };
        assemble = record { told = _; tells = λ κs a g r e. three 𝓤 _ _ _ _ (λ p q t. all_three (sym (assembled-back r) ∙ ap assembled_back p) q t) };
        read_content = converted 𝓤 (λ κs r e. record { answer = moved_of r; buffer = e.1.1.0.now }) content_back _ (λ κs r e. content-back (e.1.1.0.now) r) (λ κs a g r e. refl);
        write_content = converted 𝓤 (λ κs r e. record { answer = moved_of r; buffer = e.1.1.0.now }) content_back _ (λ κs r e. content-back (e.1.1.0.now) r) (λ κs a g r e. refl);
        read_picture = converted 𝓤 (λ κs r e. record { answer = moved_of r; memory = e.1.1.0.now; registers = e.1.1.1.0.now }) picture_back _ (λ κs r e. picture-back (e.1.1.0.now) (e.1.1.1.0.now) r) (λ κs a g r e. refl);
        write_picture = converted 𝓤 (λ κs r e. record { answer = moved_of r; buffer = e.1.1.1.0.now }) content_back _ (λ κs r e. content-back (e.1.1.1.0.now) r) (λ κs a g r e. refl);
        to_new = converted 𝓤 (λ κs r e. record { answer = moved_of r; buffer = e.1.0.now }) content_back _ (λ κs r e. content-back (e.1.0.now) r) (λ κs a g r e. refl);
        to_old = converted 𝓤 (λ κs r e. record { answer = moved_of r; buffer = e.1.0.now }) content_back _ (λ κs r e. content-back (e.1.0.now) r) (λ κs a g r e. refl);
      }

  library : Library 𝓛 memory runs
  library =
      record {
        run = equation 𝓤 _ (λ κs a g r e. refl);
        step = equation 𝓤 _ (λ κs a g r e. refl);
        pass = equation 𝓤 _ (λ κs a g r e. refl);
        wired_pass = equation 𝓤 _ (λ κs a g r e. refl);
        sum_list = equation 𝓤 _ (λ κs a g r e. refl);
        difference_list = equation 𝓤 _ (λ κs a g r e. refl);
        equal_list = equation 𝓤 _ (λ κs a g r e. refl);
        less_list = equation 𝓤 _ (λ κs a g r e. refl);
        greatest_list = equation 𝓤 _ (λ κs a g r e. refl);
        closing_list = equation 𝓤 _ (λ κs a g r e. refl);
        spreading_list = equation 𝓤 _ (λ κs a g r e. refl);
        isolated = equation 𝓤 _ (λ κs a g r e. refl);
        reach = equation 𝓤 _ (λ κs a g r e. refl);
        show = equation 𝓤 _ (λ κs a g r e. refl);
        make = equation 𝓤 _ (λ κs a g r e. refl);
        read_content = equation 𝓤 _ (λ κs a g r e. refl);
        write_content = equation 𝓤 _ (λ κs a g r e. refl);
        read_picture = equation 𝓤 _ (λ κs a g r e. refl);
        write_picture = equation 𝓤 _ (λ κs a g r e. refl);
        to_new = equation 𝓤 _ (λ κs a g r e. refl);
        to_old = equation 𝓤 _ (λ κs a g r e. refl);
        version = equation 𝓤 _ (λ κs a g r e. refl);
      }

  program : Program 𝓛 memory runs
  program =
      record {
        session = record { told = _; tells = λ κs a g r e. two 𝓤 _ _ _ (shown-told a.1.1.1.0.now) };
        report = record { told = _; tells = λ κs a g r e. three 𝓤 _ _ _ _ (λ room. followed (λ n. printed a.0 a.1.0.number a.1.0.place a.1.0.byte a.1.0.steps a.1.0.taken a.1.0.given a.1.1.0.now ++ drop n a.1.1.1.0.now)) };
      }

  of-bits : OfBits 𝓛 memory runs
  of-bits =
      record {
        put_byte = record { told = _; tells = λ κs a g r e. fact_mono 𝓤 _ _ (put-told a.1.0 (a.1.1.0 ∷ []) a.0.now) };
        copy = equation 𝓤 _ (λ κs a g r e. refl);
        item_of = equation 𝓤 _ (λ κs a g r e. refl);
        flip_quarters = equation 𝓤 _ (λ κs a g r e. refl);
        mix = λ T g d₁ c d₂ x d₃ a d₄. converted 𝓤 (λ κs r e. g.number r) g.value _ (λ κs r e. g.number_tells r) (λ κs a h r e. refl);
        spread_lane = λ T. equation 𝓤 _ (λ κs a g r e. refl);
        gather_lane = equation 𝓤 _ (λ κs a g r e. refl);
        keep_lane = equation 𝓤 _ (λ κs a g r e. refl);
        quarters_of = equation 𝓤 _ (λ κs a g r e. refl);
        lines_of = equation 𝓤 _ (λ κs a g r e. refl);
        number = equation 𝓤 _ (λ κs a g r e. refl);
      }

  of-memory : OfMemory 𝓛 memory runs
  of-memory =
      record {
        load = equation 𝓤 _ (λ κs a g r e. refl);
        store = equation 𝓤 _ (λ κs a g r e. refl);
        store_masked = equation 𝓤 _ (λ κs a g r e. refl);
        write_all = equation 𝓤 _ (λ κs a g r e. refl);
        partner = equation-and 𝓤 _ _ (λ κs a g r e. refl);
        read_all = equation 𝓤 _ (λ κs a g r e. refl);
      }

  of-words : OfWords 𝓛 memory runs
  of-words =
      record {
        words_out = equation 𝓤 _ (λ κs a g r e. refl);
        words_in = equation 𝓤 _ (λ κs a g r e. refl);
      }

  of-network : OfNetwork 𝓛 memory runs
  of-network =
      record {
        pass_item = equation 𝓤 _ (λ κs a g r e. refl);
        pass_part = equation 𝓤 _ (λ κs a g r e. refl);
        find = equation 𝓤 _ (λ κs a g r e. refl);
        is_code = equation 𝓤 _ (λ κs a g r e. refl);
        unlisted = converted 𝓤 (λ κs r e. number_of_refusal r) refusal_of _ (λ κs r e. refusal_of-number r) (λ κs a g r e. refl);
        copied = equation 𝓤 _ (λ κs a g r e. refl);
      }

  of-registers : OfRegisters 𝓛 memory runs
  of-registers =
      record {
        set_m = equation 𝓤 _ (λ κs a g r e. refl);
        with_modes = equation 𝓤 _ (λ κs a g r e. refl);
        logic = equation 𝓤 _ (λ κs a g r e. refl);
        modes_of = equation 𝓤 _ (λ κs a g r e. refl);
        wrong_modes = equation 𝓤 _ (λ κs a g r e. refl);
        any_set = equation 𝓤 _ (λ κs a g r e. refl);
        resolve = equation 𝓤 _ (λ κs a g r e. refl);
        count_responders = equation-and 𝓤 _ _ (λ κs a g r e. refl);
        is_set = equation 𝓤 _ (λ κs a g r e. refl);
        mode_if_set = equation 𝓤 _ (λ κs a g r e. refl);
        registers_of = equation 𝓤 _ (λ κs a g r e. refl);
        write_registers = equation 𝓤 _ (λ κs a g r e. refl);
      }

  of-judge : OfJudge 𝓛 memory runs
  of-judge =
      record {
        judge = converted 𝓤 (λ κs r e. answer_of r) answer_back _ (λ κs r e. answer-back r) (λ κs a g r e. refl);
        judge_step = converted 𝓤 (λ κs r e. answer_of r) answer_back _ (λ κs r e. answer-back r) (λ κs a g r e. refl);
        decode = equation 𝓤 _ (λ κs a g r e. refl);
        unfit = equation 𝓤 _ (λ κs a g r e. refl);
        at = equation 𝓤 _ (λ κs a g r e. refl);
        settle = equation 𝓤 _ (λ κs a g r e. refl);
        unset = equation 𝓤 _ (λ κs a g r e. refl);
        stores = equation 𝓤 _ (λ κs a g r e. refl);
        touches = equation 𝓤 _ (λ κs a g r e. refl);
        fault = converted 𝓤 (λ κs r e. fault_given r) fault_back _ (λ κs r e. fault-back r) (λ κs a g r e. refl);
        takes = equation 𝓤 _ (λ κs a g r e. refl);
        gives = equation 𝓤 _ (λ κs a g r e. refl);
        tally = equation 𝓤 _ (λ κs a g r e. refl);
        shortage = equation 𝓤 _ (λ κs a g r e. refl);
        from = equation 𝓤 _ (λ κs a g r e. refl);
      }

  of-builders : OfBuilders 𝓛 memory runs
  of-builders =
      record {
        wrong_width = equation 𝓤 _ (λ κs a g r e. refl);
        beyond = equation 𝓤 _ (λ κs a g r e. refl);
        lacks = equation 𝓤 _ (λ κs a g r e. refl);
        meets = equation 𝓤 _ (λ κs a g r e. refl);
        put = equation 𝓤 _ (λ κs a g r e. refl);
        put_all = equation 𝓤 _ (λ κs a g r e. refl);
        put_item = equation 𝓤 _ (λ κs a g r e. refl);
        logic_from = equation 𝓤 _ (λ κs a g r e. refl);
        logic_at = equation 𝓤 _ (λ κs a g r e. refl);
        store_at = equation 𝓤 _ (λ κs a g r e. refl);
      }

  of-isolation : OfIsolation 𝓛 memory runs
  of-isolation = record { from = equation 𝓤 _ (λ κs a g r e. refl) }

  of-reach : OfReach 𝓛 memory runs
  of-reach = record { reach_of = equation 𝓤 _ (λ κs a g r e. refl) }

  of-spelling : OfSpelling 𝓛 memory runs
  of-spelling =
      record {
        find = equation 𝓤 _ (λ κs a g r e. refl);
        pick = equation 𝓤 _ (λ κs a g r e. refl);
        when = equation 𝓤 _ (λ κs a g r e. refl);
        decimal = equation 𝓤 _ (λ κs a g r e. refl);
        number = equation 𝓤 _ (λ κs a g r e. refl);
        hex_pair = equation 𝓤 _ (λ κs a g r e. refl);
        pair_value = equation 𝓤 _ (λ κs a g r e. refl);
        extended = equation 𝓤 _ (λ κs a g r e. refl);
        put_word = record { told = _; tells = λ κs a g r e. fact_mono 𝓤 _ _ (put-told a.1.0 (spelled a.1.1.0) a.0.now) };
      }

  of-lines : OfLines 𝓛 memory runs
  of-lines =
      record {
        words_of = equation 𝓤 _ (λ κs a g r e. refl);
        of_kind = equation 𝓤 _ (λ κs a g r e. refl);
        worded = equation 𝓤 _ (λ κs a g r e. refl);
        sort = converted 𝓤 (λ κs r e. number_of_sort r) sort_back _ (λ κs r e. sort-back r) (λ κs a g r e. refl);
      }

  of-text : OfText 𝓛 memory runs
  of-text = record { from = equation 𝓤 _ (λ κs a g r e. refl) }

  of-blocks : OfBlocks 𝓛 memory runs
  of-blocks =
      record {
        two_at = equation-and 𝓤 _ _ (λ κs a g r e. refl);
        fault = converted 𝓤 (λ κs r e. number_given r) given_back _ (λ κs r e. given-back r) (λ κs a g r e. refl);
        seal = equation 𝓤 _ (λ κs a g r e. refl);
      }

  of-contents : OfContents 𝓛 memory runs
  of-contents =
      record {
        is_picture = equation 𝓤 _ (λ κs a g r e. refl);
        number = equation 𝓤 _ (λ κs a g r e. refl);
        try_from = record { told = λ κs a. kind_told a.0; tells = λ κs a g r e. fact_mono 𝓤 _ _ (kind-told a.0 r) };
        from = equation 𝓤 _ (λ κs a g r e. refl);
        judge_file = converted 𝓤 (λ κs r e. moved_of r) moved_back _ (λ κs r e. moved-back r) (λ κs a g r e. refl);
        part_of = equation 𝓤 _ (λ κs a g r e. refl);
        put_part = equation 𝓤 _ (λ κs a g r e. refl);
        seal_all = equation 𝓤 _ (λ κs a g r e. refl);
      }

  of-pictures : OfPictures 𝓛 memory runs
  of-pictures = record { registers_bytes = equation 𝓤 _ (λ κs a g r e. refl) }

  pub uniqueness : Uniqueness 𝓛 memory runs
  uniqueness =
      record {
        same = same_outcome 𝓤;
        entries = entries;
        library = library;
        program = program;
        of_bits = of-bits;
        of_memory = of-memory;
        of_words = of-words;
        of_network = of-network;
        of_registers = of-registers;
        of_judge = of-judge;
        of_builders = of-builders;
        of_isolation = of-isolation;
        of_reach = of-reach;
        of_spelling = of-spelling;
        of_lines = of-lines;
        of_text = of-text;
        of_blocks = of-blocks;
        of_contents = of-contents;
        of_pictures = of-pictures;
      }
