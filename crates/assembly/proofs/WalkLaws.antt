-- A walk over the lines of a text: what it carries stands for the state of the lines so far, and what is left leads to the text's outcome. Assumes nothing.
use mathlib.Core.Path.{◌≡◌, refl, sym, ap, ap₂, subst, ◌∙◌}
use mathlib.Core.Bool.{Bool, true, false, cond}
use mathlib.Core.List.{List, [], ◌++◌}
use Prim.Native.Nat.{ℕ, ◌+◌, ◌<◌, ◌≤◌}
use native.Mathlib.Omega.{arith}
use lib.Dec.{eqb}
use lib.ListN.{length, get_or, drop, length-append}
use borrow.Author.Tests.{eq-eqb, ne_eqb, eqb-true, eqb-false}
use Rattle.bits.specs.Steps.{put_at}
use Rattle.bits.proofs.Puts.{put-put}
use Rattle.registers.specs.declared.Modes.{Modes}
use Rattle.registers.specs.Modes.{none_set}
use Rattle.assembly.specs.Act.{Act}
use Rattle.assembly.specs.declared.assembling.Standing.{Standing}
use Rattle.assembly.specs.Fields.{Named, named}
use Rattle.assembly.specs.Acts.{number_of, list_of, items_of, named_by, limit_by, modes_by_act, taken_by_act}
use Rattle.assembly.specs.Statements.{line_act}
use Rattle.assembly.specs.Assembly.{lines_of, State, begin, applied, act_of, Outcome, folded, outcome_of, made_list, made_items}
use Rattle.assembly.specs.Steps.{Room, Buildable}
use Rattle.assembly.proofs.LinesLaws.{lines-drop, lines-end}
use Rattle.assembly.proofs.FoldLaws.{stopped, grown}
use Rattle.assembly.proofs.SoundLaws.{Sound, sound_none, sound-by, Fit, line-fit}

-- Behind n lines the walk carries the fields and s, and st stands.
pub record Walking (text : List ℕ) (have : Named) (s : Standing) (n : ℕ) (st : State) : Type 0 where
  pub fields : st.fields ≡ have
  pub limit : st.limit ≡ s.limit
  pub modes : st.modes ≡ s.modes
  pub taken : st.taken ≡ s.taken
  pub list : length st.list ≡ s.list
  pub items : length st.items ≡ s.items
  pub sound : Sound st.fields
  pub left : folded st (n + 1) (drop n (lines_of text)) ≡ outcome_of text

abbrev pub standing : ℕ → Modes → Bool → ℕ → ℕ → Standing
standing limit modes taken list items = record { limit = limit; modes = modes; taken = taken; list = list; items = items }

pub walk-begin : (text : List ℕ) {fields : Named} {s : Standing} → fields ≡ named [] [] [] → s ≡ standing 0 none_set false 0 0 → Walking text fields s 0 begin
unfolding outcome_of
walk-begin text {fields} {s} f e =
    subst (λ (t : Named). Walking text t s 0 begin) (sym f) (subst (λ (s : Standing). Walking text (named [] [] []) s 0 begin) (sym e) (record {
      fields = refl;
      limit = refl;
      modes = refl;
      taken = refl;
      list = refl;
      items = refl;
      sound = sound_none;
      left = refl;
    }))

module _ {text : List ℕ} {fields : Named} {s : Standing} {n : ℕ} {st : State} (w : Walking text fields s n st) where
  -- ---- one line more

  module _ {line : List ℕ} (h : n < length (lines_of text)) (q : line ≡ get_or (lines_of text) n line)
      {act : Act} (a : act ≡ line_act fields s.limit s.modes s.taken line) where
    act-as : act_of st line ≡ act
    act-as =
        ap (λ (x : Named). line_act x st.limit st.modes st.taken line) w.fields
        ∙ ap₂ (λ (x : ℕ) (m : Modes). line_act fields x m st.taken line) w.limit w.modes
        ∙ ap (λ (b : Bool). line_act fields s.limit s.modes b line) w.taken
        ∙ sym a

    outcome-as : outcome_of text
        ≡ cond (eqb (number_of act) 0) (folded (applied act st) (n + 1 + 1) (drop (n + 1) (lines_of text))) (stopped st (n + 1) act)
    unfolding folded
    outcome-as =
        sym w.left
        ∙ ap (folded st (n + 1)) (lines-drop text n line h q)
        ∙ ap (λ (x : Act). cond (eqb (number_of x) 0) (folded (applied x st) (n + 1 + 1) (drop (n + 1) (lines_of text))) (stopped st (n + 1) x)) act-as

    pub walk_refused : (number_of act ≡ 0 → ⊥) → outcome_of text ≡ stopped st (n + 1) act
    walk_refused u =
        outcome-as
        ∙ ap (λ (b : Bool). cond b (folded (applied act st) (n + 1 + 1) (drop (n + 1) (lines_of text))) (stopped st (n + 1) act)) (ne_eqb (number_of act) 0 u)

    next-as : number_of act ≡ 0 → folded (applied act st) (n + 1 + 1) (drop (n + 1) (lines_of text)) ≡ outcome_of text
    next-as z =
        sym (outcome-as
        ∙ ap (λ (b : Bool). cond b (folded (applied act st) (n + 1 + 1) (drop (n + 1) (lines_of text))) (stopped st (n + 1) act)) (eq-eqb (number_of act) 0 z))

    -- a text that stands has no line that is refused
    pub walk-stands : (outcome_of text).number ≡ 0 → number_of act ≡ 0
    walk-stands z = go (eqb (number_of act) 0) refl
      where
        go : (b : Bool) → eqb (number_of act) 0 ≡ b → number_of act ≡ 0
        go true t = eqb-true (number_of act) 0 t
        go false t = sym (ap (λ (o : Outcome). o.number) (walk_refused (eqb-false (number_of act) 0 t))) ∙ z

    pub walk-fit : Room (length fields.names) act × Buildable act
    walk-fit =
        let f = subst (Fit st.fields w.sound) act-as (line-fit st.fields w.sound st.limit st.modes st.taken line) in
        (subst (λ (t : Named). Room (length t.names) act) w.fields f.0, f.1)

    -- what it brings is part of what the text makes
    pub walk-room : number_of act ≡ 0 → (s.list + length (list_of act) ≤ length (made_list text)) × (s.items + length (items_of act) ≤ length (made_items text))
    unfolding applied
    walk-room z =
        let g = grown (drop (n + 1) (lines_of text)) (applied act st) (n + 1 + 1) in
        let o = next-as z in
        let x = ap (λ (o : Outcome). length o.state.list) (sym o) ∙ ap length g.list in
        let y = ap (λ (o : Outcome). length o.state.items) (sym o) ∙ ap length g.items in (
          omega (arith, x, length-append (st.list ++ list_of act) g.more, length-append st.list (list_of act), w.list),
          omega (arith, y, length-append (st.items ++ items_of act) g.more_items, length-append st.items (items_of act), w.items),
        )

    pub walk-next : number_of act ≡ 0 → {fields' : Named} {s' : Standing} → fields' ≡ named_by act fields
        → s' ≡ standing (limit_by act s.limit) (modes_by_act act s.modes) (taken_by_act act s.taken) (s.list + length (list_of act)) (s.items + length (items_of act))
        → Walking text fields' s' (n + 1) (applied act st)
    unfolding applied
    walk-next z {fields'} t es =
        subst (λ (x : Standing). Walking text fields' x (n + 1) (applied act st)) (sym es) (record {
          fields = ap (named_by act) w.fields ∙ sym t;
          limit = ap (limit_by act) w.limit;
          modes = ap (modes_by_act act) w.modes;
          taken = ap (taken_by_act act) w.taken;
          list = length-append st.list (list_of act) ∙ ap (λ (k : ℕ). k + length (list_of act)) w.list;
          items = length-append st.items (items_of act) ∙ ap (λ (k : ℕ). k + length (items_of act)) w.items;
          sound = sound-by act (subst (Fit st.fields w.sound) act-as (line-fit st.fields w.sound st.limit st.modes st.taken line)).1 w.sound;
          left = next-as z;
        })

    -- and so the buffers have what the lines so far make at their fronts
    pub put_next : (list₀ : List ℕ) {list list' : List ℕ} → list ≡ put_at 0 st.list list₀ → list' ≡ put_at s.list (list_of act) list → list' ≡ put_at 0 (applied act st).list list₀
    unfolding applied
    put_next list₀ p r = r ∙ ap (put_at s.list (list_of act)) p ∙ put-put 0 s.list st.list (list_of act) list₀ (omega arith) (omega (arith, w.list))

    pub put-next-items : (items₀ : List ℕ) {items items' : List ℕ} → items ≡ put_at 0 st.items items₀ → items' ≡ put_at s.items (items_of act) items → items' ≡ put_at 0 (applied act st).items items₀
    unfolding applied
    put-next-items items₀ p r = r ∙ ap (put_at s.items (items_of act)) p ∙ put-put 0 s.items st.items (items_of act) items₀ (omega arith) (omega (arith, w.items))

  -- ---- behind the last line

  pub walk-end : n ≡ length (lines_of text) → outcome_of text ≡ record { number = 0; line = 0; column = 0; state = st }
  unfolding folded
  walk-end h = sym w.left ∙ ap (folded st (n + 1)) (lines-end text n h)
