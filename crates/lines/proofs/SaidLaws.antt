-- An instruction that the judge does not refuse by itself, in words, leads to itself. Assumes nothing.
use mathlib.Core.Path.{◌≡◌, refl, sym, subst, ap, ap₂, ◌∙◌}
use mathlib.Core.Bool.{Bool, true, false, cond, not, ◌&&◌, ◌||◌}
use mathlib.Core.List.{List, [], ◌∷◌}
use mathlib.Core.Logic.{◌⊎◌, inl, inr}
use Prim.Native.Nat.{ℕ, zero, suc, ◌+◌, ◌*◌, ◌/◌, ◌%◌, ◌<◌, ◌≤◌}
use native.Mathlib.Decide.{ℕ_discrete}
use native.Mathlib.Omega.{arith}
use lib.Dec.{eqb, ltb}
use lib.ListN.{get_or}
use borrow.Author.Tests.{lt-ltb, eq-eqb, ne_eqb, ltb-false, eqb-true, eqb-false, not-true, not-false}
use Rattle.bits.specs.Search.{index_of}
use Rattle.bits.proofs.Rows.{and_none, or-none}
use Rattle.network.proofs.TableRules.{listed-none, permitted-pair}
use Rattle.registers.specs.declared.Modes.{Modes}
use Rattle.judge.specs.declared.Instruction.{Instruction}
use Rattle.judge.specs.Modes.{unset, mode_of}
use Rattle.judge.specs.Judge.{wrong_kind, wrong_source, lacks_tag, wrong_tag, idle_tag, idle_mode, idle_address, barred_flip, barred_shift, wrong_logic}
use Rattle.judge.proofs.Numbers.{unfaulted, fault-high}
use Rattle.reach.specs.Reach.{reach_of}
use Rattle.reach.proofs.CountLaws.{reach-le}
use Rattle.spelling.specs.Tables.{heads, choices, functions, sources, mode_registers, powers, address_word, from_word, flip_word, shift_word, mod_word, slice_word, word_word, mode_word, comment_word, reaches_word, words_word, unknown_word}
use Rattle.spelling.specs.Words.{when, plain, decimal, extended, visible, spelled_in, spelled, goods, extended_by}
use Rattle.spelling.proofs.Tests.{below, choice-found, function-found, power-found, number-decimal, decimal-plain, choice-plain, function-plain, power-plain}
use Rattle.lines.specs.declared.Line.{Line}
use Rattle.lines.specs.declared.Phase.{Phase}
use Rattle.lines.specs.declared.Phase.TheVariants.{Head, Choice, Function, Source, Place, Mode, AddressWord, Address, From, Register, Moves, Flip, AfterFlip, Amount, Modulo, Group, SetWhich, SetTo, End, Refused}
use Rattle.lines.specs.Alone.{of_kind, stores, touches, both_set, fault_alone}
use Rattle.lines.specs.Said.{reach_word, words_after, said, in_bytes, words_of}
use Rattle.lines.specs.Worded as worded
use Rattle.lines.specs.Worded.{line, with_mode, register_tag, after_place, sort_of, head_word, choice_word, function_word, source_word, register_word, which_word, set_number, mode_number, address_number, flip_number, only, amount_word, group_word, shift_head, moves_word}
use Rattle.lines.proofs.Formed.{made}
use Rattle.lines.proofs.Leads.{Plains, Leads, stop, skip, word, comment, Bytes, bytes-lead}

-- ---- the moves: a flip, a shift

-- Byte 6 is 0, or 16p + m with m < p ≤ 8.
abbrev Shifted : ℕ → Type 0
Shifted c = (c ≡ 0) ⊎ ((c % 16 < c / 16) × (c / 16 ≤ 8))

shifted-pair : (c : ℕ) → Shifted c → (c ≡ 0 → ⊥) → (c % 16 < c / 16) × (c / 16 ≤ 8)
shifted-pair c (inl e) n = absurd (n e)
shifted-pair c (inr p) n = p

-- Where a shift may stand.
abbrev MovesTo : Phase → Type 0
MovesTo p = (sort_of p ≡ 2) × ((a : Instruction) → worded.worded_at p a shift_word ≡ shift_head a shift_word)

-- What stands behind the moves.
abbrev Ending : List ℕ → Instruction → Type 0
Ending ws i = (l : Line) → sort_of l.phase ≡ 2 → l.got ≡ i → Leads l ws i

abbrev shift_words : ℕ → List ℕ → List ℕ
shift_words c ws =
    when (not (eqb c 0)) shift_word
    ∷ when (not (eqb c 0)) (get_or powers (c % 16) 0)
    ∷ when (not (eqb c 0)) mod_word
    ∷ when (not (eqb c 0)) (get_or powers (c / 16) 0)
    ∷ ws

abbrev move_words : ℕ → ℕ → List ℕ → List ℕ
move_words f c ws = when (not (eqb f 0)) flip_word ∷ when (not (eqb f 0)) (decimal f) ∷ shift_words c ws

module _ (k s t m g l : ℕ) where
  amount-word : (f x : ℕ) → x < 8 → worded.worded (line Amount (made k s t m g f 0 l)) (get_or powers x 0) ≡ line Modulo (made k s t m g f x l)
  unfolding worded.worded amount_word
  amount-word f x h = simp (power-found x (omega arith), lt-ltb x 8 h)

  group-word : (f x y : ℕ) → x < y → y < 9 → worded.worded (line Group (made k s t m g f x l)) (get_or powers y 0) ≡ line End (made k s t m g f (16 * y + x) l)
  unfolding worded.worded group_word
  group-word f x y h q = simp (power-found y q, lt-ltb x y h, lt-ltb y 9 q)

  shift-head : (p : Phase) (f : ℕ) → MovesTo p → stores k ≡ false → worded.worded (line p (made k s t m g f 0 l)) shift_word ≡ line Amount (made k s t m g f 0 l)
  unfolding worded.worded shift_head
  shift-head p f h q = h.1 (made k s t m g f 0 l) ∙ ap (λ (b : Bool). cond (true && not b) (line Amount (made k s t m g f 0 l)) (line (Refused 67) (made k s t m g f 0 l))) q

  flip-word : (f : ℕ) → f < 256 → worded.worded (line Flip (made k s t m g 0 0 l)) (decimal f) ≡ line AfterFlip (made k s t m g f 0 l)
  unfolding worded.worded flip_number
  flip-word f h = simp (number-decimal f h, lt-ltb f 256 h)

  -- a shift or none
  shift-lead : (p : Phase) (f c : ℕ) {ws : List ℕ} → MovesTo p → Shifted c → ((c ≡ 0 → ⊥) → stores k ≡ false) → Ending ws (made k s t m g f c l)
      → Leads (line p (made k s t m g f 0 l)) (shift_words c ws) (made k s t m g f c l)
  unfolding plain extended visible spelled_in spelled goods extended_by worded.worded only
  shift-lead p f c {ws} h q u end = go (ℕ_discrete c 0)
    where
      go : Dec (c ≡ 0) → Leads (line p (made k s t m g f 0 l)) (shift_words c ws) (made k s t m g f c l)
      go (yes e) =
          let z : (x : ℕ) → when (not (eqb c 0)) x ≡ 0 = λ x. ap (λ (b : Bool). when (not b) x) (eq-eqb c 0 e) in
          skip (z shift_word) (skip (z (get_or powers (c % 16) 0)) (skip (z mod_word) (skip (z (get_or powers (c / 16) 0))
          (end (line p (made k s t m g f 0 l)) h.0 (ap (λ (x : ℕ). made k s t m g f x l) (sym e))))))
      go (no n) =
          let z : (x : ℕ) → when (not (eqb c 0)) x ≡ x = λ x. ap (λ (b : Bool). when (not b) x) (ne_eqb c 0 n) in
          let pair = shifted-pair c q n in
          let low = pair.0 in
          let top : c / 16 < 9 = omega (arith, pair.1) in
          let whole : 16 * (c / 16) + c % 16 ≡ c = omega arith in
          subst (λ (ys : List ℕ). Leads (line p (made k s t m g f 0 l)) ys (made k s t m g f c l))
          (sym (ap (λ (x : ℕ). x ∷ when (not (eqb c 0)) (get_or powers (c % 16) 0) ∷ when (not (eqb c 0)) mod_word ∷ when (not (eqb c 0)) (get_or powers (c / 16) 0) ∷ ws) (z shift_word)
          ∙ ap (λ (x : ℕ). shift_word ∷ x ∷ when (not (eqb c 0)) mod_word ∷ when (not (eqb c 0)) (get_or powers (c / 16) 0) ∷ ws) (z (get_or powers (c % 16) 0))
          ∙ ap (λ (x : ℕ). shift_word ∷ get_or powers (c % 16) 0 ∷ x ∷ when (not (eqb c 0)) (get_or powers (c / 16) 0) ∷ ws) (z mod_word)
          ∙ ap (λ (x : ℕ). shift_word ∷ get_or powers (c % 16) 0 ∷ mod_word ∷ x ∷ ws) (z (get_or powers (c / 16) 0))))
          (word (line Amount (made k s t m g f 0 l)) (ap (λ (x : ℕ). ltb x 3) h.0) refl (shift-head p f h (u n))
          (word (line Modulo (made k s t m g f (c % 16) l)) refl (power-plain (c % 16) (omega arith)) (amount-word f (c % 16) (omega arith))
          (word (line Group (made k s t m g f (c % 16) l)) refl refl refl
          (word (line End (made k s t m g f (16 * (c / 16) + c % 16) l)) refl (power-plain (c / 16) top) (group-word f (c % 16) (c / 16) low top)
          (end (line End (made k s t m g f (16 * (c / 16) + c % 16) l)) refl (ap (λ (x : ℕ). made k s t m g f x l) whole))))))

  -- a flip or none, and a shift or none
  moves-lead : (f c : ℕ) {ws : List ℕ} → f < 256 → Shifted c → ((c ≡ 0 → ⊥) → stores k ≡ false) → Ending ws (made k s t m g f c l)
      → Leads (line Moves (made k s t m g 0 0 l)) (move_words f c ws) (made k s t m g f c l)
  unfolding plain extended visible spelled_in spelled goods extended_by worded.worded moves_word
  moves-lead f c {ws} h q u end = go (ℕ_discrete f 0)
    where
      go : Dec (f ≡ 0) → Leads (line Moves (made k s t m g 0 0 l)) (move_words f c ws) (made k s t m g f c l)
      go (yes e) =
          let z : (x : ℕ) → when (not (eqb f 0)) x ≡ 0 = λ x. ap (λ (b : Bool). when (not b) x) (eq-eqb f 0 e) in
          skip (z flip_word) (skip (z (decimal f))
          (subst (λ (x : ℕ). Leads (line Moves (made k s t m g x 0 l)) (shift_words c ws) (made k s t m g f c l)) e (shift-lead Moves f c (refl, λ a. refl) q u end)))
      go (no n) =
          let z : (x : ℕ) → when (not (eqb f 0)) x ≡ x = λ x. ap (λ (b : Bool). when (not b) x) (ne_eqb f 0 n) in
          subst (λ (ys : List ℕ). Leads (line Moves (made k s t m g 0 0 l)) ys (made k s t m g f c l))
          (sym (ap₂ (λ (x y : ℕ). x ∷ y ∷ shift_words c ws) (z flip_word) (z (decimal f))))
          (word (line Flip (made k s t m g 0 0 l)) refl refl refl
          (word (line AfterFlip (made k s t m g f 0 l)) refl (decimal-plain f (omega arith)) (flip-word f h)
          (shift-lead AfterFlip f c (refl, λ a. refl) q u end)))

-- ---- the place in memory

-- Where a place may stand.
data Places : Phase → Type 0 where
  in_source : Places Source
  alone : Places Place

-- The tag and byte 3 of an access that stands.
data Tagged : ℕ → ℕ → Type 0 where
  given : (m : ℕ) → m < 256 → Tagged 1 m
  in_a : Tagged 2 0
  in_b : Tagged 3 0

-- A slice or a word.
abbrev short : ℕ → ℕ → Bool
short t m = eqb t 1 && (eqb m 0 || eqb m 255)

abbrev place_words : ℕ → ℕ → ℕ → List ℕ → List ℕ
place_words t m g ws =
    cond (short t m) (cond (eqb m 0) slice_word word_word) mode_word
    ∷ when (not (short t m)) (cond (eqb t 1) (decimal m) (get_or mode_registers t 0))
    ∷ when (not (short t m)) address_word
    ∷ decimal g
    ∷ ws

address-word : (k s t m g l : ℕ) → g < 256 → worded.worded (line Address (made k s t m 0 0 0 l)) (decimal g) ≡ line (after_place k) (made k s t m g 0 0 l)
unfolding worded.worded address_number
address-word k s t m g l h = simp (number-decimal g h, lt-ltb g 256 h)

-- no number is the name of a mode register
no_register : (m : ℕ) → m < 256 → register_tag (index_of (decimal m) mode_registers) ≡ false
unfolding decimal index_of
no_register m h = not-true (register_tag (index_of (decimal m) mode_registers)) (below 256 (λ k. not (register_tag (index_of (decimal k) mode_registers))) tt m h)

mode-word : (k s m l : ℕ) → m < 256 → worded.worded (line Mode (made k s 1 0 0 0 0 l)) (decimal m) ≡ line AddressWord (made k s 1 m 0 0 0 l)
unfolding worded.worded mode_number
mode-word k s m l h = simp (no_register m h, number-decimal m h, lt-ltb m 256 h)

slice-head : {p : Phase} → Places p → (a : Instruction) → worded.worded (line p a) slice_word ≡ line Address (with_mode a 1 0)
unfolding worded.worded worded.place_word source_word index_of
slice-head in_source a = refl
slice-head alone a = refl

word-head : {p : Phase} → Places p → (a : Instruction) → worded.worded (line p a) word_word ≡ line Address (with_mode a 1 255)
unfolding worded.worded worded.place_word source_word index_of
word-head in_source a = refl
word-head alone a = refl

mode-head : {p : Phase} → Places p → (a : Instruction) → worded.worded (line p a) mode_word ≡ line Mode (with_mode a 1 0)
unfolding worded.worded worded.place_word source_word index_of
mode-head in_source a = refl
mode-head alone a = refl

place-active : {p : Phase} → Places p → ltb (sort_of p) 3 ≡ true
place-active in_source = refl
place-active alone = refl

module _ {p : Phase} (h : Places p) (k s g l : ℕ) (hg : g < 256) where
  -- the number of the place, and what follows it
  place-number : (t m : ℕ) {ws : List ℕ} {i : Instruction} → Leads (line (after_place k) (made k s t m g 0 0 l)) ws i → Leads (line Address (made k s t m 0 0 0 l)) (decimal g ∷ ws) i
  place-number t m rest = word (line (after_place k) (made k s t m g 0 0 l)) refl (decimal-plain g (omega arith)) (address-word k s t m g l hg) rest

  -- a mode that is given
  given-lead : (m : ℕ) {ws : List ℕ} {i : Instruction} → m < 256 → Leads (line (after_place k) (made k s 1 m g 0 0 l)) ws i → Leads (line p (made k s 0 0 0 0 0 l)) (place_words 1 m g ws) i
  unfolding plain extended visible spelled_in spelled goods extended_by worded.worded only
  given-lead m {ws} {i} hm rest = go (ℕ_discrete m 0) (ℕ_discrete m 255)
    where
      last : (x : ℕ) → x ≡ m → Leads (line Address (made k s 1 x 0 0 0 l)) (decimal g ∷ ws) i
      last x e = subst (λ (y : ℕ). Leads (line Address (made k s 1 y 0 0 0 l)) (decimal g ∷ ws) i) (sym e) (place-number 1 m rest)

      -- the words by what the two tests say
      words : Bool → Bool → List ℕ
      words a b =
          cond (a || b) (cond a slice_word word_word) mode_word ∷ when (not (a || b)) (decimal m) ∷ when (not (a || b)) address_word ∷ decimal g ∷ ws

      by : (a b : Bool) → eqb m 0 ≡ a → eqb m 255 ≡ b → Leads (line p (made k s 0 0 0 0 0 l)) (words a b) i → Leads (line p (made k s 0 0 0 0 0 l)) (words (eqb m 0) (eqb m 255)) i
      by a b ea eb r = subst (λ (ys : List ℕ). Leads (line p (made k s 0 0 0 0 0 l)) ys i) (sym (ap₂ words ea eb)) r

      go : Dec (m ≡ 0) → Dec (m ≡ 255) → Leads (line p (made k s 0 0 0 0 0 l)) (words (eqb m 0) (eqb m 255)) i
      go (yes e) d =
          by true (eqb m 255) (eq-eqb m 0 e) refl
          (word (line Address (made k s 1 0 0 0 0 l)) (place-active h) refl (slice-head h (made k s 0 0 0 0 0 l)) (skip refl (skip refl (last 0 (sym e)))))
      go (no n) (yes e) =
          by false true (ne_eqb m 0 n) (eq-eqb m 255 e)
          (word (line Address (made k s 1 255 0 0 0 l)) (place-active h) refl (word-head h (made k s 0 0 0 0 0 l)) (skip refl (skip refl (last 255 (sym e)))))
      go (no n) (no u) =
          by false false (ne_eqb m 0 n) (ne_eqb m 255 u)
          (word (line Mode (made k s 1 0 0 0 0 l)) (place-active h) refl (mode-head h (made k s 0 0 0 0 0 l))
          (word (line AddressWord (made k s 1 m 0 0 0 l)) refl (decimal-plain m (omega arith)) (mode-word k s m l hm)
          (word (line Address (made k s 1 m 0 0 0 l)) refl refl refl
          (last m refl))))

  place-lead : {t m : ℕ} {ws : List ℕ} {i : Instruction} → Tagged t m → Leads (line (after_place k) (made k s t m g 0 0 l)) ws i → Leads (line p (made k s 0 0 0 0 0 l)) (place_words t m g ws) i
  unfolding plain extended visible spelled_in spelled goods extended_by worded.worded only mode_number index_of
  place-lead (given m hm) rest = given-lead m hm rest
  place-lead in_a rest =
      word (line Mode (made k s 1 0 0 0 0 l)) (place-active h) refl (mode-head h (made k s 0 0 0 0 0 l))
      (word (line AddressWord (made k s 2 0 0 0 0 l)) refl refl refl
      (word (line Address (made k s 2 0 0 0 0 l)) refl refl refl
      (place-number 2 0 rest)))
  place-lead in_b rest =
      word (line Mode (made k s 1 0 0 0 0 l)) (place-active h) refl (mode-head h (made k s 0 0 0 0 0 l))
      (word (line AddressWord (made k s 3 0 0 0 0 l)) refl refl refl
      (word (line Address (made k s 3 0 0 0 0 l)) refl refl refl
      (place-number 3 0 rest)))

-- ---- registers and outside

-- what holds of 1 to 4 holds of each source but memory
four : (P : ℕ → Type 0) → P 1 → P 2 → P 3 → P 4 → (s : ℕ) → 0 < s → s < 5 → P s
four P a b c d zero h q = absurd (omega arith)
four P a b c d (suc zero) h q = a
four P a b c d (suc (suc zero)) h q = b
four P a b c d (suc (suc (suc zero))) h q = c
four P a b c d (suc (suc (suc (suc zero)))) h q = d
four P a b c d (suc (suc (suc (suc (suc s))))) h q = absurd (omega arith)

source-plain : (s : ℕ) → 0 < s → s < 5 → plain (get_or sources s 0) ≡ true
unfolding plain extended visible spelled_in spelled goods extended_by
source-plain = four (λ s. plain (get_or sources s 0) ≡ true) refl refl refl refl

source-word : (s : ℕ) → 0 < s → s < 5 → (a : Instruction) → worded.worded (line Source a) (get_or sources s 0) ≡ line Moves (worded.with_source a s)
unfolding worded.worded source_word index_of
source-word = four (λ s. (a : Instruction) → worded.worded (line Source a) (get_or sources s 0) ≡ line Moves (worded.with_source a s)) (λ a. refl) (λ a. refl) (λ a. refl) (λ a. refl)

register-word : (s : ℕ) → 0 < s → s < 5 → (a : Instruction) → worded.worded (line Register a) (get_or sources s 0) ≡ line Moves (worded.with_source a s)
unfolding worded.worded register_word index_of
register-word = four (λ s. (a : Instruction) → worded.worded (line Register a) (get_or sources s 0) ≡ line Moves (worded.with_source a s)) (λ a. refl) (λ a. refl) (λ a. refl) (λ a. refl)

-- ---- the kinds

-- No comment.
bare : {i : Instruction} → Ending (0 ∷ 0 ∷ 0 ∷ 0 ∷ []) i
bare l h e = skip refl (skip refl (skip refl (skip refl (stop h e))))

-- How many words a store reaches.
reached : (ms : Modes) (a : Instruction) {i : Instruction} → Ending (comment_word ∷ reaches_word ∷ reach_word ms a ∷ words_after ms a ∷ []) i
unfolding plain extended visible spelled_in spelled goods extended_by
reached ms a l q e =
    let plains : Plains (reaches_word ∷ reach_word ms a ∷ words_after ms a ∷ []) = (refl, (many (unset ms a), (last (not (unset ms a) && eqb (mode_of ms a) 255), tt))) in
    comment refl q e plains
  where
    many : (b : Bool) → plain (cond b unknown_word (decimal (reach_of (mode_of ms a)))) ≡ true
    many true = refl
    many false = decimal-plain (reach_of (mode_of ms a)) (omega (arith, reach-le (mode_of ms a)))

    last : (b : Bool) → plain (cond b word_word words_word) ≡ true
    last true = refl
    last false = refl

-- a source in memory
memory-lead : (k g f c l : ℕ) {t m : ℕ} → stores k ≡ false → Tagged t m → g < 256 → f < 256 → Shifted c
    → Leads (line Source (made k 0 0 0 0 0 0 l)) (place_words t m g (0 ∷ 0 ∷ move_words f c (0 ∷ 0 ∷ 0 ∷ 0 ∷ []))) (made k 0 t m g f c l)
memory-lead k g f c l {t} {m} h ht hg hf hc =
    place-lead in_source k 0 g l hg ht
    (subst (λ (b : Bool). Leads (line (cond b From Moves) (made k 0 t m g 0 0 l)) (0 ∷ 0 ∷ move_words f c (0 ∷ 0 ∷ 0 ∷ 0 ∷ [])) (made k 0 t m g f c l)) (sym h)
    (skip refl (skip refl (moves-lead k 0 t m g l f c hf hc (λ _. h) bare))))

-- a register or outside
register-lead : (k s f c l : ℕ) → stores k ≡ false → 0 < s → s < 5 → f < 256 → Shifted c
    → Leads (line Source (made k 0 0 0 0 0 0 l)) (0 ∷ 0 ∷ 0 ∷ 0 ∷ 0 ∷ get_or sources s 0 ∷ move_words f c (0 ∷ 0 ∷ 0 ∷ 0 ∷ [])) (made k s 0 0 0 f c l)
register-lead k s f c l h hp hs hf hc =
    skip refl (skip refl (skip refl (skip refl (skip refl
    (word (line Moves (made k s 0 0 0 0 0 l)) refl (source-plain s hp hs) (source-word s hp hs (made k 0 0 0 0 0 0 l))
    (moves-lead k s 0 0 0 l f c hf hc (λ _. h) bare))))))

-- a store
store-lead : (ms : Modes) (a : Instruction) (k s g f : ℕ) {t m : ℕ} → stores k ≡ true → 0 < s → s < 5 → Tagged t m → g < 256 → f < 256
    → Leads (line Place (made k 0 0 0 0 0 0 0))
    (place_words t m g (from_word ∷ get_or sources s 0 ∷ move_words f 0 (comment_word ∷ reaches_word ∷ reach_word ms a ∷ words_after ms a ∷ []))) (made k s t m g f 0 0)
unfolding plain extended visible spelled_in spelled goods extended_by worded.worded only
store-lead ms a k s g f {t} {m} h hp hs ht hg hf =
    place-lead alone k 0 g 0 hg ht
    (subst
    (λ (b : Bool). Leads (line (cond b From Moves) (made k 0 t m g 0 0 0)) (from_word ∷ get_or sources s 0 ∷ move_words f 0 (comment_word ∷ reaches_word ∷ reach_word ms a ∷ words_after ms a ∷ [])) (made k s t m g f 0 0))
    (sym h)
    (word (line Register (made k 0 t m g 0 0 0)) refl refl refl
    (word (line Moves (made k s t m g 0 0 0)) refl (source-plain s hp hs) (register-word s hp hs (made k 0 t m g 0 0 0))
    (moves-lead k s t m g 0 f 0 hf (inl refl) (λ n. absurd (n refl)) (reached ms a)))))

-- ---- what the judge's rows leave

-- None of an instruction's rows holds, test by test.
record Accepted (i : Instruction) : Type 0 where
  kind : wrong_kind i ≡ false
  source : wrong_source i ≡ false
  no_tag : lacks_tag i ≡ false
  tag : wrong_tag i ≡ false
  tag_unused : idle_tag i ≡ false
  mode_unused : idle_mode i ≡ false
  address_unused : idle_address i ≡ false
  flip : barred_flip i ≡ false
  shift : barred_shift i ≡ false
  code : Shifted i.code
  logic : wrong_logic i ≡ false

accepted : (i : Instruction) → (fault_alone i).number ≡ 0 → Accepted i
unfolding fault_alone
accepted i h =
    let n = (unfaulted both_set i).0 h in
    let idle = n.1.1.1.1.0 in
    let moves = n.1.1.1.1.1.1 in record {
      kind = n.0.0;
      source = n.1.0.0;
      no_tag = n.1.1.0.0;
      tag = n.1.1.1.0.0;
      tag_unused = idle.0;
      mode_unused = idle.1.0;
      address_unused = idle.1.1.0;
      flip = moves.0.0;
      shift = moves.0.1.0;
      code = permitted-pair i.code ((listed-none i.code).0 (moves.1.0.0, (moves.1.1.0.0, tt)));
      logic = moves.1.1.1.0.0;
    }

-- what is not the case where a is, if not both are
other : {a b : Bool} → a ≡ true → a && b ≡ false → b ≡ false
other {a} {b} e h = and_none a b h e

zero_is : (n : ℕ) → not (eqb n 0) ≡ false → n ≡ 0
zero_is n h = eqb-true n 0 (not-false (eqb n 0) h)

module _ (i : Instruction) (a : Accepted i) where
  source-rows : (ltb 4 i.source || (stores i.kind && eqb i.source 0) ≡ false) × ((eqb i.kind 5 || eqb i.kind 6) && not (eqb i.source 0) ≡ false)
  unfolding stores wrong_source
  source-rows = or-none (ltb 4 i.source || (stores i.kind && eqb i.source 0)) ((eqb i.kind 5 || eqb i.kind 6) && not (eqb i.source 0)) a.source

  source-small : i.source < 5
  source-small =
      let h : i.source ≤ 4 = ltb-false 4 i.source (or-none (ltb 4 i.source) (stores i.kind && eqb i.source 0) source-rows.0).0 in
      omega arith

  stores-source : stores i.kind ≡ true → eqb i.source 0 ≡ false
  stores-source s = other s (or-none (ltb 4 i.source) (stores i.kind && eqb i.source 0) source-rows.0).1

  stores-code : stores i.kind ≡ true → i.code ≡ 0
  unfolding stores barred_shift
  stores-code s = zero_is i.code (other (ap (λ (b : Bool). b || eqb i.kind 5 || eqb i.kind 6) s) a.shift)

  tagged_is : touches i ≡ true → (touches i || eqb i.kind 6) ≡ true
  tagged_is t = ap (λ (b : Bool). b || eqb i.kind 6) t

  touched-tag : touches i ≡ true → i.mode < 256 → Tagged i.tag i.mode
  unfolding touches lacks_tag wrong_tag idle_mode
  touched-tag t hm = go i.tag refl
    where
      some : eqb i.tag 0 ≡ false
      some = other (tagged_is t) a.no_tag

      few : ltb 3 i.tag ≡ false
      few = other (tagged_is t) (or-none ((touches i || eqb i.kind 6) && ltb 3 i.tag) (eqb i.kind 6 && eqb i.tag 1) a.tag).0

      modeless : eqb i.tag 2 || eqb i.tag 3 ≡ true → i.mode ≡ 0
      modeless e =
          zero_is i.mode (other (ap₂ (λ (x y : Bool). not (x || eqb i.kind 6) || (x && y)) t e) a.mode_unused)

      go : (x : ℕ) → i.tag ≡ x → Tagged i.tag i.mode
      go zero e = absurd (eqb-false i.tag 0 some e)
      go (suc zero) e = subst (λ (x : ℕ). Tagged x i.mode) (sym e) (given i.mode hm)
      go (suc (suc zero)) e = subst (λ (x : ℕ). Tagged x i.mode) (sym e) (subst (Tagged 2) (sym (modeless (ap (λ (x : ℕ). eqb x 2 || eqb x 3) e))) in_a)
      go (suc (suc (suc zero))) e = subst (λ (x : ℕ). Tagged x i.mode) (sym e) (subst (Tagged 3) (sym (modeless (ap (λ (x : ℕ). eqb x 2 || eqb x 3) e))) in_b)
      go (suc (suc (suc (suc x)))) e = absurd (omega (arith, ltb-false 3 i.tag few))

  untouched : touches i ≡ false → eqb i.kind 6 ≡ false → (i.tag ≡ 0) × (i.mode ≡ 0) × (i.addr ≡ 0)
  unfolding touches idle_tag idle_mode idle_address
  untouched t k =
      let free : not (touches i || eqb i.kind 6) ≡ true = ap₂ (λ (x y : Bool). not (x || y)) t k in (
        zero_is i.tag (other free a.tag_unused),
        zero_is i.mode (other (ap (λ (x : Bool). x || (touches i && (eqb i.tag 2 || eqb i.tag 3))) free) a.mode_unused),
        zero_is i.addr (other (ap not t) a.address_unused),
      )

  other-logic : eqb i.kind 0 ≡ false → i.logic ≡ 0
  unfolding wrong_logic
  other-logic h =
      zero_is i.logic (other (ap not h) (or-none (eqb i.kind 0 && ltb 4 (i.logic / 16)) (not (eqb i.kind 0) && not (eqb i.logic 0)) a.logic).1)

  logic-choice : eqb i.kind 0 ≡ true → i.logic / 16 < 5
  unfolding wrong_logic
  logic-choice h =
      let q : i.logic / 16 ≤ 4 =
      ltb-false 4 (i.logic / 16) (other h (or-none (eqb i.kind 0 && ltb 4 (i.logic / 16)) (not (eqb i.kind 0) && not (eqb i.logic 0)) a.logic).0) in
      omega arith

  -- a resolve, or kind 6: neither source nor moves
  still : eqb i.kind 5 || eqb i.kind 6 ≡ true → (i.source ≡ 0) × (i.flip ≡ 0) × (i.code ≡ 0)
  unfolding stores barred_flip barred_shift
  still h = (
    zero_is i.source (other h source-rows.1),
    zero_is i.flip (other h a.flip),
    zero_is i.code (other (go (stores i.kind) (eqb i.kind 5) (eqb i.kind 6) h) a.shift),
  )
    where
      go : (x y z : Bool) → y || z ≡ true → x || y || z ≡ true
      go true y z e = refl
      go false y z e = e

-- ---- the words of each kind

abbrev headed : ℕ → ℕ → List ℕ → List ℕ
headed k l ws = get_or heads k 0 ∷ when (eqb k 0) (get_or choices (l / 16) 0) ∷ when (eqb k 0) (get_or functions (l % 16) 0) ∷ ws

said-memory : (ms : Modes) (k t m g f c l : ℕ) → stores k ≡ false → touches (made k 0 t m g f c l) ≡ true
    → said ms (made k 0 t m g f c l) ≡ headed k l (place_words t m g (0 ∷ 0 ∷ move_words f c (0 ∷ 0 ∷ 0 ∷ 0 ∷ [])))
unfolding said
said-memory ms k t m g f c l h q = simp (h, q)

said-register : (ms : Modes) (k s f c l : ℕ) → stores k ≡ false → eqb k 6 ≡ false → touches (made k s 0 0 0 f c l) ≡ false
    → said ms (made k s 0 0 0 f c l) ≡ headed k l (0 ∷ 0 ∷ 0 ∷ 0 ∷ 0 ∷ get_or sources s 0 ∷ move_words f c (0 ∷ 0 ∷ 0 ∷ 0 ∷ []))
unfolding said
said-register ms k s f c l h n q = simp (h, n, q)

said-store : (ms : Modes) (k s t m g f : ℕ) → stores k ≡ true → touches (made k s t m g f 0 0) ≡ true
    → said ms (made k s t m g f 0 0)
    ≡ headed k 0 (place_words t m g (from_word ∷ get_or sources s 0 ∷ move_words f 0 (comment_word ∷ reaches_word ∷ reach_word ms (made k s t m g f 0 0) ∷ words_after ms (made k s t m g f 0 0) ∷ [])))
unfolding said
said-store ms k s t m g f h q = simp (h, q)

choice-word : (x : ℕ) → x < 5 → worded.worded (line Choice (of_kind 0)) (get_or choices x 0) ≡ line Function (made 0 0 0 0 0 0 0 (16 * x))
unfolding worded.worded choice_word
choice-word x h = simp (choice-found x h, lt-ltb x 5 h)

function-word : (y x : ℕ) → x < 16 → worded.worded (line Function (made 0 0 0 0 0 0 0 y)) (get_or functions x 0) ≡ line Source (made 0 0 0 0 0 0 0 (16 * (y / 16) + x))
unfolding worded.worded function_word
function-word y x h = simp (function-found x h, lt-ltb x 16 h)

-- What follows the name of a kind with a source, and logic's choice and function.
abbrev Heads : ℕ → ℕ → Phase → Type 0
Heads k l p = (old : Instruction) (ws : List ℕ) (i : Instruction) → Leads (line p (made k 0 0 0 0 0 0 l)) ws i → Leads (line Head old) (headed k l ws) i

logic-head : (l : ℕ) → l / 16 < 5 → Heads 0 l Source
unfolding worded.worded head_word index_of stores plain extended visible spelled_in spelled goods extended_by
logic-head l h old ws i rest =
    let whole : 16 * (16 * (l / 16) / 16) + l % 16 ≡ l = omega arith in
    word (line Choice (of_kind 0)) refl refl refl
    (word (line Function (made 0 0 0 0 0 0 0 (16 * (l / 16)))) refl (choice-plain (l / 16) h) (choice-word (l / 16) h)
    (word (line Source (made 0 0 0 0 0 0 0 (16 * (16 * (l / 16) / 16) + l % 16))) refl (function-plain (l % 16) (omega arith)) (function-word (16 * (l / 16)) (l % 16) (omega arith))
    (subst (λ (x : ℕ). Leads (line Source (made 0 0 0 0 0 0 0 x)) ws i) (sym whole) rest)))

set-head : Heads 1 0 Source
unfolding worded.worded head_word index_of stores plain extended visible spelled_in spelled goods extended_by
set-head old ws i rest = word (line Source (of_kind 1)) refl refl refl (skip refl (skip refl rest))

store-head : Heads 2 0 Place
unfolding worded.worded head_word index_of stores plain extended visible spelled_in spelled goods extended_by
store-head old ws i rest = word (line Place (of_kind 2)) refl refl refl (skip refl (skip refl rest))

masked-head : Heads 3 0 Place
unfolding worded.worded head_word index_of stores plain extended visible spelled_in spelled goods extended_by
masked-head old ws i rest = word (line Place (of_kind 3)) refl refl refl (skip refl (skip refl rest))

deliver-head : Heads 4 0 Source
unfolding worded.worded head_word index_of stores plain extended visible spelled_in spelled goods extended_by
deliver-head old ws i rest = word (line Source (of_kind 4)) refl refl refl (skip refl (skip refl rest))

-- The instruction's words lead to it, whatever the mode registers are.
abbrev Back : Instruction → Type 0
Back i = (ms : Modes) (old : Instruction) → Leads (line Head old) (said ms i) i

-- the same instruction, some bytes written otherwise
same_back : {i j : Instruction} → i ≡ j → Back j → Back i
same_back {i} {j} e b = subst (λ (x : Instruction). Back x) (sym e) b

and-true : (x : Bool) → x && true ≡ x
and-true true = refl
and-true false = refl

-- kinds 0, 1 and 4
sourced : (k s t m g f c l : ℕ) → Bytes (made k s t m g f c l) → Accepted (made k s t m g f c l) → stores k ≡ false → eqb k 6 ≡ false → (eqb k 0 || eqb k 1 || eqb k 4) ≡ true → Heads k l Source → Back (made k s t m g f c l)
unfolding touches stores
sourced k s t m g f c l b a h n q head = go (ℕ_discrete s 0)
  where
    test : (x : Bool) → eqb s 0 ≡ x → touches (made k s t m g f c l) ≡ x
    test x e = ap₂ (λ (u v : Bool). u || (v && (eqb k 0 || eqb k 1 || eqb k 4))) h e ∙ ap (λ (u : Bool). x && u) q ∙ and-true x

    go : Dec (s ≡ 0) → Back (made k s t m g f c l)
    go (yes e) =
        let touched = test true (eq-eqb s 0 e) in
        let tagged = touched-tag (made k s t m g f c l) a touched b.mode in
        same_back (ap (λ (x : ℕ). made k x t m g f c l) e)
        λ ms old. subst (λ (ws : List ℕ). Leads (line Head old) ws (made k 0 t m g f c l))
        (sym (said-memory ms k t m g f c l h (ap (λ (x : ℕ). touches (made k x t m g f c l)) (sym e) ∙ touched)))
        (head old _ _ (memory-lead k g f c l h tagged b.addr b.flip a.code))
    go (no u) =
        let idle = test false (ne_eqb s 0 u) in
        let zeros = untouched (made k s t m g f c l) a idle n in
        let e : made k s t m g f c l ≡ made k s 0 0 0 f c l =
        ap₂ (λ (x y : ℕ). made k s x y g f c l) zeros.0 zeros.1 ∙ ap (λ (x : ℕ). made k s 0 0 x f c l) zeros.2 in
        same_back e
        λ ms old. subst (λ (ws : List ℕ). Leads (line Head old) ws (made k s 0 0 0 f c l))
        (sym (said-register ms k s f c l h n (ap touches (sym e) ∙ idle)))
        (head old _ _ (register-lead k s f c l h (omega arith) (source-small (made k s t m g f c l) a) b.flip a.code))

-- kinds 2 and 3
stored : (k s t m g f c l : ℕ) → Bytes (made k s t m g f c l) → Accepted (made k s t m g f c l) → stores k ≡ true → eqb k 0 ≡ false → Heads k 0 Place → Back (made k s t m g f c l)
unfolding touches stores
stored k s t m g f c l b a h q head =
    let i = made k s t m g f c l in
    let touched : touches i ≡ true = ap (λ (u : Bool). u || (eqb s 0 && (eqb k 0 || eqb k 1 || eqb k 4))) h in
    let tagged = touched-tag i a touched b.mode in
    let e : i ≡ made k s t m g f 0 0 = ap₂ (λ (x y : ℕ). made k s t m g f x y) (stores-code i a h) (other-logic i a q) in
    let n = eqb-false s 0 (stores-source i a h) in
    same_back e
    λ ms old. subst (λ (ws : List ℕ). Leads (line Head old) ws (made k s t m g f 0 0))
    (sym (said-store ms k s t m g f h (ap touches (sym e) ∙ touched)))
    (head old _ _ (store-lead ms (made k s t m g f 0 0) k s g f h (omega (arith, n)) (source-small i a) tagged b.addr b.flip))

untouching : (s k : ℕ) → (eqb k 0 || eqb k 1 || eqb k 4) ≡ false → eqb s 0 && (eqb k 0 || eqb k 1 || eqb k 4) ≡ false
untouching s k h = ap (λ (b : Bool). eqb s 0 && b) h ∙ go (eqb s 0)
  where
    go : (x : Bool) → x && false ≡ false
    go true = refl
    go false = refl

-- kind 5
resolved : (s t m g f c l : ℕ) → Accepted (made 5 s t m g f c l) → Back (made 5 s t m g f c l)
unfolding touches stores said worded.worded head_word index_of plain extended visible spelled_in spelled goods extended_by
resolved s t m g f c l a =
    let i = made 5 s t m g f c l in
    let zeros = untouched i a (untouching s 5 refl) refl in
    let moves = still i a refl in
    let e : i ≡ made 5 0 0 0 0 0 0 0 =
    ap₂ (λ (p q : ℕ). made 5 p q m g f c l) moves.0 zeros.0 ∙ ap₂ (λ (p q : ℕ). made 5 0 0 p q f c l) zeros.1 zeros.2
    ∙ ap₂ (λ (p q : ℕ). made 5 0 0 0 0 p q l) moves.1 moves.2 ∙ ap (λ (p : ℕ). made 5 0 0 0 0 0 0 p) (other-logic i a refl) in
    same_back e
    λ ms old. word (line End (of_kind 5)) refl refl refl
    (skip refl (skip refl (skip refl (skip refl (skip refl (skip refl (skip refl (skip refl (skip refl (skip refl (skip refl (skip refl (skip refl (skip refl
    (skip refl (skip refl (skip refl (skip refl (stop refl refl)))))))))))))))))))

-- kind 6
set-number : (t m : ℕ) → m < 256 → worded.worded (line SetTo (made 6 0 t 0 0 0 0 0)) (decimal m) ≡ line End (made 6 0 t m 0 0 0 0)
unfolding worded.worded set_number
set-number t m h = simp (number-decimal m h, lt-ltb m 256 h)

-- the tags of the two registers
data Named : ℕ → Type 0 where
  is_a : Named 2
  is_b : Named 3

set-lead : {t : ℕ} (m : ℕ) → Named t → m < 256 → Back (made 6 0 t m 0 0 0 0)
unfolding touches stores said worded.worded head_word which_word index_of plain extended visible spelled_in spelled goods extended_by
set-lead m is_a h ms old =
    word (line SetWhich (of_kind 6)) refl refl refl
    (skip refl (skip refl (word (line SetTo (made 6 0 2 0 0 0 0 0)) refl refl refl
    (skip refl (skip refl (word (line End (made 6 0 2 m 0 0 0 0)) refl (decimal-plain m (omega arith)) (set-number 2 m h)
    (skip refl (skip refl (skip refl (skip refl (skip refl (skip refl (skip refl (skip refl
    (skip refl (skip refl (skip refl (skip refl (stop refl refl)))))))))))))))))))
set-lead m is_b h ms old =
    word (line SetWhich (of_kind 6)) refl refl refl
    (skip refl (skip refl (word (line SetTo (made 6 0 3 0 0 0 0 0)) refl refl refl
    (skip refl (skip refl (word (line End (made 6 0 3 m 0 0 0 0)) refl (decimal-plain m (omega arith)) (set-number 3 m h)
    (skip refl (skip refl (skip refl (skip refl (skip refl (skip refl (skip refl (skip refl
    (skip refl (skip refl (skip refl (skip refl (stop refl refl)))))))))))))))))))

set-tag : (s t m g f c l : ℕ) → Accepted (made 6 s t m g f c l) → Named t
unfolding lacks_tag wrong_tag
set-tag s t m g f c l a = go t refl
  where
    -- kind 6 needs a tag, whatever its source
    needed : (eqb s 0 && false) || true ≡ true
    needed = ap (λ (b : Bool). b || true) (untouching s 6 refl)

    some : eqb t 0 ≡ false
    some = other needed a.no_tag

    rows : (((eqb s 0 && false) || true) && ltb 3 t ≡ false) × (eqb t 1 ≡ false)
    rows = or-none (((eqb s 0 && false) || true) && ltb 3 t) (eqb t 1) a.tag

    go : (x : ℕ) → t ≡ x → Named t
    go zero e = absurd (eqb-false t 0 some e)
    go (suc zero) e = absurd (eqb-false t 1 rows.1 e)
    go (suc (suc zero)) e = subst Named (sym e) is_a
    go (suc (suc (suc zero))) e = subst Named (sym e) is_b
    go (suc (suc (suc (suc x)))) e = absurd (omega (arith, ltb-false 3 t (other needed rows.0)))

set : (s t m g f c l : ℕ) → Bytes (made 6 s t m g f c l) → Accepted (made 6 s t m g f c l) → Back (made 6 s t m g f c l)
unfolding touches stores idle_address
set s t m g f c l b a =
    let i = made 6 s t m g f c l in
    let moves = still i a refl in
    let address : g ≡ 0 = zero_is g (other (ap not (untouching s 6 refl)) a.address_unused) in
    let e : i ≡ made 6 0 t m 0 0 0 0 =
    ap₂ (λ (p q : ℕ). made 6 p t m q f c l) moves.0 address ∙ ap₂ (λ (p q : ℕ). made 6 0 t m 0 p q l) moves.1 moves.2 ∙ ap (λ (p : ℕ). made 6 0 t m 0 0 0 p) (other-logic i a refl) in
    same_back e (set-lead m (set-tag s t m g f c l a) b.mode)

too-high : (i : Instruction) → 6 < i.kind → wrong_kind i ≡ false → ⊥
unfolding wrong_kind
too-high i h e = omega (arith, ltb-false 6 i.kind e)

kinds : (k s t m g f c l : ℕ) → Bytes (made k s t m g f c l) → Accepted (made k s t m g f c l) → Back (made k s t m g f c l)
unfolding stores
kinds zero s t m g f c l b a = sourced 0 s t m g f c l b a refl refl refl (logic-head l (logic-choice (made 0 s t m g f c l) a refl))
kinds (suc zero) s t m g f c l b a =
    let z = other-logic (made 1 s t m g f c l) a refl in
    sourced 1 s t m g f c l b a refl refl refl (subst (λ (x : ℕ). Heads 1 x Source) (sym z) set-head)
kinds (suc (suc zero)) s t m g f c l b a = stored 2 s t m g f c l b a refl refl store-head
kinds (suc (suc (suc zero))) s t m g f c l b a = stored 3 s t m g f c l b a refl refl masked-head
kinds (suc (suc (suc (suc zero)))) s t m g f c l b a =
    let z = other-logic (made 4 s t m g f c l) a refl in
    sourced 4 s t m g f c l b a refl refl refl (subst (λ (x : ℕ). Heads 4 x Source) (sym z) deliver-head)
kinds (suc (suc (suc (suc (suc zero))))) s t m g f c l b a = resolved s t m g f c l a
kinds (suc (suc (suc (suc (suc (suc zero)))))) s t m g f c l b a = set s t m g f c l b a
kinds (suc (suc (suc (suc (suc (suc (suc k))))))) s t m g f c l b a = absurd (too-high (made (suc (suc (suc (suc (suc (suc (suc k))))))) s t m g f c l) (omega arith) a.kind)

-- An instruction in words leads to itself.
pub said-lead : (ms : Modes) (old i : Instruction) → Bytes i → (fault_alone i).number ≡ 0 → Leads (line Head old) (said ms i) i
said-lead ms old i b h = kinds i.kind i.source i.tag i.mode i.addr i.flip i.code i.logic b (accepted i h) ms old

-- Whatever its bytes, an instruction's words lead to it.
pub words-lead : (ms : Modes) (old i : Instruction) → Bytes i → Leads (line Head old) (words_of ms i) i
unfolding words_of fault_alone
words-lead ms old i b = go (eqb (fault_alone i).number 0) refl
  where
    high : ((fault_alone i).number ≤ 18) × ((fault_alone i).byte ≤ 7)
    high = fault-high both_set i

    go : (x : Bool) → eqb (fault_alone i).number 0 ≡ x → Leads (line Head old) (cond (not x) (in_bytes i (fault_alone i)) (said ms i)) i
    go false e = bytes-lead old i (fault_alone i) b (omega (arith, high.0)) (omega (arith, high.1))
    go true e = said-lead ms old i b (eqb-true (fault_alone i).number 0 e)
