-- Laws of a picture: what its tests say, its content eight words at a time, and that plain words and scrambled memory are each other's inverse behind it. Assumes nothing.
use mathlib.Core.Path.{◌≡◌, refl, sym, ap, ap₂, ◌∙◌}
use mathlib.Core.Bool.{Bool, true, false, cond, ◌&&◌, ◌||◌}
use mathlib.Core.List.{List, ◌++◌}
use mathlib.Core.Logic.{◌⊎◌, inl, inr}
use Prim.Native.Nat.{ℕ, ◌+◌, ◌*◌, ◌<◌, ◌≤◌}
use native.Mathlib.Omega.{arith}
use lib.Dec.{eqb}
use lib.ListN.{length, take, drop, get_or, length-append, length-drop, take-append-drop}
use lib.Seq.{drop_at, take_all, take-add, length-take-le}
use borrow.Author.Tests.{eq-eqb, eqb-true}
use Rattle.bits.specs.Steps.{put_at}
use Rattle.bits.proofs.ByteLaws.{part_bytes}
use Rattle.bits.proofs.Puts.{put-nil, put-put, put_all, length-put, put-bytes}
use Rattle.bits.proofs.Rows.{and_left, and_right}
use Rattle.words.proofs.PlainLaws.{length-plain, plain-bytes, scrambled-front, plain-scrambled, scrambled-plain}
use Rattle.contents.specs.Moved.{Moved}
use Rattle.contents.specs.File.{is_picture, done, content_of, kind_right, size_fits, file_judged, block_count, blocks_of}
use Rattle.contents.specs.Content.{over, changed}
use Rattle.contents.specs.Payloads.{payloads, laid}
use Rattle.contents.proofs.FileLaws.{file-stands, Stands}
use Rattle.contents.proofs.AnswerLaws.{changed-not, changed-done}
use Rattle.contents.proofs.PayloadLaws.{laid_more, laid-sealed}
use Rattle.contents.proofs.RoundTrip.{trip}
use Rattle.pictures.specs.Picture.{plain_words, picture_registers, picture_of, scrambled, picture_fits, PictureLeft}

-- ---- what the tests of a picture say

-- the two kinds
pub picture-kinds : (kind : ℕ) → is_picture kind ≡ true → (kind ≡ 1) ⊎ (kind ≡ 4)
picture-kinds kind e = go (eqb kind 1) refl e
  where
    go : (t : Bool) → eqb kind 1 ≡ t → (t || eqb kind 4) ≡ true → (kind ≡ 1) ⊎ (kind ≡ 4)
    go true h e = inl (eqb-true kind 1 h)
    go false h e = inr (eqb-true kind 4 e)

-- how many bytes of registers either has
pub registers-few : (kind : ℕ) → (96 ≤ picture_registers kind) × (picture_registers kind ≤ 100)
registers-few kind = go (eqb kind 4)
  where
    go : (t : Bool) → (96 ≤ cond t 100 96) × (cond t 100 96 ≤ 100)
    go true = (omega arith, omega arith)
    go false = (omega arith, omega arith)

pub fits-are : (kind m r : ℕ) → picture_fits kind m r ≡ true → (is_picture kind ≡ true) × (m ≡ 8192) × (r ≡ picture_registers kind)
fits-are kind m r e =
    let both = and_left (is_picture kind && eqb m 8192) (eqb r (picture_registers kind)) e in (
      and_left (is_picture kind) (eqb m 8192) both,
      eqb-true m 8192 (and_right (is_picture kind) (eqb m 8192) both),
      eqb-true r (picture_registers kind) (and_right (is_picture kind && eqb m 8192) (eqb r (picture_registers kind)) e),
    )

pub are-fits : (kind m r : ℕ) → is_picture kind ≡ true → m ≡ 8192 → r ≡ picture_registers kind → picture_fits kind m r ≡ true
are-fits kind m r p em er = ap₂ ◌&&◌ (ap₂ ◌&&◌ p (eq-eqb m 8192 em)) (eq-eqb r (picture_registers kind) er)

-- a picture's size
size-right : (kind size : ℕ) → is_picture kind ≡ true → size ≡ 8192 + picture_registers kind → size_fits kind size ≡ true
unfolding size_fits
size-right kind size p e = go (picture-kinds kind p)
  where
    go : (kind ≡ 1) ⊎ (kind ≡ 4) → size_fits kind size ≡ true
    go (inl k) = ap (λ (x : ℕ). size_fits x size) k ∙ eq-eqb size 8288 (e ∙ ap (λ (x : ℕ). 8192 + picture_registers x) k)
    go (inr k) = ap (λ (x : ℕ). size_fits x size) k ∙ eq-eqb size 8292 (e ∙ ap (λ (x : ℕ). 8192 + picture_registers x) k)

right-size : (kind size : ℕ) → is_picture kind ≡ true → size_fits kind size ≡ true → size ≡ 8192 + picture_registers kind
unfolding size_fits
right-size kind size p e = go (picture-kinds kind p)
  where
    go : (kind ≡ 1) ⊎ (kind ≡ 4) → size ≡ 8192 + picture_registers kind
    go (inl k) = eqb-true size 8288 (sym (ap (λ (x : ℕ). size_fits x size) k) ∙ e) ∙ sym (ap (λ (x : ℕ). 8192 + picture_registers x) k)
    go (inr k) = eqb-true size 8292 (sym (ap (λ (x : ℕ). size_fits x size) k) ∙ e) ∙ sym (ap (λ (x : ℕ). 8192 + picture_registers x) k)

pub picture-judged : (kind : ℕ) (bytes : List ℕ) → is_picture kind ≡ true → (file_judged kind bytes).number ≡ 0 → file_judged kind bytes ≡ done (8192 + picture_registers kind)
picture-judged kind bytes p z =
    let s = file-stands kind bytes z in
    s.answer ∙ ap done (right-size kind (length (content_of bytes)) p s.sizes)

-- either kind may be asked for
pub picture-right : (kind : ℕ) → is_picture kind ≡ true → kind_right kind ≡ true
unfolding kind_right
picture-right kind p = go (picture-kinds kind p)
  where
    go : (kind ≡ 1) ⊎ (kind ≡ 4) → kind_right kind ≡ true
    go (inl k) = ap kind_right k
    go (inr k) = ap kind_right k

-- the blocks of a picture's content stand, of either kind
pub written-judged : (kind : ℕ) (content : List ℕ) → is_picture kind ≡ true → length content ≡ 8192 + picture_registers kind
    → file_judged kind (blocks_of kind content) ≡ done (length content)
written-judged kind content p n = trip kind content (picture-right kind p) (size-right kind (length content) p n)

-- ---- what is left, where the answer r is a: on a refusal the buffers as they were, else the new content of both

abbrev pub both-leaving : Moved → List ℕ → List ℕ → PictureLeft
both-leaving r m g = record { answer = r; memory = m; registers = g }

module _ (r a : Moved) (new old new' old' : List ℕ) where
  abbrev Leaves : List ℕ → List ℕ → Type 0
  Leaves m g =
      ◌≡◌ {A = PictureLeft} (record { answer = r; memory = m; registers = g })
      (record { answer = a; memory = changed a new old; registers = changed a new' old' })

  leaving : r ≡ a → (m g : List ℕ) → m ≡ changed r new old → g ≡ changed r new' old' → Leaves m g
  leaving e m g hm hg = λ i.
      record {
        answer = e i;
        memory = (hm ∙ ap (λ (x : Moved). changed x new old) e) i;
        registers = (hg ∙ ap (λ (x : Moved). changed x new' old') e) i;
      }

  pub both-unmoved : r ≡ a → (r.number ≡ 0 → ⊥) → Leaves old old'
  both-unmoved e u = leaving e old old' (changed-not r new old u) (changed-not r new' old' u)

  pub both-changed : r ≡ a → (m g : List ℕ) → m ≡ new → g ≡ new' → r.number ≡ 0 → Leaves m g
  both-changed e m g hm hg z = leaving e m g (hm ∙ changed-done r new old z) (hg ∙ changed-done r new' old' z)

  -- and what that says of the answer and of the buffers
  pub both-parts : (m g : List ℕ) → Leaves m g → (r ≡ a) × (m ≡ changed r new old) × (g ≡ changed r new' old')
  both-parts m g h =
      let e = ap (λ (l : PictureLeft). l.answer) h in (
        e,
        ap (λ (l : PictureLeft). l.memory) h ∙ ap (λ (x : Moved). changed x new old) (sym e),
        ap (λ (l : PictureLeft). l.registers) h ∙ ap (λ (x : Moved). changed x new' old') (sym e),
      )

-- ---- a picture that stands

module _ (kind : ℕ) (bytes : List ℕ) (n : ℕ) (q : file_judged kind bytes ≡ done n) where
  pub picture-stands : Stands kind bytes
  picture-stands = file-stands kind bytes (ap (λ (x : Moved). x.number) q)

  pub picture-size : length (content_of bytes) ≡ n
  picture-size = ap (λ (x : Moved). x.bytes) (sym picture-stands.answer ∙ q)

-- its words are its first 8,192 bytes, and its registers the others
pub words-front : (content : List ℕ) → 8192 ≤ length content → scrambled (take 8192 content) ≡ scrambled content
words-front content h =
    sym (scrambled-front (take 8192 content) (drop 8192 content) (length-take-le 8192 content h)) ∙ ap scrambled (take-append-drop 8192 content)

pub registers-rest : (content : List ℕ) (n : ℕ) → length content ≡ 8192 + n → take n (drop 8192 content) ≡ drop 8192 content
registers-rest content n e = take_all n (drop 8192 content) (omega (arith, length-drop 8192 content))

-- ---- the content that is written

pub length-picture : (mem regs : List ℕ) → length (picture_of mem regs) ≡ 8192 + length regs
length-picture mem regs = omega (arith, length-append (plain_words mem) regs, length-plain mem)

-- the registers stand behind the words
pub picture-rest : (mem regs : List ℕ) → drop 8192 (picture_of mem regs) ≡ regs
picture-rest mem regs = drop_at (plain_words mem) regs 8192 (length-plain mem)

-- of either kind it takes 17 blocks
pub picture-blocks : (kind n : ℕ) → n ≡ 8192 + picture_registers kind → 512 * block_count n ≡ 8704
picture-blocks kind n e = omega (arith, registers-few kind)

-- ---- eight words more of a content

eight-more : (l : List ℕ) (v : ℕ) → take (256 * v) l ++ take 256 (drop (256 * v) l) ≡ take (256 * (v + 1)) l
eight-more l v =
    let next : 256 * v + 256 ≡ 256 * (v + 1) = omega arith in
    sym (take-add (256 * v) 256 l) ∙ ap (λ (k : ℕ). take k l) next

-- laid behind those before them
pub words-laid : (l out out' words : List ℕ) (v : ℕ) → 256 * v ≤ length l → out' ≡ laid (take (256 * v) l) 0 out → words ≡ take 256 (drop (256 * v) l)
    → laid words (256 * v) out' ≡ laid (take (256 * (v + 1)) l) 0 out
words-laid l out out' words v h eo ew =
    ap₂ (λ (x y : List ℕ). laid x (256 * v) y) ew eo
    ∙ laid_more (take (256 * v) l) (take 256 (drop (256 * v) l)) out (256 * v) (sym (length-take-le (256 * v) l h))
    ∙ ap (λ (x : List ℕ). laid x 0 out) (eight-more l v)

-- and the registers behind all words
module _ (mem regs out : List ℕ) where
  pub picture-laid : laid regs 8192 (laid (take 8192 (plain_words mem)) 0 out) ≡ laid (picture_of mem regs) 0 out
  picture-laid =
      ap (λ (l : List ℕ). laid regs 8192 (laid l 0 out)) (take_all 8192 (plain_words mem) (omega (arith, length-plain mem)))
      ∙ laid_more (plain_words mem) regs out 8192 (sym (length-plain mem))

  pub picture-sealed : (kind : ℕ) → length regs ≡ picture_registers kind → 8704 ≤ length out → (o : List ℕ) → o ≡ laid (picture_of mem regs) 0 out
      → over (blocks_of kind (payloads o 0 (8192 + length regs))) o ≡ over (blocks_of kind (picture_of mem regs)) out
  picture-sealed kind h room o e =
      let n = length-picture mem regs in
      ap₂ (λ (l : List ℕ) (k : ℕ). over (blocks_of kind (payloads l 0 k)) l) e (sym n)
      ∙ laid-sealed (picture_of mem regs) out (omega (arith, picture-blocks kind (length (picture_of mem regs)) (omega arith))) kind

-- the first bytes of bytes
front_bytes : (l : List ℕ) (n : ℕ) → n ≤ length l → ((i : ℕ) → get_or l i 0 < 256) → (i : ℕ) → get_or (take n l) i 0 < 256
front_bytes l n h bytes = (part_bytes l (length l) 0 n (omega arith) (record { size = refl; low = bytes })).low

-- the memory with the first 8v words of a content put into it
abbrev pub with_words : List ℕ → List ℕ → ℕ → List ℕ
with_words content mem v = scrambled (put_at 0 (take (256 * v) content) (plain_words mem))

pub words-start : (content mem : List ℕ) → length mem ≡ 8192 → ((i : ℕ) → get_or mem i 0 < 256) → mem ≡ with_words content mem 0
words-start content mem size bytes = sym (ap scrambled (put-nil 0 (plain_words mem)) ∙ scrambled-plain mem size bytes)

module _ (content mem₀ : List ℕ) (size : 8192 ≤ length content) (bytes : (i : ℕ) → get_or content i 0 < 256) where
  pub words-put : (mem words : List ℕ) (v : ℕ) → v < 32 → mem ≡ with_words content mem₀ v → words ≡ take 256 (drop (256 * v) content)
      → scrambled (put_at (256 * v) words (plain_words mem)) ≡ with_words content mem₀ (v + 1)
  words-put mem words v hv em ew =
      let front = take (256 * v) content in
      let n : length front ≡ 256 * v = length-take-le (256 * v) content (omega arith) in
      let room : 0 + length front ≤ length (plain_words mem₀) = omega (arith, length-plain mem₀) in
      let before : plain_words mem ≡ put_at 0 front (plain_words mem₀) =
      ap plain_words em
      ∙ plain-scrambled (put_at 0 front (plain_words mem₀)) (length-put 0 front (plain_words mem₀) room ∙ length-plain mem₀)
      (put-bytes 0 front (plain_words mem₀) room (front_bytes content (256 * v) (omega arith) bytes) (plain-bytes mem₀)) in
      ap₂ (λ (x y : List ℕ). scrambled (put_at (256 * v) x y)) ew before
      ∙ ap scrambled (put-put 0 (256 * v) front (take 256 (drop (256 * v) content)) (plain_words mem₀) (omega arith) (omega arith)
      ∙ ap (λ (x : List ℕ). put_at 0 x (plain_words mem₀)) (eight-more content v))

  pub words-done : with_words content mem₀ 32 ≡ scrambled content
  words-done = ap scrambled (put_all (take 8192 content) (plain_words mem₀) (length-take-le 8192 content size ∙ sym (length-plain mem₀))) ∙ words-front content size

-- ---- there and back

pub picture-scrambled : (mem regs : List ℕ) → length mem ≡ 8192 → ((i : ℕ) → get_or mem i 0 < 256) → scrambled (picture_of mem regs) ≡ mem
picture-scrambled mem regs size bytes = scrambled-front (plain_words mem) regs (length-plain mem) ∙ scrambled-plain mem size bytes

pub content-plain : (content : List ℕ) → 8192 ≤ length content → ((i : ℕ) → get_or content i 0 < 256) → plain_words (scrambled content) ≡ take 8192 content
content-plain content h bytes = ap plain_words (sym (words-front content h)) ∙ plain-scrambled (take 8192 content) (length-take-le 8192 content h) (front_bytes content 8192 h bytes)
