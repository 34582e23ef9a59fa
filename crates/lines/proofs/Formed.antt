-- A line in words makes no instruction that the judge refuses by itself. Assumes nothing.
use mathlib.Core.Path.{◌≡◌, refl}
use mathlib.Core.Bool.{Bool, true, false, cond, not, ◌&&◌, false≢true}
use Prim.Native.Nat.{ℕ, zero, suc, ◌+◌, ◌*◌, ◌/◌, ◌<◌}
use native.Mathlib.Omega.{arith}
use lib.Dec.{eqb, ltb}
use borrow.Author.Tests.{le-ltb, ne_eqb, ltb-true}
use Rattle.bits.specs.Rows.{NoRow}
use Rattle.bits.specs.Search.{index_of}
use Rattle.bits.proofs.Rows.{and_left, and_right}
use Rattle.spelling.specs.Tables.{heads, choices, functions, sources, mode_registers, places, powers, address_word, from_word, flip_word, shift_word, mod_word}
use Rattle.spelling.specs.Words.{number, pair_value}
use Rattle.network.specs.Unlisted.{code_rows}
use Rattle.network.proofs.TableRules.{listed-none, pair-permitted}
use Rattle.judge.specs.declared.Instruction.{Instruction}
use Rattle.judge.specs.Judge.{fault_of, wrong_kind, wrong_source, lacks_tag, wrong_tag, idle_tag, idle_mode, idle_address, unset_mode, barred_flip, barred_shift, wrong_logic}
use Rattle.lines.specs.declared.Line.{Line}
use Rattle.lines.specs.declared.Phase.{Phase}
use Rattle.lines.specs.declared.Phase.TheVariants.{Head, Choice, Function, Source, Place, Mode, AddressWord, Address, From, Register, Moves, Flip, AfterFlip, Amount, Modulo, Group, SetWhich, SetTo, End, Byte, Whole, Comment, Refused}
use Rattle.lines.specs.Alone.{of_kind, stores, fault_alone}
use Rattle.lines.specs.Worded.{line, with_mode, with_addr, with_flip, with_code, with_byte, after_head, after_place, after_byte, register_tag, with_function, head_word, choice_word, function_word, place_word, source_word, register_word, which_word, mode_number, set_number, address_number, flip_number, only, amount_word, group_word, shift_head, moves_word, byte_word, worded_at, worded, in_words}

-- The instruction of eight bytes.
abbrev pub made : ℕ → ℕ → ℕ → ℕ → ℕ → ℕ → ℕ → ℕ → Instruction
made k s t m g f c l = record { kind = k; source = s; tag = t; mode = m; addr = g; flip = f; code = c; logic = l }

-- The judge does not refuse it by itself.
unfoldable pub Stands : Instruction → Type 0
unfolding fault_alone fault_of wrong_kind wrong_source lacks_tag wrong_tag idle_tag idle_mode idle_address unset_mode barred_flip barred_shift wrong_logic
Stands i = (fault_alone i).number ≡ 0

-- ---- what the parts of a line leave

-- The kinds that take a source, with their byte 7.
pub data Sourced : ℕ → ℕ → Type 0 where
  logic : {l : ℕ} → l / 16 < 5 → Sourced 0 l
  set_m : Sourced 1 0
  deliver : Sourced 4 0

-- The kinds that store.
pub data Storing : ℕ → Type 0 where
  store : Storing 2
  masked : Storing 3

-- A source that is not memory: a register or outside.
pub record Direct (s : ℕ) : Type 0 where
  pub within : ltb 4 s ≡ false
  pub elsewhere : eqb s 0 ≡ false

-- The tag of a mode register, and tag and mode of a place in memory.
pub data Registered : ℕ → Type 0 where
  mode_a : Registered 2
  mode_b : Registered 3

pub data Moded : ℕ → ℕ → Type 0 where
  given : {m : ℕ} → Moded 1 m
  by : {t : ℕ} → Registered t → Moded t 0

-- Kind, source, tag, mode, address and byte 7 of an instruction that has its source.
pub data Loaded : ℕ → ℕ → ℕ → ℕ → ℕ → ℕ → Type 0 where
  direct : {k s l : ℕ} → Sourced k l → Direct s → Loaded k s 0 0 0 l
  placed : {k t m g l : ℕ} → Sourced k l → Moded t m → Loaded k 0 t m g l

-- ---- what holds of an instruction so far

-- Logic, its choice not yet there or one that stands.
pub data Logical : Instruction → Type 0 where
  logical : {l : ℕ} → l / 16 < 5 → Logical (made 0 0 0 0 0 0 0 l)

-- A source is to come.
pub data Opened : Instruction → Type 0 where
  opened : {k l : ℕ} → Sourced k l → Opened (made k 0 0 0 0 0 0 l)

-- A place is to come, or its mode.
pub data Placing : Instruction → Type 0 where
  in_source : {k t m l : ℕ} → Sourced k l → Placing (made k 0 t m 0 0 0 l)
  in_store : {k t m : ℕ} → Storing k → Placing (made k 0 t m 0 0 0 0)

-- Its address is to come.
abbrev pub Addressing : Instruction → Type 0
Addressing i = Placing i × Moded i.tag i.mode

-- A store with its place: its source is to come.
pub data Filling : Instruction → Type 0 where
  filling : {k t m g : ℕ} → Storing k → Moded t m → Filling (made k 0 t m g 0 0 0)

-- Whole but for its moves, or its shift.
pub data Accessed : Instruction → Type 0 where
  loaded : {k s t m g f l : ℕ} → Loaded k s t m g l → Accessed (made k s t m g f 0 l)
  stored : {k s t m g f : ℕ} → Storing k → Direct s → Moded t m → Accessed (made k s t m g f 0 0)

-- A shift is to come, or its 2^p.
abbrev pub Shifting : Instruction → Type 0
Shifting i = Loaded i.kind i.source i.tag i.mode i.addr i.logic

-- A mode register is to be set.
pub data Setting : Instruction → Type 0 where
  setting : {t m : ℕ} → Setting (made 6 0 t m 0 0 0 0)

-- By what its line may go on with.
abbrev pub FormedAt : Phase → Instruction → Type 0
FormedAt Head i = Unit {0}
FormedAt Choice i = Logical i
FormedAt Function i = Logical i
FormedAt Source i = Opened i
FormedAt Place i = Placing i
FormedAt Mode i = Placing i
FormedAt AddressWord i = Addressing i
FormedAt Address i = Addressing i
FormedAt From i = Filling i
FormedAt Register i = Filling i
FormedAt Moves i = Accessed i
FormedAt Flip i = Accessed i
FormedAt AfterFlip i = Accessed i
FormedAt Amount i = Shifting i
FormedAt Modulo i = Shifting i
FormedAt Group i = Shifting i
FormedAt SetWhich i = Setting i
FormedAt SetTo i = Setting i × Registered i.tag
FormedAt End i = Stands i
FormedAt (Byte n) i = Unit {0}
FormedAt Whole i = Unit {0}
FormedAt Comment i = Unit {0}
FormedAt (Refused n) i = Unit {0}

-- Of a line.
abbrev pub Formed : Line → Type 0
Formed l = FormedAt l.phase l.got

-- ---- instructions that stand

module _ (s t m g f c : ℕ) where
  -- the kinds with a source are judged alike, and so are the stores
  sourced-alike : {k l : ℕ} → Sourced k l → Stands (made 1 s t m g f c 0) → Stands (made k s t m g f c l)
  unfolding Stands
  sourced-alike {l = l} (logic h) e = simp (le-ltb 4 (l / 16) (omega arith)) e
  sourced-alike set_m e = e
  sourced-alike deliver e = e

  storing-alike : {k : ℕ} → Storing k → Stands (made 2 s t m g f c 0) → Stands (made k s t m g f c 0)
  unfolding Stands
  storing-alike store e = e
  storing-alike masked e = e

loaded-stands : (k s t m g f c l : ℕ) → Loaded k s t m g l → NoRow (code_rows c) → Stands (made k s t m g f c l)
unfolding Stands
loaded-stands k s t m g f c l (direct h n) q = sourced-alike s 0 0 0 f c h (simp (n.within, n.elsewhere, q.0, q.1.0))
loaded-stands k s t m g f c l (placed h given) q = sourced-alike 0 1 m g f c h (simp (q.0, q.1.0))
loaded-stands k s t m g f c l (placed h (by mode_a)) q = sourced-alike 0 2 0 g f c h (simp (q.0, q.1.0))
loaded-stands k s t m g f c l (placed h (by mode_b)) q = sourced-alike 0 3 0 g f c h (simp (q.0, q.1.0))

stored-stands : (k s t m g f : ℕ) → Storing k → Direct s → Moded t m → Stands (made k s t m g f 0 0)
unfolding Stands
stored-stands k s t m g f h n given = storing-alike s 1 m g f 0 h (simp (n.within, n.elsewhere))
stored-stands k s t m g f h n (by mode_a) = storing-alike s 2 0 g f 0 h (simp (n.within, n.elsewhere))
stored-stands k s t m g f h n (by mode_b) = storing-alike s 3 0 g f 0 h (simp (n.within, n.elsewhere))

accessed-stands : (i : Instruction) → Accessed i → Stands i
accessed-stands i (loaded {k} {s} {t} {m} {g} {f} {l} h) = loaded-stands k s t m g f 0 l h (refl, (refl, tt))
accessed-stands i (stored {k} {s} {t} {m} {g} {f} h n d) = stored-stands k s t m g f h n d

set-stands : (t m : ℕ) → Registered t → Stands (made 6 0 t m 0 0 0 0)
unfolding Stands
set-stands t m mode_a = refl
set-stands t m mode_b = refl

resolve-stands : Stands (of_kind 5)
unfolding Stands
resolve-stands = refl

-- ---- tests

-- one of two lines, as a test says
either : (b : Bool) (x y : Line) → (b ≡ true → Formed x) → (b ≡ false → Formed y) → Formed (cond b x y)
either true x y p q = p refl
either false x y p q = q refl

-- a line where a test holds, else a refusal
tested : (b : Bool) (x : Line) (n : ℕ) (i : Instruction) → (b ≡ true → Formed x) → Formed (cond b x (line (Refused n) i))
tested b x n i p = either b x (line (Refused n) i) p (λ e. tt)

found-direct : (s : ℕ) → (ltb 0 s && ltb s 5) ≡ true → Direct s
found-direct s e =
    let low = ltb-true 0 s (and_left (ltb 0 s) (ltb s 5) e) in
    let high = ltb-true s 5 (and_right (ltb 0 s) (ltb s 5) e) in
    record { within = le-ltb 4 s (omega arith); elsewhere = ne_eqb s 0 (λ z. omega arith) }

found-register : (t : ℕ) → register_tag t ≡ true → Registered t
found-register zero e = absurd (false≢true e)
found-register (suc zero) e = absurd (false≢true e)
found-register (suc (suc zero)) e = mode_a
found-register (suc (suc (suc zero))) e = mode_b
found-register (suc (suc (suc (suc n)))) e =
    let t = suc (suc (suc (suc n))) in
    absurd (omega (arith, ltb-true t 4 (and_right (ltb 1 t) (ltb t 4) e)))

-- ---- each place of a line

kind-formed : (k : ℕ) → k < 7 → Formed (line (after_head k) (of_kind k))
unfolding stores
kind-formed zero h = logical {l = 0} (omega arith)
kind-formed (suc zero) h = opened set_m
kind-formed (suc (suc zero)) h = in_store store
kind-formed (suc (suc (suc zero))) h = in_store masked
kind-formed (suc (suc (suc (suc zero)))) h = opened deliver
kind-formed (suc (suc (suc (suc (suc zero))))) h = resolve-stands
kind-formed (suc (suc (suc (suc (suc (suc zero)))))) h = setting
kind-formed (suc (suc (suc (suc (suc (suc (suc k))))))) h = absurd (omega arith)

head-formed : (w : ℕ) → Formed (head_word w)
unfolding head_word
head-formed w =
    let k = index_of w heads in
    let bytes = line (Byte 0) (of_kind 0) in
    either (ltb k 7) (line (after_head k) (of_kind k)) (cond (eqb k 7) bytes (line (Refused 60) (of_kind 0)))
    (λ e. kind-formed k (ltb-true k 7 e)) (λ e. tested (eqb k 7) bytes 60 (of_kind 0) (λ e. tt))

choice-formed : (i : Instruction) (w : ℕ) → Logical i → Formed (choice_word i w)
unfolding choice_word
choice-formed i w (logical {l} h) =
    let c = index_of w choices in
    tested (ltb c 5) (line Function (made 0 0 0 0 0 0 0 (16 * c))) 61 (made 0 0 0 0 0 0 0 l)
    (λ e. logical (omega (arith, ltb-true c 5 e)))

function-formed : (i : Instruction) (w : ℕ) → Logical i → Formed (function_word i w)
unfolding function_word
function-formed i w (logical {l} h) =
    let i = made 0 0 0 0 0 0 0 l in
    let f = index_of w functions in
    let n = number w in
    let good : (x : ℕ) → ltb x 16 ≡ true → Formed (with_function i x) =
    λ x e. opened (logic {l = 16 * (l / 16) + x} (omega (arith, ltb-true x 16 e))) in
    either (ltb f 16) (with_function i f) (cond (ltb n 16) (with_function i n) (line (Refused 62) i)) (good f)
    (λ e. tested (ltb n 16) (with_function i n) 62 i (good n))

-- a mode that stands
moded : (i : Instruction) (t m : ℕ) → Placing i → Moded t m → Addressing (with_mode i t m)
moded i t m (in_source h) d = (in_source h, d)
moded i t m (in_store h) d = (in_store h, d)

place-formed : (i : Instruction) (w : ℕ) → Placing i → Formed (place_word i w)
unfolding place_word
place-formed i w h =
    let k = index_of w places in
    let slice = line Address (with_mode i 1 0) in
    let word = line Address (with_mode i 1 255) in
    let mode = line Mode (with_mode i 1 0) in
    let last = cond (eqb k 2) mode (line (Refused 63) i) in
    either (eqb k 0) slice (cond (eqb k 1) word last) (λ e. moded i 1 0 h given)
    (λ e. either (eqb k 1) word last (λ e. moded i 1 255 h given) (λ e. tested (eqb k 2) mode 63 i (λ e. (moded i 1 0 h given).0)))

source-formed : (i : Instruction) (w : ℕ) → Opened i → Formed (source_word i w)
unfolding source_word
source-formed i w (opened {k} {l} h) =
    let s = index_of w sources in
    let i = made k 0 0 0 0 0 0 l in
    either (ltb 0 s && ltb s 5) (line Moves (made k s 0 0 0 0 0 l)) (place_word i w) (λ e. loaded (direct h (found-direct s e)))
    (λ e. place-formed i w (in_source h))

register-formed : (i : Instruction) (w : ℕ) → Filling i → Formed (register_word i w)
unfolding register_word
register-formed i w (filling {k} {t} {m} {g} h d) =
    let s = index_of w sources in
    tested (ltb 0 s && ltb s 5) (line Moves (made k s t m g 0 0 0)) 63 (made k 0 t m g 0 0 0) (λ e. stored h (found-direct s e) d)

mode-formed : (i : Instruction) (w : ℕ) → Placing i → Formed (mode_number i w)
unfolding mode_number
mode-formed i w h =
    let t = index_of w mode_registers in
    let m = number w in
    let said = line AddressWord (with_mode i 1 m) in
    either (register_tag t) (line AddressWord (with_mode i t 0)) (cond (ltb m 256) said (line (Refused 64) i))
    (λ e. moded i t 0 h (by (found-register t e))) (λ e. tested (ltb m 256) said 64 i (λ e. moded i 1 m h given))

address-formed : (i : Instruction) (w : ℕ) → Addressing i → Formed (address_number i w)
unfolding address_number stores
address-formed i w (h, d) =
    let g = number w in
    tested (ltb g 256) (line (after_place i.kind) (with_addr i g)) 64 i (λ e. go i g h d)
  where
    go : (i : Instruction) (g : ℕ) → Placing i → Moded i.tag i.mode → Formed (line (after_place i.kind) (with_addr i g))
    go i g (in_source (logic h)) d = loaded (placed (logic h) d)
    go i g (in_source set_m) d = loaded (placed set_m d)
    go i g (in_source deliver) d = loaded (placed deliver d)
    go i g (in_store store) d = filling store d
    go i g (in_store masked) d = filling masked d

flip-formed : (i : Instruction) (w : ℕ) → Accessed i → Formed (flip_number i w)
unfolding flip_number
flip-formed i w h = tested (ltb (number w) 256) (line AfterFlip (with_flip i (number w))) 64 i (λ e. go i (number w) h)
  where
    go : (i : Instruction) (f : ℕ) → Accessed i → Accessed (with_flip i f)
    go i f (loaded h) = loaded h
    go i f (stored h n d) = stored h n d

shift-formed : (i : Instruction) (w : ℕ) → Accessed i → Formed (shift_head i w)
unfolding shift_head stores
shift-formed i w h =
    let free = not (stores i.kind) in
    tested (eqb w shift_word && free) (line Amount i) 67 i (λ e. go i h (and_right (eqb w shift_word) free e))
  where
    go : (i : Instruction) → Accessed i → not (stores i.kind) ≡ true → Shifting i
    go i (loaded h) e = h
    go i (stored store n d) e = absurd (false≢true e)
    go i (stored masked n d) e = absurd (false≢true e)

moves-formed : (i : Instruction) (w : ℕ) → Accessed i → Formed (moves_word i w)
unfolding moves_word
moves-formed i w h = either (eqb w flip_word) (line Flip i) (shift_head i w) (λ e. h) (λ e. shift-formed i w h)

amount-formed : (i : Instruction) (w : ℕ) → Shifting i → Formed (amount_word i w)
unfolding amount_word
amount-formed i w h = tested (ltb (index_of w powers) 8) (line Modulo (with_code i (index_of w powers))) 66 i (λ e. h)

group-formed : (i : Instruction) (w : ℕ) → Shifting i → Formed (group_word i w)
unfolding group_word
group-formed i w h =
    let m = i.code in
    let p = index_of w powers in
    let c = 16 * p + m in
    tested (ltb m p) (cond (ltb p 9) (line End (with_code i c)) (line (Refused 66) i)) 66 i
    (λ below. tested (ltb p 9) (line End (with_code i c)) 66 i
    (λ top. loaded-stands i.kind i.source i.tag i.mode i.addr i.flip c i.logic h
    ((listed-none c).1 (pair-permitted p m (ltb-true m p below) (omega (arith, ltb-true p 9 top))))))

which-formed : (i : Instruction) (w : ℕ) → Setting i → Formed (which_word i w)
unfolding which_word
which-formed i w (setting {t} {m}) =
    let k = index_of w mode_registers in
    tested (register_tag k) (line SetTo (made 6 0 k 0 0 0 0 0)) 63 (made 6 0 t m 0 0 0 0) (λ e. (setting, found-register k e))

set-formed : (i : Instruction) (w : ℕ) → Setting i → Registered i.tag → Formed (set_number i w)
unfolding set_number
set-formed i w (setting {t} {m}) r =
    let n = number w in
    tested (ltb n 256) (line End (made 6 0 t n 0 0 0 0)) 64 (made 6 0 t m 0 0 0 0) (λ e. set-stands t n r)

only-formed : (word : ℕ) (p : Phase) (i : Instruction) (w : ℕ) → FormedAt p i → Formed (only word p i w)
unfolding only
only-formed word p i w h = tested (eqb w word) (line p i) 65 i (λ e. h)

byte-formed : (i : Instruction) (n w : ℕ) → Formed (byte_word i n w)
unfolding byte_word
byte-formed i n w = tested (ltb (pair_value w) 256) (line (after_byte n) (with_byte i (pair_value w))) 68 i (λ e. go (ltb n 7))
  where
    go : (b : Bool) → FormedAt (cond b (Byte (n + 1)) Whole) (with_byte i (pair_value w))
    go true = tt
    go false = tt

-- ---- the line

-- Each word leaves it so.
pub formed-word : (l : Line) (w : ℕ) → Formed l → Formed (worded l w)
unfolding worded
formed-word l w = go l.phase l.got
  where
    go : (p : Phase) (i : Instruction) → FormedAt p i → Formed (worded_at p i w)
    go Head i h = head-formed w
    go Choice i h = choice-formed i w h
    go Function i h = function-formed i w h
    go Source i h = source-formed i w h
    go Place i h = place-formed i w h
    go Mode i h = mode-formed i w h
    go AddressWord i h = only-formed address_word Address i w h
    go Address i h = address-formed i w h
    go From i h = only-formed from_word Register i w h
    go Register i h = register-formed i w h
    go Moves i h = moves-formed i w h
    go Flip i h = flip-formed i w h
    go AfterFlip i h = shift-formed i w h
    go Amount i h = amount-formed i w h
    go Modulo i h = only-formed mod_word Group i w h
    go Group i h = group-formed i w h
    go SetWhich i h = which-formed i w h
    go SetTo i h = set-formed i w h.0 h.1
    go End i h = tt
    go (Byte n) i h = byte-formed i n w
    go Whole i h = tt
    go Comment i h = tt
    go (Refused n) i h = tt

-- Where its words end, the judge does not refuse it.
pub formed-whole : (l : Line) → Formed l → in_words l.phase ≡ true → (fault_alone l.got).number ≡ 0
unfolding Stands
formed-whole l = go l.phase l.got
  where
    go : (p : Phase) (i : Instruction) → FormedAt p i → in_words p ≡ true → Stands i
    go Head i h e = absurd (false≢true e)
    go Choice i h e = absurd (false≢true e)
    go Function i h e = absurd (false≢true e)
    go Source i h e = absurd (false≢true e)
    go Place i h e = absurd (false≢true e)
    go Mode i h e = absurd (false≢true e)
    go AddressWord i h e = absurd (false≢true e)
    go Address i h e = absurd (false≢true e)
    go From i h e = absurd (false≢true e)
    go Register i h e = absurd (false≢true e)
    go Moves i h e = accessed-stands i h
    go Flip i h e = absurd (false≢true e)
    go AfterFlip i h e = accessed-stands i h
    go Amount i h e = absurd (false≢true e)
    go Modulo i h e = absurd (false≢true e)
    go Group i h e = absurd (false≢true e)
    go SetWhich i h e = absurd (false≢true e)
    go SetTo i h e = absurd (false≢true e)
    go End i h e = h
    go (Byte n) i h e = absurd (false≢true e)
    go Whole i h e = absurd (false≢true e)
    go Comment i h e = absurd (false≢true e)
    go (Refused n) i h e = absurd (false≢true e)
