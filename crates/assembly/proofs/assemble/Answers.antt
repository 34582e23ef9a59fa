-- `assemble`: one answer for each refusal, and the list and the items.
use Rattle.std.proofs.Common.{◌≡◌, ℕ, List, Bool, length, sym, ap, ap₂, ◌∙◌, arith}
use borrow.Author.Tests.{ltb-false}
use Rattle.bits.proofs.Puts.{put_front}
use Rattle.bits.proofs.Rows.{or-none}
use Rattle.bits.proofs.RefusalLaws.{number-positive}
use Rattle.std.specs.Prelude.{Err}
use Rattle.std.proofs.lemmas.Result.{err_from_is_err_and}
use Rattle.text.specs.declared.Refused.{Refused}
use Rattle.assembly.specs.Results.{assembled_of}
use Rattle.assembly.specs.Assembly.{made_list, made_items, answer, too_short}
use Rattle.assembly.proofs.AnswerLaws.{too_long, bad, too_many, too-many-items, too-short, done}
use Rattle.assembly.proofs.assemble.Goals as goal

-- whether there is room, by the sizes that were measured
short-as : (text list items : List ℕ) {m n : ℕ} {b : Bool} → m ≡ length (made_list text) → n ≡ length (made_items text) → b ≡ too_short m (length list) n (length items)
    → too_short (length (made_list text)) (length list) (length (made_items text)) (length items) ≡ b
short-as text list items p q t = ap₂ (λ (x y : ℕ). too_short x (length list) y (length items)) (sym p) (sym q) ∙ sym t

pub returns-then-text-gt1048576 : goal.returns-then-text-gt1048576
returns-then-text-gt1048576 c =
    let a = c.args in
    let given = too_long a.text.now a.list.now a.items.now c.if-text-gt1048576.true in
    record { answer = ap (λ (r : Refused). assembled_of (Err r)) c.into.ensures ∙ sym given.0; list = sym given.1; items = sym given.2 }

pub returns-in_err-sizes : goal.returns-in_err-sizes
returns-in_err-sizes c =
    let a = c.args in
    let m = c.in_err-sizes.ensures in
    let some = number-positive c.in_err-sizes.field-0.0.why in
    let given = bad a.text.now a.list.now a.items.now c.if-text-gt1048576.false (λ z. omega (arith, some, m.0, z)) in
    let p = err_from_is_err_and c.from_residual.result c.from_residual.ensures.1 in
    record { answer = rw (p.1, p.2) (simp (← m.0, ← m.1, ← m.2) (sym given.0)); list = sym given.1; items = sym given.2 }

pub returns-then-sizes-gt-MOST_BYTES : goal.returns-then-sizes-gt-MOST_BYTES
returns-then-sizes-gt-MOST_BYTES c =
    let a = c.args in
    let m = c.in_ok-sizes.ensures in
    let given = too_many a.text.now a.list.now a.items.now c.if-text-gt1048576.false m.0 (omega (arith, m.1, c.if-sizes-gt-MOST_BYTES.true)) in
    record { answer = ap (λ (r : Refused). assembled_of (Err r)) c.into-then-sizes-gt-MOST_BYTES.ensures ∙ sym given.0; list = sym given.1; items = sym given.2 }

pub returns-then-sizes-gt-MOST_BYTES-2 : goal.returns-then-sizes-gt-MOST_BYTES-2
returns-then-sizes-gt-MOST_BYTES-2 c =
    let a = c.args in
    let m = c.in_ok-sizes.ensures in
    let given = too-many-items a.text.now a.list.now a.items.now c.if-text-gt1048576.false m.0 (omega (arith, m.1, c.if-sizes-gt-MOST_BYTES.false)) (omega (arith, m.2, c.if-sizes-gt-MOST_BYTES-2.true)) in
    record { answer = ap (λ (r : Refused). assembled_of (Err r)) c.into-then-sizes-gt-MOST_BYTES-2.ensures ∙ sym given.0; list = sym given.1; items = sym given.2 }

pub returns-then-too_short : goal.returns-then-too_short
returns-then-too_short c =
    let a = c.args in
    let m = c.in_ok-sizes.ensures in
    let given =
    too-short a.text.now a.list.now a.items.now c.if-text-gt1048576.false m.0 (omega (arith, m.1, c.if-sizes-gt-MOST_BYTES.false)) (omega (arith, m.2, c.if-sizes-gt-MOST_BYTES-2.false))
    (short-as a.text.now a.list.now a.items.now m.1 m.2 c.too_short.ensures ∙ c.if-too_short.true) in
    record { answer = ap (λ (r : Refused). assembled_of (Err r)) c.into-then-too_short.ensures ∙ sym given.0; list = sym given.1; items = sym given.2 }

pub write-requires : goal.write-requires
write-requires c =
    let a = c.args in
    let m = c.in_ok-sizes.ensures in
    let room = or-none _ _ (short-as a.text.now a.list.now a.items.now m.1 m.2 c.too_short.ensures ∙ c.if-too_short.false) in (
      c.if-text-gt1048576.false,
      c.clear.ensures,
      m.0,
      ltb-false (length a.list.now) (length (made_list a.text.now)) room.0,
      ltb-false (length a.items.now) (length (made_items a.text.now)) room.1,
    )

pub returns : goal.returns
returns c =
    let a = c.args in
    let m = c.in_ok-sizes.ensures in
    let p = c.write.ensures in
    let given =
    done a.text.now a.list.now a.items.now c.if-text-gt1048576.false m.0 (omega (arith, m.1, c.if-sizes-gt-MOST_BYTES.false)) (omega (arith, m.2, c.if-sizes-gt-MOST_BYTES-2.false))
    (short-as a.text.now a.list.now a.items.now m.1 m.2 c.too_short.ensures ∙ c.if-too_short.false) in
    record {
      answer = ap₂ (λ (x y : ℕ). answer 0 0 0 x y) m.1 m.2 ∙ sym given.0;
      list = p.0 ∙ put_front (made_list a.text.now) a.list.now ∙ sym given.1;
      items = p.1 ∙ put_front (made_items a.text.now) a.items.now ∙ sym given.2;
    }
