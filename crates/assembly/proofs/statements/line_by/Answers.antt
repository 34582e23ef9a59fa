-- `statements::line_by`: by its first word.
use Rattle.std.proofs.Common.{sym, ◌∙◌, arith}
use Rattle.bits.specs.Search.{index_of}
use Rattle.assembly.proofs.LineLaws.{by-long, by-word, by-none}
use Rattle.assembly.proofs.statements.line_by.Goals as goal

pub returns-then-eq : goal.returns-then-eq
returns-then-eq c = c.sum_line.ensures ∙ sym (by-long _ _ _ c.eq.ensures c.if-eq.true)

pub returns-in-439854918756 : goal.returns-in-439854918756
unfolding index_of
returns-in-439854918756 c = c.field_line.ensures ∙ sym (by-word _ _ _ c.eq.ensures c.if-eq.false 439854918756 c.in-439854918756.is)

pub returns-in-7566701 : goal.returns-in-7566701
unfolding index_of
returns-in-7566701 c = c.sum_line-in-7566701.ensures ∙ sym (by-word _ _ _ c.eq.ensures c.if-eq.false 7566701 c.in-7566701.is)

pub returns-in-435695214956 : goal.returns-in-435695214956
unfolding index_of
returns-in-435695214956 c = c.search_line.ensures ∙ sym (by-word _ _ _ c.eq.ensures c.if-eq.false 435695214956 c.in-435695214956.is)

pub returns-in-1818588019 : goal.returns-in-1818588019
unfolding index_of
returns-in-1818588019 c = c.search_line-in-1818588019.ensures ∙ sym (by-word _ _ _ c.eq.ensures c.if-eq.false 1818588019 c.in-1818588019.is)

pub returns-in-7454131802490631028 : goal.returns-in-7454131802490631028
unfolding index_of
returns-in-7454131802490631028 c = c.greatest_line.ensures ∙ sym (by-word _ _ _ c.eq.ensures c.if-eq.false 7454131802490631028 c.in-7454131802490631028.is)

pub returns-in-491327153000 : goal.returns-in-491327153000
unfolding index_of
returns-in-491327153000 c = c.reach_line.ensures ∙ sym (by-word _ _ _ c.eq.ensures c.if-eq.false 491327153000 c.in-491327153000.is)

pub returns-in_default : goal.returns-in_default
returns-in_default c =
    c.instruction_line.ensures ∙ sym (by-none _ _ _ c.eq.ensures c.if-eq.false (λ z. omega arith) (λ z. omega arith) (λ z. omega arith) (λ z. omega arith) (λ z. omega arith) (λ z. omega arith))
