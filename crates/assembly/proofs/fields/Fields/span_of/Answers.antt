-- `fields::Fields::span_of`: the place of the name.
use Rattle.std.proofs.Common.{◌≡◌, Option, Some, None, cond, subst, take, get_or, ◌∙◌, arith}
use lib.Seq.{length-take-le}
use Rattle.assembly.specs.declared.Span.{Span}
use Rattle.assembly.specs.Fields.{Named, firsts, known, span_of}
use Rattle.assembly.proofs.FieldLaws.{named-found, named-none, span-at, span-none}
use Rattle.assembly.proofs.fields.Fields.span_of.Goals as goal

pub returns-in_err-k : goal.returns-in_err-k
returns-in_err-k c =
    let f = c.self.inside in
    let w = c.args.w in
    let P : Named → Type 0 = λ t. ◌≡◌ {A = Option Span} None (cond (known t w) (Some (span_of t w)) None) in
    c.from_residual.ensures ∙ subst P c.self.view_is (span-none (firsts f.count f.names f.spans) w (named-none w (take f.count f.names) c.in_err-k.ensures))

pub bounds-self-inside-k : goal.bounds-self-inside-k
bounds-self-inside-k c =
    let f = c.self.inside in
    let i = c.self.invariant in
    let h = named-found c.args.w (take f.count f.names) c.in_ok-k.k c.in_ok-k.ensures in
    omega (arith, h.1, i.0, i.1, length-take-le f.count f.names (omega (arith, c.self.told, i.0)))

pub returns : goal.returns
returns c =
    let f = c.self.inside in
    let w = c.args.w in
    let i = c.self.invariant in
    let m = c.self.told in
    let h = named-found w (take f.count f.names) c.in_ok-k.k c.in_ok-k.ensures in
    let few = length-take-le f.count f.names (omega (arith, m, i.0)) in
    let P : Named → Type 0 = λ t. ◌≡◌ {A = Option Span} (Some (get_or f.spans c.in_ok-k.k (record { start = 0; width = 0 }))) (cond (known t w) (Some (span_of t w)) None) in
    subst P c.self.view_is (span-at f.count f.names f.spans w h.0 (omega (arith, h.1, few)) (omega (arith, m, i.0)) (omega (arith, i.0, i.1)))
