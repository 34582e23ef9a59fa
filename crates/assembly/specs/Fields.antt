-- The fields named so far, and finding one by its name. docs/TEXT.md, "Fields by name, and the builders as statements".
use Rattle.std.specs.Prelude.{Bool, List, map, ℕ, ltb, length, get_or, take}
use Rattle.bits.specs.Search.{index_of}
use Rattle.assembly.specs.declared.Span.{Span}

-- The names, in the order of the text, and the start and the width of each.
pub record Named : Type 0 where
  pub names : List ℕ
  pub starts : List ℕ
  pub widths : List ℕ

abbrev pub named : List ℕ → List ℕ → List ℕ → Named
named ns ss ws = record { names = ns; starts = ss; widths = ws }

-- The first `count` of a table of names and of one of spans.
abbrev pub firsts : ℕ → List ℕ → List Span → Named
firsts count names spans =
    named (take count names) (map (λ (s : Span). s.start) (take count spans)) (map (λ (s : Span). s.width) (take count spans))

-- A field has this name.
abbrev pub known : Named → ℕ → Bool
known t w = ltb (index_of w t.names) (length t.names)

-- Its start and its width: 0 and 0 where there is none.
unfoldable pub span_of : Named → ℕ → Span
span_of t w = record { start = get_or t.starts (index_of w t.names) 0; width = get_or t.widths (index_of w t.names) 0 }
