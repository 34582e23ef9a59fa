-- The numbers of the kinds. Document 01, Blocks on disk; document 02, Eight.
use Rattle.std.specs.Prelude.{◌≡◌, true, false, ℕ, Result, MatchResult}
use Rattle.bits.specs.declared.refusals.Refusal.{Refusal}
use Rattle.bits.specs.declared.refusals.Refusal.TheVariants.{BlockKind}
use Rattle.contents.specs.declared.Kind.{Kind}
use Rattle.contents.specs.declared.Kind.TheVariants.{Picture, List, Items, ModesPicture}
use Rattle.contents.specs.File.{picture_kind, list_kind, items_kind, modes_picture_kind, kind_right}

abbrev pub number_of_kind : Kind → ℕ
number_of_kind Picture = picture_kind
number_of_kind List = list_kind
number_of_kind Items = items_kind
number_of_kind ModesPicture = modes_picture_kind

-- The kind that has number n, which is one of 1 to 4; or else 22.
abbrev pub KindOf : ℕ → Result Kind Refusal → Type 0
KindOf n r = MatchResult r (λ k. (number_of_kind k ≡ n) × (kind_right n ≡ true)) (λ why. (why ≡ BlockKind) × (kind_right n ≡ false))
