-- What a line makes, and what that brings: the bytes of the list and of the items, a field, a limit. docs/TEXT.md, "Fields by name, and the builders as statements", "A limit".
use Rattle.std.specs.Prelude.{Bool, true, false, cond, not, ◌&&◌, ◌||◌, List, [], ◌∷◌, ◌++◌, ℕ, ◌+◌, eqb, ltb}
use Rattle.registers.specs.declared.Modes.{Modes}
use Rattle.judge.specs.Instructions.{stores, takes}
use Rattle.judge.specs.Modes.{modes_by, mode_of, unset}
use Rattle.builders.specs.Lists.{encoded}
use Rattle.builders.specs.Sums.{sum_list, difference_list}
use Rattle.builders.specs.Searches.{search_list, number_items, greatest_list}
use Rattle.reach.specs.Reach.{reach_of}
use Rattle.assembly.specs.Act.{Act, Nothing, Refused, Field, Limit, One, Sum, Search, Greatest}
use Rattle.assembly.specs.Fields.{Named, named}

-- The number of a refusal, and its column: 0 and 0 where there is none.
abbrev pub number_of : Act → ℕ
number_of Nothing = 0
number_of (Refused n k) = n
number_of (Field w a n) = 0
number_of (Limit n) = 0
number_of (One i) = 0
number_of (Sum d a b s n) = 0
number_of (Search l a n v) = 0
number_of (Greatest a n) = 0

abbrev pub column_of : Act → ℕ
column_of Nothing = 0
column_of (Refused n k) = k
column_of (Field w a n) = 0
column_of (Limit n) = 0
column_of (One i) = 0
column_of (Sum d a b s n) = 0
column_of (Search l a n v) = 0
column_of (Greatest a n) = 0

-- "The list that sets S of every word to A plus B", and to A minus B: "the lists are those of the builders, byte for byte".
abbrev pub fields_list : Bool → ℕ → ℕ → ℕ → ℕ → List ℕ
fields_list d a b s n = encoded (cond d (difference_list a b s n) (sum_list a b s n))

-- The bytes of the list.
abbrev pub list_of : Act → List ℕ
list_of Nothing = []
list_of (Refused n k) = []
list_of (Field w a n) = []
list_of (Limit n) = []
list_of (One i) = encoded (i ∷ [])
list_of (Sum d a b s n) = fields_list d a b s n
list_of (Search l a n v) = encoded (search_list l a n)
list_of (Greatest a n) = encoded (greatest_list a n)

-- The bytes of the items.
abbrev pub items_of : Act → List ℕ
items_of Nothing = []
items_of (Refused n k) = []
items_of (Field w a n) = []
items_of (Limit n) = []
items_of (One i) = []
items_of (Sum d a b s n) = []
items_of (Search l a n v) = number_items v n
items_of (Greatest a n) = []

-- "From here on NAME is the field of WIDTH bits from bit START on": behind those that were named before.
abbrev pub named_by : Act → Named → Named
named_by Nothing t = t
named_by (Refused n k) t = t
named_by (Field w a n) t = named (t.names ++ (w ∷ [])) (t.starts ++ (a ∷ [])) (t.widths ++ (n ∷ []))
named_by (Limit n) t = t
named_by (One i) t = t
named_by (Sum d a b s n) t = t
named_by (Search l a n v) t = t
named_by (Greatest a n) t = t

-- "Says of every line below it, up to the next such line, that none of its stores reaches more words than that." 0 is no limit.
abbrev pub limit_by : Act → ℕ → ℕ
limit_by Nothing limit = limit
limit_by (Refused n k) limit = limit
limit_by (Field w a n) limit = limit
limit_by (Limit n) limit = n
limit_by (One i) limit = limit
limit_by (Sum d a b s n) limit = limit
limit_by (Search l a n v) limit = limit
limit_by (Greatest a n) limit = limit

-- The mode registers behind it: no instruction of a statement sets one.
abbrev pub modes_by_act : Act → Modes → Modes
modes_by_act Nothing m = m
modes_by_act (Refused n k) m = m
modes_by_act (Field w a n) m = m
modes_by_act (Limit n) m = m
modes_by_act (One i) m = modes_by i m
modes_by_act (Sum d a b s n) m = m
modes_by_act (Search l a n v) m = m
modes_by_act (Greatest a n) m = m

-- An instruction takes an item from outside, so far: one of the text, for what a search takes the text brings.
abbrev pub taken_by_act : Act → Bool → Bool
taken_by_act Nothing taken = taken
taken_by_act (Refused n k) taken = taken
taken_by_act (Field w a n) taken = taken
taken_by_act (Limit n) taken = taken
taken_by_act (One i) taken = taken || takes i
taken_by_act (Sum d a b s n) taken = taken
taken_by_act (Search l a n v) taken = taken
taken_by_act (Greatest a n) taken = taken

-- ---- 75 and 77: "judged when all else of the line stands", and given at the column of the line's first word, which begins at the place `start`

-- "A store of the line reaches more words than the limit, or is by a mode register that no instruction above it sets." "A sum and a difference store slices, which are 256 words; searches store nothing."
abbrev pub over_by : ℕ → Modes → Act → Bool
over_by limit m Nothing = false
over_by limit m (Refused n k) = false
over_by limit m (Field w a n) = false
over_by limit m (Limit n) = false
over_by limit m (One i) = stores i && (unset m i || ltb limit (reach_of (mode_of m i)))
over_by limit m (Sum d a b s n) = ltb limit 256
over_by limit m (Search l a n v) = false
over_by limit m (Greatest a n) = false

unfoldable pub limited : ℕ → Modes → ℕ → Act → Act
limited limit m start act = cond (not (eqb limit 0) && over_by limit m act) (Refused 75 (start + 1)) act

-- "The line is `equal` or `less`."
abbrev pub searches : Act → Bool
searches Nothing = false
searches (Refused n k) = false
searches (Field w a n) = false
searches (Limit n) = false
searches (One i) = false
searches (Sum d a b s n) = false
searches (Search l a n v) = true
searches (Greatest a n) = false

-- "And an instruction above it takes an item from outside, which would take the first of the items of this line."
unfoldable pub ordered : Bool → ℕ → Act → Act
ordered taken start act = cond (searches act && taken) (Refused 77 (start + 1)) act
