-- The documents' sizes, kinds of instructions, sources and mode tags, under their names.
use Rattle.std.specs.Prelude.{ℕ}

-- Rows 1 to 4: "memory is not 8,192 bytes", registers "not 100" (document 02, Seven), a list or items "over 32,768 bytes".
abbrev pub memory_bytes : ℕ
memory_bytes = 8192

abbrev pub register_bytes : ℕ
register_bytes = 100

abbrev pub most_bytes : ℕ
most_bytes = 32768

-- "Kind: 0 logic, 1 set M, 2 store, 3 masked store, 4 deliver, 5 resolve"; "a new kind 6" sets a mode register.
abbrev pub logic : ℕ
logic = 0

abbrev pub set_m : ℕ
set_m = 1

abbrev pub store : ℕ
store = 2

abbrev pub masked_store : ℕ
masked_store = 3

abbrev pub deliver : ℕ
deliver = 4

abbrev pub resolve : ℕ
resolve = 5

abbrev pub set_mode : ℕ
set_mode = 6

-- "Source: 0 memory, 1 M, 2 X, 3 Y, 4 outside."
abbrev pub in_memory : ℕ
in_memory = 0

abbrev pub outside : ℕ
outside = 4

-- "Tags 2 and 3 take the mode from A or B"; with tag 1 it is given.
abbrev pub tag_given : ℕ
tag_given = 1

abbrev pub tag_a : ℕ
tag_a = 2

abbrev pub tag_b : ℕ
tag_b = 3
