-- Setting M, and the register set as bytes. Document 01, Memory: "The register set is .. M, X, Y; inside, it is one record of three rows of bytes." Document 02, Seven: "The register set grows to 100 bytes: after M, X, Y come set-flag and mode of register A, then of B."
use Rattle.std.specs.Prelude.{List, ◌++◌, ℕ, take, drop}
use Rattle.registers.specs.declared.Modes.{Modes}
use Rattle.registers.specs.declared.Registers.{Registers}
use Rattle.registers.specs.Modes.{modes_of, mode_bytes}

-- The record of 100 bytes.
abbrev pub registers_of : List ℕ → Registers
registers_of l = record { m = take 32 l; x = take 32 (drop 32 l); y = take 32 (drop 64 l); modes = modes_of l }

-- The bytes of a record.
abbrev pub bytes_of : Registers → List ℕ
bytes_of r = r.m ++ (r.x ++ (r.y ++ mode_bytes r.modes))

-- "Set M: M becomes the item."
abbrev pub with_m : Registers → List ℕ → Registers
with_m r l = record { m = l; x = r.x; y = r.y; modes = r.modes }

-- A record with other mode registers.
abbrev pub with_modes : Registers → Modes → Registers
with_modes r modes = record { m = r.m; x = r.x; y = r.y; modes = modes }
