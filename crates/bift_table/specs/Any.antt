-- Tables of any length, modeled as the length and the list of the routers of the positions, which determine the value.
use Rattle.std.specs.Prelude.{List, Option}
use Rattle.wire_base.specs.declared.bsl.Bsl.{Bsl}
use Rattle.wire_base.specs.declared.bsl.Bsl.TheVariants as lengths
use Rattle.wire_base.specs.declared.view.First.{First}
use Rattle.bift_table.specs.declared.any.AnyTable.{AnyTable}
use Rattle.bift_table.specs.declared.any.AnyTable.TheVariants.{B64, B128, B256, B512, B1024, B2048, B4096}

-- the length of a table
abbrev pub bsl_of : AnyTable → Bsl
bsl_of (B64 table) = lengths.B64
bsl_of (B128 table) = lengths.B128
bsl_of (B256 table) = lengths.B256
bsl_of (B512 table) = lengths.B512
bsl_of (B1024 table) = lengths.B1024
bsl_of (B2048 table) = lengths.B2048
bsl_of (B4096 table) = lengths.B4096

-- the routers of its positions
abbrev pub positions_of : AnyTable → List (Option First)
positions_of (B64 table) = table
positions_of (B128 table) = table
positions_of (B256 table) = table
positions_of (B512 table) = table
positions_of (B1024 table) = table
positions_of (B2048 table) = table
positions_of (B4096 table) = table

-- the table of a length with those routers
abbrev pub any_of : Bsl → List (Option First) → AnyTable
any_of lengths.B64 table = B64 table
any_of lengths.B128 table = B128 table
any_of lengths.B256 table = B256 table
any_of lengths.B512 table = B512 table
any_of lengths.B1024 table = B1024 table
any_of lengths.B2048 table = B2048 table
any_of lengths.B4096 table = B4096 table
