-- A forwarding table that was built from the rows, and counts that have room for more lines.
use Rattle.std.specs.Prelude.{ℕ, ◌≡◌, ◌≤◌, ◌^◌, Option, Some, None, IfSome}
use Rattle.wire_base.specs.declared.bsl.Bsl.{Bsl}
use Rattle.bift_table.specs.Any.{bsl_of}
use Rattle.replay_text.specs.declared.hop.HopState.{HopState}
use Rattle.command_hop.specs.declared.ways.Ways.{Ways}
use Rattle.command_hop.specs.Ways.{AreWays}

pub record IsReady (state : HopState) (ways : Option Ways) (lines packets : ℕ) : Type 0 where
  pub built : IfSome ways (λ made. AreWays state.rows made)
  pub counted : packets ≤ lines
  pub few : lines ≤ 2 ^ 62

-- a table was built for packets of that length
abbrev pub IsBuilt : Bsl → Option Ways → Type 0
IsBuilt bsl None = ⊥
IsBuilt bsl (Some built) = bsl_of built.table ≡ bsl
