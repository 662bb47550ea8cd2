-- The order in which a search takes nodes: least cost first.
use Rattle.std.specs.Prelude.{ℕ, ◌/◌, ◌%◌}
use Rattle.std.specs.declared.cmp.Ordering.{Ordering}
use Rattle.std.specs.Ordering.{nat_cmp}
use Rattle.std.specs.declared.cmp.Reverse.{Reverse}

abbrev pub entry_cmp : Reverse ℕ → Reverse ℕ → Ordering
entry_cmp a b = nat_cmp b.0 a.0

-- the cost and the node in a number
abbrev pub entry_of : Reverse ℕ → ℕ × ℕ
entry_of r = (r.0 / 65536, r.0 % 65536)
