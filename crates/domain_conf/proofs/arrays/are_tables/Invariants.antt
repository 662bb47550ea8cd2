use Rattle.std.proofs.Common.{◌≡◌, drop, is_some}
use Rattle.toml.specs.View.{items_view}
use Rattle.domain_conf.specs.Arrays.{tables_in}
use Rattle.domain_conf.proofs.arrays.are_tables.Given as goal

-- the values that are left decide
abbrev pub invariant-loop-value : goal.invariant-loop-value
invariant-loop-value l = is_some (tables_in (items_view (drop l.value-index l.values))) ≡ is_some (tables_in (items_view l.values))
