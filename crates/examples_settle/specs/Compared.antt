-- A and B of the branch, with LSPs of their choice: B receives A's CSNP.
use Rattle.std.specs.Prelude.{true, List}
use Rattle.wire_base.specs.declared.conf.RouterConf.{RouterConf}
use Rattle.wire_base.specs.declared.entry.Entry.{Entry}
use Rattle.wire_base.specs.model.Control.{Control}
use Rattle.wire_base.specs.model.Flooding.{due_csnps}
use Rattle.examples_domain.specs.Branch.{branch_a, branch_b, rest}
use Rattle.laws_settle.specs.Csnps.{after_pdus}

-- a router with those entries, and no flag
abbrev pub knows : RouterConf → List Entry → Control
knows r es = record (rest r) { entries = es }

-- B after A's CSNP, where these are A's entries and B's
abbrev pub compared : List Entry → List Entry → Control
compared sent held = after_pdus (knows branch_b held) 0 (due_csnps (knows branch_a sent) true)
