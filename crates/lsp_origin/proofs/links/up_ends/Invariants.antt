use Rattle.std.proofs.Common.{◌≡◌, ◌++◌, drop}
use Rattle.wire_base.specs.model.OwnLsp.{picked}
use Rattle.lsp_origin.proofs.links.up_ends.Given as goal

-- those so far and those that follow are all
abbrev pub invariant-ends : goal.invariant-ends
invariant-ends l = l.rows ++ picked (drop l.i l.up) (drop l.i l.ends) ≡ picked l.up l.ends
