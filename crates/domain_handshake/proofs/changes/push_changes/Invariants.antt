use Rattle.std.proofs.Common.{◌≡◌, ◌++◌, take}
use Rattle.domain_handshake.specs.Lines.{changes_text}
use Rattle.domain_handshake.proofs.changes.push_changes.Given as goal

abbrev pub invariant-loop-change : goal.invariant-loop-change
invariant-loop-change l = l.out ≡ l.fn.out ++ changes_text l.routers l.line (take l.change-index l.changes)
