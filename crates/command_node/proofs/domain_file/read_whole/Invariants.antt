use Rattle.std.proofs.Common.{◌≡◌, ◌+◌, ◌-◌, ◌<◌, length}
use Rattle.std.specs.Io.KnownBytes.{Consumes}
use Rattle.wire_base.specs.declared.limits.TheConstants.{DOMAIN_FILE_LIMIT}
use Rattle.command_node.proofs.domain_file.read_whole.Given as goal

abbrev pub invariant-pieces : goal.invariant-pieces
invariant-pieces g l = record {
  taken : Consumes (g.D.Source.left l.initial.conf) (g.D.Source.left l.conf) l.text;
  quiet : g.D.Source.faults l.conf ≡ g.D.Source.faults l.initial.conf;
  room : 0 < length l.buffer.items;
}

abbrev pub decreases-pieces : goal.decreases-pieces
decreases-pieces g l = DOMAIN_FILE_LIMIT + 1 - length l.text
