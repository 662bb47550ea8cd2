use Rattle.std.proofs.Common.{sym, ap, ◌∙◌}
use Rattle.domain_replay.specs.Texts.{names_of}
use Rattle.command_handshake.proofs.shaking.Shaking.new.Goals as goal

pub invariant_of-result : goal.invariant_of-result
invariant_of-result c = record {
  few = c.in_ok-names.ensures.few;
  named = c.in_ok-names.ensures.names ∙ ap names_of (sym c.in_ok-hands.ensures.domain);
}
