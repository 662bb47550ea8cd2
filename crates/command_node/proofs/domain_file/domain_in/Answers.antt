use Rattle.std.proofs.Common.{ℕ, ◌≤◌, List, length, sym, subst}
use Rattle.std.specs.Io.KnownBytes.{IsAtEnd}
use Rattle.wire_base.specs.declared.limits.TheConstants.{DOMAIN_FILE_LIMIT}
use Rattle.command_node.specs.DomainFile.{ReadsAs}
use Rattle.command_node.proofs.DomainFiles.{read_to_end, refused_so}
use Rattle.command_node.proofs.domain_file.domain_in.Goals as goal

pub returns-in-Ok-clause-end : goal.returns-in-Ok-clause-end
returns-in-Ok-clause-end g c =
    read_to_end (g.D.Source.left c.read_whole.new.conf) c.as_slice.result.now c.in-Ok.domain c.in-Ok.ensures.domain
    (subst (λ (text : List ℕ). length text ≤ DOMAIN_FILE_LIMIT → IsAtEnd (g.D.Source.left c.read_whole.new.conf)) (sym c.as_slice.ensures) c.in_ok-text.ensures.end)

pub returns-clause-none : goal.returns-clause-none
returns-clause-none g c =
    refused_so (g.D.Source.left c.args.conf.now) (g.D.Source.faults c.args.conf.now) (g.D.Source.faults c.read_whole.new.conf) c.as_slice.result.now c.in_ok-refused_line-in-Err.field-0 c.in-Err.why
    (subst (ReadsAs (g.D.Source.left c.args.conf.now)) (sym c.as_slice.ensures) c.in_ok-text.ensures.text) c.in_ok-text.ensures.quiet c.in-Err.ensures.domain c.in_ok-refused_line-in-Err.ensures.known c.in_ok-refused_line-in-Err.ensures.text
