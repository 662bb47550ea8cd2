-- Of arguments that are known, the form and the router are.
use Rattle.std.proofs.Common.{◌≡◌, sym, ap, ◌∙◌}
use Rattle.command_line.specs.CommandLine.{CommandLine}
use Rattle.command_line.specs.Words.{form_of, router_of, meaning}
use Rattle.command_line.specs.declared.arguments.Arguments.{Arguments}

pub form_known : (arguments known : Arguments) (line : CommandLine) → meaning arguments ≡ line → arguments ≡ known → form_of line ≡ form_of (meaning known)
form_known arguments known line means is = ap form_of (sym means ∙ ap meaning is)

pub router_known : (arguments known : Arguments) (line : CommandLine) → meaning arguments ≡ line → arguments ≡ known → router_of (meaning known) ≡ router_of line
router_known arguments known line means is = ap router_of (sym (ap meaning is) ∙ means)
