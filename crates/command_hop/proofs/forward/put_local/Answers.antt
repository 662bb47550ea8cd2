use Rattle.std.proofs.Common.{◌++◌, ◌∷◌, [], ℕ, codes, ap, ◌∙◌}
use Rattle.std.specs.Fmt.{decimal}
use Rattle.command_hop.proofs.BlockLines.{local_put}
use Rattle.command_hop.proofs.forward.put_local.Goals as goal

pub returns : goal.returns
returns c =
    let number = c.in_ok-put_number.ensures ∙ ap (λ (n : ℕ). c.begin_line.new.out ++ (c.begin_line.new.block ++ decimal n)) c.from.ensures in
    local_put c.put_octet.result c.args.out.now c.args.block.now (decimal c.args.line.now ++ codes " local ") (decimal c.args.own) (10 ∷ []) c.begin_line.new.out c.begin_line.new.block c.put_number.new.out c.put_number.new.block c.put_octet.new.out c.put_octet.new.block c.in_ok-begin_line.ensures.text number c.put_octet.ensures
