use Rattle.std.proofs.Common.{false, sym, arith}
use Rattle.std.proofs.lemmas.List.{get_or_past}
use Rattle.isis_flood.specs.Masks.{links_in}
use Rattle.isis_flood.proofs.MaskLaws.{links_long}
use Rattle.isis_flood.proofs.masks.has_of.Goals as goal

pub returns-then-link-links : goal.returns-then-link-links
returns-then-link-links c =
    let long = links_long c.args.links c.args.mask in
    sym (get_or_past (links_in c.args.links c.args.mask) c.args.link false (omega (arith, long, c.if-link-links.true)))
