use Rattle.std.proofs.Common.{◌≡◌, arith}
use Rattle.std.specs.List.{position_or_len}
use Rattle.isis_flood.specs.Masks.{at_bit}
use Rattle.isis_flood.proofs.ChunkLaws.{any_before}
use Rattle.isis_flood.proofs.masks.any_with.Goals as goal

pub returns : goal.returns
returns c =
    let e : c.first_with.result ≡ position_or_len (λ mask. at_bit mask c.args.link) c.args.masks.now = let f = c.first_with.ensures in omega (arith, f) in
    rw e (any_before (λ mask. at_bit mask c.args.link) c.args.masks.now)
