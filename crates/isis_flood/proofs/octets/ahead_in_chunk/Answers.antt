use Rattle.std.proofs.Common.{sym, ap, ◌∙◌, arith}
use lib.Count.{count_trailing_zeros}
use lib.Lanes.{chunk}
use Rattle.std.proofs.lemmas.Simd.{length-chunk, leading_from_mask_l, trailing_mask_l}
use Rattle.isis_flood.specs.Masks.{at_bit}
use Rattle.isis_flood.proofs.OctetLaws.{chunk_mask}
use Rattle.isis_flood.proofs.octets.ahead_in_chunk.Goals as goal

pub returns-then-found-eq0 : goal.returns-then-found-eq0
returns-then-found-eq0 g c =
    let n = g.row.N in
    let v = chunk c.args.at n c.args.octets.now in
    let hits = chunk_mask c.args.octets.now c.args.at n c.args.link c.octet_of.result c.requires.within c.requires.few c.type_inv.octets c.octet_of.ensures in
    sym (leading_from_mask_l (λ mask. at_bit mask c.args.link) v (sym hits ∙ c.if-found-eq0.true) ∙ length-chunk c.args.at n c.args.octets.now c.requires.within)

pub returns-else-found-eq0 : goal.returns-else-found-eq0
returns-else-found-eq0 g c =
    let n = g.row.N in
    let v = chunk c.args.at n c.args.octets.now in
    let long = length-chunk c.args.at n c.args.octets.now c.requires.within in
    let hits = chunk_mask c.args.octets.now c.args.at n c.args.link c.octet_of.result c.requires.within c.requires.few c.type_inv.octets c.octet_of.ensures in
    ap (count_trailing_zeros 64) hits ∙ trailing_mask_l (λ mask. at_bit mask c.args.link) 64 v (omega (arith, long, c.requires.few)) (omega (arith, hits, c.if-found-eq0.false))
