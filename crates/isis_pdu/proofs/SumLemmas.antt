-- The two sums of octets, some more of which are read at once.
use Rattle.std.proofs.Common.{◌≡◌, ℕ, ◌+◌, ◌*◌, ◌≤◌, List, length, sum, take, ap, ◌∙◌}
use Rattle.std.specs.Simd.Lanes.{chunk}
use Rattle.std.proofs.Math.Seq.{take-add}
use Rattle.std.proofs.lemmas.Simd.{length-chunk}
use Rattle.wire_base.specs.model.Checksum.{weighted}
use Rattle.laws_format.proofs.ChecksumLaws.{sum-joined, weighted-joined}

pub sum_chunk : (xs : List ℕ) (at n : ℕ) → sum (take (at + n) xs) ≡ sum (take at xs) + sum (chunk at n xs)
sum_chunk xs at n = ap sum (take-add at n xs) ∙ sum-joined (take at xs) (chunk at n xs)

pub weighted_chunk : (xs : List ℕ) (at n : ℕ) → at + n ≤ length xs → weighted (take (at + n) xs) ≡ weighted (take at xs) + sum (take at xs) * n + weighted (chunk at n xs)
weighted_chunk xs at n within =
    ap weighted (take-add at n xs) ∙ weighted-joined (take at xs) (chunk at n xs)
    ∙ ap (λ k. weighted (take at xs) + sum (take at xs) * k + weighted (chunk at n xs)) (length-chunk at n xs within)
