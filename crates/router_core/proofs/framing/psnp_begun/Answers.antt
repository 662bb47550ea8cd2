use Rattle.std.proofs.Common.{◌∙◌, ◌++◌, ℕ, List, length-append, slice_get, append_assoc, ap, arith}
use Rattle.router_core.specs.Sending.{octets_on}
use Rattle.router_core.proofs.framing.psnp_begun.Goals as goal

pub returns : goal.returns
returns c rows long =
    let front = c.psnp_front.result in
    ap (λ (l : List ℕ). (l ++ c.copy_from_slice-2.new.self) ++ rows) c.copy_from_slice.ensures.after
    ∙ ap (λ (l : List ℕ). (c.head_on.result ++ l) ++ rows) c.copy_from_slice-2.ensures.after
    ∙ append_assoc c.head_on.result front rows
    ∙ c.head_on.ensures (front ++ rows) (omega (arith, length-append front rows, c.psnp_front.ensures.long, long))
    ∙ ap (λ (l : List ℕ). octets_on (slice_get c.args.conf.now.ends c.args.link) l) (c.psnp_front.ensures.whole rows long)
