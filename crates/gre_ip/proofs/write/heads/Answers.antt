use Rattle.std.proofs.Common.{[], ◌∷◌, ◌++◌, ap, ◌∙◌, List, ℕ, refl}
use Rattle.gre_ip.proofs.Tunnels.{heads_are}
use Rattle.byteorder.specs.Endian.{big_bytes}
use Rattle.gre_ip.proofs.write.heads.Goals as goal

pub returns-clause-items : goal.returns-clause-items
returns-clause-items c carried n =
    let first = c.put.ensures.items ∙ ap (λ (l : List ℕ). l ++ c.as_slice-2.result.now) c.new-octets.ensures ∙ c.as_slice-2.ensures.value in
    let second = c.put-2.ensures.items ∙ ap (λ (l : List ℕ). l ++ 0 ∷ 0 ∷ []) first in
    let third = c.to_be_bytes.ensures ∙ ap (big_bytes 2) c.protocol.ensures in
    heads_are c.args.t.now carried c.put-3.new.octets.items c.ip_header.result.items c.as_slice.result.now _ c.checksum_of-checksum.result n refl
    (c.as_slice.ensures.value ∙ c.ip_header-unsummed.ensures.items) c.checksum_of-checksum.ensures c.ip_header.ensures.items
    (c.put-3.ensures.items ∙ ap (λ (l : List ℕ). l ++ c.to_be_bytes.result) second ∙ ap (λ (l : List ℕ). (c.ip_header.result.items ++ 0 ∷ 0 ∷ []) ++ l) third)
