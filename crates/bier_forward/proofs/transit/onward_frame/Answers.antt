use Rattle.std.proofs.Common.{ap, ◌∙◌, ◌++◌, List, ℕ, take}
use Rattle.wire_base.specs.model.Tunnel.{tunnel_on}
use Rattle.bier_forward.proofs.OnwardLaws.{behind, front-of}
use Rattle.bier_forward.proofs.transit.onward_frame.Goals as goal

pub write_behind-requires-clause-head : goal.write_behind-requires-clause-head
write_behind-requires-clause-head c =
    let before = c.in_ok-extend_from_slice.ensures.items ∙ ap (λ (l : List ℕ). l ++ c.ip_head-head.result) c.in_ok-frame.ensures.items in
    let items = c.as_mut_slice.ensures.value ∙ c.in_ok-extend_from_slice-2.ensures.items ∙ ap (λ (l : List ℕ). l ++ take c.args.tunnel.now.to c.args.octets.now) before in
    (behind c.args.octets.now c.ip_head-head.result c.as_mut_slice.result.now c.args.tunnel.now.to 0 c.ip_head-head.ensures.len c.requires.places.ordered c.requires.places.to c.requires.places.within items).head

pub write_behind-requires-clause-whole : goal.write_behind-requires-clause-whole
write_behind-requires-clause-whole c =
    let before = c.in_ok-extend_from_slice.ensures.items ∙ ap (λ (l : List ℕ). l ++ c.ip_head-head.result) c.in_ok-frame.ensures.items in
    let items = c.as_mut_slice.ensures.value ∙ c.in_ok-extend_from_slice-2.ensures.items ∙ ap (λ (l : List ℕ). l ++ take c.args.tunnel.now.to c.args.octets.now) before in
    (behind c.args.octets.now c.ip_head-head.result c.as_mut_slice.result.now c.args.tunnel.now.to 0 c.ip_head-head.ensures.len c.requires.places.ordered c.requires.places.to c.requires.places.within items).whole

pub returns : goal.returns
returns c =
    let before = c.in_ok-extend_from_slice.ensures.items ∙ ap (λ (l : List ℕ). l ++ c.ip_head-head.result) c.in_ok-frame.ensures.items in
    let items = c.as_mut_slice.ensures.value ∙ c.in_ok-extend_from_slice-2.ensures.items ∙ ap (λ (l : List ℕ). l ++ take c.args.tunnel.now.to c.args.octets.now) before in
    let onward = (behind c.args.octets.now c.ip_head-head.result c.as_mut_slice.result.now c.args.tunnel.now.to c.args.ttl c.ip_head-head.ensures.len c.requires.places.ordered c.requires.places.to c.requires.places.within items).onward in
    c.from_vec.ensures
    ∙ front-of c.write_behind.new.frame _ c.extend_from_slice-2.new.self.len (c.write_behind.auto.frame ∙ c.as_mut_slice.ensures.len)
    ∙ c.write_behind.ensures ∙ onward ∙ ap (λ (l : List ℕ). l ++ tunnel_on c.args.octets.now c.args.ttl) c.ip_head-head.ensures.octets
