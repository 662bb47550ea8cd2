use Rattle.std.proofs.Common.{◌≡◌, ◌<◌, min, ◌∙◌, ◌++◌, ◌∷◌, [], ℕ, List, length, length-append, append_assoc, ap, arith}
use Rattle.std.proofs.lemmas.Bool.Decides.{nat_tests}
use Rattle.wire_base.specs.model.Tlv.{tlv}
use Rattle.router_core.specs.Sending.{rows_tlv}
use Rattle.router_core.proofs.SendLaws.{listing_step}
use Rattle.router_core.proofs.framing.append_rows.Goals as goal

pub cuts-preserved : goal.cuts-preserved
cuts-preserved c =
    let listed = c.as_flattened-listed.result.now in
    let some : 0 < length c.cuts.rest.now = grind (arith, nat_tests, c.is_empty.ensures) in
    let few : c.min.result ≡ min (length c.cuts.rest.now) 15 = grind (arith, nat_tests, c.min.ensures) in
    record {
      text =
          listing_step c.cuts.tlvs c.append-in-cuts.new.self _ c.cuts.rest.now c.split_at.result.0.now c.split_at.result.1.now c.min.result c.cuts.invariant.text
          some few c.split_at.ensures.front c.split_at.ensures.back
          (c.in_ok-append-2.ensures.ok ∙ ap (λ (l : List ℕ). l ++ listed) c.in_ok-append.ensures.ok ∙ append_assoc c.cuts.tlvs (9 ∷ length listed ∷ []) listed ∙ ap (λ (l : List ℕ). c.cuts.tlvs ++ tlv (rows_tlv l)) c.as_flattened-listed.ensures.value);
      long = omega (
        arith,
        ap (λ (l : List ℕ). length l) c.in_ok-append-2.ensures.ok,
        length-append c.append.new.self listed,
        ap (λ (l : List ℕ). length l) c.in_ok-append.ensures.ok,
        length-append c.cuts.tlvs (9 ∷ length listed ∷ []),
        c.as_flattened-listed.ensures.len,
        c.split_at.ensures.front_len,
        c.split_at.ensures.back_len,
        some,
        few,
        c.cuts.invariant.long,
      );
    }
