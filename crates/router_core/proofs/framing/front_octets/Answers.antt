use Rattle.std.proofs.Common.{◌∙◌, ◌++◌, ◌∷◌, [], ℕ, List, slice_index_or, ap}
use Rattle.wire_base.specs.model.Pdu.{psnp_type}
use Rattle.router_core.proofs.SendLaws.{nine}
use Rattle.router_core.proofs.framing.front_octets.Goals as goal

pub returns-clause-spelled : goal.returns-clause-spelled
returns-clause-spelled c =
    let bytes = c.to_be_bytes.result in
    ap (λ (l : List ℕ). 131 ∷ 17 ∷ 1 ∷ 0 ∷ c.psnp_number-number.result ∷ 1 ∷ 0 ∷ 0 ∷ slice_index_or bytes 0 0 ∷ slice_index_or bytes 1 0 ∷ l) (nine c.source_octets.result c.source_octets.ensures.long ∙ c.source_octets.ensures.spelled)
    ∙ ap (λ (n : ℕ). 131 ∷ 17 ∷ 1 ∷ 0 ∷ n ∷ 1 ∷ 0 ∷ 0 ∷ slice_index_or bytes 0 0 ∷ slice_index_or bytes 1 0 ∷ (c.args.source.0 ++ (0 ∷ 9 ∷ c.args.listed ∷ []))) c.psnp_number-number.ensures
    ∙ ap (λ (b : List ℕ). 131 ∷ 17 ∷ 1 ∷ 0 ∷ psnp_type c.args.level ∷ 1 ∷ 0 ∷ 0 ∷ slice_index_or b 0 0 ∷ slice_index_or b 1 0 ∷ (c.args.source.0 ++ (0 ∷ 9 ∷ c.args.listed ∷ []))) c.to_be_bytes.ensures
