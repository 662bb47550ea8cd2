-- Identifiers as numbers.
use Rattle.std.specs.Prelude.{◌≡◌, ℕ, ◌+◌, ◌*◌, ◌<◌, List, [], ◌∷◌, length}
use Rattle.std.specs.List.{AllByRecursion}
use Rattle.wire_base.specs.declared.addresses.LspId.{LspId}

-- octets appended to a number, as one number
abbrev pub octets_from : ℕ → List ℕ → ℕ
octets_from n [] = n
octets_from n (x ∷ xs) = octets_from (n * 256 + x) xs

-- the eight octets of an LSP ID, as one number
abbrev pub id_key : LspId → ℕ
id_key id = (octets_from 0 id.system.0 * 256 + id.pseudonode) * 256 + id.fragment

-- the six octets of a system ID
pub record AreOctets (octets : List ℕ) : Type 0 where
  pub six : length octets ≡ 6
  pub each : AllByRecursion (λ x. x < 256) octets

-- the eight octets of an LSP ID
pub record IsOctets (id : LspId) : Type 0 where
  pub system : AreOctets id.system.0
  pub pseudonode : id.pseudonode < 256
  pub fragment : id.fragment < 256
