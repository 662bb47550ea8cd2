-- How wide a domain is, in links that are up.
use Rattle.std.specs.Prelude.{◌≡◌, ◌⊎◌, ℕ, zero, suc, true}
use Rattle.domain_model.specs.Faults.{is_up_toward}
use Rattle.domain_model.specs.World.{WorldState}

-- at most that many links lead from one router to another, each over an interface that is up
abbrev pub AreJoined : WorldState → ℕ → ℕ → ℕ → Type 0
AreJoined w zero a b = a ≡ b
AreJoined w (suc links) a b = (a ≡ b) ⊎ ((c : ℕ) × (is_up_toward w a c ≡ true) × AreJoined w links c b)

-- routers that links join are joined by at most that many
abbrev pub HasWidth : WorldState → ℕ → Type 0
HasWidth w most = (links a b : ℕ) → AreJoined w links a b → AreJoined w most a b
