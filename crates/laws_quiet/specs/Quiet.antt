-- A quiet domain: no router's sequence number space is exhausted, the two interfaces of each link are both up or both down, and across
-- each link that is up the LSDBs have the same live LSPs, whatever their Remaining Lifetimes (ISO/IEC 10589, 7.3.15 to 7.3.17).
use Rattle.std.specs.Prelude.{◌≡◌, ℕ, true, false, List, [], slice_get, Option, Some, None}
use Rattle.std.specs.List.{AllByRecursion}
use Rattle.wire_base.specs.declared.conf.LinkConf.{LinkConf}
use Rattle.wire_base.specs.declared.entry.Entry.{Entry}
use Rattle.wire_base.specs.model.Control.{Control}
use Rattle.laws_router.specs.State.{IssuesAlone}
use Rattle.domain_model.specs.Faults.{is_up_toward}
use Rattle.domain_model.specs.World.{WorldState}
use Rattle.quiet_domain.specs.Live.{AreSameLive}

-- the LSDB of a router
abbrev pub lsdb_of : Option Control → List Entry
lsdb_of None = []
lsdb_of (Some c) = c.entries

abbrev pub lsdb_at : WorldState → ℕ → List Entry
lsdb_at w a = lsdb_of (slice_get w.routers a)

pub record IsQuietLink (w : WorldState) (l : LinkConf) : Type 0 where
  pub whole : is_up_toward w l.a l.b ≡ is_up_toward w l.b l.a
  pub same : is_up_toward w l.a l.b ≡ true → AreSameLive (lsdb_at w l.a) (lsdb_at w l.b)

abbrev pub AreUnspent : List Control → Type 0
AreUnspent routers = AllByRecursion (λ c. c.spent ≡ false) routers

pub record IsQuiet (w : WorldState) : Type 0 where
  pub unspent : AreUnspent w.routers
  pub links : AllByRecursion (IsQuietLink w) w.domain.links

-- each live LSP of a router's LSDB in its own name is what it originates in its present state
abbrev pub AreIssuers : List Control → Type 0
AreIssuers routers = AllByRecursion IssuesAlone routers
