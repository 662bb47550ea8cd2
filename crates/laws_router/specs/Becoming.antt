-- How a router's configuration may change while it runs, and what stays: its BFR-ids, and the meaning of each of its labels
-- (RFC 8279, 6.4; RFC 8401, 6.1 and 6.2).
use Rattle.std.specs.Prelude.{◌≡◌, ℕ, List, option_map, Option, Some}
use Rattle.std.specs.List.{AllByRecursion, AllZip, Contains}
use Rattle.wire_base.specs.declared.conf.OwnSub.{OwnSub}
use Rattle.wire_base.specs.declared.conf.PastRange.{PastRange}
use Rattle.wire_base.specs.declared.conf.RouterConf.{RouterConf}
use Rattle.wire_base.specs.model.Configuration.{IsSound, KeepsKinds}
use Rattle.wire_base.specs.model.Place.{sub_in, known_subs, known_ranges}

-- two configurations that differ at most in their sub-domains and label ranges
abbrev pub AreOfOne : RouterConf → RouterConf → Type 0
AreOfOne was now = was ≡ record now { subs = was.subs; away = was.away; past = was.past }

-- a router's BFR-id in a sub-domain that it is in or left
abbrev pub known_id : RouterConf → ℕ → Option ℕ
known_id r sd = option_map (λ s. s.id) (sub_in (known_subs r) sd)

-- The router knows the sub-domain with that BFR-id, and each of those label ranges has a meaning there.
pub record IsSubOf (now : RouterConf) (s : OwnSub) : Type 0 where
  pub id : known_id now s.sd ≡ Some s.id
  pub ranges : AllByRecursion (λ x. Contains (known_ranges now) (record { sd = s.sd; range = x })) s.ranges

-- The router that is configured as `now` was configured as `was`, or is: what it advertised then still has its meaning.
pub record IsEarlier (was now : RouterConf) : Type 0 where
  pub one : AreOfOne was now
  pub sound : IsSound was
  pub kinds : KeepsKinds was
  pub subs : AllByRecursion (IsSubOf now) was.subs

-- The configuration `next` keeps the BFR-ids and the label ranges of `now`, and is sound.
pub record IsLater (now next : RouterConf) : Type 0 where
  pub one : AreOfOne next now
  pub sound : IsSound next
  pub kinds : KeepsKinds next
  pub ids : (sd : ℕ) → known_id next sd ≡ known_id now sd
  pub ranges : (x : PastRange) → Contains (known_ranges now) x → Contains (known_ranges next) x

-- A router of the domain file is configured as `now`: only its sub-domains and label ranges have changed, and no BFR-id.
pub record HasBecome (r now : RouterConf) : Type 0 where
  pub one : AreOfOne now r
  pub ids : (sd : ℕ) → known_id now sd ≡ known_id r sd

-- of each router
abbrev pub HaveBecome : List RouterConf → List RouterConf → Type 0
HaveBecome rs nows = AllZip HasBecome rs nows
