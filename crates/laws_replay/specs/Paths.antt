-- Interfaces of the links that a topology has.
use Rattle.std.specs.Prelude.{ℕ, ◌≡◌, true, Some}
use Rattle.wire_base.specs.declared.addresses.SystemId.{SystemId}
use Rattle.wire_base.specs.model.Choice.{end_toward}
use Rattle.wire_base.specs.model.Control.{Control}
use Rattle.domain_model.specs.World.{is_up}

-- a router's interface toward a system, where it has one, is up
abbrev pub IsUpToward : Control → SystemId → Type 0
IsUpToward c s = (link : ℕ) → end_toward c.conf.ends s ≡ Some link → is_up c link ≡ true
