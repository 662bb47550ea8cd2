-- What remains to be produced for a stream from some record on.
use Rattle.std.specs.Prelude.{ℕ, ◌≡◌, List, [], Some, slice_get, refl}
use Rattle.wire_base.specs.model.Configuration.{DomainConf}
use Rattle.pcapng_frames.specs.declared.packet.NgRecord.{NgRecord}
use Rattle.command_drive.specs.Answer.{Verdict}
use Rattle.command_drive.specs.Doing.{nothing_more}
use Rattle.command_drive.specs.Reading.{Behind, Cut}
use Rattle.command_node.specs.NodeRun.{Node, first_node}
use Rattle.command_node.specs.Owed.{bare}
use Rattle.live_stream.specs.Events.{Seat}
use Rattle.live_stream.specs.LiveRun.{live_reach, live_ends}

-- the router at an index of a domain, just started
pub record StartsAs (d : DomainConf) (place : ℕ) (s : Seat) (n : Node) : Type 0 where
  pub seat : s ≡ record { domain = d; place = place }
  pub at : slice_get d.routers place ≡ Some n.control.conf
  pub fresh : n ≡ first_node n.control.conf

abbrev pub live_owed : Seat → Node → List NgRecord → Behind → Verdict
live_owed s n reads how = live_ends how (live_reach s (bare n) reads)

-- nothing after a read error
pub nothing_cut : (s : Seat) (n : Node) → live_owed s n [] Cut ≡ nothing_more
unfolding live_reach
nothing_cut s n = refl
