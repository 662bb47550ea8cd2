-- What remains to be produced by hellos for a stream from some record on.
use Rattle.std.specs.Prelude.{ℕ, ◌≡◌, List, [], ◌++◌, Some, slice_get, refl}
use Rattle.wire_base.specs.model.Configuration.{DomainConf}
use Rattle.pcapng_frames.specs.declared.packet.NgRecord.{NgRecord}
use Rattle.command_drive.specs.Answer.{Verdict}
use Rattle.command_drive.specs.Doing.{nothing_more}
use Rattle.command_drive.specs.Reading.{Behind, Cut}
use Rattle.live_stream.specs.Events.{Seat}
use Rattle.live_stream.specs.HelloRun.{Greeter, first_greeter, hello_reach, hello_ends}

-- the hellos of a router at an index of a domain, just started
pub record GreetsAs (d : DomainConf) (place : ℕ) (s : Seat) (g : Greeter) : Type 0 where
  pub seat : s ≡ record { domain = d; place = place }
  pub at : slice_get d.routers place ≡ Some g.conf
  pub fresh : g ≡ first_greeter g.conf

-- without texts, as its state is between records
abbrev pub bare : Greeter → Greeter
bare g = record g { frames = []; report = [] }

-- what it would be with those texts before its own
abbrev pub past : (frames report : List ℕ) → Greeter → Greeter
past frames report g = record g { frames = frames ++ g.frames; report = report ++ g.report }

abbrev pub hello_owed : Seat → Greeter → List NgRecord → Behind → Verdict
hello_owed s g reads how = hello_ends how (hello_reach s (bare g) reads)

-- nothing after a read error
pub nothing_cut : (s : Seat) (g : Greeter) → hello_owed s g [] Cut ≡ nothing_more
unfolding hello_reach
nothing_cut s g = refl
