-- What is true of the interfaces and the adjacencies in the run of a schedule with hellos.
use Rattle.std.specs.Prelude.{◌≡◌, ℕ, List, false, Option, None}
use Rattle.std.specs.List.{AllByRecursion}
use Rattle.wire_base.specs.model.Configuration.{DomainConf}
use Rattle.isis_hello.specs.declared.event.EndChange.{EndChange}
use Rattle.wire_base.specs.declared.hello_event.HelloEvent.{HelloEvent}
use Rattle.isis_hello.specs.History.{AllHeld, circuits_after}
use Rattle.domain_model.specs.Faults.{is_up_toward}
use Rattle.domain_model.specs.Run.{run_of}
use Rattle.replay_report.specs.declared.recording.Recording.TheVariants.{Pcap}
use Rattle.domain_replay.specs.Parts.{IsWoven}
use Rattle.command_replay.specs.Course.{played_past}
use Rattle.domain_handshake.specs.Lines.{changes_text, sent_record}
use Rattle.domain_handshake.specs.Following.{EndsFollow, IsFollowed, history}
use Rattle.domain_handshake.specs.Handshakes.{start_does}
use Rattle.command_handshake.specs.Shaken.{opening, shaken_course, shaken, shaken_hellos, shaken_moments}

-- What is reported and recorded beside the events of the domain: the lines of adjacencies that changed, and the hello that was sent.
pub record IsSaid (d : DomainConf) (report frames : List ℕ) : Type 0 where
  pub line : ℕ
  pub changes : List EndChange
  pub event : HelloEvent
  pub sent : Option (List ℕ)
  pub report_is : report ≡ changes_text d.routers line changes
  pub frames_are : frames ≡ sent_record Pcap d.routers line event sent

pub record KeepsHandshakes (d : DomainConf) (lines : List (List ℕ)) : Type 0 where
  -- before the first line each interface goes down, and none of these events is rejected
  pub begins : (start_does Pcap d).refused ≡ None
  pub down : (a b : ℕ) → is_up_toward (run_of d (opening d).events).world a b ≡ false
  -- the circuits are those after the events of hellos of the lines
  pub circuits : (shaken_course d lines).state.circuits ≡ circuits_after d (history (shaken_hellos d lines))
  -- Report and capture are those of the run, with what hellos bring between its events.
  pub woven : IsWoven Pcap d (played_past (shaken d lines)) (IsSaid d)
  -- Before the first line, and after each event of the lines, each interface is up exactly where its adjacency is.
  pub follow : AllByRecursion IsFollowed (shaken_moments d lines)
  -- If no line is rejected, this holds of what stands after them.
  pub ends : (shaken d lines).refused ≡ None → EndsFollow (shaken d lines).run.world (circuits_after d (history (shaken_hellos d lines)))
  -- Each adjacency that is up rests on a hello that its router received, less than the holding time ago and since it last restarted or
  -- its circuit failed, that its neighbor had sent, and that lists this router's system ID and circuit; and before the neighbor sent
  -- that hello, it had received one of this router's (RFC 5303, 3).
  pub held : AllHeld d (history (shaken_hellos d lines))
