-- What a call on a line is asked, and what it tells, in the words of its answer.
use Rattle.std.proofs.Common.{◌≡◌, ◌≢◌, ℕ, Some, Result, Ok, Err, IfErr, OnOk, refl, arith}
use Rattle.replay_text.specs.declared.event.Event.{Event}
use Rattle.replay_text.specs.declared.event.Event.TheVariants.{Inject, Take, Lose, Again, Down, Up, Send, Tick, Restart, Relabel, Leave, Join}
use Rattle.replay_text.specs.Events as lines
use Rattle.domain_model.specs.declared.fault.EventFault.{EventFault}
use Rattle.domain_model.specs.declared.fault.EventFault.TheVariants as faults
use Rattle.domain_model.specs.Truth.{EventFits}
use Rattle.replay_report.specs.Counting.{NamesOnce}
use Rattle.domain_replay.specs.Telling.{Telling, Told, told}
use Rattle.domain_replay.specs.Replaying.{Tells, NumbersFit, IsAsked}

pub event_fits : (count : ℕ) (e : Event) → lines.EventFits count e → NumbersFit e → EventFits count e
event_fits count (Inject router sd bsl ids ttl entropy payload) fits numbers =
    record {
      place = fits.within;
      sd_fits = numbers.sd_fits;
      bfr_ids = numbers.bfr_ids;
      lives = (let left = fits.ttl_left in omega (arith, left));
      ttl_fits = numbers.ttl_fits;
      entropy_fits = fits.entropy_fits;
      short = fits.short;
    }
event_fits count (Take from to i) fits numbers = (fits.from_within, fits.to_within)
event_fits count (Lose from to i) fits numbers = (fits.from_within, fits.to_within)
event_fits count (Again from to i) fits numbers = (fits.from_within, fits.to_within)
event_fits count (Down from to) fits numbers = (fits.from_within, fits.to_within)
event_fits count (Up from to) fits numbers = (fits.from_within, fits.to_within)
event_fits count (Send from to) fits numbers = (fits.from_within, fits.to_within)
event_fits count (Tick router) fits numbers = fits
event_fits count (Restart router) fits numbers = fits
event_fits count (Relabel router sd bsl label) fits numbers = record { place = fits.within; first = fits.free }
event_fits count (Leave router sd) fits numbers = fits
event_fits count (Join router sd) fits numbers = fits

pub event_asked : (count : ℕ) (e : Event) → lines.EventFits count e → NumbersFit e → NamesOnce e → IsAsked count e
event_asked count e fits numbers once = record { fits = event_fits count e fits numbers; once = once }

pub tells_ok : (all : Told) (now : Telling) (result : Result (Unit {0}) EventFault) → Tells all now result → OnOk result (all ≡ told now)
tells_ok all now (Ok u) is = is
tells_ok all now (Err why) is = tt

refused_by : (all : Told) (now : Telling) (why : EventFault) → Tells all now (Err why) → why ≢ faults.Memory → all ≡ record { telling = now; refused = Some why }
refused_by all now faults.Events is known = is
refused_by all now faults.NoLink is known = is
refused_by all now faults.EndState is known = is
refused_by all now faults.InFlight is known = is
refused_by all now (faults.NoFrame i n) is known = is
refused_by all now faults.NotControl is known = is
refused_by all now (faults.Edge why) is known = is
refused_by all now faults.NoSub is known = is
refused_by all now faults.SubState is known = is
refused_by all now faults.LabelHigh is known = is
refused_by all now (faults.LabelUsed label) is known = is
refused_by all now faults.Relabels is known = is
refused_by all now faults.Memory is known = absurd (known refl)

pub tells_refused : (all : Told) (now : Telling) (result : Result (Unit {0}) EventFault) → Tells all now result → IfErr result (λ e. e ≢ faults.Memory → all ≡ record { telling = now; refused = Some e })
tells_refused all now (Ok u) is = tt
tells_refused all now (Err why) is = refused_by all now why is
