-- What the counts of the four objects of a run say of it.
use Rattle.std.specs.Prelude.{◌≡◌, ◌≢◌, ◌⊎◌, ◌<◌}
use Rattle.wire_base.specs.Causes.{last_count}
use Rattle.wire_base.specs.declared.outside.Source as source
use Rattle.wire_base.specs.declared.outside.Sink as sink
use Rattle.wire_base.specs.declared.status.Status.{Status}
use Rattle.wire_base.specs.declared.status.Status.TheVariants.{ReadFault, WriteFault}

-- each counter of errors can still rise
pub record MayRise {D S C R : Type 0} (d : source.Ghosts D) (s : source.Ghosts S) (c : sink.Ghosts C) (r : sink.Ghosts R) (conf : D) (input : S) (frames : C) (report : R) : Type 0 where
  pub conf_faults : d.faults conf < last_count
  pub input_faults : s.faults input < last_count
  pub frames_faults : c.faults frames < last_count
  pub frames_zeros : c.zeros frames < last_count
  pub report_faults : r.faults report < last_count
  pub report_zeros : r.zeros report < last_count

-- no read of a source failed
abbrev pub SourceIsQuiet : {S : Type 0} → source.Ghosts S → (old new : S) → Type 0
SourceIsQuiet s old new = s.faults new ≡ s.faults old

-- no write or finish of a sink failed, and it took some of each piece
pub record SinkIsQuiet {C : Type 0} (c : sink.Ghosts C) (old new : C) : Type 0 where
  pub faults : c.faults new ≡ c.faults old
  pub zeros : c.zeros new ≡ c.zeros old

-- no count of the four rose
pub record NoneRose {D S C R : Type 0} (d : source.Ghosts D) (s : source.Ghosts S) (c : sink.Ghosts C) (r : sink.Ghosts R)
    (conf_old conf_new : D) (input_old input_new : S) (frames_old frames_new : C) (report_old report_new : R) : Type 0 where
  pub conf : SourceIsQuiet d conf_old conf_new
  pub input : SourceIsQuiet s input_old input_new
  pub frames : SinkIsQuiet c frames_old frames_new
  pub report : SinkIsQuiet r report_old report_new

-- A fault is answered only where its count rose. Where a sink fails, whatever failed before, the answer is `WriteFault`; where only a
-- source does, `ReadFault`. So no count rises in any other answer.
pub record CountsFaults {D S C R : Type 0} (d : source.Ghosts D) (s : source.Ghosts S) (c : sink.Ghosts C) (r : sink.Ghosts R) (ended : Status)
    (conf_old conf_new : D) (input_old input_new : S) (frames_old frames_new : C) (report_old report_new : R) : Type 0 where
  pub read : ended ≡ ReadFault → (d.faults conf_old < d.faults conf_new) ⊎ (s.faults input_old < s.faults input_new)
  pub write : ended ≡ WriteFault → (c.faults frames_old < c.faults frames_new) ⊎ ((c.zeros frames_old < c.zeros frames_new)
      ⊎ ((r.faults report_old < r.faults report_new) ⊎ (r.zeros report_old < r.zeros report_new)))
  pub conf_quiet : ended ≢ ReadFault → ended ≢ WriteFault → d.faults conf_new ≡ d.faults conf_old
  pub input_quiet : ended ≢ ReadFault → ended ≢ WriteFault → s.faults input_new ≡ s.faults input_old
  pub frames_quiet : ended ≢ WriteFault → c.faults frames_new ≡ c.faults frames_old
  -- the sink took some of each piece
  pub frames_take : ended ≢ WriteFault → c.zeros frames_new ≡ c.zeros frames_old
  pub report_quiet : ended ≢ WriteFault → r.faults report_new ≡ r.faults report_old
  pub report_takes : ended ≢ WriteFault → r.zeros report_new ≡ r.zeros report_old
