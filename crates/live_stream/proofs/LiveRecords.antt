-- A live router on the records of a stream.
use Rattle.std.proofs.Common.{◌≡◌, ℕ, false, List, [], ◌∷◌, ◌++◌, Some, None, Result, Ok, Err, sym, ap, ap₂, ◌∙◌, append_assoc, append-nil}
use Rattle.std.specs.Prelude.{IfOk, slice_get}
use Rattle.wire_base.specs.declared.conf.RouterConf.{RouterConf}
use Rattle.wire_base.specs.declared.limits.TheConstants.{CAPTURE_LIMIT}
use Rattle.wire_base.specs.declared.status.Status.{Status}
use Rattle.wire_base.specs.model.Configuration.{DomainConf}
use Rattle.pcapng_frames.specs.declared.packet.NgRecord.{NgRecord}
use Rattle.run_texts.specs.declared.texts.Texts.{Texts}
use Rattle.command_drive.specs.Answer.{behind}
use Rattle.command_drive.specs.CaptureReading.{any_unread}
use Rattle.command_drive.specs.Doing.{Told, Concludes, told}
use Rattle.command_drive.specs.Driving.{meaning}
use Rattle.command_drive.specs.Reading.{End, Behind, Reads}
use Rattle.command_drive.specs.Records.{records_read}
use Rattle.command_node.specs.NodeRun.{Node, first_node}
use Rattle.command_node.specs.Owed.{past, bare, end_by}
use Rattle.command_node.proofs.NodeRecords.{first_conf, of_bare}
use Rattle.live_stream.specs.Events.{Seat}
use Rattle.live_stream.specs.LiveRun.{live_done, live_reach, live_ends, live_means}
use Rattle.live_stream.specs.Owed.{StartsAs, live_owed}
use Rattle.live_stream.proofs.LiveLaws.{record_past, records_past, reach_one}

-- ---- texts before those of a router

ends_past : (frames report : List ℕ) (how : Behind) (n : Node) → live_ends how (past frames report n) ≡ told report frames (live_ends how n)
ends_past frames report how n =
    let end = end_by how n.tally None in
    ap (λ (l : List ℕ). record { status = end.0; report = l; frames = frames ++ n.frames }) (append_assoc report n.report end.1)

owes_past : (s : Seat) (n : Node) (reads : List NgRecord) (how : Behind) → live_ends how (live_reach s n reads) ≡ told n.report n.frames (live_owed s n reads how)
owes_past s n reads how =
    ap (λ (m : Node). live_ends how (live_reach s m reads)) (of_bare n)
    ∙ ap (live_ends how) (records_past n.frames n.report s (bare n) reads)
    ∙ ends_past n.frames n.report how (live_reach s (bare n) reads)

-- ---- record by record

-- a record was done, by a router that was lent both texts
pub told_record : (s : Seat) (n now : Node) (read : NgRecord) (texts texts_now : Texts)
    → (done : Node) → done ≡ live_done s (record n { frames = texts.frames; report = texts.report }) read → texts_now.frames ≡ done.frames → texts_now.report ≡ done.report → bare now ≡ bare done
    → Told {T = NgRecord} (λ more how. live_owed s n (read ∷ more) how) (live_owed s now) texts texts_now
told_record s n now read texts texts_now done done_is frames report rest =
    record {
      report = one.report;
      frames = one.frames;
      report_is = report ∙ ap (λ (m : Node). m.report) so;
      frames_is = frames ∙ ap (λ (m : Node). m.frames) so;
      owed = λ more how.
          ap (live_ends how) (reach_one s (bare n) read more) ∙ owes_past s one more how
          ∙ ap (λ (m : Node). told one.report one.frames (live_ends how (live_reach s m more))) (sym (ap bare so) ∙ sym rest);
    }
  where
    one : Node
    one = live_done s (bare n) read

    lent : record n { frames = texts.frames; report = texts.report } ≡ past texts.frames texts.report (bare n)
    lent = of_bare (record n { frames = texts.frames; report = texts.report })

    so : done ≡ past texts.frames texts.report one
    so = done_is ∙ ap (λ (m : Node). live_done s m read) lent ∙ record_past texts.frames texts.report s (bare n) read

-- the records end
pub concludes_ok : {E : Type 0} (result : Result Status E) (s : Seat) (n : Node) (how : Behind) (texts texts_now : Texts) → IfOk result (λ ended. ◌≡◌ {A = Status × List ℕ} (ended, texts_now.report) (behind texts.report (end_by how n.tally None)))
    → texts_now.frames ≡ texts.frames → IfOk result (λ ended. Concludes ended (live_owed s n [] how) texts texts_now)
unfolding live_reach
concludes_ok (Err e) s n how texts texts_now is frames = tt
concludes_ok (Ok ended) s n how texts texts_now is frames =
    record { status = ap (λ (a : Status × List ℕ). a.0) is; report = ap (λ (a : Status × List ℕ). a.1) is; frames = frames ∙ sym (append-nil texts.frames) }

-- ---- a router that has just started

-- its capture begins with a header, which it has given away
first_owes : (s : Seat) (r : RouterConf) (node : Node) (texts : Texts) → node ≡ record (first_node r) { frames = []; report = [] } → texts.frames ≡ (first_node r).frames → texts.report ≡ [] → (given : Reads NgRecord)
    → told texts.report texts.frames (live_owed s node given.items given.behind) ≡ live_ends given.behind (live_reach s (first_node r) given.items)
first_owes s r node texts is frames report given =
    ap₂ (λ (f t : List ℕ). told t f (live_owed s node given.items given.behind)) frames report
    ∙ ap (λ (n : Node). told [] (first_node r).frames (live_owed s n given.items given.behind)) is
    ∙ sym (owes_past s (first_node r) given.items given.behind)

-- what its run means
pub means_so : (s : Seat) (r : RouterConf) (node node_now : Node) (texts_now texts : Texts) (reads : End → List ℕ → Reads NgRecord) → ((end : End) (octets : List ℕ) → reads end octets ≡ records_read any_unread CAPTURE_LIMIT false end octets) → node ≡ first_node r
    → node_now ≡ record node { frames = texts.frames; report = texts.report } → texts_now.frames ≡ node.frames → texts_now.report ≡ node.report → texts.frames ≡ [] → texts.report ≡ []
    → (end : End) (octets : List ℕ) → meaning reads (live_owed s node_now) texts_now end octets ≡ live_means s r end octets
unfolding live_means
means_so s r node node_now texts_now texts reads fresh first traded frames report no_frames no_report end octets =
    ap (λ (x : Reads NgRecord). told texts_now.report texts_now.frames (live_owed s node_now x.items x.behind)) (fresh end octets)
    ∙ first_owes s r node_now texts_now so (frames ∙ ap (λ (n : Node). n.frames) first) (report ∙ ap (λ (n : Node). n.report) first) (records_read any_unread CAPTURE_LIMIT false end octets)
  where
    so : node_now ≡ record (first_node r) { frames = []; report = [] }
    so = traded ∙ ap₂ (λ (f t : List ℕ). record node { frames = f; report = t }) no_frames no_report ∙ ap bare first

pub starts_so : (d : DomainConf) (place : ℕ) (r : RouterConf) (s : Seat) (n : Node) → s ≡ record { domain = d; place = place } → slice_get d.routers place ≡ Some r → n ≡ first_node r → StartsAs d place s n
starts_so d place r s n seat at fresh =
    let same : n.control.conf ≡ r = ap (λ (m : Node). m.control.conf) fresh ∙ first_conf r in
    record { seat = seat; at = at ∙ ap Some (sym same); fresh = fresh ∙ ap first_node (sym same) }
