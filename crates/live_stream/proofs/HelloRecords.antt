-- The hellos of a live router on the records of a stream.
use Rattle.std.proofs.Common.{◌≡◌, ℕ, false, List, [], ◌∷◌, ◌++◌, Some, Result, Ok, Err, sym, ap, ap₂, ◌∙◌, append_assoc, append-nil}
use Rattle.std.specs.Prelude.{IfOk, slice_get}
use Rattle.wire_base.specs.declared.conf.RouterConf.{RouterConf}
use Rattle.wire_base.specs.declared.limits.TheConstants.{CAPTURE_LIMIT}
use Rattle.wire_base.specs.declared.status.Status.{Status}
use Rattle.wire_base.specs.model.Configuration.{DomainConf}
use Rattle.pcapng_frames.specs.declared.packet.NgRecord.{NgRecord}
use Rattle.run_texts.specs.declared.texts.Texts.{Texts}
use Rattle.command_drive.specs.Answer.{behind}
use Rattle.command_drive.specs.CaptureReading.{any_unread}
use Rattle.command_drive.specs.Doing.{Told, Concludes, told}
use Rattle.command_drive.specs.Driving.{meaning}
use Rattle.command_drive.specs.Reading.{End, Behind, Reads}
use Rattle.command_drive.specs.Records.{records_read}
use Rattle.live_stream.specs.Events.{Seat}
use Rattle.live_stream.specs.HelloRun.{Greeter, first_greeter, hello_done, hello_reach, hello_ends, hello_means, end_by}
use Rattle.live_stream.specs.HelloOwed.{GreetsAs, hello_owed, past, bare}
use Rattle.live_stream.proofs.HelloLaws.{record_past, records_past, reach_one}

-- ---- texts before those of hellos

ends_past : (frames report : List ℕ) (how : Behind) (n : Greeter) → hello_ends how (past frames report n) ≡ told report frames (hello_ends how n)
ends_past frames report how n =
    let end = end_by how n.records in
    ap (λ (l : List ℕ). record { status = end.0; report = l; frames = frames ++ n.frames }) (append_assoc report n.report end.1)

-- one without texts behind its texts
of_bare : (n : Greeter) → n ≡ past n.frames n.report (bare n)
of_bare n = ap₂ (λ (f r : List ℕ). record n { frames = f; report = r }) (sym (append-nil n.frames)) (sym (append-nil n.report))

owes_past : (s : Seat) (n : Greeter) (reads : List NgRecord) (how : Behind) → hello_ends how (hello_reach s n reads) ≡ told n.report n.frames (hello_owed s n reads how)
owes_past s n reads how =
    ap (λ (m : Greeter). hello_ends how (hello_reach s m reads)) (of_bare n)
    ∙ ap (hello_ends how) (records_past n.frames n.report s (bare n) reads)
    ∙ ends_past n.frames n.report how (hello_reach s (bare n) reads)

-- ---- record by record

-- a record was done, by a router that was lent both texts
pub told_record : (s : Seat) (n now : Greeter) (read : NgRecord) (texts texts_now : Texts)
    → (done : Greeter) → done ≡ hello_done s (record n { frames = texts.frames; report = texts.report }) read → texts_now.frames ≡ done.frames → texts_now.report ≡ done.report → bare now ≡ bare done
    → Told {T = NgRecord} (λ more how. hello_owed s n (read ∷ more) how) (hello_owed s now) texts texts_now
told_record s n now read texts texts_now done done_is frames report rest =
    record {
      report = one.report;
      frames = one.frames;
      report_is = report ∙ ap (λ (m : Greeter). m.report) so;
      frames_is = frames ∙ ap (λ (m : Greeter). m.frames) so;
      owed = λ more how.
          ap (hello_ends how) (reach_one s (bare n) read more) ∙ owes_past s one more how
          ∙ ap (λ (m : Greeter). told one.report one.frames (hello_ends how (hello_reach s m more))) (sym (ap bare so) ∙ sym rest);
    }
  where
    one : Greeter
    one = hello_done s (bare n) read

    lent : record n { frames = texts.frames; report = texts.report } ≡ past texts.frames texts.report (bare n)
    lent = of_bare (record n { frames = texts.frames; report = texts.report })

    so : done ≡ past texts.frames texts.report one
    so = done_is ∙ ap (λ (m : Greeter). hello_done s m read) lent ∙ record_past texts.frames texts.report s (bare n) read

-- the records end
pub concludes_ok : {E : Type 0} (result : Result Status E) (s : Seat) (n : Greeter) (how : Behind) (texts texts_now : Texts) → IfOk result (λ ended. ◌≡◌ {A = Status × List ℕ} (ended, texts_now.report) (behind texts.report (end_by how n.records)))
    → texts_now.frames ≡ texts.frames → IfOk result (λ ended. Concludes ended (hello_owed s n [] how) texts texts_now)
unfolding hello_reach
concludes_ok (Err e) s n how texts texts_now is frames = tt
concludes_ok (Ok ended) s n how texts texts_now is frames =
    record { status = ap (λ (a : Status × List ℕ). a.0) is; report = ap (λ (a : Status × List ℕ). a.1) is; frames = frames ∙ sym (append-nil texts.frames) }

-- ---- a router that has just started

-- its capture begins with a header, which it has given away
first_owes : (s : Seat) (r : RouterConf) (node : Greeter) (texts : Texts) → node ≡ record (first_greeter r) { frames = []; report = [] } → texts.frames ≡ (first_greeter r).frames → texts.report ≡ [] → (given : Reads NgRecord)
    → told texts.report texts.frames (hello_owed s node given.items given.behind) ≡ hello_ends given.behind (hello_reach s (first_greeter r) given.items)
first_owes s r node texts is frames report given =
    ap₂ (λ (f t : List ℕ). told t f (hello_owed s node given.items given.behind)) frames report
    ∙ ap (λ (n : Greeter). told [] (first_greeter r).frames (hello_owed s n given.items given.behind)) is
    ∙ sym (owes_past s (first_greeter r) given.items given.behind)

-- what its run means
pub means_so : (s : Seat) (r : RouterConf) (node node_now : Greeter) (texts_now texts : Texts) (reads : End → List ℕ → Reads NgRecord) → ((end : End) (octets : List ℕ) → reads end octets ≡ records_read any_unread CAPTURE_LIMIT false end octets) → node ≡ first_greeter r
    → node_now ≡ record node { frames = texts.frames; report = texts.report } → texts_now.frames ≡ node.frames → texts_now.report ≡ node.report → texts.frames ≡ [] → texts.report ≡ []
    → (end : End) (octets : List ℕ) → meaning reads (hello_owed s node_now) texts_now end octets ≡ hello_means s r end octets
unfolding hello_means
means_so s r node node_now texts_now texts reads fresh first traded frames report no_frames no_report end octets =
    ap (λ (x : Reads NgRecord). told texts_now.report texts_now.frames (hello_owed s node_now x.items x.behind)) (fresh end octets)
    ∙ first_owes s r node_now texts_now so (frames ∙ ap (λ (n : Greeter). n.frames) first) (report ∙ ap (λ (n : Greeter). n.report) first) (records_read any_unread CAPTURE_LIMIT false end octets)
  where
    so : node_now ≡ record (first_greeter r) { frames = []; report = [] }
    so = traded ∙ ap₂ (λ (f t : List ℕ). record node { frames = f; report = t }) no_frames no_report ∙ ap bare first

pub starts_so : (d : DomainConf) (place : ℕ) (r : RouterConf) (s : Seat) (g : Greeter) → s ≡ record { domain = d; place = place } → slice_get d.routers place ≡ Some r → g ≡ first_greeter r → GreetsAs d place s g
starts_so d place r s g seat at fresh =
    let same : g.conf ≡ r = ap (λ (m : Greeter). m.conf) fresh in
    record { seat = seat; at = at ∙ ap Some (sym same); fresh = fresh ∙ ap first_greeter (sym same) }
