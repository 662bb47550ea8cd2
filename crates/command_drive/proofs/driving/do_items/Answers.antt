use Rattle.std.proofs.Common.{refl, inl, inr, subst, ◌∷◌, sym, ◌≡◌, ◌∙◌, true, false, arith}
use Rattle.std.specs.Prelude.{Some, None}
use Rattle.wire_base.specs.declared.status.Status.{Status}
use Rattle.wire_base.specs.declared.status.Status.TheVariants.{Memory, WriteFault}
use Rattle.command_drive.specs.declared.items.Found.TheVariants as found
use Rattle.command_drive.specs.Driving.{meaning, total, Stops, StopsFor}
use Rattle.command_drive.proofs.Along.{moves_wrote, fronts_texts, fronts_none, quiet_none, finds_as, finds_item, known, closed_apart, item_apart, last_apart, waits_apart, waiting_as, goes_on, err_as, went_as, finds_last}
use Rattle.command_drive.proofs.Looping.{way_first, way_waits, way_found, way_moved, way_stops, way_refused, way_closed, way_cut, last_ends, last_stops}
use Rattle.command_drive.proofs.driving.do_items.Goals as goal

apart : true ≡ false → ⊥
apart e = cc

pub items-init : goal.items-init
items-init g c =
    record {
      way = way_first g.S.Source g.C.Sink g.R.Sink (g.I.Items.reads c.args.items.now) (g.K.Command.owes c.args.command.now) c.args.texts.now c.args.input.now c.args.frames.now c.args.report.now;
      rests = c.requires.rests;
      written = λ waits. absurd (apart (sym waits ∙ c.requires.fresh));
      room = c.requires.room;
    }

pub returns-in_err-next_item-clause-stopped : goal.returns-in_err-next_item-clause-stopped
returns-in_err-next_item-clause-stopped g c =
    err_as c.from_residual.result (λ why. why ≡ Memory) (λ why. Stops g.S.Source g.C.Sink g.R.Sink (meaning (g.I.Items.reads c.args.items.now) (g.K.Command.owes c.args.command.now) c.args.texts.now) why c.args.input.now c.next_item.new.input c.args.frames.now c.items.frames c.args.report.now c.items.report) c.from_residual.ensures.1
    (λ why is. way_stops g.S.Source g.C.Sink g.R.Sink (meaning (g.I.Items.reads c.args.items.now) (g.K.Command.owes c.args.command.now) c.args.texts.now) (g.I.Items.reads c.items.items) (total c.items.texts (g.K.Command.owes c.items.command)) c.args.input.now c.items.input c.next_item.new.input c.args.frames.now c.items.frames c.items.frames c.args.report.now c.items.report c.items.report why
    c.items.invariant.way c.in_err-next_item.ensures.memory (inr (is, quiet_none g.C.Sink g.R.Sink c.items.frames c.items.report)) (fronts_none g.C.Sink g.R.Sink (total c.items.texts (g.K.Command.owes c.items.command)) c.items.frames c.items.report))

pub returns-in_err-close-in-Closed-clause-stopped : goal.returns-in_err-close-in-Closed-clause-stopped
returns-in_err-close-in-Closed-clause-stopped g c =
    err_as c.from_residual-in_err-close-in-Closed.result (λ why. why ≡ Memory) (λ why. Stops g.S.Source g.C.Sink g.R.Sink (meaning (g.I.Items.reads c.args.items.now) (g.K.Command.owes c.args.command.now) c.args.texts.now) why c.args.input.now c.next_item.new.input c.args.frames.now c.items.frames c.args.report.now c.items.report) c.from_residual-in_err-close-in-Closed.ensures.1
    (λ why is. way_stops g.S.Source g.C.Sink g.R.Sink (meaning (g.I.Items.reads c.args.items.now) (g.K.Command.owes c.args.command.now) c.args.texts.now) (g.I.Items.reads c.items.items) (total c.items.texts (g.K.Command.owes c.items.command)) c.args.input.now c.items.input c.next_item.new.input c.args.frames.now c.items.frames c.items.frames c.args.report.now c.items.report c.items.report why
    c.items.invariant.way (known c.in_ok-next_item.field-0 (found.Closed c.in-Closed.how) _ c.in-Closed.is (closed_apart c.in-Closed.how) c.in_ok-next_item.ensures.quiet) (inr (is, quiet_none g.C.Sink g.R.Sink c.items.frames c.items.report)) (fronts_none g.C.Sink g.R.Sink (total c.items.texts (g.K.Command.owes c.items.command)) c.items.frames c.items.report))

pub returns-in-Closed-clause-ended : goal.returns-in-Closed-clause-ended
returns-in-Closed-clause-ended g c =
    inl (way_closed g.S.Source g.C.Sink g.R.Sink (meaning (g.I.Items.reads c.args.items.now) (g.K.Command.owes c.args.command.now) c.args.texts.now) (g.I.Items.reads c.items.items) (g.I.Items.reads c.next_item.new.items) (g.K.Command.owes c.items.command)
    (g.I.Items.last c.next_item.new.items) c.in-Closed.how g.K.Command.refusal c.in_ok-close-in-Closed.field-0 c.items.texts c.close.new.texts c.args.input.now c.items.input c.next_item.new.input c.args.frames.now c.items.frames c.args.report.now c.items.report
    c.items.invariant.way
    (finds_as c.in_ok-next_item.field-0 (found.Closed c.in-Closed.how) (g.I.Items.reads c.items.items) (g.I.Items.reads c.next_item.new.items) (g.I.Items.last c.next_item.new.items) (g.S.Source.left c.items.input) (g.S.Source.left c.next_item.new.input) c.in-Closed.is c.in_ok-next_item.ensures.found)
    (known c.in_ok-next_item.field-0 (found.Closed c.in-Closed.how) _ c.in-Closed.is (closed_apart c.in-Closed.how) c.in_ok-next_item.ensures.quiet)
    c.in_ok-close-in-Closed.ensures.concluded c.in_ok-close-in-Closed.ensures.done c.in_ok-close-in-Closed.ensures.statuses)

pub returns-in-Failed-clause-ended : goal.returns-in-Failed-clause-ended
returns-in-Failed-clause-ended g c =
    inr (way_cut g.S.Source g.C.Sink g.R.Sink (meaning (g.I.Items.reads c.args.items.now) (g.K.Command.owes c.args.command.now) c.args.texts.now) (g.I.Items.reads c.items.items) (g.I.Items.reads c.next_item.new.items) (g.K.Command.owes c.items.command)
    (g.I.Items.last c.next_item.new.items) c.items.texts c.args.input.now c.items.input c.next_item.new.input c.args.frames.now c.items.frames c.args.report.now c.items.report
    c.items.invariant.way
    (finds_as c.in_ok-next_item.field-0 found.Failed (g.I.Items.reads c.items.items) (g.I.Items.reads c.next_item.new.items) (g.I.Items.last c.next_item.new.items) (g.S.Source.left c.items.input) (g.S.Source.left c.next_item.new.input) c.in-Failed.is c.in_ok-next_item.ensures.found)
    (c.in_ok-next_item.ensures.failed c.in-Failed.is) (g.met.K.Command.cut c.items.command c.items.invariant.rests))

pub returns-in_err-ended-clause-stopped : goal.returns-in_err-ended-clause-stopped
returns-in_err-ended-clause-stopped g c =
    let item = c.item-item.result.now in
    let found_item = finds_item (g.I.Items.reads c.items.items) (g.I.Items.reads c.next_item.new.items) item (g.I.Items.last c.next_item.new.items) (g.S.Source.left c.items.input) (g.S.Source.left c.next_item.new.input) c.item-item.ensures
    (finds_as c.in_ok-next_item.field-0 found.Item (g.I.Items.reads c.items.items) (g.I.Items.reads c.next_item.new.items) (g.I.Items.last c.next_item.new.items) (g.S.Source.left c.items.input) (g.S.Source.left c.next_item.new.input) c.in-Item.is c.in_ok-next_item.ensures.found) in
    let way = way_found g.S.Source g.C.Sink g.R.Sink (meaning (g.I.Items.reads c.args.items.now) (g.K.Command.owes c.args.command.now) c.args.texts.now) (g.I.Items.reads c.items.items) (g.I.Items.reads c.next_item.new.items) (total c.items.texts (g.K.Command.owes c.items.command)) item
    c.args.input.now c.items.input c.next_item.new.input c.args.frames.now c.items.frames c.args.report.now c.items.report c.items.invariant.way found_item (known c.in_ok-next_item.field-0 found.Item _ c.in-Item.is item_apart c.in_ok-next_item.ensures.quiet) in
    err_as c.from_residual-in_err-ended.result (λ why. why ≡ c.in_err-ended.field-0.0) (λ why. Stops g.S.Source g.C.Sink g.R.Sink (meaning (g.I.Items.reads c.args.items.now) (g.K.Command.owes c.args.command.now) c.args.texts.now) why c.args.input.now c.next_item.new.input c.args.frames.now c.do_item.new.frames c.args.report.now c.do_item.new.report) c.from_residual-in_err-ended.ensures.1
    (λ why is. way_stops g.S.Source g.C.Sink g.R.Sink (meaning (g.I.Items.reads c.args.items.now) (g.K.Command.owes c.args.command.now) c.args.texts.now) (g.I.Items.reads c.next_item.new.items) (λ more behind. total c.items.texts (g.K.Command.owes c.items.command) (c.item-item.result.now ∷ more) behind) c.args.input.now c.next_item.new.input c.next_item.new.input c.args.frames.now c.items.frames c.do_item.new.frames c.args.report.now c.items.report c.do_item.new.report why
    way refl (subst (λ (w : Status). StopsFor w g.C.Sink g.R.Sink c.items.frames c.do_item.new.frames c.items.report c.do_item.new.report) (sym is) c.in_err-ended.ensures.stops) c.in_err-ended.ensures.front)

pub returns-in-Some-clause-ended : goal.returns-in-Some-clause-ended
returns-in-Some-clause-ended g c =
    let item = c.item-item.result.now in
    let found_item = finds_item (g.I.Items.reads c.items.items) (g.I.Items.reads c.next_item.new.items) item (g.I.Items.last c.next_item.new.items) (g.S.Source.left c.items.input) (g.S.Source.left c.next_item.new.input) c.item-item.ensures
    (finds_as c.in_ok-next_item.field-0 found.Item (g.I.Items.reads c.items.items) (g.I.Items.reads c.next_item.new.items) (g.I.Items.last c.next_item.new.items) (g.S.Source.left c.items.input) (g.S.Source.left c.next_item.new.input) c.in-Item.is c.in_ok-next_item.ensures.found) in
    let way = way_found g.S.Source g.C.Sink g.R.Sink (meaning (g.I.Items.reads c.args.items.now) (g.K.Command.owes c.args.command.now) c.args.texts.now) (g.I.Items.reads c.items.items) (g.I.Items.reads c.next_item.new.items) (total c.items.texts (g.K.Command.owes c.items.command)) item
    c.args.input.now c.items.input c.next_item.new.input c.args.frames.now c.items.frames c.args.report.now c.items.report c.items.invariant.way found_item (known c.in_ok-next_item.field-0 found.Item _ c.in-Item.is item_apart c.in_ok-next_item.ensures.quiet) in
    let went = went_as g.C.Sink g.R.Sink c.in_ok-ended.ended (Some c.in-Some.status) g.K.Command.refusal (λ more behind. total c.items.texts (g.K.Command.owes c.items.command) (c.item-item.result.now ∷ more) behind) (total c.do_item.new.texts (g.K.Command.owes c.do_item.new.command)) c.do_item.new.texts c.items.frames c.do_item.new.frames c.items.report c.do_item.new.report c.in-Some.is c.in_ok-ended.ensures.went in
    inl (way_refused g.S.Source g.C.Sink g.R.Sink (meaning (g.I.Items.reads c.args.items.now) (g.K.Command.owes c.args.command.now) c.args.texts.now) (g.I.Items.reads c.next_item.new.items) (λ more behind. total c.items.texts (g.K.Command.owes c.items.command) (c.item-item.result.now ∷ more) behind) g.K.Command.refusal c.in-Some.status c.do_item.new.texts c.args.input.now c.next_item.new.input c.args.frames.now c.items.frames c.do_item.new.frames c.args.report.now c.items.report c.do_item.new.report
    way c.requires.refuses.decided c.requires.refuses.other went.0 went.1 c.in_ok-ended.ensures.quiet)

pub items-preserved : goal.items-preserved
items-preserved g c =
    let item = c.item-item.result.now in
    let found_item = finds_item (g.I.Items.reads c.items.items) (g.I.Items.reads c.next_item.new.items) item (g.I.Items.last c.next_item.new.items) (g.S.Source.left c.items.input) (g.S.Source.left c.next_item.new.input) c.item-item.ensures
    (finds_as c.in_ok-next_item.field-0 found.Item (g.I.Items.reads c.items.items) (g.I.Items.reads c.next_item.new.items) (g.I.Items.last c.next_item.new.items) (g.S.Source.left c.items.input) (g.S.Source.left c.next_item.new.input) c.in-Item.is c.in_ok-next_item.ensures.found) in
    let way = way_found g.S.Source g.C.Sink g.R.Sink (meaning (g.I.Items.reads c.args.items.now) (g.K.Command.owes c.args.command.now) c.args.texts.now) (g.I.Items.reads c.items.items) (g.I.Items.reads c.next_item.new.items) (total c.items.texts (g.K.Command.owes c.items.command)) item
    c.args.input.now c.items.input c.next_item.new.input c.args.frames.now c.items.frames c.args.report.now c.items.report c.items.invariant.way found_item (known c.in_ok-next_item.field-0 found.Item _ c.in-Item.is item_apart c.in_ok-next_item.ensures.quiet) in
    let went = went_as g.C.Sink g.R.Sink c.in_ok-ended.ended None g.K.Command.refusal (λ more behind. total c.items.texts (g.K.Command.owes c.items.command) (c.item-item.result.now ∷ more) behind) (total c.do_item.new.texts (g.K.Command.owes c.do_item.new.command)) c.do_item.new.texts c.items.frames c.do_item.new.frames c.items.report c.do_item.new.report c.in_default-ended.is c.in_ok-ended.ensures.went in
    let moved = way_moved g.S.Source g.C.Sink g.R.Sink (meaning (g.I.Items.reads c.args.items.now) (g.K.Command.owes c.args.command.now) c.args.texts.now) (g.I.Items.reads c.next_item.new.items) (λ more behind. total c.items.texts (g.K.Command.owes c.items.command) (c.item-item.result.now ∷ more) behind) (total c.do_item.new.texts (g.K.Command.owes c.do_item.new.command)) c.args.input.now c.next_item.new.input c.args.frames.now c.items.frames c.do_item.new.frames c.args.report.now c.items.report c.do_item.new.report
    way went c.in_ok-ended.ensures.quiet in
    record {
      way = way_moved g.S.Source g.C.Sink g.R.Sink (meaning (g.I.Items.reads c.args.items.now) (g.K.Command.owes c.args.command.now) c.args.texts.now) (g.I.Items.reads c.next_item.new.items) (total c.do_item.new.texts (g.K.Command.owes c.do_item.new.command)) (total c.flush_both.new.texts (g.K.Command.owes c.do_item.new.command)) c.args.input.now c.next_item.new.input c.args.frames.now c.do_item.new.frames c.flush_both.new.frames c.args.report.now c.do_item.new.report c.flush_both.new.report
          moved (moves_wrote g.C.Sink g.R.Sink (g.K.Command.owes c.do_item.new.command) c.do_item.new.texts c.flush_both.new.texts c.do_item.new.frames c.flush_both.new.frames c.do_item.new.report c.flush_both.new.report c.in-Ok-flush_both.ensures.wrote) c.in-Ok-flush_both.ensures.quiet;
      rests = c.in_ok-ended.ensures.rests c.in_default-ended.is;
      written = λ waits. absurd (apart (sym waits ∙ waiting_as c.in_ok-next_item.field-0 found.Item _ c.in-Item.is c.in_ok-next_item.ensures.waits));
      room = omega (arith, goes_on c.in_ok-next_item.field-0 found.Item _ c.in-Item.is tt c.in_ok-next_item.ensures.fewer, c.in_ok-ended.ensures.room, c.items.invariant.room);
    }

pub returns-in_default-flush_both-clause-stopped : goal.returns-in_default-flush_both-clause-stopped
returns-in_default-flush_both-clause-stopped g c =
    let item = c.item-item.result.now in
    let found_item = finds_item (g.I.Items.reads c.items.items) (g.I.Items.reads c.next_item.new.items) item (g.I.Items.last c.next_item.new.items) (g.S.Source.left c.items.input) (g.S.Source.left c.next_item.new.input) c.item-item.ensures
    (finds_as c.in_ok-next_item.field-0 found.Item (g.I.Items.reads c.items.items) (g.I.Items.reads c.next_item.new.items) (g.I.Items.last c.next_item.new.items) (g.S.Source.left c.items.input) (g.S.Source.left c.next_item.new.input) c.in-Item.is c.in_ok-next_item.ensures.found) in
    let way = way_found g.S.Source g.C.Sink g.R.Sink (meaning (g.I.Items.reads c.args.items.now) (g.K.Command.owes c.args.command.now) c.args.texts.now) (g.I.Items.reads c.items.items) (g.I.Items.reads c.next_item.new.items) (total c.items.texts (g.K.Command.owes c.items.command)) item
    c.args.input.now c.items.input c.next_item.new.input c.args.frames.now c.items.frames c.args.report.now c.items.report c.items.invariant.way found_item (known c.in_ok-next_item.field-0 found.Item _ c.in-Item.is item_apart c.in_ok-next_item.ensures.quiet) in
    let went = went_as g.C.Sink g.R.Sink c.in_ok-ended.ended None g.K.Command.refusal (λ more behind. total c.items.texts (g.K.Command.owes c.items.command) (c.item-item.result.now ∷ more) behind) (total c.do_item.new.texts (g.K.Command.owes c.do_item.new.command)) c.do_item.new.texts c.items.frames c.do_item.new.frames c.items.report c.do_item.new.report c.in_default-ended.is c.in_ok-ended.ensures.went in
    let moved = way_moved g.S.Source g.C.Sink g.R.Sink (meaning (g.I.Items.reads c.args.items.now) (g.K.Command.owes c.args.command.now) c.args.texts.now) (g.I.Items.reads c.next_item.new.items) (λ more behind. total c.items.texts (g.K.Command.owes c.items.command) (c.item-item.result.now ∷ more) behind) (total c.do_item.new.texts (g.K.Command.owes c.do_item.new.command)) c.args.input.now c.next_item.new.input c.args.frames.now c.items.frames c.do_item.new.frames c.args.report.now c.items.report c.do_item.new.report
    way went c.in_ok-ended.ensures.quiet in
    way_stops g.S.Source g.C.Sink g.R.Sink (meaning (g.I.Items.reads c.args.items.now) (g.K.Command.owes c.args.command.now) c.args.texts.now) (g.I.Items.reads c.next_item.new.items) (total c.do_item.new.texts (g.K.Command.owes c.do_item.new.command)) c.args.input.now c.next_item.new.input c.next_item.new.input c.args.frames.now c.do_item.new.frames c.flush_both.new.frames c.args.report.now c.do_item.new.report c.flush_both.new.report WriteFault
    moved refl (inl (refl, c.in_default-flush_both.ensures.cause)) (fronts_texts g.C.Sink g.R.Sink (g.K.Command.owes c.do_item.new.command) c.do_item.new.texts c.do_item.new.frames c.flush_both.new.frames c.do_item.new.report c.flush_both.new.report c.in_default-flush_both.ensures.front)

pub returns-in-Last-clause-ended : goal.returns-in-Last-clause-ended
returns-in-Last-clause-ended g c =
    let item = c.item-last.result.now in
    let finds = finds_last (g.I.Items.reads c.items.items) (g.I.Items.reads c.next_item.new.items) item (g.I.Items.last c.next_item.new.items) (g.S.Source.left c.items.input) (g.S.Source.left c.next_item.new.input) c.item-last.ensures
    (finds_as c.in_ok-next_item.field-0 found.Last (g.I.Items.reads c.items.items) (g.I.Items.reads c.next_item.new.items) (g.I.Items.last c.next_item.new.items) (g.S.Source.left c.items.input) (g.S.Source.left c.next_item.new.input) c.in-Last.is c.in_ok-next_item.ensures.found) in
    last_ends g.S.Source g.C.Sink g.R.Sink (meaning (g.I.Items.reads c.args.items.now) (g.K.Command.owes c.args.command.now) c.args.texts.now) (g.I.Items.reads c.items.items) (g.I.Items.reads c.next_item.new.items) (total c.items.texts (g.K.Command.owes c.items.command)) item g.K.Command.refusal c.do_last.result c.do_last.new.texts
    c.args.input.now c.items.input c.next_item.new.input c.args.frames.now c.items.frames c.do_last.new.frames c.args.report.now c.items.report c.do_last.new.report c.items.invariant.way finds (known c.in_ok-next_item.field-0 found.Last _ c.in-Last.is last_apart c.in_ok-next_item.ensures.quiet)
    c.do_last.ensures.owing c.do_last.ensures.statuses c.do_last.ensures.quiet

pub returns-in-Last-clause-stopped : goal.returns-in-Last-clause-stopped
returns-in-Last-clause-stopped g c =
    let item = c.item-last.result.now in
    let finds = finds_last (g.I.Items.reads c.items.items) (g.I.Items.reads c.next_item.new.items) item (g.I.Items.last c.next_item.new.items) (g.S.Source.left c.items.input) (g.S.Source.left c.next_item.new.input) c.item-last.ensures
    (finds_as c.in_ok-next_item.field-0 found.Last (g.I.Items.reads c.items.items) (g.I.Items.reads c.next_item.new.items) (g.I.Items.last c.next_item.new.items) (g.S.Source.left c.items.input) (g.S.Source.left c.next_item.new.input) c.in-Last.is c.in_ok-next_item.ensures.found) in
    last_stops g.S.Source g.C.Sink g.R.Sink (meaning (g.I.Items.reads c.args.items.now) (g.K.Command.owes c.args.command.now) c.args.texts.now) (g.I.Items.reads c.items.items) (g.I.Items.reads c.next_item.new.items) (total c.items.texts (g.K.Command.owes c.items.command)) item c.do_last.result
    c.args.input.now c.items.input c.next_item.new.input c.args.frames.now c.items.frames c.do_last.new.frames c.args.report.now c.items.report c.do_last.new.report c.items.invariant.way finds (known c.in_ok-next_item.field-0 found.Last _ c.in-Last.is last_apart c.in_ok-next_item.ensures.quiet)
    c.do_last.ensures.stops c.do_last.ensures.front

pub returns-in_default-clause-stopped : goal.returns-in_default-clause-stopped
returns-in_default-clause-stopped g c =
    let way = way_waits g.S.Source g.C.Sink g.R.Sink (meaning (g.I.Items.reads c.args.items.now) (g.K.Command.owes c.args.command.now) c.args.texts.now) (g.I.Items.reads c.items.items) (g.I.Items.reads c.next_item.new.items) (total c.items.texts (g.K.Command.owes c.items.command)) (g.I.Items.last c.next_item.new.items)
    c.args.input.now c.items.input c.next_item.new.input c.args.frames.now c.items.frames c.args.report.now c.items.report c.items.invariant.way
    (finds_as c.in_ok-next_item.field-0 found.Waits (g.I.Items.reads c.items.items) (g.I.Items.reads c.next_item.new.items) (g.I.Items.last c.next_item.new.items) (g.S.Source.left c.items.input) (g.S.Source.left c.next_item.new.input) c.in-Waits.is c.in_ok-next_item.ensures.found)
    (known c.in_ok-next_item.field-0 found.Waits _ c.in-Waits.is waits_apart c.in_ok-next_item.ensures.quiet) in
    way_stops g.S.Source g.C.Sink g.R.Sink (meaning (g.I.Items.reads c.args.items.now) (g.K.Command.owes c.args.command.now) c.args.texts.now) (g.I.Items.reads c.next_item.new.items) (total c.items.texts (g.K.Command.owes c.items.command)) c.args.input.now c.next_item.new.input c.next_item.new.input c.args.frames.now c.items.frames c.write_out.new.frames c.args.report.now c.items.report c.write_out.new.report WriteFault
    way refl (inl (refl, c.in_default.ensures.cause)) (fronts_texts g.C.Sink g.R.Sink (g.K.Command.owes c.items.command) c.items.texts c.items.frames c.write_out.new.frames c.items.report c.write_out.new.report c.in_default.ensures.front)

pub items-preserved-in-Waits : goal.items-preserved-in-Waits
items-preserved-in-Waits g c =
    let way = way_waits g.S.Source g.C.Sink g.R.Sink (meaning (g.I.Items.reads c.args.items.now) (g.K.Command.owes c.args.command.now) c.args.texts.now) (g.I.Items.reads c.items.items) (g.I.Items.reads c.next_item.new.items) (total c.items.texts (g.K.Command.owes c.items.command)) (g.I.Items.last c.next_item.new.items)
    c.args.input.now c.items.input c.next_item.new.input c.args.frames.now c.items.frames c.args.report.now c.items.report c.items.invariant.way
    (finds_as c.in_ok-next_item.field-0 found.Waits (g.I.Items.reads c.items.items) (g.I.Items.reads c.next_item.new.items) (g.I.Items.last c.next_item.new.items) (g.S.Source.left c.items.input) (g.S.Source.left c.next_item.new.input) c.in-Waits.is c.in_ok-next_item.ensures.found)
    (known c.in_ok-next_item.field-0 found.Waits _ c.in-Waits.is waits_apart c.in_ok-next_item.ensures.quiet) in
    record {
      way = way_moved g.S.Source g.C.Sink g.R.Sink (meaning (g.I.Items.reads c.args.items.now) (g.K.Command.owes c.args.command.now) c.args.texts.now) (g.I.Items.reads c.next_item.new.items) (total c.items.texts (g.K.Command.owes c.items.command)) (total c.write_out.new.texts (g.K.Command.owes c.items.command)) c.args.input.now c.next_item.new.input c.args.frames.now c.items.frames c.write_out.new.frames c.args.report.now c.items.report c.write_out.new.report
          way (moves_wrote g.C.Sink g.R.Sink (g.K.Command.owes c.items.command) c.items.texts c.write_out.new.texts c.items.frames c.write_out.new.frames c.items.report c.write_out.new.report c.in-Ok.ensures.wrote) c.in-Ok.ensures.quiet;
      rests = c.items.invariant.rests;
      written = λ waits. record { frames = c.in-Ok.ensures.no_frames; report = c.in-Ok.ensures.no_report };
      room = omega (arith, goes_on c.in_ok-next_item.field-0 found.Waits _ c.in-Waits.is tt c.in_ok-next_item.ensures.fewer, c.items.invariant.room);
    }
