use Rattle.std.proofs.Common.{◌≡◌, ◌≤◌, ◌+◌, ◌-◌, ◌*◌, ◌∙◌, ◌++◌, ℕ, Bool, min, cond, List, [], length, take, Ok, None, refl, sym, ap, ap₂, subst, arith, append-nil}
use Rattle.std.proofs.lemmas.List.{length-take-le, length-take}
use Rattle.std.specs.Prelude.{nat_lt}
use Rattle.std.specs.Io.KnownBytes.{Consumes}
use Rattle.std.proofs.KnownBytes.{Consumes-kept, Consumes-trans}
use Rattle.command_drive.specs.declared.capture_reader.CaptureReader.{CaptureReader}
use Rattle.command_drive.specs.declared.items.Close.{Close}
use Rattle.command_drive.specs.CaptureReading.{any_fed, any_size, given}
use Rattle.command_drive.specs.Reading.{Closed, Ends, Fails}
use Rattle.command_drive.specs.Records.{records_read}
use Rattle.command_drive.proofs.AnyLaws.{none_holds, record_less}
use Rattle.command_drive.proofs.LineSteps.{chunk_less}
use Rattle.command_drive.proofs.Pieces.{piece_is, piece_short}
use Rattle.command_drive.proofs.RecordSteps.{record_first, both_are, none_still, record_none, record_refused, record_chunk, over_end, open_end, whole_by, any_fed_length}
use Rattle.command_drive.proofs.Seeking.{seeks_first, seeks_as, seeks_on, nothing_left}
use Rattle.command_drive.proofs.record_reader.RecordReaderItemsNgRecord.next.Goals as goal

pub chunks-init : goal.chunks-init
chunks-init g c = record { seeks = seeks_first (g.S.Source.left c.args.input.now) (records_read c.args.self.now.reader c.args.self.now.room c.args.self.now.over); fewer = omega arith; idle = refl; quiet = refl }

pub returns-in-Ok-true-clause-found : goal.returns-in-Ok-true-clause-found
returns-in-Ok-true-clause-found g c =
    let seeks = c.chunks.invariant.seeks in
    let is = sym c.in_ok-read.ensures.exact ∙ ap (given c.next_into.new.read) (c.in-Ok-true.is ∙ ap Ok c.in-Ok-true.field-0-test) in
    (seeks.octets, seeks.consumed, λ end more. seeks.is end more ∙ record_first c.chunks.self.reader c.next_into.new.self c.next_into.new.read c.in_ok-read.ensures.after is c.chunks.self.room c.chunks.self.over end more)

pub returns-in-Ok-true-clause-fewer : goal.returns-in-Ok-true-clause-fewer
returns-in-Ok-true-clause-fewer g c goes =
    let is = sym c.in_ok-read.ensures.exact ∙ ap (given c.next_into.new.read) (c.in-Ok-true.is ∙ ap Ok c.in-Ok-true.field-0-test) in
    omega (arith, ap any_size c.in_ok-read.ensures.after, record_less c.chunks.self.reader c.next_into.new.read is, c.chunks.invariant.fewer)

pub returns-in-Err-clause-found : goal.returns-in-Err-clause-found
returns-in-Err-clause-found g c =
    let seeks = c.chunks.invariant.seeks in
    let is = sym c.in_ok-read.ensures.exact ∙ ap (given c.next_into.new.read) c.in-Err.is in
    (seeks.octets, seeks.consumed, λ more left. seeks.is Ends more ∙ record_refused c.chunks.self.reader c.next_into.new.self c.in-Err.why c.in_ok-read.ensures.after is c.chunks.self.room c.chunks.self.over Ends more, tt)

pub returns-then-self-clause-found : goal.returns-then-self-clause-found
returns-then-self-clause-found g c =
    let none = sym c.in_ok-read.ensures.exact ∙ ap (given c.next_into.new.read) (c.in-Ok-false.is ∙ ap Ok c.in-Ok-false.field-0-test) in
    let after = c.in_ok-read.ensures.after in
    let still = none_still c.chunks.self.reader c.next_into.new.self after none in
    let seeks = seeks_as (g.S.Source.left c.args.input.now) (g.S.Source.left c.chunks.input) (records_read c.args.self.now.reader c.args.self.now.room c.args.self.now.over) (records_read c.chunks.self.reader c.chunks.self.room c.chunks.self.over) (records_read c.next_into.new.self c.chunks.self.room c.chunks.self.over)
    c.chunks.invariant.seeks (record_none c.chunks.self.reader c.next_into.new.self after none c.chunks.self.room c.chunks.self.over) in
    (seeks.octets, seeks.consumed, λ more left. seeks.is Ends more ∙ over_end c.next_into.new.self still c.chunks.self.room c.chunks.self.over Ends more c.if-self.true, tt)

pub returns-then-self-2-clause-found : goal.returns-then-self-2-clause-found
returns-then-self-2-clause-found g c =
    let none = sym c.in_ok-read.ensures.exact ∙ ap (given c.next_into.new.read) (c.in-Ok-false.is ∙ ap Ok c.in-Ok-false.field-0-test) in
    let after = c.in_ok-read.ensures.after in
    let still = none_still c.chunks.self.reader c.next_into.new.self after none in
    let seeks = seeks_as (g.S.Source.left c.args.input.now) (g.S.Source.left c.chunks.input) (records_read c.args.self.now.reader c.args.self.now.room c.args.self.now.over) (records_read c.chunks.self.reader c.chunks.self.room c.chunks.self.over) (records_read c.next_into.new.self c.chunks.self.room c.chunks.self.over)
    c.chunks.invariant.seeks (record_none c.chunks.self.reader c.next_into.new.self after none c.chunks.self.room c.chunks.self.over) in
    (seeks.octets, seeks.consumed, seeks.is)

pub returns-then-self-2-clause-fewer : goal.returns-then-self-2-clause-fewer
returns-then-self-2-clause-fewer g c goes =
    let none = sym c.in_ok-read.ensures.exact ∙ ap (given c.next_into.new.read) (c.in-Ok-false.is ∙ ap Ok c.in-Ok-false.field-0-test) in
    let lower = none_holds c.chunks.self.reader c.next_into.new.self (both_are c.chunks.self.reader c.next_into.new.self (Ok None) c.in_ok-read.ensures.after none) in
    let before = subst (λ b. 3 * c.chunks.self.room + (2 * any_size c.chunks.self.reader + cond b 1 0) ≤ 3 * c.args.self.now.room + (2 * any_size c.args.self.now.reader + cond c.args.self.now.short 1 0)) c.if-self-2.true c.chunks.invariant.fewer in
    omega (arith, lower, before)

pub returns-in_default-clause-found : goal.returns-in_default-clause-found
returns-in_default-clause-found g c =
    let none = sym c.in_ok-read.ensures.exact ∙ ap (given c.next_into.new.read) (c.in-Ok-false.is ∙ ap Ok c.in-Ok-false.field-0-test) in
    let after = c.in_ok-read.ensures.after in
    let still = none_still c.chunks.self.reader c.next_into.new.self after none in
    let seeks = seeks_as (g.S.Source.left c.args.input.now) (g.S.Source.left c.chunks.input) (records_read c.args.self.now.reader c.args.self.now.room c.args.self.now.over) (records_read c.chunks.self.reader c.chunks.self.room c.chunks.self.over) (records_read c.next_into.new.self c.chunks.self.room c.chunks.self.over)
    c.chunks.invariant.seeks (record_none c.chunks.self.reader c.next_into.new.self after none c.chunks.self.room c.chunks.self.over) in (
      seeks.octets,
      Consumes-kept (g.S.Source.left c.args.input.now) (g.S.Source.left c.chunks.input) (g.S.Source.left c.read.new.self) seeks.octets seeks.consumed c.in_default.ensures.bytes,
      ap (records_read c.args.self.now.reader c.args.self.now.room c.args.self.now.over Fails) (sym (append-nil seeks.octets)) ∙ seeks.is Fails [] ∙ open_end c.next_into.new.self still c.chunks.self.room c.chunks.self.over Fails c.if-self.false,
    )

pub returns-then-count-eq0-clause-found : goal.returns-then-count-eq0-clause-found
returns-then-count-eq0-clause-found g c =
    let none = sym c.in_ok-read.ensures.exact ∙ ap (given c.next_into.new.read) (c.in-Ok-false.is ∙ ap Ok c.in-Ok-false.field-0-test) in
    let after = c.in_ok-read.ensures.after in
    let still = none_still c.chunks.self.reader c.next_into.new.self after none in
    let seeks = seeks_as (g.S.Source.left c.args.input.now) (g.S.Source.left c.chunks.input) (records_read c.args.self.now.reader c.args.self.now.room c.args.self.now.over) (records_read c.chunks.self.reader c.chunks.self.room c.chunks.self.over) (records_read c.next_into.new.self c.chunks.self.room c.chunks.self.over)
    c.chunks.invariant.seeks (record_none c.chunks.self.reader c.next_into.new.self after none c.chunks.self.room c.chunks.self.over) in
    let nothing : take c.in-Ok.count c.read.new.into ≡ [] = ap (λ (k : ℕ). take k c.read.new.into) c.if-count-eq0.true in
    let consumed = subst (Consumes (g.S.Source.left c.chunks.input) (g.S.Source.left c.read.new.self)) nothing c.in-Ok.ensures.bytes.0 in
    let at_end = c.in-Ok.ensures.bytes.1 c.if-count-eq0.true (omega (arith, c.read.auto.into, c.deref_mut.ensures.len, ap length c.deref_mut.ensures.value, c.chunks.self.chunk)) in
    let how = c.end.ensures in (
      seeks.octets,
      subst (Consumes (g.S.Source.left c.args.input.now) (g.S.Source.left c.read.new.self)) (append-nil seeks.octets) (Consumes-trans (g.S.Source.left c.args.input.now) (g.S.Source.left c.chunks.input) (g.S.Source.left c.read.new.self) seeks.octets [] seeks.consumed consumed),
      λ more left.
          ap (λ (l : List ℕ). records_read c.args.self.now.reader c.args.self.now.room c.args.self.now.over Ends (seeks.octets ++ l)) (nothing_left (g.S.Source.left c.read.new.self) more at_end left)
          ∙ seeks.is Ends [] ∙ open_end c.next_into.new.self still c.chunks.self.room c.chunks.self.over Ends c.if-self.false ∙ ap (λ (h : Close). record { items = []; behind = Closed h }) (sym how),
      whole_by c.end.result (g.S.Source.left c.read.new.self) at_end,
    )

pub chunks-preserved : goal.chunks-preserved
chunks-preserved g c =
    let none = sym c.in_ok-read.ensures.exact ∙ ap (given c.next_into.new.read) (c.in-Ok-false.is ∙ ap Ok c.in-Ok-false.field-0-test) in
    let after = c.in_ok-read.ensures.after in
    let still = none_still c.chunks.self.reader c.next_into.new.self after none in
    let seeks = seeks_as (g.S.Source.left c.args.input.now) (g.S.Source.left c.chunks.input) (records_read c.args.self.now.reader c.args.self.now.room c.args.self.now.over) (records_read c.chunks.self.reader c.chunks.self.room c.chunks.self.over) (records_read c.next_into.new.self c.chunks.self.room c.chunks.self.over)
    c.chunks.invariant.seeks (record_none c.chunks.self.reader c.next_into.new.self after none c.chunks.self.room c.chunks.self.over) in
    let none = sym c.in_ok-read.ensures.exact ∙ ap (given c.next_into.new.read) (c.in-Ok-false.is ∙ ap Ok c.in-Ok-false.field-0-test) in
    let lower = none_holds c.chunks.self.reader c.next_into.new.self (both_are c.chunks.self.reader c.next_into.new.self (Ok None) c.in_ok-read.ensures.after none) in
    let before = subst (λ b. 3 * c.chunks.self.room + (2 * any_size c.chunks.self.reader + cond b 1 0) ≤ 3 * c.args.self.now.room + (2 * any_size c.args.self.now.reader + cond c.args.self.now.short 1 0)) c.if-self-2.false c.chunks.invariant.fewer in
    let into = c.read.new.into in
    let room = c.chunks.self.room in
    let piece : List ℕ = take c.in-Ok.count into in
    let size : length piece ≡ c.in-Ok.count = length-take-le c.in-Ok.count into c.in-Ok.ensures.bound.0 in
    let same = piece_is (min c.in-Ok.count room) c.in-Ok.count c.chunks.self.buffer.len into c.chunks.self.buffer.items _ refl (omega (arith, c.read.auto.into, c.deref_mut.ensures.len)) (omega arith) in
    let part : c.take.new.self.reader ≡ any_fed c.next_into.new.self (take room piece) = c.in_ok-take.ensures.reader ∙ ap (any_fed c.next_into.new.self) (same ∙ piece_short room piece c.in-Ok.count size) in
    let held : any_size c.take.new.self.reader ≤ any_size c.next_into.new.self + min c.in-Ok.count room =
    omega (arith, ap any_size part, any_fed_length c.next_into.new.self (take room piece), length-take room piece, size) in
    let chunk = chunk_less room c.in-Ok.count (any_size c.next_into.new.self) (any_size c.take.new.self.reader) c.take.new.self.room c.take.new.self.short c.if-count-eq0.false c.in_ok-take.ensures.room held c.in_ok-take.ensures.short in
    record {
      seeks = seeks_on (g.S.Source.left c.args.input.now) (g.S.Source.left c.chunks.input) (g.S.Source.left c.read.new.self) (records_read c.args.self.now.reader c.args.self.now.room c.args.self.now.over) (records_read c.next_into.new.self room c.chunks.self.over) (records_read c.take.new.self.reader c.take.new.self.room c.take.new.self.over) piece seeks c.in-Ok.ensures.bytes.0
          (λ end more.
          ap (λ (b : Bool). records_read c.next_into.new.self room b end (piece ++ more)) c.if-self.false ∙ record_chunk c.next_into.new.self piece room end more
          ∙ ap₂ (λ (r : CaptureReader) (n : ℕ). records_read r n (nat_lt room (length piece)) end more) (sym part) (ap (λ (n : ℕ). room - n) size ∙ sym c.in_ok-take.ensures.room)
          ∙ ap (λ (b : Bool). records_read c.take.new.self.reader c.take.new.self.room b end more) (ap (nat_lt room) size ∙ sym c.in_ok-take.ensures.over));
      fewer = omega (arith, lower, before, chunk);
      idle = c.in_ok-take.ensures.waits ∙ c.chunks.invariant.idle;
      quiet = c.in-Ok.ensures.cause.succeeded ∙ c.chunks.invariant.quiet;
    }

pub end-requires : goal.end-requires
end-requires g c =
    none_still c.chunks.self.reader c.next_into.new.self c.in_ok-read.ensures.after (sym c.in_ok-read.ensures.exact ∙ ap (given c.next_into.new.read) (c.in-Ok-false.is ∙ ap Ok c.in-Ok-false.field-0-test))
