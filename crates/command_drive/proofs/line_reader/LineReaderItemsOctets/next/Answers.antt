use Rattle.std.proofs.Common.{◌≡◌, ◌≤◌, ◌+◌, ◌<◌, ◌-◌, ◌*◌, ◌++◌, ℕ, [], Bool, true, false, length, min, cond, refl, sym, ap, subst, ◌∙◌, arith}
use Rattle.std.specs.Prelude.{nat_lt}
use Rattle.std.proofs.lemmas.Bool.{le-ltb}
use Rattle.std.proofs.lemmas.List.{length-take, length-append}
use Rattle.std.specs.Str.Lines.{strip_carriage_return}
use Rattle.command_drive.specs.Lines.{shown, lines_read, HasNoEnd, TakesPart}
use Rattle.command_drive.proofs.Seeking.{seeks_first}
use Rattle.command_drive.proofs.LineSteps.{seeks_line, seeks_on, seeks_more, seeks_too_long, seeks_failed, seeks_end, seeks_last, part_less, chunk_less, none_long}
use Rattle.command_drive.proofs.line_reader.LineReaderItemsOctets.next.Goals as goal

bit : (b : Bool) → cond b 1 0 ≤ 1
bit true = omega arith
bit false = omega arith

pub parts-init : goal.parts-init
parts-init g c = record {
  seeks = seeks_first (g.S.Source.left c.args.input.now) (lines_read (c.args.self.now.front ++ c.args.self.now.unread) c.args.self.now.room c.args.self.now.over);
  fewer = omega arith;
  idle = refl;
  quiet = refl;
}

pub returns-then-branch-clause-found : goal.returns-then-branch-clause-found
returns-then-branch-clause-found g c =
    let takes : TakesPart true c.parts.self.unread c.parts.self.front c.take_part.new.unread c.take_part.new.line = rw c.if-branch.true at c.in_ok-take_part.ensures.part in
    seeks_line (g.S.Source.left c.args.input.now) (g.S.Source.left c.parts.input) (lines_read (c.args.self.now.front ++ c.args.self.now.unread) c.args.self.now.room c.args.self.now.over) c.parts.self.front c.parts.self.unread c.take_part.new.unread c.take_part.new.line c.parts.self.room c.parts.self.over c.parts.invariant.seeks c.parts.self.plain
    c.cut.new.line c.give.new.self.front c.give.new.self.unread c.give.new.self.room c.give.new.self.over takes (c.cut.ensures ∙ ap shown (c.drop_cr.ensures ∙ ap strip_carriage_return c.give.ensures.line)) c.give.ensures.front c.give.ensures.unread c.give.ensures.room c.give.ensures.over

pub returns-then-self-clause-found : goal.returns-then-self-clause-found
returns-then-self-clause-found g c =
    let takes : TakesPart false c.parts.self.unread c.parts.self.front c.take_part.new.unread c.take_part.new.line = rw c.if-branch.false at c.in_ok-take_part.ensures.part in
    let on = seeks_on (g.S.Source.left c.args.input.now) (g.S.Source.left c.parts.input) (lines_read (c.args.self.now.front ++ c.args.self.now.unread) c.args.self.now.room c.args.self.now.over) c.parts.self.front c.parts.self.unread c.take_part.new.unread c.take_part.new.line c.parts.self.room c.parts.self.over c.parts.invariant.seeks c.parts.self.plain takes in
    let plain : HasNoEnd c.take_part.new.line = c.take_part.ensures.plain c.parts.self.plain in
    seeks_too_long (g.S.Source.left c.args.input.now) (g.S.Source.left c.parts.input) (g.S.Source.left c.parts.input) (lines_read (c.args.self.now.front ++ c.args.self.now.unread) c.args.self.now.room c.args.self.now.over) c.take_part.new.line c.take_part.new.unread c.parts.self.room c.parts.self.over on takes.1 plain c.if-self.true

pub returns-then-self-2-clause-found : goal.returns-then-self-2-clause-found
returns-then-self-2-clause-found g c =
    let takes : TakesPart false c.parts.self.unread c.parts.self.front c.take_part.new.unread c.take_part.new.line = rw c.if-branch.false at c.in_ok-take_part.ensures.part in
    let on = seeks_on (g.S.Source.left c.args.input.now) (g.S.Source.left c.parts.input) (lines_read (c.args.self.now.front ++ c.args.self.now.unread) c.args.self.now.room c.args.self.now.over) c.parts.self.front c.parts.self.unread c.take_part.new.unread c.take_part.new.line c.parts.self.room c.parts.self.over c.parts.invariant.seeks c.parts.self.plain takes in
    (on.octets, on.consumed, on.is)

pub returns-then-self-2-clause-fewer : goal.returns-then-self-2-clause-fewer
returns-then-self-2-clause-fewer g c goes =
    let takes : TakesPart false c.parts.self.unread c.parts.self.front c.take_part.new.unread c.take_part.new.line = rw c.if-branch.false at c.in_ok-take_part.ensures.part in
    omega (arith, part_less c.parts.self.unread c.parts.self.front c.take_part.new.unread c.take_part.new.line takes, subst (λ b. 3 * c.parts.self.room + (2 * length (c.parts.self.front ++ c.parts.self.unread) + cond b 1 0) ≤ 3 * c.args.self.now.room + (2 * length (c.args.self.now.front ++ c.args.self.now.unread) + cond c.args.self.now.short 1 0)) c.if-self-2.true c.parts.invariant.fewer)

pub returns-in_default-clause-found : goal.returns-in_default-clause-found
returns-in_default-clause-found g c =
    let takes : TakesPart false c.parts.self.unread c.parts.self.front c.take_part.new.unread c.take_part.new.line = rw c.if-branch.false at c.in_ok-take_part.ensures.part in
    let on = seeks_on (g.S.Source.left c.args.input.now) (g.S.Source.left c.parts.input) (lines_read (c.args.self.now.front ++ c.args.self.now.unread) c.args.self.now.room c.args.self.now.over) c.parts.self.front c.parts.self.unread c.take_part.new.unread c.take_part.new.line c.parts.self.room c.parts.self.over c.parts.invariant.seeks c.parts.self.plain takes in
    let plain : HasNoEnd c.take_part.new.line = c.take_part.ensures.plain c.parts.self.plain in
    seeks_failed (g.S.Source.left c.args.input.now) (g.S.Source.left c.parts.input) (g.S.Source.left c.refill.new.input) (lines_read (c.args.self.now.front ++ c.args.self.now.unread) c.args.self.now.room c.args.self.now.over) c.take_part.new.line c.take_part.new.unread c.parts.self.room c.parts.self.over on takes.1 plain c.if-self.false c.in_default.ensures.kept

pub returns-then-len-eq0-clause-found : goal.returns-then-len-eq0-clause-found
returns-then-len-eq0-clause-found g c =
    let takes : TakesPart false c.parts.self.unread c.parts.self.front c.take_part.new.unread c.take_part.new.line = rw c.if-branch.false at c.in_ok-take_part.ensures.part in
    let on = seeks_on (g.S.Source.left c.args.input.now) (g.S.Source.left c.parts.input) (lines_read (c.args.self.now.front ++ c.args.self.now.unread) c.args.self.now.room c.args.self.now.over) c.parts.self.front c.parts.self.unread c.take_part.new.unread c.take_part.new.line c.parts.self.room c.parts.self.over c.parts.invariant.seeks c.parts.self.plain takes in
    let octets = c.in-Ok.ensures.octets in
    let room_is : c.refill.new.self.room ≡ c.parts.self.room - length octets.0 = c.in-Ok.ensures.room ∙ ap (λ (n : ℕ). c.parts.self.room - n) (sym octets.2) in
    let more = seeks_more (g.S.Source.left c.args.input.now) (g.S.Source.left c.parts.input) (g.S.Source.left c.refill.new.input) (lines_read (c.args.self.now.front ++ c.args.self.now.unread) c.args.self.now.room c.args.self.now.over) c.take_part.new.line c.take_part.new.unread c.parts.self.room c.parts.self.over
    on takes.1 octets.0 c.refill.new.self.front c.refill.new.self.unread c.refill.new.self.room c.refill.new.self.over octets.1 c.if-self.false c.refill.ensures.front octets.3 room_is (c.in-Ok.ensures.over ∙ ap (nat_lt c.parts.self.room) (sym octets.2)) in
    let none : c.refill.new.self.unread ≡ [] = none_long c.refill.new.self.unread (omega (arith, ap length octets.3, length-take c.parts.self.room octets.0, octets.2, c.if-count-eq0.true)) in
    let under : c.refill.new.self.over ≡ false = c.in-Ok.ensures.over ∙ le-ltb c.parts.self.room c.in-Ok.count (omega (arith, c.if-count-eq0.true)) in
    seeks_end (g.S.Source.left c.args.input.now) (g.S.Source.left c.refill.new.input) (lines_read (c.args.self.now.front ++ c.args.self.now.unread) c.args.self.now.room c.args.self.now.over) c.refill.new.self.front c.refill.new.self.unread c.refill.new.self.room c.refill.new.self.over more none under (c.in-Ok.ensures.end c.if-count-eq0.true) (sym c.len.ensures ∙ c.if-len-eq0.true)

pub returns-then-count-eq0-clause-found : goal.returns-then-count-eq0-clause-found
returns-then-count-eq0-clause-found g c =
    let takes : TakesPart false c.parts.self.unread c.parts.self.front c.take_part.new.unread c.take_part.new.line = rw c.if-branch.false at c.in_ok-take_part.ensures.part in
    let on = seeks_on (g.S.Source.left c.args.input.now) (g.S.Source.left c.parts.input) (lines_read (c.args.self.now.front ++ c.args.self.now.unread) c.args.self.now.room c.args.self.now.over) c.parts.self.front c.parts.self.unread c.take_part.new.unread c.take_part.new.line c.parts.self.room c.parts.self.over c.parts.invariant.seeks c.parts.self.plain takes in
    let octets = c.in-Ok.ensures.octets in
    let room_is : c.refill.new.self.room ≡ c.parts.self.room - length octets.0 = c.in-Ok.ensures.room ∙ ap (λ (n : ℕ). c.parts.self.room - n) (sym octets.2) in
    let more = seeks_more (g.S.Source.left c.args.input.now) (g.S.Source.left c.parts.input) (g.S.Source.left c.refill.new.input) (lines_read (c.args.self.now.front ++ c.args.self.now.unread) c.args.self.now.room c.args.self.now.over) c.take_part.new.line c.take_part.new.unread c.parts.self.room c.parts.self.over
    on takes.1 octets.0 c.refill.new.self.front c.refill.new.self.unread c.refill.new.self.room c.refill.new.self.over octets.1 c.if-self.false c.refill.ensures.front octets.3 room_is (c.in-Ok.ensures.over ∙ ap (nat_lt c.parts.self.room) (sym octets.2)) in
    let none : c.refill.new.self.unread ≡ [] = none_long c.refill.new.self.unread (omega (arith, ap length octets.3, length-take c.parts.self.room octets.0, octets.2, c.if-count-eq0.true)) in
    let under : c.refill.new.self.over ≡ false = c.in-Ok.ensures.over ∙ le-ltb c.parts.self.room c.in-Ok.count (omega (arith, c.if-count-eq0.true)) in
    seeks_last (g.S.Source.left c.args.input.now) (g.S.Source.left c.refill.new.input) (lines_read (c.args.self.now.front ++ c.args.self.now.unread) c.args.self.now.room c.args.self.now.over) c.refill.new.self.front c.refill.new.self.unread c.refill.new.self.room c.refill.new.self.over more none under (c.in-Ok.ensures.end c.if-count-eq0.true) c.cut-then-count-eq0.new.line (c.refill.new.self.plain) (λ e. c.if-len-eq0.false (c.len.ensures ∙ e)) (c.cut-then-count-eq0.ensures ∙ ap shown c.give-then-count-eq0.ensures.line)

pub parts-preserved : goal.parts-preserved
parts-preserved g c =
    let takes : TakesPart false c.parts.self.unread c.parts.self.front c.take_part.new.unread c.take_part.new.line = rw c.if-branch.false at c.in_ok-take_part.ensures.part in
    let on = seeks_on (g.S.Source.left c.args.input.now) (g.S.Source.left c.parts.input) (lines_read (c.args.self.now.front ++ c.args.self.now.unread) c.args.self.now.room c.args.self.now.over) c.parts.self.front c.parts.self.unread c.take_part.new.unread c.take_part.new.line c.parts.self.room c.parts.self.over c.parts.invariant.seeks c.parts.self.plain takes in
    let octets = c.in-Ok.ensures.octets in
    let room_is : c.refill.new.self.room ≡ c.parts.self.room - length octets.0 = c.in-Ok.ensures.room ∙ ap (λ (n : ℕ). c.parts.self.room - n) (sym octets.2) in
    let more = seeks_more (g.S.Source.left c.args.input.now) (g.S.Source.left c.parts.input) (g.S.Source.left c.refill.new.input) (lines_read (c.args.self.now.front ++ c.args.self.now.unread) c.args.self.now.room c.args.self.now.over) c.take_part.new.line c.take_part.new.unread c.parts.self.room c.parts.self.over
    on takes.1 octets.0 c.refill.new.self.front c.refill.new.self.unread c.refill.new.self.room c.refill.new.self.over octets.1 c.if-self.false c.refill.ensures.front octets.3 room_is (c.in-Ok.ensures.over ∙ ap (nat_lt c.parts.self.room) (sym octets.2)) in
    let before = subst (λ b. 3 * c.parts.self.room + (2 * length (c.parts.self.front ++ c.parts.self.unread) + cond b 1 0) ≤ 3 * c.args.self.now.room + (2 * length (c.args.self.now.front ++ c.args.self.now.unread) + cond c.args.self.now.short 1 0)) c.if-self-2.false c.parts.invariant.fewer in
    let held : length (c.refill.new.self.front ++ c.refill.new.self.unread) ≤ length (c.take_part.new.line ++ c.take_part.new.unread) + min c.in-Ok.count c.parts.self.room =
    omega (arith, length-append c.refill.new.self.front c.refill.new.self.unread, length-append c.take_part.new.line c.take_part.new.unread, ap length c.refill.ensures.front, ap length octets.3, length-take c.parts.self.room octets.0, octets.2) in
    let chunk = chunk_less c.parts.self.room c.in-Ok.count (length (c.take_part.new.line ++ c.take_part.new.unread)) (length (c.refill.new.self.front ++ c.refill.new.self.unread)) c.refill.new.self.room c.refill.new.self.short c.if-count-eq0.false c.in-Ok.ensures.room held c.in-Ok.ensures.short in
    record {
      seeks = more;
      fewer = omega (arith, before, part_less c.parts.self.unread c.parts.self.front c.take_part.new.unread c.take_part.new.line takes, chunk);
      idle = c.refill.ensures.waits ∙ c.parts.invariant.idle;
      quiet = c.in-Ok.ensures.quiet ∙ c.parts.invariant.quiet;
    }

pub returns-then-count-eq0-clause-fewer : goal.returns-then-count-eq0-clause-fewer
returns-then-count-eq0-clause-fewer g c goes =
    let takes : TakesPart false c.parts.self.unread c.parts.self.front c.take_part.new.unread c.take_part.new.line = rw c.if-branch.false at c.in_ok-take_part.ensures.part in
    let octets = c.in-Ok.ensures.octets in
    let none : length c.give-then-count-eq0.new.self.unread ≡ 0 = omega (arith, ap length c.give-then-count-eq0.ensures.unread, ap length octets.3, length-take c.parts.self.room octets.0, octets.2, c.if-count-eq0.true) in
    let some : 0 < length c.take_part.new.line = omega (arith, c.if-len-eq0.false, c.len.ensures, ap length c.refill.ensures.front) in
    let before = subst (λ b. 3 * c.parts.self.room + (2 * length (c.parts.self.front ++ c.parts.self.unread) + cond b 1 0) ≤ 3 * c.args.self.now.room + (2 * length (c.args.self.now.front ++ c.args.self.now.unread) + cond c.args.self.now.short 1 0)) c.if-self-2.false c.parts.invariant.fewer in
    omega (
      arith,
      before,
      some,
      none,
      part_less c.parts.self.unread c.parts.self.front c.take_part.new.unread c.take_part.new.line takes,
      length-append c.take_part.new.line c.take_part.new.unread,
      length-append c.give-then-count-eq0.new.self.front c.give-then-count-eq0.new.self.unread,
      ap length c.give-then-count-eq0.ensures.front,
      c.give-then-count-eq0.ensures.room,
      c.in-Ok.ensures.room,
      bit c.give-then-count-eq0.new.self.short,
    )
