use Rattle.std.proofs.Common.{◌∙◌, Ok, ap, arith}
use Rattle.std.proofs.lemmas.Result.{err_from_is_err_and}
use Rattle.link_frame.proofs.Stacks.{ends, bottom, more, full, rest_after}
use Rattle.link_frame.specs.Stacks.{entries}
use Rattle.link_frame.proofs.labels.stack_of.Goals as goal

pub returns-in_err-word : goal.returns-in_err-word
returns-in_err-word c =
    let p = err_from_is_err_and c.from_residual.result c.from_residual.ensures.1 in
    rw (p.1, p.2) (record { exact = ends c.entry.labels.items c.entry.rest.now c.args.bytes.now c.in_err-word.field-0.0 (omega (arith, c.entry-test.true, c.len.ensures)) c.entry.invariant.read c.in_err-word.ensures })

pub returns-then-word-eq1 : goal.returns-then-word-eq1
returns-then-word-eq1 c =
    let rest = rest_after c.args.bytes.now c.entry.rest.now c.in_ok-word.after.now c.entry.labels.items c.push.new.self.items c.label_from.result c.in_ok-word.word c.entry.invariant.rest c.in_ok-word.ensures c.push.ensures.items in
    record {
      exact = bottom c.entry.labels.items c.push.new.self.items c.label_from.result c.in_ok-word.word c.entry.rest.now c.in_ok-word.after.now c.args.bytes.now (omega (arith, c.entry-test.true, c.len.ensures)) c.entry.invariant.read c.in_ok-word.ensures c.label_from.ensures c.push.ensures.items c.if-word-eq1.true
          ∙ ap (λ l. Ok (entries c.push.new.self.items, l)) rest;
    }

pub entry-preserved : goal.entry-preserved
entry-preserved c = record {
  rest = rest_after c.args.bytes.now c.entry.rest.now c.in_ok-word.after.now c.entry.labels.items c.push.new.self.items c.label_from.result c.in_ok-word.word c.entry.invariant.rest c.in_ok-word.ensures c.push.ensures.items;
  read = more c.entry.labels.items c.push.new.self.items c.label_from.result c.in_ok-word.word c.entry.rest.now c.in_ok-word.after.now c.args.bytes.now (omega (arith, c.entry-test.true, c.len.ensures)) c.entry.invariant.read c.in_ok-word.ensures c.label_from.ensures c.push.ensures.items c.if-word-eq1.false;
}

pub returns : goal.returns
returns c = record { exact = full c.entry.labels.items c.entry.rest.now c.args.bytes.now (omega (arith, c.entry-test.false, c.len.ensures)) c.entry.invariant.read }
