use Rattle.std.proofs.Common.{refl, ap, ◌+◌, ℕ}
use Rattle.command_headers.proofs.Steps.{told_record}
use Rattle.command_headers.proofs.headers.HeadersCommandNgRecord.item.Goals as goal

pub returns-clause-did : goal.returns-clause-did
returns-clause-did c =
    let s = c.args.self.now in
    told_record s.records (s.records + 1) s.headers (s.headers + c.in_ok-found.found) c.args.item.now c.args.texts.now (record c.args.texts.now { report = c.push_record.new.out }) refl
    (ap (λ (m : ℕ). s.headers + m) c.in_ok-found.ensures.count) c.in_ok-found.ensures.text refl
