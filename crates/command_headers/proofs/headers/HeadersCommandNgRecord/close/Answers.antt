use Rattle.std.proofs.Common.{refl, ap}
use Rattle.command_drive.specs.Reading.{Closed}
use Rattle.command_drive.specs.declared.items.Close.TheVariants as closes
use Rattle.command_headers.proofs.Steps.{concludes_ok}
use Rattle.command_headers.proofs.headers.HeadersCommandNgRecord.close.Goals as goal

pub returns-in-Ended-clause-concluded : goal.returns-in-Ended-clause-concluded
returns-in-Ended-clause-concluded c =
    concludes_ok c.push_done.result c.args.self.now.records c.args.self.now.headers (Closed closes.Ended) (Closed c.args.close) c.args.texts.now (record c.args.texts.now { report = c.push_done.new.out }) (ap (λ h. Closed h) c.in-Ended.is) c.push_done.ensures refl

pub returns-in-TooLong-clause-concluded : goal.returns-in-TooLong-clause-concluded
returns-in-TooLong-clause-concluded c =
    concludes_ok c.refuse_length.result c.args.self.now.records c.args.self.now.headers (Closed closes.TooLong) (Closed c.args.close) c.args.texts.now (record c.args.texts.now { report = c.refuse_length.new.out }) (ap (λ h. Closed h) c.in-TooLong.is) c.refuse_length.ensures refl

pub returns-in-Broken-clause-concluded : goal.returns-in-Broken-clause-concluded
returns-in-Broken-clause-concluded c =
    concludes_ok c.refuse_by.result c.args.self.now.records c.args.self.now.headers (Closed (closes.Broken c.in-Broken.why)) (Closed c.args.close) c.args.texts.now (record c.args.texts.now { report = c.refuse_by.new.out }) (ap (λ h. Closed h) c.in-Broken.is) c.refuse_by.ensures refl
