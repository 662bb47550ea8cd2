use Rattle.command_line.specs.Words.{command_line_in}
use Rattle.replay_run.proofs.Paths.{of_named}
use Rattle.replay_run.proofs.Causes.{read_from, written_to}
use Rattle.replay_run.proofs.arguments.run_words.Goals as goal

pub returns : goal.returns
returns g c = record {
  verdict = λ decided.
      of_named g.F.FileSystem.at c.args.files (command_line_in c.args.words.now) _ c.named-objects.result _ _ c.parse.ensures.value c.named-objects.ensures.named c.named-objects.ensures.conf_files c.named-objects.ensures.input_files
      (λ owed met. (met.status, met.report)) (c.run_over.ensures.verdict decided);
  statuses = c.run_over.ensures.statuses;
  read = read_from _ _ _ _ c.run_over.result _ _ _ _ _ _ _ _ (command_line_in c.args.words.now) c.run_over.ensures.alone c.run_over.ensures.faults;
  write = written_to _ _ _ _ c.run_over.result _ _ _ _ _ _ _ _ (command_line_in c.args.words.now) c.run_over.ensures.alone c.run_over.ensures.faults;
  report_quiet = c.run_over.ensures.faults.report_quiet;
  report_takes = c.run_over.ensures.faults.report_takes;
}
