-- A run of allowed events keeps all that is promised of runs.
use Rattle.std.proofs.Common.{take}
use Rattle.wire_base.specs.model.Configuration.{DomainConf, IsValid}
use Rattle.domain_model.specs.Run.{Run}
use Rattle.laws_ledger.proofs.DeliveryLaws.{one_delivery, delivers_named, once_at}
use Rattle.laws_replay.specs.Promises.{KeepsPromises}
use Rattle.laws_replay.proofs.Reached.{IsReached}
use Rattle.laws_replay.proofs.MomentLaws.{first_allowed, ledger_throughout, run_is_accounted}
use Rattle.laws_replay.proofs.ReportLaws.{run_is_reported}
use Rattle.laws_replay.proofs.Arriving.{arrive_once}
use Rattle.laws_replay.proofs.Ending.{true_after, takes_end_copies}

pub keeps_promises : (d : DomainConf) → IsValid d → (r : Run) → IsReached d r → KeepsPromises d r
keeps_promises d valid r is =
    let accounts = run_is_accounted d valid r is in
    record {
      valid = valid;
      truthful = λ j. true_after d valid (take j r.events) (first_allowed d j r.events is.allowed);
      ledger = ledger_throughout d valid r is;
      reported = run_is_reported d valid r is;
      delivered_once = record { egress = λ a n. once_at r a n accounts; id = λ n k. one_delivery r n k accounts; named = delivers_named r accounts };
      takes_end = takes_end_copies d valid r is;
      exactly_once = arrive_once d valid r is;
    }
