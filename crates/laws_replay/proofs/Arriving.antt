-- A reachable BFR-id arrives exactly once while views agree.
use Rattle.std.proofs.Common.{ℕ, List, ◌∷◌, ◌++◌, take, sym, subst}
use Rattle.wire_base.specs.model.Configuration.{DomainConf, IsValid}
use Rattle.wire_base.specs.model.Control.{Control}
use Rattle.replay_text.specs.declared.event.Event.{Event}
use Rattle.domain_model.specs.World.{first_world}
use Rattle.domain_model.specs.Run.{Run, run_of}
use Rattle.laws_ledger.specs.Ledger.{Injection}
use Rattle.laws_ledger.specs.Runs.{AreAllowed, unlined}
use Rattle.laws_course.specs.Course.{KeptFor, IsCarriedIn}
use Rattle.laws_course.proofs.OnceLaws.{carried_once, carried_in, whole_run, run_drops_none, run_has_one, run_delivers}
use Rattle.laws_replay.specs.Once.{IsUndisturbed, ArrivesOnce, ArriveOnce}
use Rattle.laws_replay.proofs.Reached.{IsReached}
use Rattle.laws_replay.proofs.MomentLaws.{first_allowed}

module _ (d : DomainConf) (valid : IsValid d) (before : List (ℕ × Event)) (e : ℕ × Event) (after : List (ℕ × Event)) (c : Control) (n k : ℕ) (i : Injection)
    (allowed : AreAllowed (first_world d) (unlined (before ++ e ∷ after))) (is : IsUndisturbed d before e after c n k i) where
  carried : IsCarriedIn d before e after c n k i
  carried = record {
    valid = valid;
    allowed = allowed;
    enters = is.enters;
    names = is.names;
    ingress = is.ingress;
    covered = record { reachable = is.reachable; covers = is.covers };
    steady = is.steady;
  }

  on_course : KeptFor (run_of d (before ++ e ∷ after)).world c n k
  on_course =
      let o = carried_once (run_of d before) e after c n k i (carried_in d before e after c n k i carried) in
      subst (λ (q : Run). KeptFor q.world c n k) (sym (whole_run d before e after c n k i carried)) o.kept

  pub arrives : ArrivesOnce (run_of d (before ++ e ∷ after)) c n k
  arrives = record {
    kept = run_drops_none d before e after c n k i carried;
    once = run_has_one d before e after c n k i carried;
    course = on_course;
    delivered = run_delivers d before e after c n k i carried;
  }

pub arrive_once : (d : DomainConf) → IsValid d → (r : Run) → IsReached d r → ArriveOnce d r
arrive_once d valid r is j before e after c n k i split undisturbed =
    let first : AreAllowed (first_world d) (unlined (take j r.events)) = first_allowed d j r.events is.allowed in
    subst (λ (es : List (ℕ × Event)). ArrivesOnce (run_of d es) c n k) (sym split)
    (arrives d valid before e after c n k i (subst (λ (es : List (ℕ × Event)). AreAllowed (first_world d) (unlined es)) split first) undisturbed)
