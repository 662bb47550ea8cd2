-- What `node` did is what a run owes.
use Rattle.std.proofs.Common.{◌≡◌, ℕ, List, [], Option, Some, None, Result, refl, subst, ◌∙◌, inl, inr}
use Rattle.std.specs.Prelude.{IfSome, ◌⊎◌}
use Rattle.std.specs.Io.KnownBytes.{Appends}
use Rattle.wire_base.specs.declared.conf.RouterConf.{RouterConf}
use Rattle.wire_base.specs.declared.status.Status.{Status}
use Rattle.wire_base.specs.declared.status.Status.TheVariants.{ConfRefused, WriteFault, Memory}
use Rattle.wire_base.specs.model.Configuration.{DomainConf}
use Rattle.domain_conf.specs.declared.fault.ConfFault.{ConfFault}
use Rattle.command_line.specs.Form.{Form, Node}
use Rattle.replay_run.specs.Endings.{DoneOrMemory}
use Rattle.command_node.specs.DomainFile.{Says, IsRefused}
use Rattle.replay_run.specs.Judged.{OnHeld}
use Rattle.command_node.specs.Routers.{router_named, HasRouter}
use Rattle.replay_run.specs.Verdict.{verdict, node_on}
use Rattle.command_node.specs.Named.{node_by}
use Rattle.command_drive.specs.Answer.{Verdict, IsDecided}
use Rattle.command_node.specs.NodeRun.{node_answer, IsReplayable}
use Rattle.command_drive.specs.Outside.{Held, Meets, AppendsFront}
use Rattle.command_node.proofs.NodeDone.{node_done}
use Rattle.replay_run.proofs.Owed.{told, in_form}
use Rattle.command_node.proofs.Told.{nothing_more, no_front, held_some, ended_so}
use Rattle.replay_run.proofs.Replays.{any_holds}

-- ---- the verdict on the domain file

-- where it says a domain, the verdict is that on the router
pub ran : (router : List ℕ) (conf left : Option (List ℕ)) (d : DomainConf) (Holds : Verdict → Type 0) → Says conf d
    → ((octets : List ℕ) × Held left octets × IfSome (node_by (router_named d router) (Some octets)) Holds) → OnHeld Node router conf left Holds
unfolding verdict
ran router conf left d Holds says answer = (says.0, answer.0, says.1, answer.1, rw says.2 answer.2)

-- where it breaks a rule, that says so
pub refused_meets : (router : List ℕ) (conf left before now frames : Option (List ℕ)) (result : Status) (line : List ℕ) → IsRefused conf line → IsDecided result → (result ≡ ConfRefused) ⊎ (result ≡ WriteFault) → Appends before now line
    → OnHeld Node router conf left (λ owed. Meets owed result before now frames frames)
unfolding verdict
refused_meets router conf left before now frames result line (file, of_conf, (why, breaks, is)) decided ended written =
    let octets = held_some left in (
      file,
      octets.0,
      of_conf,
      octets.1,
      rw breaks (record { status = ended_so ConfRefused result decided ended; report = rw (← is) written; frames = nothing_more frames }),
    )

pub refused_front : (router : List ℕ) (conf left before now frames : Option (List ℕ)) (line : List ℕ) → IsRefused conf line → AppendsFront before now line
    → OnHeld Node router conf left (λ owed. AppendsFront before now owed.report × AppendsFront frames frames owed.frames)
unfolding verdict
refused_front router conf left before now frames line (file, of_conf, (why, breaks, is)) front =
    let octets = held_some left in
    (file, octets.0, of_conf, octets.1, rw breaks (rw (← is) front, no_front frames []))

-- before anything is written, fronts are
pub still_front : (router : List ℕ) (conf left report frames : Option (List ℕ)) → OnHeld Node router conf left (λ owed. AppendsFront report report owed.report × AppendsFront frames frames owed.frames)
still_front router conf left report frames =
    let file = held_some conf in
    let octets = held_some left in (
      file.0,
      octets.0,
      file.1,
      octets.1,
      any_holds (verdict Node router (Some file.0) (Some octets.0)) (λ owed. AppendsFront report report owed.report × AppendsFront frames frames owed.frames)
          (λ v. (no_front report v.report, no_front frames v.frames)),
    )

-- words of that form, whose word for a router is that one
pub in_node : (form : Form) (word router : List ℕ) (conf left : Option (List ℕ)) (Holds : Verdict → Type 0) → form ≡ Node → word ≡ router → OnHeld Node word conf left Holds → OnHeld form router conf left Holds
in_node form word router conf left Holds is same holds =
    in_form form Node router conf left Holds is (subst (λ (w : List ℕ). OnHeld Node w conf left Holds) same holds)

-- ---- completeness

pub node_run_done : (word router : List ℕ) (conf left before now frames frames_now : Option (List ℕ)) (result : Status) (Quiet : Type 0) → word ≡ router
    → (Quiet → IsDecided result ⊎ (result ≡ Memory))
    → (IsDecided result → OnHeld Node word conf left (λ owed. Meets owed result before now frames frames_now))
    → IfSome conf (λ file. IfSome left (λ octets. HasRouter file router → IsReplayable octets → Quiet → DoneOrMemory result))
unfolding verdict
node_run_done word router None left before now frames frames_now result Quiet same decided answer = tt
node_run_done word router (Some file) None before now frames frames_now result Quiet same decided answer = tt
node_run_done word router (Some file) (Some octets) before now frames frames_now result Quiet same decided answer = λ has is quiet. elim (decided quiet) [
  | inr memory ↦ inr memory
  | inl known ↦
      let met = told Node router (Some file) (Some octets) (λ owed. Meets owed result before now frames frames_now)
      (in_node Node word router (Some file) (Some octets) (λ owed. Meets owed result before now frames frames_now) refl same (answer known)) in
      let of_domain : IfSome (node_by (router_named has.domain router) (Some octets)) (λ owed. Meets owed result before now frames frames_now) =
      subst (λ (read : Result DomainConf ConfFault). IfSome (node_on read router (Some octets)) (λ owed. Meets owed result before now frames frames_now)) has.says met in
      let ran : Meets (node_answer has.own octets) result before now frames frames_now =
      subst (λ (o : Option RouterConf). IfSome (node_by o (Some octets)) (λ owed. Meets owed result before now frames frames_now)) has.named of_domain in
      inl (ran.status ∙ node_done has.own octets is)
]
