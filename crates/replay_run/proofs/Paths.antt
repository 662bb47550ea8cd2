-- The verdict on files at the paths that a command line gives.
use Rattle.std.proofs.Common.{◌≡◌, ℕ, List, [], Option, Some, None, subst}
use Rattle.std.specs.Prelude.{IfSome}
use Rattle.std.specs.Borrow.{Bor}
use Rattle.command_line.specs.CommandLine.{CommandLine, Replay, Node, Hop, Headers, Grow, Topo, Unknown}
use Rattle.command_line.specs.Form as form
use Rattle.command_line.specs.Words.{form_of, router_of}
use Rattle.tool_host.specs.Named.{AreNamed, conf_path, input_path}
use Rattle.tool_host.specs.declared.objects.Objects.{Objects}
use Rattle.command_drive.specs.Answer.{Verdict}
use Rattle.replay_run.specs.Verdict.{verdict}
use Rattle.replay_run.specs.Ran.{held}

pub at_paths : (at : List ℕ → Option (List ℕ)) (line : CommandLine) (conf input : List ℕ) (Holds : Verdict → Type 0)
    → IfSome (conf_path line) (λ path. conf ≡ path) → IfSome (input_path line) (λ path. input ≡ path)
    → IfSome (verdict (form_of line) (router_of line) (at conf) (at input)) Holds
    → IfSome (verdict (form_of line) (router_of line) (held at (conf_path line)) (held at (input_path line))) Holds
unfolding verdict
at_paths at (Replay format conf schedule frames) c i Holds is_conf is_input holds =
    subst (λ (p : List ℕ). IfSome (verdict (form.Replay format) [] (at p) (at schedule)) Holds) is_conf
    (subst (λ (p : List ℕ). IfSome (verdict (form.Replay format) [] (at c) (at p)) Holds) is_input holds)
at_paths at (Node conf router capture frames) c i Holds is_conf is_input holds =
    subst (λ (p : List ℕ). IfSome (verdict form.Node router (at p) (at capture)) Holds) is_conf
    (subst (λ (p : List ℕ). IfSome (verdict form.Node router (at c) (at p)) Holds) is_input holds)
at_paths at (Hop input) c i Holds is_conf is_input holds = subst (λ (p : List ℕ). IfSome (verdict form.Hop [] None (at p)) Holds) is_input holds
at_paths at (Headers capture) c i Holds is_conf is_input holds = subst (λ (p : List ℕ). IfSome (verdict form.Headers [] None (at p)) Holds) is_input holds
at_paths at (Topo capture level mt from) c i Holds is_conf is_input holds = subst (λ (p : List ℕ). IfSome (verdict (form.Topo level mt from) [] None (at p)) Holds) is_input holds
at_paths at (Grow routers) c i Holds is_conf is_input holds = holds
at_paths at Unknown c i Holds is_conf is_input holds = holds

-- what follows from what holds of a verdict holds of it
pub follows : {V : Type 0} (some : Option V) (P Q : V → Type 0) → ((v : V) → P v → Q v) → IfSome some P → IfSome some Q
follows None P Q all holds = tt
follows (Some v) P Q all holds = all v holds

-- where both are files of that file system, and named by that command line, whose arguments are known
pub of_named : {F D : Type 0} (at : F → List ℕ → Option (List ℕ)) (files : Bor F) (line meant : CommandLine) (objects : Objects F D) (Holds Said : Verdict → Type 0)
    → meant ≡ line → AreNamed meant objects → objects.conf.files ≡ files → objects.input.files ≡ files → ((v : Verdict) → Holds v → Said v)
    → IfSome (verdict (form_of line) (router_of line) (at objects.conf.files.now objects.conf.path.now) (at objects.input.files.now objects.input.path.now)) Holds
    → IfSome (verdict (form_of line) (router_of line) (held (at files.now) (conf_path line)) (held (at files.now) (input_path line))) Said
of_named {F} at files line meant objects Holds Said means named conf input all holds =
    let are = subst (λ (l : CommandLine). AreNamed l objects) means named in
    follows _ Holds Said all
    (at_paths (at files.now) line objects.conf.path.now objects.input.path.now Holds are.conf are.input
    (subst (λ (f : Bor F). IfSome (verdict (form_of line) (router_of line) (at files.now objects.conf.path.now) (at f.now objects.input.path.now)) Holds) input
    (subst (λ (f : Bor F). IfSome (verdict (form_of line) (router_of line) (at f.now objects.conf.path.now) (at objects.input.files.now objects.input.path.now)) Holds) conf holds)))
