-- A line `settle` after which a domain is quiet.
use Rattle.std.specs.Prelude.{◌≡◌, ℕ, ◌<◌, ◌+◌, ◌≤◌, ◌⊎◌, ◌++◌, ◌∷◌, [], List, length, slice_get, Some, None}
use Rattle.wire_base.specs.model.Configuration.{DomainConf}
use Rattle.wire_base.specs.model.Control.{Control}
use Rattle.wire_base.specs.model.View.{control_view}
use Rattle.domain_model.specs.World.{WorldState, first_world}
use Rattle.laws_ledger.specs.Runs.{unlined}
use Rattle.laws_course.specs.Course.{Agreed, own_node}
use Rattle.laws_quiet.specs.Quiet.{IsQuiet}
use Rattle.laws_settle.specs.Fresh.{HasWholeLinks}
use Rattle.laws_settle.specs.Gentle.{AreGentle}
use Rattle.laws_settle.specs.Width.{HasWidth}
use Rattle.domain_replay.specs.Texts.{Reached}

-- So many rounds are enough in the world w: as many as the domain has routers, less one, or as it is wide, in links that are up.
abbrev pub AreEnough : DomainConf → WorldState → ℕ → Type 0
AreEnough d w rounds = (length d.routers ≤ rounds + 1) ⊎ HasWidth w rounds

-- A line that follows others has that many rounds, which are enough. No line is rejected. Before it no router has restarted and no LSP's
-- Remaining Lifetime has ended; and the two interfaces of each link are both up or both down. `reach` is how far lines are executed.
pub record IsSettling (d : DomainConf) (reach : List (List ℕ) → Reached) (before : List (List ℕ)) (text : List ℕ) (rounds : ℕ) : Type 0 where
  pub runs : (reach before).refused ≡ None
  pub done : (reach (before ++ text ∷ [])).refused ≡ None
  pub gentle : AreGentle (first_world d) (unlined (reach before).run.events)
  pub whole : HasWholeLinks (reach before).run.world
  pub enough : AreEnough d (reach before).run.world rounds

-- There are three rounds more than enough, after at least one.
pub record HasMore (d : DomainConf) (w : WorldState) (rounds : ℕ) : Type 0 where
  pub first : ℕ
  pub some : 0 < first
  pub is : rounds ≡ first + 3
  pub enough : AreEnough d w first

-- The domain is quiet, and each router to which a path of a router's topology leads has the same topology.
pub record HasSettled (w : WorldState) : Type 0 where
  pub quiet : IsQuiet w
  pub agreed : (a : ℕ) (c : Control) → slice_get w.routers a ≡ Some c → Agreed w (control_view c) (own_node c)
