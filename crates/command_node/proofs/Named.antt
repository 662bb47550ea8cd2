-- The router of a name, and what `node` owes on it.
use Rattle.std.proofs.Common.{◌≡◌, ℕ, ◌<◌, Bool, true, false, cond, nat_lt, List, [], length, Option, Some, None, refl, sym, ap, subst, ◌∙◌, arith, inl, inr}
use Rattle.std.specs.Prelude.{IfSome, slice_get, ◌⊎◌}
use Rattle.std.specs.List.{find, position, position_or_len}
use Rattle.std.specs.Io.KnownBytes.{Appends}
use Rattle.std.proofs.lemmas.Bool.{ltb-false}
use Rattle.std.proofs.lemmas.List.Folds.{find_at}
use Rattle.std.proofs.lemmas.Option.{slice_get_past, slice_get_cases}
use Rattle.wire_base.specs.declared.conf.RouterConf.{RouterConf}
use Rattle.wire_base.specs.declared.status.Status.{Status}
use Rattle.wire_base.specs.declared.status.Status.TheVariants.{ConfRefused, WriteFault}
use Rattle.wire_base.specs.model.Configuration.{DomainConf}
use Rattle.command_node.specs.Named.{node_by}
use Rattle.command_node.specs.Routers.{has_name, router_named, no_router_text}
use Rattle.command_drive.specs.Answer.{Verdict, IsDecided}
use Rattle.command_node.specs.NodeRun.{node_answer}
use Rattle.command_drive.specs.Outside.{Held, Meets, AppendsFront}
use Rattle.command_node.proofs.Told.{nothing_more, no_front, held_some, ended_so}

-- ---- the router of a name

-- it stands at the first place of that name
at_place : {A : Type 0} (p : A → Bool) (xs : List A) (place : ℕ) → position p xs ≡ Some place → slice_get xs place ≡ find p xs
at_place p xs place is =
    ap (slice_get xs) (sym (first_is (nat_lt (position_or_len p xs) (length xs)) (position_or_len p xs) is)) ∙ sym (find_at p xs)
  where
    first_is : (b : Bool) (m : ℕ) → cond b (Some m) None ≡ Some place → m ≡ place
    first_is true m e = cc
    first_is false m e = absurd cc

no_place : {A : Type 0} (p : A → Bool) (xs : List A) → position p xs ≡ None → find p xs ≡ None
no_place p xs is =
    find_at p xs ∙ slice_get_past xs (position_or_len p xs) (ltb-false _ _ (none_is (nat_lt (position_or_len p xs) (length xs)) (position_or_len p xs) is))
  where
    none_is : (b : Bool) (m : ℕ) → cond b (Some m) None ≡ None → b ≡ false
    none_is true m e = absurd cc
    none_is false m e = refl

-- what holds of the router at that place holds of the one that is named
pub named_so : (d : DomainConf) (word : List ℕ) (place : ℕ) (P : RouterConf → Type 0) → position (has_name word) d.routers ≡ Some place → place < length d.routers → IfSome (slice_get d.routers place) P
    → (own : RouterConf) × (router_named d word ≡ Some own) × P own
unfolding router_named
named_so d word place P is within holds = by (slice_get d.routers place) refl holds
  where
    by : (o : Option RouterConf) → slice_get d.routers place ≡ o → IfSome o P → (own : RouterConf) × (find (has_name word) d.routers ≡ Some own) × P own
    by (Some own) e holds = (own, sym (at_place (has_name word) d.routers place is) ∙ e, holds)
    by None e holds = elim (slice_get_cases d.routers place).1 [
      | inl some ↦ absurd (apart (sym e ∙ some.2))
      | inr past ↦ absurd (omega (arith, within, past.0))
    ]
      where
        apart : {own : RouterConf} → None ≡ Some own → ⊥
        apart e = cc

-- there is one
pub some_named : (d : DomainConf) (word : List ℕ) (place : ℕ) → position (has_name word) d.routers ≡ Some place → place < length d.routers → (own : RouterConf) × (router_named d word ≡ Some own)
some_named d word place is within =
    let named = named_so d word place (λ own. Unit {0}) is within (nothing_asked (slice_get d.routers place)) in
    (named.0, named.1)
  where
    nothing_asked : (o : Option RouterConf) → IfSome o (λ own. Unit {0})
    nothing_asked None = tt
    nothing_asked (Some own) = tt

pub none_named : (d : DomainConf) (word : List ℕ) → position (has_name word) d.routers ≡ None → router_named d word ≡ None
unfolding router_named
none_named d word is = no_place (has_name word) d.routers is

-- ---- the verdict on it

-- where there is one, the verdict is the capture's
pub answers_so : (d : DomainConf) (word : List ℕ) (own : RouterConf) (left : Option (List ℕ)) (Holds : Verdict → Type 0) → router_named d word ≡ Some own → (octets : List ℕ) × Held left octets × Holds (node_answer own octets)
    → (octets : List ℕ) × Held left octets × IfSome (node_by (router_named d word) (Some octets)) Holds
answers_so d word own left Holds is answer = (answer.0, answer.1, subst (λ (o : Option RouterConf). IfSome (node_by o (Some answer.0)) Holds) (sym is) answer.2)

-- where there is none, that says so
pub none_so : (d : DomainConf) (word : List ℕ) (left : Option (List ℕ)) (Holds : Verdict → Type 0) → position (has_name word) d.routers ≡ None
    → Holds (record { status = ConfRefused; report = no_router_text; frames = [] })
    → (octets : List ℕ) × Held left octets × IfSome (node_by (router_named d word) (Some octets)) Holds
none_so d word left Holds is holds =
    let octets = held_some left in
    (octets.0, octets.1, subst (λ (o : Option RouterConf). IfSome (node_by o (Some octets.0)) Holds) (sym (none_named d word is)) holds)

pub none_meets : (d : DomainConf) (word : List ℕ) (left before now frames : Option (List ℕ)) (result : Status) → position (has_name word) d.routers ≡ None
    → IsDecided result → (result ≡ ConfRefused) ⊎ (result ≡ WriteFault) → Appends before now no_router_text
    → (octets : List ℕ) × Held left octets × IfSome (node_by (router_named d word) (Some octets)) (λ owed. Meets owed result before now frames frames)
none_meets d word left before now frames result is decided ended written =
    none_so d word left (λ owed. Meets owed result before now frames frames) is
    (record { status = ended_so ConfRefused result decided ended; report = written; frames = nothing_more frames })

pub none_front : (d : DomainConf) (word : List ℕ) (left before now frames : Option (List ℕ)) → position (has_name word) d.routers ≡ None → AppendsFront before now no_router_text
    → (octets : List ℕ) × Held left octets × IfSome (node_by (router_named d word) (Some octets)) (λ owed. AppendsFront before now owed.report × AppendsFront frames frames owed.frames)
none_front d word left before now frames is front =
    none_so d word left (λ owed. AppendsFront before now owed.report × AppendsFront frames frames owed.frames) is (front, no_front frames [])
