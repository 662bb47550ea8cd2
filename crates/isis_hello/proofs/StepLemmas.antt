-- What is known of an event that is allowed.
use Rattle.std.proofs.Common.{◌≡◌, ℕ, suc, ◌+◌, ◌<◌, Bool, true, false, List, [], ◌∷◌, slice_get, Option, Some, None, Result, Ok, Err, refl, sym, ap, subst, ◌∙◌, arith, inl, inr}
use Rattle.std.proofs.lemmas.Bool.{leb-false}
use Rattle.std.proofs.lemmas.Option.{none-some, same_Some}
use Rattle.std.specs.Prelude.{IfOk, is_none, option_map}
use Rattle.wire_base.specs.declared.addresses.SystemId.{SystemId}
use Rattle.wire_base.specs.declared.conf.End.{End}
use Rattle.wire_base.specs.declared.conf.RouterConf.{RouterConf}
use Rattle.wire_base.specs.model.Choice.{end_toward, is_system}
use Rattle.wire_base.specs.declared.hello_event.HelloEvent.{HelloEvent}
use Rattle.wire_base.specs.declared.hello_event.HelloEvent.TheVariants as events
use Rattle.isis_hello.specs.declared.event.HelloOut.{HelloOut}
use Rattle.isis_hello.specs.declared.fault.CircuitFault.{CircuitFault}
use Rattle.isis_hello.specs.declared.fault.CircuitFault.TheVariants as faults
use Rattle.isis_hello.specs.Circuits.{CircuitsState, circuit_at, end_between, hello_of, link_between}
use Rattle.isis_hello.specs.Events.{Did, IsSent, IsSentOn, first_fault, rule_fault, circuit_fault, hello_frame, sends, sends_from, sends_on}
use Rattle.laws_format.proofs.PduLaws.{chosen}

-- a reason that does not apply
first_none : (b : Bool) (reason : CircuitFault) (next : Option CircuitFault) → first_fault b reason next ≡ None → (b ≡ false) × (next ≡ None)
first_none true reason next e = absurd cc
first_none false reason next e = (refl, e)

pub few_events : (s : CircuitsState) (e : HelloEvent) → circuit_fault s e ≡ None → s.events < 16000000
unfolding circuit_fault
few_events s e is = leb-false _ _ (first_none _ faults.Events (rule_fault s e) is).0

-- ---- an interface that leads to a router is there

some_more : (m : Option ℕ) (k : ℕ) → option_map (λ n. n + 1) m ≡ Some k → (j : ℕ) × (m ≡ Some j) × (k ≡ suc j)
some_more None k e = absurd (none-some k e)
some_more (Some j) k e = let n = same_Some (j + 1) k e in (j, refl, omega (arith, n))

pub record EndThere (ends : List End) (s : SystemId) (k : ℕ) : Type 0 where
  pub e : End
  pub at : slice_get ends k ≡ Some e
  pub leads : is_system e.peer s ≡ true

there_first : (x : End) (xs : List End) (s : SystemId) (k : ℕ) → is_system x.peer s ≡ true → 0 ≡ k → EndThere (x ∷ xs) s k
there_first x xs s k is same = record { e = x; at = ap (slice_get (x ∷ xs)) (sym same); leads = is }

there_next : (x : End) (xs : List End) (s : SystemId) (j k : ℕ) → k ≡ suc j → EndThere xs s j → EndThere (x ∷ xs) s k
there_next x xs s j k same more = record { e = more.e; at = ap (slice_get (x ∷ xs)) same ∙ more.at; leads = more.leads }

pub end_there : (ends : List End) (s : SystemId) (k : ℕ) → end_toward ends s ≡ Some k → EndThere ends s k
end_there [] s k e = absurd (none-some k e)
end_there (x ∷ xs) s k e =
    elim (chosen (is_system x.peer s) _ _ (Some k) e) [
      | inl is ↦ there_first x xs s k is.0 (same_Some 0 k is.1)
      | inr other ↦ let m = some_more (end_toward xs s) k other.1 in there_next x xs s m.0 k m.2 (end_there xs s m.0 m.1)
    ]

-- the router and the interface that a link leaves, and the router that it leads to
pub record LinkThere (near far : Option RouterConf) (link : ℕ) : Type 0 where
  pub r : RouterConf
  pub q : RouterConf
  pub near_is : near ≡ Some r
  pub far_is : far ≡ Some q
  pub there : EndThere r.ends q.system link

pub link_there : (near far : Option RouterConf) (link : ℕ) → end_between near far ≡ Some link → LinkThere near far link
link_there None far link e = absurd (none-some link e)
link_there (Some r) None link e = absurd (none-some link e)
link_there (Some r) (Some q) link e = record { r = r; q = q; near_is = refl; far_is = refl; there = end_there r.ends q.system link e }

-- ---- an allowed hello is sent

some_there : (o : Option ℕ) → is_none o ≡ false → (k : ℕ) × (o ≡ Some k)
some_there None e = absurd cc
some_there (Some k) e = (k, refl)

sends_some : (s : CircuitsState) (a b link : ℕ) → link_between s.domain.routers a b ≡ Some link → (frame : List ℕ) × ((sends s a (link_between s.domain.routers a b)).out.sent ≡ Some frame)
sends_some s a b link joined =
    let l = link_there (slice_get s.domain.routers a) (slice_get s.domain.routers b) link joined in
    let h = hello_of l.r.system link l.there.e.peer (circuit_at s.circuits a link).adjacency in (
      hello_frame l.r l.there.e h,
      ap (λ (o : Option ℕ). (sends s a o).out.sent) joined
          ∙ ap (λ (o : Option RouterConf). (sends_from s a link o).out.sent) l.near_is
          ∙ ap (λ (o : Option End). (sends_on s a link l.r o).out.sent) l.there.at,
    )

is_sent : (old new : CircuitsState) (a b : ℕ) (sent : Option (List ℕ)) (frame : List ℕ) → sent ≡ Some frame → IsSentOn old new a (link_between old.domain.routers a b) sent → IsSent old new (events.Hello a b) sent
is_sent old new a b None frame e on = absurd (none-some frame e)
is_sent old new a b (Some x) frame e on = on

pub sent_from : {E : Type 0} (old new : CircuitsState) (a b : ℕ) (r : Result HelloOut E) → circuit_fault old (events.Hello a b) ≡ None
    → IfOk r (λ out. Did (sends old a (link_between old.domain.routers a b)) out new)
    → IfOk r (λ out. IsSentOn old new a (link_between old.domain.routers a b) out.sent)
    → IfOk r (λ out. IsSent old new (events.Hello a b) out.sent)
unfolding circuit_fault
sent_from old new a b (Ok out) allowed did on =
    let rule = first_none _ faults.Events (rule_fault old (events.Hello a b)) allowed in
    let joined = first_none (is_none (link_between old.domain.routers a b)) faults.NoLink _ rule.1 in
    let link = some_there (link_between old.domain.routers a b) joined.0 in
    let frame = sends_some old a b link.0 link.1 in
    is_sent old new a b out.sent frame.0 (ap (λ (o : HelloOut). o.sent) did.reported ∙ frame.1) on
sent_from old new a b (Err f) allowed did on = tt

pub sent_of : {E : Type 0} (old new : CircuitsState) (e : HelloEvent) (a b : ℕ) (r : Result HelloOut E) → e ≡ events.Hello a b → circuit_fault old e ≡ None
    → IfOk r (λ out. Did (sends old a (link_between old.domain.routers a b)) out new)
    → IfOk r (λ out. IsSentOn old new a (link_between old.domain.routers a b) out.sent)
    → IfOk r (λ out. IsSent old new e out.sent)
sent_of old new e a b r is allowed did on =
    subst (λ (x : HelloEvent). IfOk r (λ out. IsSent old new x out.sent)) (sym is) (sent_from old new a b r (subst (λ (x : HelloEvent). circuit_fault old x ≡ None) is allowed) did on)
