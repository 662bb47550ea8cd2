-- The changes that an event reports are those of the adjacencies.
use Rattle.std.proofs.Common.{◌≡◌, ℕ, zero, suc, ◌+◌, ◌<◌, ◌⊎◌, Bool, true, false, not, cond, eqb, eq-eqb, List, [], ◌∷◌, ◌++◌, filter, length, map, get_or, set, slice_get, Option, Some, None, option_map, bytes_eq, refl, sym, ap, subst, ◌∙◌, arith, inl, inr}
use mathlib.Core.Bool.{true≢false, false≢true}
use Rattle.std.proofs.lemmas.Bool.{and_parts, eqb-true, eqb-false}
use Rattle.std.proofs.lemmas.List.{length-set, get_or-set_same}
use Rattle.std.proofs.lemmas.Option.{none-some, same_Some}
use Rattle.std.proofs.lemmas.Slice.Eq.{bytes_eq-Decides}
use Rattle.std.specs.List.{AllByRecursion}
use Rattle.wire_base.specs.declared.addresses.SystemId.{SystemId}
use Rattle.wire_base.specs.declared.conf.End.{End}
use Rattle.wire_base.specs.declared.conf.RouterConf.{RouterConf}
use Rattle.wire_base.specs.model.Choice.{end_toward}
use Rattle.wire_base.specs.model.Configuration.{DomainConf, IsValid, IsSound, AreEnds, HaveEnds, Faces, peers_of, same_peer, same_system}
use Rattle.wire_base.specs.model.Lists.{AreApart}
use Rattle.isis_hello.specs.declared.adjacency.Circuit.{Circuit}
use Rattle.isis_hello.specs.declared.adjacency.Turn.{Turn}
use Rattle.isis_hello.specs.declared.adjacency.Turn.TheVariants as turns
use Rattle.isis_hello.specs.declared.event.EndChange.{EndChange}
use Rattle.wire_base.specs.declared.hello_event.HelloEvent.{HelloEvent}
use Rattle.wire_base.specs.declared.hello_event.HelloEvent.TheVariants as events
use Rattle.isis_hello.specs.declared.hello.Hello.{Hello}
use Rattle.isis_hello.specs.Adjacency.{is_up, turned}
use Rattle.isis_hello.specs.Changes.{up_between, is_at, after_change, LeadTo, IsJoined, AreChanges, is_hello}
use Rattle.isis_hello.specs.Circuits.{CircuitsState, first_circuits, place_of, link_between, fresh, broken, fresh_circuits, circuit_at, circuit_over, with_circuit, hellos_at}
use Rattle.isis_hello.specs.Events.{Happened, changed, changed_to, changes_at, doing, sends, sends_from, sends_on, arrives, arrives_over, forgets, replaces_over, turns_at, turned_circuit, heard, happens}
use Rattle.isis_hello.specs.History.{circuits_after, is_pair}
use Rattle.isis_hello.proofs.StepLemmas.{link_there}
use Rattle.isis_hello.proofs.LinkLaws.{only_link, within_list}
use Rattle.isis_hello.proofs.MoveLaws.{fresh_down, turned_at, turned_other, with_at, Replaced}
use Rattle.isis_hello.proofs.QueueLaws.{domain_after, left, pair_is}

-- ---- changes of one adjacency

no_change : (a b : ℕ) (up : Bool) → changed_to a b up up ≡ []
no_change a b true = refl
no_change a b false = refl

picked_here : (a b : ℕ) (old new : Bool) → filter (is_at a b) (changed_to a b old new) ≡ changed_to a b old new
picked_here a b true true = refl
picked_here a b true false = rw (pair_is a b a b refl refl) refl
picked_here a b false true = rw (pair_is a b a b refl refl) refl
picked_here a b false false = refl

picked_other : (a b x y : ℕ) (old new : Bool) → is_pair a b x y ≡ false → filter (is_at a b) (changed_to x y old new) ≡ []
picked_other a b x y true true other = refl
picked_other a b x y true false other = rw other refl
picked_other a b x y false true other = rw other refl
picked_other a b x y false false other = refl

filter_append : {X : Type 0} (test : X → Bool) (xs ys : List X) → filter test (xs ++ ys) ≡ filter test xs ++ filter test ys
filter_append test [] ys = refl
filter_append {X} test (x ∷ xs) ys = by (test x) (filter_append test xs ys)
  where
    by : (b : Bool) → filter test (xs ++ ys) ≡ filter test xs ++ filter test ys → cond b (x ∷ filter test (xs ++ ys)) (filter test (xs ++ ys)) ≡ cond b (x ∷ filter test xs) (filter test xs) ++ filter test ys
    by true more = ap (λ (l : List X). x ∷ l) more
    by false more = more

-- ---- changes that are done one after the other

record FirstIs (c : EndChange) (rest : List EndChange) (old new : Bool) : Type 0 where
  was : old ≡ not c.up
  is : new ≡ c.up
  last : rest ≡ []

tail_of : List EndChange → List EndChange
tail_of [] = []
tail_of (c ∷ cs) = cs

up_of : List EndChange → Bool
up_of [] = false
up_of (c ∷ cs) = c.up

first_is : (a b : ℕ) (c : EndChange) (rest : List EndChange) (old new : Bool) → c ∷ rest ≡ changed_to a b old new → FirstIs c rest old new
unfolding up_of tail_of
first_is a b c rest true true e = absurd cc
first_is a b c rest true false e = let up : c.up ≡ false = ap up_of e in record { was = sym (ap not up); is = sym up; last = ap tail_of e }
first_is a b c rest false true e = let up : c.up ≡ true = ap up_of e in record { was = sym (ap not up); is = sym up; last = ap tail_of e }
first_is a b c rest false false e = absurd cc

stays_so : (a b : ℕ) (old new : Bool) → [] ≡ changed_to a b old new → new ≡ old
stays_so a b true true e = refl
stays_so a b true false e = absurd cc
stays_so a b false true e = absurd cc
stays_so a b false false e = refl

pub leads : (cs : List EndChange) (old new : ℕ → ℕ → Bool) → ((a b : ℕ) → filter (is_at a b) cs ≡ changed_to a b (old a b) (new a b)) → LeadTo old cs new
leads [] old new each = λ a b. stays_so a b (old a b) (new a b) (each a b)
leads (c ∷ cs) old new each = (first.was, leads cs (after_change old c) new (λ a b. next a b (is_at a b c) refl))
  where
    here : c ∷ filter (is_at c.router c.peer) cs ≡ changed_to c.router c.peer (old c.router c.peer) (new c.router c.peer)
    here = ap (λ (b : Bool). cond b (c ∷ filter (is_at c.router c.peer) cs) (filter (is_at c.router c.peer) cs)) (sym (pair_is c.router c.peer c.router c.peer refl refl)) ∙ each c.router c.peer

    first : FirstIs c (filter (is_at c.router c.peer) cs) (old c.router c.peer) (new c.router c.peer)
    first = first_is c.router c.peer c (filter (is_at c.router c.peer) cs) (old c.router c.peer) (new c.router c.peer) here

    next : (a b : ℕ) (at : Bool) → is_at a b c ≡ at → filter (is_at a b) cs ≡ changed_to a b (cond at c.up (old a b)) (new a b)
    next a b false is = ap (λ (t : Bool). cond t (c ∷ filter (is_at a b) cs) (filter (is_at a b) cs)) (sym is) ∙ each a b
    next a b true is =
        let both = and_parts (eqb c.router a) (eqb c.peer b) is in
        let router = eqb-true c.router a both.0 in
        let peer = eqb-true c.peer b both.1 in
        let none : filter (is_at a b) cs ≡ [] = ap (λ (n : ℕ). filter (is_at n b) cs) (sym router) ∙ ap (λ (n : ℕ). filter (is_at c.router n) cs) (sym peer) ∙ first.last in
        let up : new a b ≡ c.up = ap (λ (n : ℕ). new n b) (sym router) ∙ ap (λ (n : ℕ). new c.router n) (sym peer) ∙ first.is in
        none ∙ sym (no_change a b c.up) ∙ ap (λ (n : Bool). changed_to a b c.up n) (sym up)

-- ---- each interface leads to a router of the domain

bytes_from : (xs ys : List ℕ) → xs ≡ ys → bytes_eq xs ys ≡ true
bytes_from xs ys e = (bytes_eq-Decides xs ys).1 e

-- the router at the other end is there
record IsPeered (confs : List RouterConf) (e : End) : Type 0 where
  place : ℕ
  router : RouterConf
  there : slice_get confs place ≡ Some router
  peer : e.peer ≡ router.system

end_peered : (confs : List RouterConf) (r : RouterConf) (e : End) (p : ℕ) → Faces r e (slice_get confs p) → IsPeered confs e
end_peered confs r e p h = by (slice_get confs p) refl h
  where
    by : (o : Option RouterConf) → slice_get confs p ≡ o → Faces r e o → IsPeered confs e
    by None s h = absurd h
    by (Some q) s h = record { place = p; router = q; there = s; peer = h.0 }

ends_peered : (confs : List RouterConf) (r : RouterConf) (ps : List ℕ) (es : List End) → AreEnds confs r ps es → AllByRecursion (IsPeered confs) es
ends_peered confs r [] [] h = tt
ends_peered confs r [] (e ∷ es) h = absurd h
ends_peered confs r (p ∷ ps) [] h = tt
ends_peered confs r (p ∷ ps) (e ∷ es) h = (end_peered confs r e p h.0, ends_peered confs r ps es h.1)

routers_peered : (d : DomainConf) (n : ℕ) (rs : List RouterConf) → HaveEnds d n rs → AllByRecursion (λ r. AllByRecursion (IsPeered d.routers) r.ends) rs
routers_peered d n [] h = tt
routers_peered d n (r ∷ rs) h = (ends_peered d.routers r (peers_of n d.links) r.ends h.0, routers_peered d (n + 1) rs h.1)

each_got : {X : Type 0} (P : X → Type 0) (xs : List X) (i : ℕ) (x : X) → AllByRecursion P xs → slice_get xs i ≡ Some x → P x
each_got P [] i x all at = absurd (none-some x at)
each_got P (y ∷ ys) zero x all at = subst P (same_Some y x at) all.0
each_got P (y ∷ ys) (suc i) x all at = each_got P ys i x all.1 at

-- of interfaces that all lead elsewhere, the one toward a system is the only one
only_toward : (es : List End) → AreApart same_peer es → (s : SystemId) (i : ℕ) (e : End) → slice_get es i ≡ Some e → e.peer ≡ s → end_toward es s ≡ Some i
only_toward [] apart s i e there is = absurd (none-some e there)
only_toward (x ∷ xs) apart s zero e there is =
    ap (λ (b : Bool). cond b (Some 0) (option_map (λ n. n + 1) (end_toward xs s))) (bytes_from x.peer.0 s.0 (ap (λ (y : End). y.peer.0) (same_Some x e there) ∙ ap (λ (y : SystemId). y.0) is))
only_toward (x ∷ xs) apart s (suc i) e there is =
    let k : i + 1 ≡ suc i = omega arith in
    ap (λ (b : Bool). cond b (Some 0) (option_map (λ n. n + 1) (end_toward xs s))) (ap (λ (y : SystemId). bytes_eq x.peer.0 y.0) (sym is) ∙ each_got (λ y. same_peer x y ≡ false) xs i e apart.0 there)
    ∙ ap (option_map (λ n. n + 1)) (only_toward xs apart.1 s i e there is) ∙ ap (λ (n : ℕ). Some n) k

-- the router with a system stands where it is looked for
place_is : (rs : List RouterConf) (i : ℕ) (q : RouterConf) → AreApart same_system rs → slice_get rs i ≡ Some q → place_of rs q.system ≡ i
place_is [] i q apart at = absurd (none-some q at)
place_is (x ∷ xs) zero q apart at = ap (λ (b : Bool). cond b 0 (suc (place_of xs q.system))) (bytes_from x.system.0 q.system.0 (ap (λ (y : RouterConf). y.system.0) (same_Some x q at)))
place_is (x ∷ xs) (suc i) q apart at =
    ap (λ (b : Bool). cond b 0 (suc (place_of xs q.system))) (each_got (λ y. same_system x y ≡ false) xs i q apart.0 at) ∙ ap suc (place_is xs i q apart.1 at)

-- the interface at an index of router a leads to the router that it is looked up as
record LeadsThere (confs : List RouterConf) (a k : ℕ) (e : End) : Type 0 where
  there : place_of confs e.peer < length confs
  back : link_between confs a (place_of confs e.peer) ≡ Some k

leads_there : (d : DomainConf) → IsValid d → (a k : ℕ) (r : RouterConf) (e : End) → slice_get d.routers a ≡ Some r → slice_get r.ends k ≡ Some e → LeadsThere d.routers a k e
leads_there d valid a k r e near at =
    let far = each_got (IsPeered d.routers) r.ends k e (each_got (λ r. AllByRecursion (IsPeered d.routers) r.ends) d.routers a r (routers_peered d 0 d.routers valid.consistent.ends) near) at in
    let place : place_of d.routers e.peer ≡ far.place = ap (place_of d.routers) far.peer ∙ place_is d.routers far.place far.router valid.consistent.systems far.there in
    let apart = (each_got IsSound d.routers a r valid.consistent.sound near).peers in
    record {
      there = subst (λ (n : ℕ). n < length d.routers) (sym place) (within_list d.routers far.place far.router far.there);
      back = ap (link_between d.routers a) place ∙ between_is far.place far.router far.there (only_toward r.ends apart far.router.system k e at far.peer);
    }
  where
    between_is : (b : ℕ) (q : RouterConf) → slice_get d.routers b ≡ Some q → end_toward r.ends q.system ≡ Some k → link_between d.routers a b ≡ Some k
    between_is b q s h = rw (near, s) h

-- ---- the changes of a router whose adjacencies all move

picked_none : (confs : List RouterConf) (x a b : ℕ) (turn : Turn) (es : List End) (cs : List Circuit) → ((j : ℕ) (e : End) → slice_get es j ≡ Some e → is_pair a b x (place_of confs e.peer) ≡ false) → filter (is_at a b) (changes_at confs x turn es cs) ≡ []
picked_none confs x a b turn [] cs off = refl
picked_none confs x a b turn (e ∷ es) [] off = refl
picked_none confs x a b turn (e ∷ es) (c ∷ cs) off =
    filter_append (is_at a b) (changed x (place_of confs e.peer) c.adjacency (turned turn c.adjacency)) (changes_at confs x turn es cs)
    ∙ ap (λ (l : List EndChange). l ++ filter (is_at a b) (changes_at confs x turn es cs)) (picked_other a b x (place_of confs e.peer) (is_up c.adjacency) (is_up (turned turn c.adjacency)) (off 0 e refl))
    ∙ picked_none confs x a b turn es cs (λ j f at. off (suc j) f at)

append_nil : {X : Type 0} (xs : List X) → xs ++ [] ≡ xs
append_nil [] = refl
append_nil {X} (x ∷ xs) = ap (λ (l : List X). x ∷ l) (append_nil xs)

moves_broken : (a b : ℕ) (turn : Turn) → [] ≡ changed a b broken.adjacency (turned turn broken.adjacency)
moves_broken a b turns.Second = refl
moves_broken a b turns.Restart = refl

-- the interface at index k, and it alone, leads to b
picked_one : (confs : List RouterConf) (a b : ℕ) (turn : Turn) (es : List End) (cs : List Circuit) (k : ℕ) (e : End) → slice_get es k ≡ Some e → place_of confs e.peer ≡ b
    → ((j : ℕ) (f : End) → slice_get es j ≡ Some f → (j ≡ k → ⊥) → is_pair a b a (place_of confs f.peer) ≡ false)
    → filter (is_at a b) (changes_at confs a turn es cs) ≡ changed a b (get_or cs k broken).adjacency (turned turn (get_or cs k broken).adjacency)
picked_one confs a b turn [] cs k e at leads off = absurd (none-some e at)
picked_one confs a b turn (x ∷ es) [] k e at leads off = moves_broken a b turn
picked_one confs a b turn (x ∷ es) (c ∷ cs) zero e at leads off =
    let place : place_of confs x.peer ≡ b = ap (λ (y : End). place_of confs y.peer) (same_Some x e at) ∙ leads in
    filter_append (is_at a b) (changed a (place_of confs x.peer) c.adjacency (turned turn c.adjacency)) (changes_at confs a turn es cs)
    ∙ ap (λ (l : List EndChange). filter (is_at a b) (changed a (place_of confs x.peer) c.adjacency (turned turn c.adjacency)) ++ l) (picked_none confs a a b turn es cs (λ j f there. off (suc j) f there (λ same. absurd cc)))
    ∙ append_nil (filter (is_at a b) (changed a (place_of confs x.peer) c.adjacency (turned turn c.adjacency)))
    ∙ ap (λ (n : ℕ). filter (is_at a b) (changed a n c.adjacency (turned turn c.adjacency))) place
    ∙ picked_here a b (is_up c.adjacency) (is_up (turned turn c.adjacency))
picked_one confs a b turn (x ∷ es) (c ∷ cs) (suc k) e at leads off =
    filter_append (is_at a b) (changed a (place_of confs x.peer) c.adjacency (turned turn c.adjacency)) (changes_at confs a turn es cs)
    ∙ ap (λ (l : List EndChange). l ++ filter (is_at a b) (changes_at confs a turn es cs)) (picked_other a b a (place_of confs x.peer) (is_up c.adjacency) (is_up (turned turn c.adjacency)) (off 0 x refl (λ same. absurd cc)))
    ∙ picked_one confs a b turn es cs k e at leads (λ j f there other. off (suc j) f there (λ same. other (suc_same j k same)))
  where
    suc_same : (i j : ℕ) → suc i ≡ suc j → i ≡ j
    suc_same i j e = omega (arith, e)

-- ---- the circuits there are

lengths : List (List Circuit) → List ℕ
lengths cs = map (λ (row : List Circuit). length row) cs

lengths_set : (cs : List (List Circuit)) (p : ℕ) (row : List Circuit) → length row ≡ length (get_or cs p []) → lengths (set cs p row) ≡ lengths cs
unfolding lengths
lengths_set [] p row e = refl
lengths_set (c ∷ cs) zero row e = ap (λ (n : ℕ). n ∷ lengths cs) e
lengths_set (c ∷ cs) (suc p) row e = ap (λ (l : List ℕ). length c ∷ l) (lengths_set cs p row e)

length_map : {X Y : Type 0} (f : X → Y) (xs : List X) → length (map f xs) ≡ length xs
length_map f [] = refl
length_map f (x ∷ xs) = ap suc (length_map f xs)

kept_with : (cs : List (List Circuit)) (p l : ℕ) (c : Circuit) → lengths (with_circuit cs p l c) ≡ lengths cs
kept_with cs p l c = lengths_set cs p (set (get_or cs p []) l c) (length-set (get_or cs p []) l c)

kept_sent : (s : CircuitsState) (a : ℕ) (o : Option ℕ) → (sends s a o).state.circuits ≡ s.circuits
kept_sent s a None = refl
kept_sent s a (Some link) = by_router (slice_get s.domain.routers a)
  where
    by_end : (r : RouterConf) (o : Option End) → (sends_on s a link r o).state.circuits ≡ s.circuits
    by_end r None = refl
    by_end r (Some e) = refl

    by_router : (o : Option RouterConf) → (sends_from s a link o).state.circuits ≡ s.circuits
    by_router None = refl
    by_router (Some r) = by_end r (slice_get r.ends link)

kept_lost : (s : CircuitsState) (a i : ℕ) (o : Option ℕ) → (forgets s a i o).state.circuits ≡ s.circuits
kept_lost s a i None = refl
kept_lost s a i (Some link) = refl

kept_arrived : (s : CircuitsState) (x y i : ℕ) (o p : Option ℕ) → lengths (arrives_over s x y i o p).state.circuits ≡ lengths s.circuits
kept_arrived s x y i None p = refl
kept_arrived s x y i (Some l) None = refl
kept_arrived s x y i (Some l) (Some k) = by (slice_get (hellos_at s.hellos x l) i)
  where
    by : (o : Option Hello) → lengths (arrives s x l y k i o).state.circuits ≡ lengths s.circuits
    by None = refl
    by (Some h) = kept_with s.circuits y k (heard (slice_get s.domain.routers y) k (circuit_at s.circuits y k) h)

kept_replaced : (s : CircuitsState) (x y : ℕ) (c : Circuit) (o : Option ℕ) → lengths (replaces_over s x y c o).state.circuits ≡ lengths s.circuits
kept_replaced s x y c None = refl
kept_replaced s x y c (Some l) = kept_with s.circuits x l c

kept_turned : (s : CircuitsState) (x : ℕ) (turn : Turn) (o : Option RouterConf) → lengths (turns_at s x turn o).state.circuits ≡ lengths s.circuits
kept_turned s x turn None = refl
kept_turned s x turn (Some r) = lengths_set s.circuits x (map (turned_circuit turn) (get_or s.circuits x [])) (length_map (turned_circuit turn) (get_or s.circuits x []))

kept_lengths : (s : CircuitsState) (e : HelloEvent) → lengths (happens s e).state.circuits ≡ lengths s.circuits
unfolding happens
kept_lengths s (events.Hello x y) = ap lengths (kept_sent s x (link_between s.domain.routers x y))
kept_lengths s (events.Greet x y i) = kept_arrived s x y i (link_between s.domain.routers x y) (link_between s.domain.routers y x)
kept_lengths s (events.Forget x y i) = ap lengths (kept_lost s x i (link_between s.domain.routers x y))
kept_lengths s (events.Break x y) = kept_replaced s x y broken (link_between s.domain.routers x y)
kept_lengths s (events.Mend x y) = kept_replaced s x y fresh (link_between s.domain.routers x y)
kept_lengths s (events.Tick x) = kept_turned s x turns.Second (slice_get s.domain.routers x)
kept_lengths s (events.Restart x) = kept_turned s x turns.Restart (slice_get s.domain.routers x)

lengths_after : (d : DomainConf) (history : List HelloEvent) → lengths (circuits_after d history).circuits ≡ lengths (fresh_circuits d.routers)
unfolding circuits_after first_circuits
lengths_after d [] = refl
lengths_after d (e ∷ past) = kept_lengths (circuits_after d past) e ∙ lengths_after d past

record IsThere (cs : List (List Circuit)) (a k : ℕ) : Type 0 where
  router : a < length cs
  link : k < length (get_or cs a [])

there_from : (cs ds : List (List Circuit)) (a k : ℕ) → lengths cs ≡ lengths ds → IsThere ds a k → IsThere cs a k
unfolding lengths
there_from cs ds a k e is =
    let n : length cs ≡ length ds = sym (length_map (λ (row : List Circuit). length row) cs) ∙ ap (λ (l : List ℕ). length l) e ∙ length_map (λ (row : List Circuit). length row) ds in
    let m : length (get_or cs a []) ≡ length (get_or ds a []) = sym (row_at cs a) ∙ ap (λ (l : List ℕ). get_or l a 0) e ∙ row_at ds a in
    let w = is.router in
    let v = is.link in
    record { router = omega (arith, n, w); link = omega (arith, m, v) }
  where
    row_at : (cs : List (List Circuit)) (a : ℕ) → get_or (map (λ (row : List Circuit). length row) cs) a 0 ≡ length (get_or cs a [])
    row_at [] a = refl
    row_at (c ∷ cs) zero = refl
    row_at (c ∷ cs) (suc a) = row_at cs a

fresh_there : (confs : List RouterConf) (a k : ℕ) (r : RouterConf) → slice_get confs a ≡ Some r → k < length r.ends → IsThere (fresh_circuits confs) a k
fresh_there [] a k r at within = absurd (none-some r at)
fresh_there (x ∷ xs) zero k r at within =
    let n : length (map (λ (e : End). fresh) x.ends) ≡ length r.ends = length_map (λ (e : End). fresh) x.ends ∙ ap (λ (c : RouterConf). length c.ends) (same_Some x r at) in
    record { router = omega arith; link = omega (arith, n, within) }
fresh_there (x ∷ xs) (suc a) k r at within = let m = fresh_there xs a k r at within in let w = m.router in record { router = omega (arith, w); link = m.link }

circuit_there : (d : DomainConf) (history : List HelloEvent) (a b link : ℕ) → link_between d.routers a b ≡ Some link → IsThere (circuits_after d history).circuits a link
circuit_there d history a b link joined =
    let l = link_there (slice_get d.routers a) (slice_get d.routers b) link joined in
    there_from (circuits_after d history).circuits (fresh_circuits d.routers) a link (lengths_after d history)
    (fresh_there d.routers a link l.r l.near_is (within_list l.r.ends link l.there.e l.there.at))

circuit_here : (cs : List (List Circuit)) (a k : ℕ) (c : Circuit) → IsThere cs a k → circuit_at (with_circuit cs a k c) a k ≡ c
circuit_here cs a k c is =
    ap (λ (row : List Circuit). get_or row k broken) (get_or-set_same cs a (set (get_or cs a []) k c) [] is.router)
    ∙ get_or-set_same (get_or cs a []) k c broken is.link

-- ---- what one event reports

joined_ends : (confs : List RouterConf) (a b link : ℕ) → link_between confs a b ≡ Some link → IsJoined confs a b
joined_ends confs a b link joined =
    let l = link_there (slice_get confs a) (slice_get confs b) link joined in
    record { router = within_list confs a l.r l.near_is; peer = within_list confs b l.q l.far_is; link = link; joined = joined }

joined_change : (confs : List RouterConf) (a b : ℕ) (old new : Bool) → IsJoined confs a b → AllByRecursion (λ (c : EndChange). IsJoined confs c.router c.peer) (changed_to a b old new)
joined_change confs a b true true is = tt
joined_change confs a b true false is = (is, tt)
joined_change confs a b false true is = (is, tt)
joined_change confs a b false false is = tt

all_append : {X : Type 0} (P : X → Type 0) (xs ys : List X) → AllByRecursion P xs → AllByRecursion P ys → AllByRecursion P (xs ++ ys)
all_append P [] ys p q = q
all_append P (x ∷ xs) ys p q = (p.0, all_append P xs ys p.1 q)

joined_changes : (confs : List RouterConf) (a : ℕ) (turn : Turn) (es : List End) (cs : List Circuit) → ((j : ℕ) (e : End) → slice_get es j ≡ Some e → IsJoined confs a (place_of confs e.peer))
    → AllByRecursion (λ (c : EndChange). IsJoined confs c.router c.peer) (changes_at confs a turn es cs)
joined_changes confs a turn [] cs each = tt
joined_changes confs a turn (e ∷ es) [] each = tt
joined_changes confs a turn (e ∷ es) (c ∷ cs) each =
    all_append (λ (c : EndChange). IsJoined confs c.router c.peer) (changed a (place_of confs e.peer) c.adjacency (turned turn c.adjacency)) (changes_at confs a turn es cs)
    (joined_change confs a (place_of confs e.peer) (is_up c.adjacency) (is_up (turned turn c.adjacency)) (each 0 e refl))
    (joined_changes confs a turn es cs (λ j f at. each (suc j) f at))

module _ (s : CircuitsState) (valid : IsValid s.domain) (there : (a b link : ℕ) → link_between s.domain.routers a b ≡ Some link → IsThere s.circuits a link) where
  abbrev up_in : List (List Circuit) → ℕ → ℕ → Bool
  up_in cs a b = is_up (circuit_over cs a (link_between s.domain.routers a b)).adjacency

  -- of router a toward router b, those changes are the one that there is between these circuits and others
  abbrev Tells : ℕ → ℕ → List EndChange → List (List Circuit) → Type 0
  Tells a b changes cs = filter (is_at a b) changes ≡ changed_to a b (up_in s.circuits a b) (up_in cs a b)

  still : (a b : ℕ) (cs : List (List Circuit)) (changes : List EndChange) → filter (is_at a b) changes ≡ [] → up_in cs a b ≡ up_in s.circuits a b → Tells a b changes cs
  still a b cs changes none same = none ∙ sym (no_change a b (up_in s.circuits a b)) ∙ ap (changed_to a b (up_in s.circuits a b)) (sym same)

  unmoved : (a b : ℕ) (cs : List (List Circuit)) → cs ≡ s.circuits → Tells a b [] cs
  unmoved a b cs same = still a b cs [] refl (ap (λ (c : List (List Circuit)). up_in c a b) same)

  -- ---- one circuit is replaced

  module _ (x y l : ℕ) (c : Circuit) (joined : link_between s.domain.routers x y ≡ Some l) where
    abbrev was_up : Bool
    was_up = is_up (circuit_at s.circuits x l).adjacency

    replaced_here : Tells x y (changed_to x y was_up (is_up c.adjacency)) (with_circuit s.circuits x l c)
    replaced_here =
        let old : up_in s.circuits x y ≡ was_up = ap (λ (o : Option ℕ). is_up (circuit_over s.circuits x o).adjacency) joined in
        let new : up_in (with_circuit s.circuits x l c) x y ≡ is_up c.adjacency =
        ap (λ (o : Option ℕ). is_up (circuit_over (with_circuit s.circuits x l c) x o).adjacency) joined
        ∙ ap (λ (d : Circuit). is_up d.adjacency) (circuit_here s.circuits x l c (there x y l joined)) in
        picked_here x y was_up (is_up c.adjacency)
        ∙ ap (λ (u : Bool). changed_to x y u (is_up c.adjacency)) (sym old)
        ∙ ap (changed_to x y (up_in s.circuits x y)) (sym new)

    replaced_off : (a b : ℕ) → is_pair a b x y ≡ false → (o : Option ℕ) → link_between s.domain.routers a b ≡ o → is_up (circuit_over (with_circuit s.circuits x l c) a o).adjacency ≡ is_up (circuit_over s.circuits a o).adjacency
    replaced_off a b other None e = refl
    replaced_off a b other (Some k) e = by (with_at s.circuits x l a k c)
      where
        by : (circuit_at (with_circuit s.circuits x l c) a k ≡ circuit_at s.circuits a k) ⊎ Replaced s.circuits x l a k c → is_up (circuit_at (with_circuit s.circuits x l c) a k).adjacency ≡ is_up (circuit_at s.circuits a k).adjacency
        by (inl same) = ap (λ (d : Circuit). is_up d.adjacency) same
        by (inr it) =
            let here : link_between s.domain.routers x b ≡ Some l = ap (λ (n : ℕ). link_between s.domain.routers n b) (sym it.place) ∙ e ∙ ap (λ (n : ℕ). Some n) it.link in
            let same : b ≡ y = only_link s.domain valid x y b l joined here in
            absurd (true≢false (sym (pair_is a b x y (sym it.place) (sym same)) ∙ other))

    replaced : (a b : ℕ) (test : Bool) → is_pair a b x y ≡ test → Tells a b (changed_to x y was_up (is_up c.adjacency)) (with_circuit s.circuits x l c)
    replaced a b false is =
        still a b (with_circuit s.circuits x l c) (changed_to x y was_up (is_up c.adjacency)) (picked_other a b x y was_up (is_up c.adjacency) is)
        (replaced_off a b is (link_between s.domain.routers a b) refl)
    replaced a b true is =
        let both = and_parts (eqb x a) (eqb y b) is in
        subst (λ (n : ℕ). Tells n b (changed_to x y was_up (is_up c.adjacency)) (with_circuit s.circuits x l c)) (eqb-true x a both.0)
        (subst (λ (n : ℕ). Tells x n (changed_to x y was_up (is_up c.adjacency)) (with_circuit s.circuits x l c)) (eqb-true y b both.1) replaced_here)

  -- ---- all circuits of a router move

  abbrev row_of : ℕ → List Circuit
  row_of x = get_or s.circuits x []

  abbrev after_turn : ℕ → Turn → List (List Circuit)
  after_turn x turn = set s.circuits x (map (turned_circuit turn) (row_of x))

  module _ (x : ℕ) (turn : Turn) (r : RouterConf) (near : slice_get s.domain.routers x ≡ Some r) where
    abbrev reported : List EndChange
    reported = changes_at s.domain.routers x turn r.ends (row_of x)

    leads_to : (j : ℕ) (e : End) → slice_get r.ends j ≡ Some e → LeadsThere s.domain.routers x j e
    leads_to j e at = leads_there s.domain valid x j r e near at

    -- an interface that leads to b is the one that is found for b
    not_toward : (b j : ℕ) (e : End) → slice_get r.ends j ≡ Some e → (link_between s.domain.routers x b ≡ Some j → ⊥) → is_pair x b x (place_of s.domain.routers e.peer) ≡ false
    not_toward b j e at off = by (eqb (place_of s.domain.routers e.peer) b) refl
      where
        by : (test : Bool) → eqb (place_of s.domain.routers e.peer) b ≡ test → is_pair x b x (place_of s.domain.routers e.peer) ≡ false
        by false is = rw (eq-eqb x x refl, is) refl
        by true is = absurd (off (ap (link_between s.domain.routers x) (sym (eqb-true (place_of s.domain.routers e.peer) b is)) ∙ (leads_to j e at).back))

    turned_own : (b : ℕ) (o : Option ℕ) → link_between s.domain.routers x b ≡ o → filter (is_at x b) reported ≡ changed_to x b (is_up (circuit_over s.circuits x o).adjacency) (is_up (circuit_over (after_turn x turn) x o).adjacency)
    turned_own b None e = picked_none s.domain.routers x x b turn r.ends (row_of x) (λ j f at. not_toward b j f at (λ found. none-some j (sym e ∙ found)))
    turned_own b (Some k) e =
        let l = link_there (slice_get s.domain.routers x) (slice_get s.domain.routers b) k e in
        let same : l.r ≡ r = same_Some l.r r (sym l.near_is ∙ near) in
        let at : slice_get r.ends k ≡ Some l.there.e = ap (λ (q : RouterConf). slice_get q.ends k) (sym same) ∙ l.there.at in
        let peer : l.there.e.peer.0 ≡ l.q.system.0 = (bytes_eq-Decides l.there.e.peer.0 l.q.system.0).0 l.there.leads in
        let place : place_of s.domain.routers l.there.e.peer ≡ b = ap (λ (octets : List ℕ). place_of s.domain.routers (record { 0 = octets })) peer ∙ place_is s.domain.routers b l.q valid.consistent.systems l.far_is in
        picked_one s.domain.routers x b turn r.ends (row_of x) k l.there.e at place (λ j f there other. not_toward b j f there (λ found. other (same_Some j k (sym found ∙ e))))
        ∙ ap (λ (c : Circuit). changed_to x b (is_up (circuit_at s.circuits x k).adjacency) (is_up c.adjacency)) (sym (turned_at turn s.circuits x k))

    turned_off : (a : ℕ) (o : Option ℕ) → (x ≡ a → ⊥) → is_up (circuit_over (after_turn x turn) a o).adjacency ≡ is_up (circuit_over s.circuits a o).adjacency
    turned_off a None other = refl
    turned_off a (Some k) other = ap (λ (c : Circuit). is_up c.adjacency) (turned_other turn s.circuits x a k other)

    turned_all : (a b : ℕ) (test : Bool) → eqb x a ≡ test → Tells a b reported (after_turn x turn)
    turned_all a b false is =
        still a b (after_turn x turn) reported
        (picked_none s.domain.routers x a b turn r.ends (row_of x) (λ j e at. rw is refl))
        (turned_off a (link_between s.domain.routers a b) (eqb-false x a is))
    turned_all a b true is = subst (λ (n : ℕ). Tells n b reported (after_turn x turn)) (eqb-true x a is) (turned_own b (link_between s.domain.routers x b) refl)

    turned_joined : AllByRecursion (λ (c : EndChange). IsJoined s.domain.routers c.router c.peer) reported
    turned_joined = joined_changes s.domain.routers x turn r.ends (row_of x) (λ j e at.
        let l = leads_to j e at in
        record { router = within_list s.domain.routers x r near; peer = l.there; link = j; joined = l.back })

  -- ---- an event

  record IsTold (n : Happened) : Type 0 where
    tells : (a b : ℕ) → Tells a b n.out.changes n.state.circuits
    joined : AllByRecursion (λ (c : EndChange). IsJoined s.domain.routers c.router c.peer) n.out.changes

  told_quiet : (n : Happened) → n.out.changes ≡ [] → n.state.circuits ≡ s.circuits → IsTold n
  told_quiet n none same = record {
    tells = λ a b. subst (λ (cs : List EndChange). Tells a b cs n.state.circuits) (sym none) (unmoved a b n.state.circuits same);
    joined = subst (AllByRecursion (λ (c : EndChange). IsJoined s.domain.routers c.router c.peer)) (sym none) tt;
  }

  told_sent : (x : ℕ) (o : Option ℕ) → IsTold (sends s x o)
  told_sent x None = told_quiet (sends s x None) refl refl
  told_sent x (Some link) = by_router (slice_get s.domain.routers x)
    where
      by_end : (r : RouterConf) (o : Option End) → IsTold (sends_on s x link r o)
      by_end r None = told_quiet (sends_on s x link r None) refl refl
      by_end r (Some e) = told_quiet (sends_on s x link r (Some e)) refl refl

      by_router : (o : Option RouterConf) → IsTold (sends_from s x link o)
      by_router None = told_quiet (sends_from s x link None) refl refl
      by_router (Some r) = by_end r (slice_get r.ends link)

  told_lost : (x i : ℕ) (o : Option ℕ) → IsTold (forgets s x i o)
  told_lost x i None = told_quiet (forgets s x i None) refl refl
  told_lost x i (Some link) = told_quiet (forgets s x i (Some link)) refl refl

  told_replaced : (x y : ℕ) (c : Circuit) (o : Option ℕ) → link_between s.domain.routers x y ≡ o → IsTold (replaces_over s x y c o)
  told_replaced x y c None e = told_quiet (replaces_over s x y c None) refl refl
  told_replaced x y c (Some l) e = record {
    tells = λ a b. replaced x y l c e a b (is_pair a b x y) refl;
    joined = joined_change s.domain.routers x y (is_up (circuit_at s.circuits x l).adjacency) (is_up c.adjacency) (joined_ends s.domain.routers x y l e);
  }

  told_arrived : (x y i : ℕ) (o p : Option ℕ) → link_between s.domain.routers y x ≡ p → IsTold (arrives_over s x y i o p)
  told_arrived x y i None p e = told_quiet (arrives_over s x y i None p) refl refl
  told_arrived x y i (Some l) None e = told_quiet (arrives_over s x y i (Some l) None) refl refl
  told_arrived x y i (Some l) (Some k) e = by (slice_get (hellos_at s.hellos x l) i)
    where
      by : (o : Option Hello) → IsTold (arrives s x l y k i o)
      by None = told_quiet (arrives s x l y k i None) refl refl
      by (Some h) =
          let c : Circuit = heard (slice_get s.domain.routers y) k (circuit_at s.circuits y k) h in
          record {
            tells = λ a b. replaced y x k c e a b (is_pair a b y x) refl;
            joined = joined_change s.domain.routers y x (is_up (circuit_at s.circuits y k).adjacency) (is_up c.adjacency) (joined_ends s.domain.routers y x k e);
          }

  told_turned : (x : ℕ) (turn : Turn) (o : Option RouterConf) → slice_get s.domain.routers x ≡ o → IsTold (turns_at s x turn o)
  told_turned x turn None e = told_quiet (turns_at s x turn None) refl refl
  told_turned x turn (Some r) e = record { tells = λ a b. turned_all x turn r e a b (eqb x a) refl; joined = turned_joined x turn r e }

  told : (e : HelloEvent) → IsTold (doing s e)
  told (events.Hello x y) = told_sent x (link_between s.domain.routers x y)
  told (events.Greet x y i) = told_arrived x y i (link_between s.domain.routers x y) (link_between s.domain.routers y x) refl
  told (events.Forget x y i) = told_lost x i (link_between s.domain.routers x y)
  told (events.Break x y) = told_replaced x y broken (link_between s.domain.routers x y) refl
  told (events.Mend x y) = told_replaced x y fresh (link_between s.domain.routers x y) refl
  told (events.Tick x) = told_turned x turns.Second (slice_get s.domain.routers x) refl
  told (events.Restart x) = told_turned x turns.Restart (slice_get s.domain.routers x) refl

  are_changes : (e : HelloEvent) → AreChanges s (happens s e)
  unfolding happens
  are_changes e = record { each = each; lead = leads (doing s e).out.changes (up_between s) (up_between (happens s e).state) each; joined = (told e).joined }
    where
      each : (a b : ℕ) → filter (is_at a b) (doing s e).out.changes ≡ changed_to a b (up_between s a b) (up_between (happens s e).state a b)
      each a b =
          (told e).tells a b
          ∙ ap (λ (d : DomainConf). changed_to a b (up_between s a b) (is_up (circuit_over (doing s e).state.circuits a (link_between d.routers a b)).adjacency)) (sym (left s e).domain)

pub changes_after : (d : DomainConf) (history : List HelloEvent) (e : HelloEvent) → IsValid d → AreChanges (circuits_after d history) (happens (circuits_after d history) e)
changes_after d history e valid =
    let same = domain_after d history in
    are_changes (circuits_after d history) (subst IsValid (sym same) valid)
    (λ a b link joined. circuit_there d history a b link (ap (λ (c : DomainConf). link_between c.routers a b) (sym same) ∙ joined)) e

-- ---- the beginning, and what a hello that is sent leaves

pub none_up : (d : DomainConf) (a b : ℕ) → up_between (first_circuits d) a b ≡ false
unfolding first_circuits
none_up d a b = by (link_between d.routers a b)
  where
    by : (o : Option ℕ) → is_up (circuit_over (fresh_circuits d.routers) a o).adjacency ≡ false
    by None = refl
    by (Some k) = ap is_up (fresh_down d.routers a k)

replaced_silent : (s : CircuitsState) (x y : ℕ) (c : Circuit) (o : Option ℕ) → (replaces_over s x y c o).out.sent ≡ None
replaced_silent s x y c None = refl
replaced_silent s x y c (Some l) = refl

turned_silent : (s : CircuitsState) (x : ℕ) (turn : Turn) (o : Option RouterConf) → (turns_at s x turn o).out.sent ≡ None
turned_silent s x turn None = refl
turned_silent s x turn (Some r) = refl

pub only_hellos : (s : CircuitsState) (e : HelloEvent) → is_hello e ≡ false → (happens s e).out.sent ≡ None
unfolding happens
only_hellos s (events.Hello x y) other = absurd (true≢false other)
only_hellos s (events.Greet x y i) other = by (link_between s.domain.routers x y) (link_between s.domain.routers y x)
  where
    by_hello : (l k : ℕ) (o : Option Hello) → (arrives s x l y k i o).out.sent ≡ None
    by_hello l k None = refl
    by_hello l k (Some h) = refl

    by : (o p : Option ℕ) → (arrives_over s x y i o p).out.sent ≡ None
    by None p = refl
    by (Some l) None = refl
    by (Some l) (Some k) = by_hello l k (slice_get (hellos_at s.hellos x l) i)
only_hellos s (events.Forget x y i) other = by (link_between s.domain.routers x y)
  where
    by : (o : Option ℕ) → (forgets s x i o).out.sent ≡ None
    by None = refl
    by (Some l) = refl
only_hellos s (events.Break x y) other = replaced_silent s x y broken (link_between s.domain.routers x y)
only_hellos s (events.Mend x y) other = replaced_silent s x y fresh (link_between s.domain.routers x y)
only_hellos s (events.Tick x) other = turned_silent s x turns.Second (slice_get s.domain.routers x)
only_hellos s (events.Restart x) other = turned_silent s x turns.Restart (slice_get s.domain.routers x)

-- a hello that is sent moves no adjacency
sent_still : (s : CircuitsState) (a : ℕ) (o : Option ℕ) → ((sends s a o).out.changes ≡ []) × ((sends s a o).state.circuits ≡ s.circuits)
sent_still s a None = (refl, refl)
sent_still s a (Some link) = by_router (slice_get s.domain.routers a)
  where
    by_end : (r : RouterConf) (o : Option End) → ((sends_on s a link r o).out.changes ≡ []) × ((sends_on s a link r o).state.circuits ≡ s.circuits)
    by_end r None = (refl, refl)
    by_end r (Some e) = (refl, refl)

    by_router : (o : Option RouterConf) → ((sends_from s a link o).out.changes ≡ []) × ((sends_from s a link o).state.circuits ≡ s.circuits)
    by_router None = (refl, refl)
    by_router (Some r) = by_end r (slice_get r.ends link)

pub hello_unreported : (s : CircuitsState) (e : HelloEvent) → is_hello e ≡ true → (happens s e).out.changes ≡ []
unfolding happens
hello_unreported s (events.Hello x y) is = (sent_still s x (link_between s.domain.routers x y)).0
hello_unreported s (events.Greet x y i) is = absurd (false≢true is)
hello_unreported s (events.Forget x y i) is = absurd (false≢true is)
hello_unreported s (events.Break x y) is = absurd (false≢true is)
hello_unreported s (events.Mend x y) is = absurd (false≢true is)
hello_unreported s (events.Tick x) is = absurd (false≢true is)
hello_unreported s (events.Restart x) is = absurd (false≢true is)

pub hello_unmoved : (s : CircuitsState) (e : HelloEvent) → is_hello e ≡ true → (happens s e).state.circuits ≡ s.circuits
unfolding happens
hello_unmoved s (events.Hello x y) is = (sent_still s x (link_between s.domain.routers x y)).1
hello_unmoved s (events.Greet x y i) is = absurd (false≢true is)
hello_unmoved s (events.Forget x y i) is = absurd (false≢true is)
hello_unmoved s (events.Break x y) is = absurd (false≢true is)
hello_unmoved s (events.Mend x y) is = absurd (false≢true is)
hello_unmoved s (events.Tick x) is = absurd (false≢true is)
hello_unmoved s (events.Restart x) is = absurd (false≢true is)
