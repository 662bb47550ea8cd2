-- The routers of a change exist.
use Rattle.std.proofs.Common.{◌≡◌, ℕ, zero, suc, ◌+◌, ◌<◌, Bool, true, false, List, [], ◌∷◌, ◌++◌, length, slice_get, slice_index_or, Option, Some, None, if◌then◌else◌, refl, sym, ap, subst, ◌∙◌, arith}
use Rattle.std.specs.List.{AllByRecursion}
use Rattle.std.proofs.lemmas.Option.{none-some, same_Some}
use Rattle.std.proofs.lemmas.Slice.Eq.{bytes_eq-Decides}
use mathlib.Core.Bool.{true≢false}
use Rattle.wire_base.specs.declared.addresses.SystemId.{SystemId}
use Rattle.wire_base.specs.declared.conf.End.{End}
use Rattle.wire_base.specs.declared.conf.RouterConf.{RouterConf}
use Rattle.wire_base.specs.model.Configuration.{DomainConf, IsValid, AreEnds, Faces, HaveEnds, peers_of}
use Rattle.wire_base.specs.model.Control.{same_system}
use Rattle.isis_hello.specs.declared.adjacency.Adjacency.{Adjacency}
use Rattle.isis_hello.specs.declared.adjacency.Circuit.{Circuit}
use Rattle.isis_hello.specs.declared.event.EndChange.{EndChange}
use Rattle.wire_base.specs.declared.hello_event.HelloEvent.{HelloEvent}
use Rattle.wire_base.specs.declared.hello_event.HelloEvent.TheVariants as events
use Rattle.isis_hello.specs.declared.hello.Hello.{Hello}
use Rattle.isis_hello.specs.Adjacency.{is_up, turned}
use Rattle.isis_hello.specs.Circuits.{CircuitsState, place_of, end_between, link_between, fresh, broken, hellos_at}
use Rattle.isis_hello.specs.Events.{changed_to, changed, replaces_over, sends, sends_from, sends_on, arrives, arrives_over, forgets, changes_at, turns_at, happens}
use Rattle.isis_hello.proofs.LinkLaws.{within_list}
use Rattle.domain_handshake.specs.Within.{IsWithin}

abbrev pub AreWithin : ℕ → List EndChange → Type 0
AreWithin count changes = AllByRecursion (IsWithin count) changes

both_within : (n : ℕ) (xs ys : List EndChange) → AreWithin n xs → AreWithin n ys → AreWithin n (xs ++ ys)
both_within n [] ys p q = q
both_within n (x ∷ xs) ys p q = (p.0, both_within n xs ys p.1 q)

changed_to_within : (n a b : ℕ) (old new : Bool) → a < n → b < n → AreWithin n (changed_to a b old new)
changed_to_within n a b true true p q = tt
changed_to_within n a b true false p q = (record { router = p; peer = q }, tt)
changed_to_within n a b false true p q = (record { router = p; peer = q }, tt)
changed_to_within n a b false false p q = tt

changed_within : (n a b : ℕ) (old new : Adjacency) → a < n → b < n → AreWithin n (changed a b old new)
changed_within n a b old new p q = changed_to_within n a b (is_up old) (is_up new) p q

-- ---- two routers that a link joins

joined_within : (confs : List RouterConf) (a b l : ℕ) → link_between confs a b ≡ Some l → (a < length confs) × (b < length confs)
joined_within confs a b l is = by (slice_get confs a) refl (slice_get confs b) refl is
  where
    by : (o : Option RouterConf) → slice_get confs a ≡ o → (p : Option RouterConf) → slice_get confs b ≡ p → end_between o p ≡ Some l → (a < length confs) × (b < length confs)
    by None near p far h = absurd (none-some l h)
    by (Some r) near None far h = absurd (none-some l h)
    by (Some r) near (Some q) far h = (within_list confs a r near, within_list confs b q far)

-- ---- the peers of a router

same_self : (s t : SystemId) → s.0 ≡ t.0 → same_system s t ≡ true
same_self s t e = (bytes_eq-Decides s.0 t.0).1 e

place_within : (confs : List RouterConf) (i : ℕ) (q : RouterConf) (s : SystemId) → slice_get confs i ≡ Some q → s ≡ q.system → place_of confs s < length confs
place_within [] i q s at is = absurd (none-some q at)
place_within (r ∷ rs) i q s at is = by (same_system r.system s) refl (λ j there. place_within rs j q s there is) i at
  where
    by : (b : Bool) → same_system r.system s ≡ b → ((j : ℕ) → slice_get rs j ≡ Some q → place_of rs s < length rs) → (i : ℕ) → slice_get (r ∷ rs) i ≡ Some q → (if b then 0 else suc (place_of rs s)) < suc (length rs)
    by true same later i at = omega arith
    by false other later zero at = absurd (true≢false (sym (same_self r.system s (ap (λ (x : RouterConf). x.system.0) (same_Some r q at) ∙ ap (λ (x : SystemId). x.0) (sym is))) ∙ other))
    by false other later (suc i) at = (let less = later i at in omega (arith, less))

peer_within : (confs : List RouterConf) (r : RouterConf) (e : End) (p : ℕ) → Faces r e (slice_get confs p) → place_of confs e.peer < length confs
peer_within confs r e p h = by (slice_get confs p) refl h
  where
    by : (o : Option RouterConf) → slice_get confs p ≡ o → Faces r e o → place_of confs e.peer < length confs
    by None at h = absurd h
    by (Some q) at h = place_within confs p q e.peer at h.0

turns_within : (confs : List RouterConf) (r : RouterConf) (a : ℕ) (turn : _) (ps : List ℕ) (es : List End) (cs : List Circuit) → a < length confs → AreEnds confs r ps es → AreWithin (length confs) (changes_at confs a turn es cs)
turns_within confs r a turn ps [] cs p h = tt
turns_within confs r a turn ps (e ∷ es) [] p h = tt
turns_within confs r a turn [] (e ∷ es) (c ∷ cs) p h = absurd h
turns_within confs r a turn (q ∷ qs) (e ∷ es) (c ∷ cs) p h =
    both_within (length confs) (changed a (place_of confs e.peer) c.adjacency (turned turn c.adjacency)) (changes_at confs a turn es cs)
    (changed_within (length confs) a (place_of confs e.peer) c.adjacency (turned turn c.adjacency) p (peer_within confs r e q h.0))
    (turns_within confs r a turn qs es cs p h.1)

ends_at : (d : DomainConf) (rs : List RouterConf) (i n : ℕ) (r : RouterConf) → HaveEnds d i rs → slice_get rs n ≡ Some r → AreEnds d.routers r (peers_of (i + n) d.links) r.ends
ends_at d [] i n r h at = absurd (none-some r at)
ends_at d (x ∷ xs) i zero r h at =
    let k : i ≡ i + 0 = omega arith in
    subst (λ (m : ℕ). AreEnds d.routers r (peers_of m d.links) r.ends) k (subst (λ (y : RouterConf). AreEnds d.routers y (peers_of i d.links) y.ends) (same_Some x r at) h.0)
ends_at d (x ∷ xs) i (suc n) r h at = let k : i + 1 + n ≡ i + suc n = omega arith in subst (λ (m : ℕ). AreEnds d.routers r (peers_of m d.links) r.ends) k (ends_at d xs (i + 1) n r h.1 at)

turned_within : (s : CircuitsState) → IsValid s.domain → (a : ℕ) (turn : _) (o : Option RouterConf) → slice_get s.domain.routers a ≡ o → AreWithin (length s.domain.routers) (turns_at s a turn o).out.changes
turned_within s valid a turn None at = tt
turned_within s valid a turn (Some r) at =
    turns_within s.domain.routers r a turn (peers_of (0 + a) s.domain.links) r.ends (slice_index_or s.circuits a []) (within_list s.domain.routers a r at) (ends_at s.domain s.domain.routers 0 a r valid.consistent.ends at)

-- ---- the events

replaced_within : (s : CircuitsState) (a b : ℕ) (c : Circuit) (o : Option ℕ) → link_between s.domain.routers a b ≡ o → AreWithin (length s.domain.routers) (replaces_over s a b c o).out.changes
replaced_within s a b c None at = tt
replaced_within s a b c (Some l) at = (let p = joined_within s.domain.routers a b l at in changed_within (length s.domain.routers) a b _ c.adjacency p.0 p.1)

arrived_within : (s : CircuitsState) (a l b k i : ℕ) (o : Option Hello) → a < length s.domain.routers → b < length s.domain.routers → AreWithin (length s.domain.routers) (arrives s a l b k i o).out.changes
arrived_within s a l b k i None p q = tt
arrived_within s a l b k i (Some h) p q = changed_within (length s.domain.routers) b a _ _ q p

arrived_over_within : (s : CircuitsState) (a b i : ℕ) (o k : Option ℕ) → link_between s.domain.routers a b ≡ o → AreWithin (length s.domain.routers) (arrives_over s a b i o k).out.changes
arrived_over_within s a b i None k at = tt
arrived_over_within s a b i (Some l) None at = tt
arrived_over_within s a b i (Some l) (Some k) at = (let p = joined_within s.domain.routers a b l at in arrived_within s a l b k i (slice_get (hellos_at s.hellos a l) i) p.0 p.1)

sent_within : (s : CircuitsState) (a : ℕ) (o : Option ℕ) → AreWithin (length s.domain.routers) (sends s a o).out.changes
sent_within s a None = tt
sent_within s a (Some l) = by (slice_get s.domain.routers a)
  where
    on : (r : RouterConf) (o : Option End) → AreWithin (length s.domain.routers) (sends_on s a l r o).out.changes
    on r None = tt
    on r (Some e) = tt

    by : (o : Option RouterConf) → AreWithin (length s.domain.routers) (sends_from s a l o).out.changes
    by None = tt
    by (Some r) = on r (slice_get r.ends l)

lost_within : (s : CircuitsState) (a i : ℕ) (o : Option ℕ) → AreWithin (length s.domain.routers) (forgets s a i o).out.changes
lost_within s a i None = tt
lost_within s a i (Some l) = tt

pub changes_within : (s : CircuitsState) (e : HelloEvent) → IsValid s.domain → AreWithin (length s.domain.routers) (happens s e).out.changes
unfolding happens
changes_within s (events.Hello a b) valid = sent_within s a (link_between s.domain.routers a b)
changes_within s (events.Greet a b i) valid = arrived_over_within s a b i (link_between s.domain.routers a b) (link_between s.domain.routers b a) refl
changes_within s (events.Forget a b i) valid = lost_within s a i (link_between s.domain.routers a b)
changes_within s (events.Break a b) valid = replaced_within s a b broken (link_between s.domain.routers a b) refl
changes_within s (events.Mend a b) valid = replaced_within s a b fresh (link_between s.domain.routers a b) refl
changes_within s (events.Tick a) valid = search (turned_within s valid a)
changes_within s (events.Restart a) valid = search (turned_within s valid a)
