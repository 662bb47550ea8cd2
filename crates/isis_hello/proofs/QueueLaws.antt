-- The hellos in flight in one direction, and when each was sent.
use Rattle.std.proofs.Common.{◌≡◌, ℕ, zero, suc, ◌<◌, ◌⊎◌, Bool, true, false, cond, eqb, eq-eqb, List, [], ◌∷◌, ◌++◌, length, map, get_or, set, slice_get, Option, Some, None, refl, sym, ap, subst, ◌∙◌, arith, inl, inr}
use mathlib.Core.Bool.{true≢false}
use Rattle.std.proofs.lemmas.Bool.{and_parts, eqb-true}
use Rattle.std.proofs.lemmas.List.{length-set, get_or-set_same}
use Rattle.std.proofs.lemmas.Option.{none-some, same_Some}
use Rattle.std.specs.List.{remove}
use Rattle.wire_base.specs.declared.addresses.SystemId.{SystemId}
use Rattle.wire_base.specs.declared.conf.End.{End}
use Rattle.wire_base.specs.declared.conf.RouterConf.{RouterConf}
use Rattle.wire_base.specs.model.Configuration.{DomainConf, IsValid}
use Rattle.isis_hello.specs.declared.adjacency.Circuit.{Circuit}
use Rattle.isis_hello.specs.declared.adjacency.Turn.{Turn}
use Rattle.isis_hello.specs.declared.adjacency.Turn.TheVariants as turns
use Rattle.wire_base.specs.declared.hello_event.HelloEvent.{HelloEvent}
use Rattle.wire_base.specs.declared.hello_event.HelloEvent.TheVariants as events
use Rattle.isis_hello.specs.declared.hello.Hello.{Hello}
use Rattle.isis_hello.specs.Circuits.{CircuitsState, first_circuits, link_between, fresh, broken, circuit_at, hellos_at, with_hellos, push_hello, no_hellos, hello_of}
use Rattle.isis_hello.specs.Events.{sends, sends_from, sends_on, arrives, arrives_over, forgets, replaces_over, turns_at, happens}
use Rattle.isis_hello.specs.History.{circuits_after, is_pair, sendings}
use Rattle.isis_hello.proofs.StepLemmas.{link_there}
use Rattle.isis_hello.proofs.LinkLaws.{only_link, within_list}
use Rattle.isis_hello.proofs.MoveLaws.{set_at}

-- ---- one direction is changed, and the others are not

abbrev Elsewhere : ℕ → ℕ → ℕ → ℕ → Type 0
Elsewhere p l a k = a ≡ p → k ≡ l → ⊥

pub hellos_other : (hs : List (List (List Hello))) (p l a k : ℕ) (q : List Hello) → Elsewhere p l a k → hellos_at (with_hellos hs p l q) a k ≡ hellos_at hs a k
hellos_other hs p l a k q off = by_router (set_at hs p a (set (get_or hs p []) l q) [])
  where
    by_link : a ≡ p → get_or (with_hellos hs p l q) a [] ≡ set (get_or hs p []) l q → (get_or (set (get_or hs p []) l q) k [] ≡ get_or (get_or hs p []) k []) ⊎ ((k ≡ l) × (get_or (set (get_or hs p []) l q) k [] ≡ q))
        → hellos_at (with_hellos hs p l q) a k ≡ hellos_at hs a k
    by_link here row (inl same) = ap (λ (r : List (List Hello)). get_or r k []) row ∙ same ∙ ap (λ (i : ℕ). get_or (get_or hs i []) k []) (sym here)
    by_link here row (inr there) = absurd (off here there.0)

    by_router : (get_or (with_hellos hs p l q) a [] ≡ get_or hs a []) ⊎ ((a ≡ p) × (get_or (with_hellos hs p l q) a [] ≡ set (get_or hs p []) l q)) → hellos_at (with_hellos hs p l q) a k ≡ hellos_at hs a k
    by_router (inl same) = ap (λ (r : List (List Hello)). get_or r k []) same
    by_router (inr there) = by_link there.0 there.1 (set_at (get_or hs p []) l k q [])

pub record InRange (hs : List (List (List Hello))) (a k : ℕ) : Type 0 where
  pub router : a < length hs
  pub link : k < length (get_or hs a [])

pub hellos_here : (hs : List (List (List Hello))) (a k : ℕ) (q : List Hello) → InRange hs a k → hellos_at (with_hellos hs a k q) a k ≡ q
hellos_here hs a k q within =
    ap (λ (r : List (List Hello)). get_or r k []) (get_or-set_same hs a (set (get_or hs a []) k q) [] within.router)
    ∙ get_or-set_same (get_or hs a []) k q [] within.link

-- ---- the directions there are

row_length : (hs : List (List (List Hello))) (p l a : ℕ) (q : List Hello) → length (get_or (with_hellos hs p l q) a []) ≡ length (get_or hs a [])
row_length hs p l a q = by (set_at hs p a (set (get_or hs p []) l q) [])
  where
    by : (get_or (with_hellos hs p l q) a [] ≡ get_or hs a []) ⊎ ((a ≡ p) × (get_or (with_hellos hs p l q) a [] ≡ set (get_or hs p []) l q)) → length (get_or (with_hellos hs p l q) a []) ≡ length (get_or hs a [])
    by (inl same) = ap (λ (r : List (List Hello)). length r) same
    by (inr there) = ap (λ (r : List (List Hello)). length r) there.1 ∙ length-set (get_or hs p []) l q ∙ ap (λ (i : ℕ). length (get_or hs i [])) (sym there.0)

range_set : (hs : List (List (List Hello))) (p l a k : ℕ) (q : List Hello) → InRange hs a k → InRange (with_hellos hs p l q) a k
range_set hs p l a k q within =
    let n = length-set hs p (set (get_or hs p []) l q) in
    let m = row_length hs p l a q in
    let w = within.router in
    let v = within.link in
    record { router = omega (arith, n, w); link = omega (arith, m, v) }

abbrev none_sent : List Hello
none_sent = []

first_router : (confs : List RouterConf) (a : ℕ) (r : RouterConf) → slice_get confs a ≡ Some r → (a < length (no_hellos confs)) × (length (get_or (no_hellos confs) a []) ≡ length r.ends)
first_router [] a r at = absurd (none-some r at)
first_router (x ∷ xs) zero r at = (omega arith, ends_length x.ends ∙ ap (λ (c : RouterConf). length c.ends) (same_Some x r at))
  where
    ends_length : (es : List End) → length (map (λ (e : End). none_sent) es) ≡ length es
    ends_length [] = refl
    ends_length (e ∷ es) = ap suc (ends_length es)
first_router (x ∷ xs) (suc a) r at = let m = first_router xs a r at in let lt = m.0 in (omega (arith, lt), m.1)

-- ---- what an event leaves of the domain and of the directions

pub record SetOne (hs hs' : List (List (List Hello))) : Type 0 where
  pub place : ℕ
  pub link : ℕ
  pub queue : List Hello
  pub is : hs' ≡ with_hellos hs place link queue

pub record Left (s t : CircuitsState) : Type 0 where
  pub domain : t.domain ≡ s.domain
  pub hellos : (t.hellos ≡ s.hellos) ⊎ SetOne s.hellos t.hellos

left_same : (s t : CircuitsState) → t.domain ≡ s.domain → t.hellos ≡ s.hellos → Left s t
left_same s t d h = record { domain = d; hellos = inl h }

sent_on : (s : CircuitsState) (a link : ℕ) (r : RouterConf) (o : Option End) → Left s (sends_on s a link r o).state
sent_on s a link r None = left_same s s refl refl
sent_on s a link r (Some e) =
    let h = hello_of r.system link e.peer (circuit_at s.circuits a link).adjacency in
    record { domain = refl; hellos = inr (record { place = a; link = link; queue = hellos_at s.hellos a link ++ h ∷ []; is = refl }) }

sent_by : (s : CircuitsState) (a link : ℕ) (o : Option RouterConf) → Left s (sends_from s a link o).state
sent_by s a link None = left_same s s refl refl
sent_by s a link (Some r) = sent_on s a link r (slice_get r.ends link)

sent_over : (s : CircuitsState) (a : ℕ) (o : Option ℕ) → Left s (sends s a o).state
sent_over s a None = left_same s s refl refl
sent_over s a (Some link) = sent_by s a link (slice_get s.domain.routers a)

arrived : (s : CircuitsState) (a l b k i : ℕ) (o : Option Hello) → Left s (arrives s a l b k i o).state
arrived s a l b k i None = left_same s s refl refl
arrived s a l b k i (Some h) = record { domain = refl; hellos = inr (record { place = a; link = l; queue = remove (hellos_at s.hellos a l) i; is = refl }) }

arrived_over : (s : CircuitsState) (a b i : ℕ) (o p : Option ℕ) → Left s (arrives_over s a b i o p).state
arrived_over s a b i None p = left_same s s refl refl
arrived_over s a b i (Some l) None = left_same s s refl refl
arrived_over s a b i (Some l) (Some k) = arrived s a l b k i (slice_get (hellos_at s.hellos a l) i)

lost_over : (s : CircuitsState) (a i : ℕ) (o : Option ℕ) → Left s (forgets s a i o).state
lost_over s a i None = left_same s s refl refl
lost_over s a i (Some l) = record { domain = refl; hellos = inr (record { place = a; link = l; queue = remove (hellos_at s.hellos a l) i; is = refl }) }

replaced_over : (s : CircuitsState) (a b : ℕ) (c : Circuit) (o : Option ℕ) → ((replaces_over s a b c o).state.domain ≡ s.domain) × ((replaces_over s a b c o).state.hellos ≡ s.hellos)
replaced_over s a b c None = (refl, refl)
replaced_over s a b c (Some l) = (refl, refl)

turned_by : (s : CircuitsState) (a : ℕ) (turn : Turn) (o : Option RouterConf) → ((turns_at s a turn o).state.domain ≡ s.domain) × ((turns_at s a turn o).state.hellos ≡ s.hellos)
turned_by s a turn None = (refl, refl)
turned_by s a turn (Some r) = (refl, refl)

pub left : (s : CircuitsState) (e : HelloEvent) → Left s (happens s e).state
unfolding happens
left s (events.Hello x y) = let l = sent_over s x (link_between s.domain.routers x y) in record { domain = l.domain; hellos = l.hellos }
left s (events.Greet x y i) = let l = arrived_over s x y i (link_between s.domain.routers x y) (link_between s.domain.routers y x) in record { domain = l.domain; hellos = l.hellos }
left s (events.Forget x y i) = let l = lost_over s x i (link_between s.domain.routers x y) in record { domain = l.domain; hellos = l.hellos }
left s (events.Break x y) = let l = replaced_over s x y broken (link_between s.domain.routers x y) in record { domain = l.0; hellos = inl l.1 }
left s (events.Mend x y) = let l = replaced_over s x y fresh (link_between s.domain.routers x y) in record { domain = l.0; hellos = inl l.1 }
left s (events.Tick x) = let l = turned_by s x turns.Second (slice_get s.domain.routers x) in record { domain = l.0; hellos = inl l.1 }
left s (events.Restart x) = let l = turned_by s x turns.Restart (slice_get s.domain.routers x) in record { domain = l.0; hellos = inl l.1 }

pub domain_after : (d : DomainConf) (history : List HelloEvent) → (circuits_after d history).domain ≡ d
unfolding circuits_after first_circuits
domain_after d [] = refl
domain_after d (e ∷ past) = (left (circuits_after d past) e).domain ∙ domain_after d past

range_left : (s t : CircuitsState) (a k : ℕ) → (t.hellos ≡ s.hellos) ⊎ SetOne s.hellos t.hellos → InRange s.hellos a k → InRange t.hellos a k
range_left s t a k (inl same) within = subst (λ (hs : List (List (List Hello))). InRange hs a k) (sym same) within
range_left s t a k (inr one) within = subst (λ (hs : List (List (List Hello))). InRange hs a k) (sym one.is) (range_set s.hellos one.place one.link a k one.queue within)

pub in_range : (d : DomainConf) (a b link : ℕ) → link_between d.routers a b ≡ Some link → (history : List HelloEvent) → InRange (circuits_after d history).hellos a link
unfolding circuits_after first_circuits
in_range d a b link joined [] =
    let l = link_there (slice_get d.routers a) (slice_get d.routers b) link joined in
    let f = first_router d.routers a l.r l.near_is in
    let w = within_list l.r.ends link l.there.e l.there.at in
    let n = f.1 in
    record { router = f.0; link = omega (arith, n, w) }
in_range d a b link joined (e ∷ past) = range_left (circuits_after d past) (happens (circuits_after d past) e).state a link (left (circuits_after d past) e).hellos (in_range d a b link joined past)

-- ---- each hello in flight, and the history before it was sent

pub record SentAs (d : DomainConf) (a b link : ℕ) (h : Hello) (sent : List HelloEvent) : Type 0 where
  pub own : SystemId
  pub peer : SystemId
  pub is : h ≡ hello_of own link peer (circuit_at (circuits_after d sent).circuits a link).adjacency
  pub put : hellos_at (circuits_after d (events.Hello a b ∷ sent)).hellos a link ≡ hellos_at (circuits_after d sent).hellos a link ++ h ∷ []

pub AllSent : DomainConf → ℕ → ℕ → ℕ → List Hello → List (List HelloEvent) → Type 0
AllSent d a b link [] [] = Unit {0}
AllSent d a b link [] (p ∷ ps) = ⊥
AllSent d a b link (h ∷ hs) [] = ⊥
AllSent d a b link (h ∷ hs) (p ∷ ps) = SentAs d a b link h p × AllSent d a b link hs ps

all_more : (d : DomainConf) (a b link : ℕ) (hs : List Hello) (ps : List (List HelloEvent)) (h : Hello) (p : List HelloEvent) → AllSent d a b link hs ps → SentAs d a b link h p → AllSent d a b link (hs ++ h ∷ []) (ps ++ p ∷ [])
unfolding AllSent
all_more d a b link [] [] h p all one = (one, tt)
all_more d a b link [] (q ∷ ps) h p all one = absurd all
all_more d a b link (g ∷ hs) [] h p all one = absurd all
all_more d a b link (g ∷ hs) (q ∷ ps) h p all one = (all.0, all_more d a b link hs ps h p all.1 one)

all_less : (d : DomainConf) (a b link : ℕ) (hs : List Hello) (ps : List (List HelloEvent)) (i : ℕ) → AllSent d a b link hs ps → AllSent d a b link (remove hs i) (remove ps i)
unfolding AllSent
all_less d a b link [] [] zero all = tt
all_less d a b link [] [] (suc i) all = tt
all_less d a b link [] (q ∷ ps) i all = absurd all
all_less d a b link (g ∷ hs) [] i all = absurd all
all_less d a b link (g ∷ hs) (q ∷ ps) zero all = all.1
all_less d a b link (g ∷ hs) (q ∷ ps) (suc i) all = (all.0, all_less d a b link hs ps i all.1)

pub record Found (d : DomainConf) (a b link : ℕ) (h : Hello) (ps : List (List HelloEvent)) (i : ℕ) : Type 0 where
  pub sent : List HelloEvent
  pub at : slice_get ps i ≡ Some sent
  pub as_sent : SentAs d a b link h sent

pub all_found : (d : DomainConf) (a b link : ℕ) (hs : List Hello) (ps : List (List HelloEvent)) (i : ℕ) (h : Hello) → AllSent d a b link hs ps → slice_get hs i ≡ Some h → Found d a b link h ps i
unfolding AllSent
all_found d a b link [] ps i h all got = absurd (none-some h got)
all_found d a b link (g ∷ hs) [] i h all got = absurd all
all_found d a b link (g ∷ hs) (q ∷ ps) zero h all got = record { sent = q; at = refl; as_sent = subst (λ (x : Hello). SentAs d a b link x q) (same_Some g h got) all.0 }
all_found d a b link (g ∷ hs) (q ∷ ps) (suc i) h all got = let f = all_found d a b link hs ps i h all.1 got in record { sent = f.sent; at = f.at; as_sent = f.as_sent }

none_removed : (hs : List Hello) (i : ℕ) → slice_get hs i ≡ None → remove hs i ≡ hs
none_removed [] zero none = refl
none_removed [] (suc i) none = refl
none_removed (h ∷ hs) zero none = absurd (none-some h (sym none))
none_removed (h ∷ hs) (suc i) none = ap (λ (l : List Hello). h ∷ l) (none_removed hs i none)

none_at : (confs : List RouterConf) (a k : ℕ) → hellos_at (no_hellos confs) a k ≡ []
none_at [] a k = refl
none_at (r ∷ rs) zero k = by_end r.ends k
  where
    by_end : (es : List End) (k : ℕ) → get_or (map (λ (e : End). none_sent) es) k [] ≡ []
    by_end [] k = refl
    by_end (e ∷ es) zero = refl
    by_end (e ∷ es) (suc k) = by_end es k
none_at (r ∷ rs) (suc a) k = none_at rs a k

-- ---- what an event does to one direction

pub pair_is : (a b x y : ℕ) → x ≡ a → y ≡ b → is_pair a b x y ≡ true
pair_is a b x y p q = rw (eq-eqb x a p, eq-eqb y b q) refl

module _ (s : CircuitsState) (a b link back : ℕ) (joined : link_between s.domain.routers a b ≡ Some link) (home : link_between s.domain.routers b a ≡ Some back)
    (only : (y : ℕ) → link_between s.domain.routers a y ≡ Some link → y ≡ b) (within : InRange s.hellos a link) where
  record Pushed : Type 0 where
    pub h : Hello
    pub own : SystemId
    pub peer : SystemId
    pub is : h ≡ hello_of own link peer (circuit_at s.circuits a link).adjacency
    pub queue : hellos_at (sends s a (link_between s.domain.routers a b)).state.hellos a link ≡ hellos_at s.hellos a link ++ h ∷ []

  pushed : Pushed
  pushed =
      let l = link_there (slice_get s.domain.routers a) (slice_get s.domain.routers b) link joined in
      let h : Hello = hello_of l.r.system link l.there.e.peer (circuit_at s.circuits a link).adjacency in
      let all : (sends s a (link_between s.domain.routers a b)).state.hellos ≡ push_hello s.hellos a link h =
      ap (λ (o : Option ℕ). (sends s a o).state.hellos) joined
      ∙ ap (λ (o : Option RouterConf). (sends_from s a link o).state.hellos) l.near_is
      ∙ ap (λ (o : Option End). (sends_on s a link l.r o).state.hellos) l.there.at in
      record {
        h = h;
        own = l.r.system;
        peer = l.there.e.peer;
        is = refl;
        queue = ap (λ (hs : List (List (List Hello))). hellos_at hs a link) all ∙ hellos_here s.hellos a link (hellos_at s.hellos a link ++ h ∷ []) within;
      }

  -- another pair of routers is another direction
  off : (x y l : ℕ) → link_between s.domain.routers x y ≡ Some l → is_pair a b x y ≡ false → Elsewhere x l a link
  off x y l out other = λ a-is l-is.
      let here : link_between s.domain.routers a y ≡ Some link = ap (λ (n : ℕ). link_between s.domain.routers n y) a-is ∙ out ∙ ap (λ (n : ℕ). Some n) (sym l-is) in
      true≢false (sym (pair_is a b x y (sym a-is) (only y here)) ∙ other)

  sent_other : (x y : ℕ) (o : Option ℕ) → link_between s.domain.routers x y ≡ o → is_pair a b x y ≡ false → hellos_at (sends s x o).state.hellos a link ≡ hellos_at s.hellos a link
  sent_other x y None out other = refl
  sent_other x y (Some l) out other = by_router (slice_get s.domain.routers x)
    where
      by_end : (r : RouterConf) (o : Option End) → hellos_at (sends_on s x l r o).state.hellos a link ≡ hellos_at s.hellos a link
      by_end r None = refl
      by_end r (Some e) = hellos_other s.hellos x l a link (hellos_at s.hellos x l ++ hello_of r.system l e.peer (circuit_at s.circuits x l).adjacency ∷ []) (off x y l out other)

      by_router : (o : Option RouterConf) → hellos_at (sends_from s x l o).state.hellos a link ≡ hellos_at s.hellos a link
      by_router None = refl
      by_router (Some r) = by_end r (slice_get r.ends l)

  arrived_here : (i : ℕ) → hellos_at (arrives_over s a b i (link_between s.domain.routers a b) (link_between s.domain.routers b a)).state.hellos a link ≡ remove (hellos_at s.hellos a link) i
  arrived_here i =
      ap (λ (o : Option ℕ). hellos_at (arrives_over s a b i o (link_between s.domain.routers b a)).state.hellos a link) joined
      ∙ ap (λ (o : Option ℕ). hellos_at (arrives_over s a b i (Some link) o).state.hellos a link) home
      ∙ by_hello (slice_get (hellos_at s.hellos a link) i) refl
    where
      by_hello : (o : Option Hello) → slice_get (hellos_at s.hellos a link) i ≡ o → hellos_at (arrives s a link b back i o).state.hellos a link ≡ remove (hellos_at s.hellos a link) i
      by_hello None got = sym (none_removed (hellos_at s.hellos a link) i got)
      by_hello (Some h) got = hellos_here s.hellos a link (remove (hellos_at s.hellos a link) i) within

  arrived_other : (x y i : ℕ) (o p : Option ℕ) → link_between s.domain.routers x y ≡ o → is_pair a b x y ≡ false → hellos_at (arrives_over s x y i o p).state.hellos a link ≡ hellos_at s.hellos a link
  arrived_other x y i None p out other = refl
  arrived_other x y i (Some l) None out other = refl
  arrived_other x y i (Some l) (Some k) out other = by_hello (slice_get (hellos_at s.hellos x l) i)
    where
      by_hello : (o : Option Hello) → hellos_at (arrives s x l y k i o).state.hellos a link ≡ hellos_at s.hellos a link
      by_hello None = refl
      by_hello (Some h) = hellos_other s.hellos x l a link (remove (hellos_at s.hellos x l) i) (off x y l out other)

  lost_here : (i : ℕ) → hellos_at (forgets s a i (link_between s.domain.routers a b)).state.hellos a link ≡ remove (hellos_at s.hellos a link) i
  lost_here i = ap (λ (o : Option ℕ). hellos_at (forgets s a i o).state.hellos a link) joined ∙ hellos_here s.hellos a link (remove (hellos_at s.hellos a link) i) within

  lost_other : (x y i : ℕ) (o : Option ℕ) → link_between s.domain.routers x y ≡ o → is_pair a b x y ≡ false → hellos_at (forgets s x i o).state.hellos a link ≡ hellos_at s.hellos a link
  lost_other x y i None out other = refl
  lost_other x y i (Some l) out other = hellos_other s.hellos x l a link (remove (hellos_at s.hellos x l) i) (off x y l out other)

-- ---- the hellos in flight after each history

module _ (d : DomainConf) (valid : IsValid d) (a b link back : ℕ) (joined : link_between d.routers a b ≡ Some link) (home : link_between d.routers b a ≡ Some back) where
  abbrev after : List HelloEvent → CircuitsState
  after past = circuits_after d past

  abbrev queue_after : List HelloEvent → List Hello
  queue_after past = hellos_at (circuits_after d past).hellos a link

  out_after : (past : List HelloEvent) → link_between (circuits_after d past).domain.routers a b ≡ Some link
  out_after past = ap (λ (x : DomainConf). link_between x.routers a b) (domain_after d past) ∙ joined

  home_after : (past : List HelloEvent) → link_between (circuits_after d past).domain.routers b a ≡ Some back
  home_after past = ap (λ (x : DomainConf). link_between x.routers b a) (domain_after d past) ∙ home

  only_after : (past : List HelloEvent) (y : ℕ) → link_between (circuits_after d past).domain.routers a y ≡ Some link → y ≡ b
  only_after past y h = only_link d valid a b y link joined (sym (ap (λ (x : DomainConf). link_between x.routers a y) (domain_after d past)) ∙ h)

  along : (qs : List (List HelloEvent)) (q q' : List Hello) → q' ≡ q → AllSent d a b link q qs → AllSent d a b link q' qs
  along qs q q' e all = subst (λ (l : List Hello). AllSent d a b link l qs) (sym e) all

  sent_step : (past : List HelloEvent) (x y : ℕ) (test : Bool) → is_pair a b x y ≡ test → AllSent d a b link (queue_after past) (sendings a b past)
      → AllSent d a b link (hellos_at (happens (circuits_after d past) (events.Hello x y)).state.hellos a link) (cond test (sendings a b past ++ past ∷ []) (sendings a b past))
  unfolding happens circuits_after
  sent_step past x y false is all = along (sendings a b past) (queue_after past) _ (sent_other (circuits_after d past) a b link back (out_after past) (home_after past) (only_after past) (in_range d a b link joined past) x y (link_between (circuits_after d past).domain.routers x y) refl is) all
  sent_step past x y true is all =
      let s = circuits_after d past in
      let both = and_parts (eqb x a) (eqb y b) is in
      let p = pushed s a b link back (out_after past) (home_after past) (only_after past) (in_range d a b link joined past) in
      let same : hellos_at (sends s x (link_between s.domain.routers x y)).state.hellos a link ≡ queue_after past ++ p.h ∷ [] =
      ap (λ (n : ℕ). hellos_at (sends s n (link_between s.domain.routers n y)).state.hellos a link) (eqb-true x a both.0)
      ∙ ap (λ (n : ℕ). hellos_at (sends s a (link_between s.domain.routers a n)).state.hellos a link) (eqb-true y b both.1)
      ∙ p.queue in
      along (sendings a b past ++ past ∷ []) (queue_after past ++ p.h ∷ []) _ same
      (all_more d a b link (queue_after past) (sendings a b past) p.h past all (record { own = p.own; peer = p.peer; is = p.is; put = p.queue }))

  arrived_step : (past : List HelloEvent) (x y i : ℕ) (test : Bool) → is_pair a b x y ≡ test → AllSent d a b link (queue_after past) (sendings a b past)
      → AllSent d a b link (hellos_at (happens (circuits_after d past) (events.Greet x y i)).state.hellos a link) (cond test (remove (sendings a b past) i) (sendings a b past))
  unfolding happens
  arrived_step past x y i false is all = along (sendings a b past) (queue_after past) _ (arrived_other (circuits_after d past) a b link back (out_after past) (home_after past) (only_after past) (in_range d a b link joined past) x y i (link_between (circuits_after d past).domain.routers x y) (link_between (circuits_after d past).domain.routers y x) refl is) all
  arrived_step past x y i true is all =
      let s = circuits_after d past in
      let both = and_parts (eqb x a) (eqb y b) is in
      let same : hellos_at (arrives_over s x y i (link_between s.domain.routers x y) (link_between s.domain.routers y x)).state.hellos a link ≡ remove (queue_after past) i =
      ap (λ (n : ℕ). hellos_at (arrives_over s n y i (link_between s.domain.routers n y) (link_between s.domain.routers y n)).state.hellos a link) (eqb-true x a both.0)
      ∙ ap (λ (n : ℕ). hellos_at (arrives_over s a n i (link_between s.domain.routers a n) (link_between s.domain.routers n a)).state.hellos a link) (eqb-true y b both.1)
      ∙ arrived_here s a b link back (out_after past) (home_after past) (only_after past) (in_range d a b link joined past) i in
      along (remove (sendings a b past) i) (remove (queue_after past) i) _ same (all_less d a b link (queue_after past) (sendings a b past) i all)

  lost_step : (past : List HelloEvent) (x y i : ℕ) (test : Bool) → is_pair a b x y ≡ test → AllSent d a b link (queue_after past) (sendings a b past)
      → AllSent d a b link (hellos_at (happens (circuits_after d past) (events.Forget x y i)).state.hellos a link) (cond test (remove (sendings a b past) i) (sendings a b past))
  unfolding happens
  lost_step past x y i false is all = along (sendings a b past) (queue_after past) _ (lost_other (circuits_after d past) a b link back (out_after past) (home_after past) (only_after past) (in_range d a b link joined past) x y i (link_between (circuits_after d past).domain.routers x y) refl is) all
  lost_step past x y i true is all =
      let s = circuits_after d past in
      let both = and_parts (eqb x a) (eqb y b) is in
      let same : hellos_at (forgets s x i (link_between s.domain.routers x y)).state.hellos a link ≡ remove (queue_after past) i =
      ap (λ (n : ℕ). hellos_at (forgets s n i (link_between s.domain.routers n y)).state.hellos a link) (eqb-true x a both.0)
      ∙ ap (λ (n : ℕ). hellos_at (forgets s a i (link_between s.domain.routers a n)).state.hellos a link) (eqb-true y b both.1)
      ∙ lost_here s a b link back (out_after past) (home_after past) (only_after past) (in_range d a b link joined past) i in
      along (remove (sendings a b past) i) (remove (queue_after past) i) _ same (all_less d a b link (queue_after past) (sendings a b past) i all)

  pub all_sent : (history : List HelloEvent) → AllSent d a b link (hellos_at (circuits_after d history).hellos a link) (sendings a b history)
  unfolding circuits_after sendings first_circuits AllSent happens
  all_sent [] = subst (λ (q : List Hello). AllSent d a b link q []) (sym (none_at d.routers a link)) tt
  all_sent (events.Hello x y ∷ past) = sent_step past x y (is_pair a b x y) refl (all_sent past)
  all_sent (events.Greet x y i ∷ past) = arrived_step past x y i (is_pair a b x y) refl (all_sent past)
  all_sent (events.Forget x y i ∷ past) = lost_step past x y i (is_pair a b x y) refl (all_sent past)
  all_sent (events.Break x y ∷ past) = along (sendings a b past) (queue_after past) _ (ap (λ (hs : List (List (List Hello))). hellos_at hs a link) (replaced_over (circuits_after d past) x y broken (link_between (circuits_after d past).domain.routers x y)).1) (all_sent past)
  all_sent (events.Mend x y ∷ past) = along (sendings a b past) (queue_after past) _ (ap (λ (hs : List (List (List Hello))). hellos_at hs a link) (replaced_over (circuits_after d past) x y fresh (link_between (circuits_after d past).domain.routers x y)).1) (all_sent past)
  all_sent (events.Tick x ∷ past) = along (sendings a b past) (queue_after past) _ (ap (λ (hs : List (List (List Hello))). hellos_at hs a link) (turned_by (circuits_after d past) x turns.Second (slice_get (circuits_after d past).domain.routers x)).1) (all_sent past)
  all_sent (events.Restart x ∷ past) = along (sendings a b past) (queue_after past) _ (ap (λ (hs : List (List (List Hello))). hellos_at hs a link) (turned_by (circuits_after d past) x turns.Restart (slice_get (circuits_after d past).domain.routers x)).1) (all_sent past)
