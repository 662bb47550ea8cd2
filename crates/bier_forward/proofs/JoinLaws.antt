-- Effects one after the other.
use Rattle.std.proofs.Common.{◌≡◌, ℕ, Option, List, [], ◌∷◌, ◌++◌, map, append-nil, append_assoc, refl, sym, ap, ◌∙◌}
use Rattle.wire_base.specs.declared.effects.Got.{Got}
use Rattle.wire_base.specs.declared.effects.Sent.{Sent}
use Rattle.wire_base.specs.declared.view.First.{First}
use Rattle.wire_base.specs.model.Hop.{Outcome, hop}
use Rattle.wire_base.specs.model.OnFrame.{Drop, Effects, joined, nothing, one_drop, one_sent}
use Rattle.bier_hop.specs.Outcomes.{HopState, left}
use Rattle.bier_forward.specs.Hops.{after}

-- one more of a kind
pub sends : (e : Effects) (s : Sent) → record e { sent = e.sent ++ s ∷ [] } ≡ after e (one_sent s.link s.octets)
sends e s = rw (append-nil e.got, append-nil e.drops) refl

pub delivers : (e : Effects) (g : Got) → record e { got = e.got ++ g ∷ [] } ≡ after e (record nothing { got = g ∷ [] })
delivers e g = rw (append-nil e.sent, append-nil e.drops) refl

pub notes : (e : Effects) (d : Drop) → record e { drops = e.drops ++ d ∷ [] } ≡ after e (one_drop d.cause d.set)
notes e d = rw (append-nil e.sent, append-nil e.got) refl

-- the first of several, and then the others
pub after-first : (e x : Effects) (es : List Effects) → after (after e x) (joined es) ≡ after e (joined (x ∷ es))
after-first e x es = rw (append_assoc e.sent x.sent, append_assoc e.got x.got, append_assoc e.drops x.drops) refl

-- after the last
pub after-none : (e : Effects) → after e (joined []) ≡ e
after-none e = rw (append-nil e.sent, append-nil e.got, append-nil e.drops) refl

-- one more of those that are left
pub step-joined : {X : Type 0} (f : X → Effects) (e x whole : Effects) (o : X) (os more : List X) → more ≡ o ∷ os → x ≡ after e (f o) → after e (joined (map f more)) ≡ whole → after x (joined (map f os)) ≡ whole
step-joined {X} f e x whole o os more next is kept = ap (λ (y : Effects). after y (joined (map f os))) is ∙ after-first e (f o) (map f os) ∙ sym (ap (λ (l : List X). after e (joined (map f l))) next) ∙ kept

-- none more
pub all-joined : {X : Type 0} (f : X → Effects) (e whole : Effects) (more : List X) → more ≡ [] → after e (joined (map f more)) ≡ whole → e ≡ whole
all-joined {X} f e whole more none kept = sym (after-none e) ∙ sym (ap (λ (l : List X). after e (joined (map f l))) none) ∙ kept

-- ---- the state of a hop

abbrev pub started : List (Option First) → Option ℕ → List ℕ → ℕ → HopState
started table own rest ttl = record { table = table; own = own; rest = rest; ttl = ttl }

pub table-kept : (h i : HopState) (table : List (Option First)) (own : Option ℕ) (rest : List ℕ) (ttl : ℕ) → h.table ≡ i.table → i ≡ started table own rest ttl → h.table ≡ table
table-kept h i table own rest ttl kept is = kept ∙ ap (λ (s : HopState). s.table) is

pub own-kept : (h i : HopState) (table : List (Option First)) (own : Option ℕ) (rest : List ℕ) (ttl : ℕ) → h.own ≡ i.own → i ≡ started table own rest ttl → h.own ≡ own
own-kept h i table own rest ttl kept is = kept ∙ ap (λ (s : HopState). s.own) is

pub start-joined : (f : Outcome → Effects) (e : Effects) (choose : ℕ → Option ℕ) (i : HopState) (table : List (Option First)) (own o : Option ℕ) (rest : List ℕ) (ttl : ℕ) → i ≡ started table own rest ttl → own ≡ o
    → after e (joined (map f (left choose i))) ≡ after e (joined (map f (hop o choose rest ttl)))
start-joined f e choose i table own o rest ttl is same =
    ap (λ (s : HopState). after e (joined (map f (left choose s)))) is ∙ ap (λ (k : Option ℕ). after e (joined (map f (hop k choose rest ttl)))) same
