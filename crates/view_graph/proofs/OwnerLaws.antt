-- A map of the prefixes tells those that several systems have.
use mathlib.Core.Bool.{false≢true, true≢false}
use Rattle.std.proofs.Common.{◌≡◌, ℕ, zero, suc, ◌+◌, ◌<◌, ◌≤◌, ◌&&◌, ◌||◌, not, Bool, true, false, if◌then◌else◌, List, [], ◌∷◌, ◌++◌, length, get_or, take, map, filter, Option, Some, None, option_map, is_some, slice_get, refl, sym, ap, subst, ◌∙◌, arith, append_assoc, append-nil}
use Rattle.std.specs.BTreeMap as tree
use Rattle.std.specs.BTreeMap.{BTreeMap}
use Rattle.std.specs.Cmp.Lexicographic.{slice_cmp}
use Rattle.std.specs.Ordering.{nat_cmp}
use Rattle.std.specs.List.{list_any}
use Rattle.std.specs.Str.{bytes_eq}
use Rattle.std.proofs.Math.Seq.{take-suc}
use Rattle.std.proofs.lemmas.Bool.{or_parts}
use Rattle.std.proofs.lemmas.List.{map-append, take_all}
use Rattle.std.proofs.lemmas.List.Concat.{flat_map-cons, flat_map-append}
use Rattle.std.proofs.lemmas.List.Folds.{list_any-append}
use Rattle.std.proofs.lemmas.Map.Text.{is_eq-slice_cmp}
use Rattle.std.proofs.lemmas.Option.{slice_get-map}
use Rattle.std.proofs.lemmas.Slice.Eq.{bytes_eq-Decides}
use Rattle.laws_format.proofs.TlvLaws.{some_is}
use Rattle.wire_base.specs.declared.addresses.Ipv4.{Ipv4}
use Rattle.wire_base.specs.declared.addresses.SystemId.{SystemId}
use Rattle.wire_base.specs.declared.view.ViewNode.{ViewNode}
use Rattle.wire_base.specs.declared.view.ViewSub.{ViewSub}
use Rattle.wire_base.specs.model.Control.{same_system}
use Rattle.wire_base.specs.model.View.{Claim, has_prefix, is_shared, node_of, nodes_of}
use Rattle.view_graph.specs.Owners.{Prefix, prefixes_at, prefixes_in, prefixes_of, owner_at, owner_with, is_several, is_there, is_held, is_shared_in, IsOwner, AreOwners, AreAlone, AreTold, alone_node}
use Rattle.view_graph.proofs.AnewLaws.{same_by_get}
use Rattle.view_graph.proofs.FragmentLaws.{same_is}
use Rattle.view_graph.proofs.GraphLaws.{and_both}
use Rattle.view_graph.proofs.SystemLaws.{same_turned}

-- ---- one prefix more

pub and_false : (a : Bool) → (a && false) ≡ false
and_false true = refl
and_false false = refl

any_push : {X : Type 0} (f : X → Bool) (xs : List X) (x : X) (b c : Bool) → list_any f xs ≡ b → f x ≡ c → list_any f (xs ++ x ∷ []) ≡ (b || c)
any_push f xs x b c h k = list_any-append f xs (x ∷ []) ∙ ap (λ y. y || (f x || false)) h ∙ ap (λ y. b || (y || false)) k ∙ flat b c
  where
    flat : (b c : Bool) → (b || (c || false)) ≡ (b || c)
    flat true c = refl
    flat false true = refl
    flat false false = refl

held_shared : (xs : List Prefix) (t s : SystemId) (p : Ipv4) → is_held xs t p ≡ true → same_system t s ≡ false → is_shared_in xs s p ≡ true
held_shared [] t s p held apart = absurd (false≢true held)
held_shared (x ∷ xs) t s p held apart = by (same_system x.system t && bytes_eq x.prefix.0 p.0) refl held (λ h. held_shared xs t s p h apart)
  where
    later : (b c : Bool) → c ≡ true → (b || c) ≡ true
    later true c h = refl
    later false c h = h

    by : (b : Bool) → (same_system x.system t && bytes_eq x.prefix.0 p.0) ≡ b → (b || is_held xs t p) ≡ true → (is_held xs t p ≡ true → is_shared_in xs s p ≡ true) → is_shared_in (x ∷ xs) s p ≡ true
    by true e h more =
        let both = and_both (same_system x.system t) (bytes_eq x.prefix.0 p.0) e in
        let other : same_system x.system s ≡ false = ap (λ (y : SystemId). same_system y s) (same_is x.system t both.0) ∙ apart in
        rw (other, both.1) refl
    by false e h more = later (not (same_system x.system s) && bytes_eq x.prefix.0 p.0) (is_shared_in xs s p) (more h)

none_shared : (xs : List Prefix) (s : SystemId) (p : Ipv4) → is_there xs p ≡ false → is_shared_in xs s p ≡ false
none_shared [] s p h = refl
none_shared (x ∷ xs) s p h =
    let parts = or_parts (bytes_eq x.prefix.0 p.0) (is_there xs p) h in
    let first : (not (same_system x.system s) && bytes_eq x.prefix.0 p.0) ≡ false = ap (λ b. not (same_system x.system s) && b) parts.0 ∙ and_false (not (same_system x.system s)) in
    ap (λ b. b || is_shared_in xs s p) first ∙ none_shared xs s p parts.1

named : Ipv4 → SystemId → Prefix
named q u = record { prefix = q; system = u }

-- another prefix changes nothing
apart_step : (xs : List Prefix) (q : Ipv4) (u : SystemId) (p : Ipv4) (o : Option (Option SystemId)) → bytes_eq q.0 p.0 ≡ false → IsOwner xs p o → IsOwner (xs ++ record { prefix = q; system = u } ∷ []) p o
apart_step xs q u p None e is = any_push (λ (x : Prefix). bytes_eq x.prefix.0 p.0) xs (record { prefix = q; system = u }) false false is e
apart_step xs q u p (Some None) e is = λ s.
    any_push (λ (x : Prefix). not (same_system x.system s) && bytes_eq x.prefix.0 p.0) xs (record { prefix = q; system = u }) true false (is s) (ap (λ b. not (same_system u s) && b) e ∙ and_false (not (same_system u s)))
apart_step xs q u p (Some (Some t)) e is = (
  any_push (λ (x : Prefix). same_system x.system t && bytes_eq x.prefix.0 p.0) xs (record { prefix = q; system = u }) true false is.0 (ap (λ b. same_system u t && b) e ∙ and_false (same_system u t)),
  any_push (λ (x : Prefix). not (same_system x.system t) && bytes_eq x.prefix.0 p.0) xs (record { prefix = q; system = u }) false false is.1 (ap (λ b. not (same_system u t) && b) e ∙ and_false (not (same_system u t))),
)

-- the prefix itself has one system more
same_step : (xs : List Prefix) (q : Ipv4) (u : SystemId) (o : Option (Option SystemId)) → IsOwner xs q o → IsOwner (xs ++ record { prefix = q; system = u } ∷ []) q (Some (owner_with u o))
same_step xs q u o is = by o is
  where
    here : bytes_eq q.0 q.0 ≡ true
    here = (bytes_eq-Decides q.0 q.0).1 refl

    own : same_system u u ≡ true
    own = (bytes_eq-Decides u.0 u.0).1 refl

    by : (o : Option (Option SystemId)) → IsOwner xs q o → IsOwner (xs ++ record { prefix = q; system = u } ∷ []) q (Some (owner_with u o))
    by None is = (
      held_push u (is_held xs u q) refl,
      any_push (λ (x : Prefix). not (same_system x.system u) && bytes_eq x.prefix.0 q.0) xs (record { prefix = q; system = u }) false false (none_shared xs u q is) (ap (λ b. not b && bytes_eq q.0 q.0) own),
    )
      where
        held_push : (t : SystemId) (b : Bool) → is_held xs u q ≡ b → is_held (xs ++ record { prefix = q; system = u } ∷ []) u q ≡ true
        held_push t true e = any_push (λ (x : Prefix). same_system x.system u && bytes_eq x.prefix.0 q.0) xs (record { prefix = q; system = u }) true true e (ap (λ b. b && bytes_eq q.0 q.0) own ∙ here)
        held_push t false e = any_push (λ (x : Prefix). same_system x.system u && bytes_eq x.prefix.0 q.0) xs (record { prefix = q; system = u }) false true e (ap (λ b. b && bytes_eq q.0 q.0) own ∙ here)
    by (Some None) is = λ s. first s (not (same_system u s) && bytes_eq q.0 q.0) refl
      where
        first : (s : SystemId) (b : Bool) → (not (same_system u s) && bytes_eq q.0 q.0) ≡ b → is_shared_in (xs ++ record { prefix = q; system = u } ∷ []) s q ≡ true
        first s b e = any_push (λ (x : Prefix). not (same_system x.system s) && bytes_eq x.prefix.0 q.0) xs (record { prefix = q; system = u }) true b (is s) e
    by (Some (Some t)) is = cases (same_system t u) refl
      where
        cases : (b : Bool) → same_system t u ≡ b → IsOwner (xs ++ record { prefix = q; system = u } ∷ []) q (Some (if b then Some t else None))
        cases true e =
            let turned : same_system u t ≡ true = same_turned u t ∙ e in (
              any_push (λ (x : Prefix). same_system x.system t && bytes_eq x.prefix.0 q.0) xs (record { prefix = q; system = u }) true true is.0 (ap (λ b. b && bytes_eq q.0 q.0) turned ∙ here),
              any_push (λ (x : Prefix). not (same_system x.system t) && bytes_eq x.prefix.0 q.0) xs (record { prefix = q; system = u }) false false is.1 (ap (λ b. not b && bytes_eq q.0 q.0) turned),
            )
        cases false e = λ s. each s (same_system u s) refl
          where
            each : (s : SystemId) (b : Bool) → same_system u s ≡ b → is_shared_in (xs ++ record { prefix = q; system = u } ∷ []) s q ≡ true
            each s true f =
                let other : same_system t s ≡ false = ap (λ (y : SystemId). same_system t y) (sym (same_is u s f)) ∙ e in
                any_push (λ (x : Prefix). not (same_system x.system s) && bytes_eq x.prefix.0 q.0) xs (record { prefix = q; system = u }) true (not (same_system u s) && bytes_eq q.0 q.0) (held_shared xs t s q is.0 other) refl
            each s false f = before (is_shared_in xs s q) refl
              where
                before : (c : Bool) → is_shared_in xs s q ≡ c → is_shared_in (xs ++ record { prefix = q; system = u } ∷ []) s q ≡ true
                before true g = any_push (λ (x : Prefix). not (same_system x.system s) && bytes_eq x.prefix.0 q.0) xs (record { prefix = q; system = u }) true true g (ap (λ b. not b && bytes_eq q.0 q.0) f ∙ here)
                before false g = any_push (λ (x : Prefix). not (same_system x.system s) && bytes_eq x.prefix.0 q.0) xs (record { prefix = q; system = u }) false true g (ap (λ b. not b && bytes_eq q.0 q.0) f ∙ here)

pub one_more : (xs : List Prefix) (q : Ipv4) (u : SystemId) (m n : BTreeMap Ipv4 (Option SystemId)) → AreOwners xs m → ((p : Ipv4) → owner_at n p ≡ (if bytes_eq q.0 p.0 then Some (owner_with u (owner_at m q)) else owner_at m p)) → AreOwners (xs ++ record { prefix = q; system = u } ∷ []) n
one_more xs q u m n are step = λ p. by p (bytes_eq q.0 p.0) refl
  where
    by : (p : Ipv4) (b : Bool) → bytes_eq q.0 p.0 ≡ b → IsOwner (xs ++ record { prefix = q; system = u } ∷ []) p (owner_at n p)
    by p true e =
        let same : q ≡ p = rw ((bytes_eq-Decides q.0 p.0).0 e) refl in
        let to : owner_at n p ≡ Some (owner_with u (owner_at m q)) = step p ∙ rw e refl in
        subst (λ (o : Option (Option SystemId)). IsOwner (xs ++ record { prefix = q; system = u } ∷ []) p o) (sym to) (subst (λ (z : Ipv4). IsOwner (xs ++ record { prefix = q; system = u } ∷ []) z (Some (owner_with u (owner_at m q)))) same (same_step xs q u (owner_at m q) (are q)))
    by p false e =
        let to : owner_at n p ≡ owner_at m p = step p ∙ rw e refl in
        subst (λ (o : Option (Option SystemId)). IsOwner (xs ++ record { prefix = q; system = u } ∷ []) p o) (sym to) (apart_step xs q u p (owner_at m p) e (are p))

put_owner : (q : Ipv4) (w : Option SystemId) (m n : BTreeMap Ipv4 (Option SystemId)) → tree.Updates (λ (a b : Ipv4). slice_cmp nat_cmp a.0 b.0) m n q (Some w) → (p : Ipv4) → owner_at n p ≡ (if bytes_eq q.0 p.0 then Some w else owner_at m p)
put_owner q w m n h p = h.0 p ∙ ap (λ b. if b then Some w else owner_at m p) (is_eq-slice_cmp q.0 p.0)

-- what a map has once a prefix of one more system is put, where no other system has it
owner_kept : (u : SystemId) (o : Option (Option SystemId)) → is_some (owner_with u o) ≡ true → Some u ≡ owner_with u o
owner_kept u None h = refl
owner_kept u (Some None) h = absurd (false≢true h)
owner_kept u (Some (Some t)) h = by (same_system t u) refl h
  where
    by : (b : Bool) → same_system t u ≡ b → is_some (if b then Some t else None) ≡ true → Some u ≡ owner_with u (Some (Some t))
    by true e k = rw e (ap (λ (x : SystemId). Some x) (sym (same_is t u e)))
    by false e k = absurd (false≢true k)

owner_lost : (w : Option SystemId) → is_some w ≡ false → None ≡ w
owner_lost None h = refl
owner_lost (Some t) h = absurd (true≢false h)

pub put_first : (q : Ipv4) (u : SystemId) (o : Option (Option SystemId)) (m n : BTreeMap Ipv4 (Option SystemId)) → tree.Updates (λ (a b : Ipv4). slice_cmp nat_cmp a.0 b.0) m n q (Some (Some u)) → o ≡ owner_at m q → is_some (owner_with u o) ≡ true
    → (p : Ipv4) → owner_at n p ≡ (if bytes_eq q.0 p.0 then Some (owner_with u (owner_at m q)) else owner_at m p)
put_first q u o m n h e kept p = put_owner q (Some u) m n h p ∙ ap (λ w. if bytes_eq q.0 p.0 then Some w else owner_at m p) (owner_kept u o kept ∙ ap (owner_with u) e)

-- and where another one has it
pub put_none : (q : Ipv4) (u : SystemId) (o : Option (Option SystemId)) (m k n : BTreeMap Ipv4 (Option SystemId)) → tree.Updates (λ (a b : Ipv4). slice_cmp nat_cmp a.0 b.0) m k q (Some (Some u)) → tree.Updates (λ (a b : Ipv4). slice_cmp nat_cmp a.0 b.0) k n q (Some None)
    → o ≡ owner_at m q → is_some (owner_with u o) ≡ false → (p : Ipv4) → owner_at n p ≡ (if bytes_eq q.0 p.0 then Some (owner_with u (owner_at m q)) else owner_at m p)
put_none q u o m k n h g e lost p =
    put_owner q None k n g p ∙ ap (λ w. if bytes_eq q.0 p.0 then Some None else w) (put_owner q (Some u) m k h p) ∙ twice (bytes_eq q.0 p.0)
    ∙ ap (λ w. if bytes_eq q.0 p.0 then Some w else owner_at m p) (owner_lost (owner_with u o) lost ∙ ap (owner_with u) e)
  where
    twice : (b : Bool) → (if b then Some None else (if b then Some (Some u) else owner_at m p)) ≡ (if b then Some None else owner_at m p)
    twice true = refl
    twice false = refl

pub alone_put : (q : Ipv4) (u : SystemId) (m n : BTreeMap Ipv4 (Option SystemId)) → tree.Updates (λ (a b : Ipv4). slice_cmp nat_cmp a.0 b.0) m n q (Some (Some u)) → AreAlone m → AreAlone n
alone_put q u m n h alone p = ap is_several (put_owner q (Some u) m n h p) ∙ by (bytes_eq q.0 p.0)
  where
    by : (b : Bool) → is_several (if b then Some (Some u) else owner_at m p) ≡ false
    by true = refl
    by false = alone p

-- none of the steps so far, nor the next one, has made a prefix one of several systems
pub alone_step : (A B C : Type 0) (a b c : Bool) → c ≡ (a || b) → (a ≡ false → A → B) → (b ≡ false → B → C) → c ≡ false → A → C
alone_step A B C a b c e f g h x = let parts = or_parts a b (sym e ∙ h) in g parts.1 (f parts.0 x)

pub subs_step : (xs : List Prefix) (t : SystemId) (subs : List ViewSub) (i : ℕ) (z : ViewSub) (m n : BTreeMap Ipv4 (Option SystemId)) → i < length subs → z ≡ get_or subs i z → AreOwners (xs ++ prefixes_at t (take i subs)) m
    → ((p : Ipv4) → owner_at n p ≡ (if bytes_eq z.prefix.0 p.0 then Some (owner_with t (owner_at m z.prefix)) else owner_at m p)) → AreOwners (xs ++ prefixes_at t (take (i + 1) subs)) n
subs_step xs t subs i z m n lt at are step =
    let one : i + 1 ≡ suc i = omega arith in
    let pair : ViewSub → Prefix = λ s. record { prefix = s.prefix; system = t } in
    let longer : take (i + 1) subs ≡ take i subs ++ z ∷ [] = ap (λ k. take k subs) one ∙ take-suc subs i z lt ∙ ap (λ y. take i subs ++ y ∷ []) (sym at) in
    let same : (xs ++ prefixes_at t (take i subs)) ++ record { prefix = z.prefix; system = t } ∷ [] ≡ xs ++ prefixes_at t (take (i + 1) subs) = append_assoc xs (prefixes_at t (take i subs)) (pair z ∷ []) ∙ ap (λ ys. xs ++ ys) (sym (ap (prefixes_at t) longer ∙ map-append pair (take i subs) (z ∷ []))) in
    subst (λ ys. AreOwners ys n) same (one_more (xs ++ prefixes_at t (take i subs)) z.prefix t m n are step)

pub subs_end : (xs : List Prefix) (t : SystemId) (subs : List ViewSub) (i : ℕ) (m : BTreeMap Ipv4 (Option SystemId)) → length subs ≤ i → AreOwners (xs ++ prefixes_at t (take i subs)) m → AreOwners (xs ++ prefixes_at t subs) m
subs_end xs t subs i m past are = subst (λ ys. AreOwners (xs ++ prefixes_at t ys) m) (take_all i subs past) are

pub claims_step : (claims : List Claim) (i : ℕ) (c : Claim) (m n : BTreeMap Ipv4 (Option SystemId)) → i < length claims → c ≡ get_or claims i c → AreOwners (prefixes_of (take i claims)) m → ((xs : List Prefix) → AreOwners xs m → AreOwners (xs ++ prefixes_in c) n) → AreOwners (prefixes_of (take (i + 1) claims)) n
claims_step claims i c m n lt at are step =
    let one : i + 1 ≡ suc i = omega arith in
    let longer : take (i + 1) claims ≡ take i claims ++ c ∷ [] = ap (λ k. take k claims) one ∙ take-suc claims i c lt ∙ ap (λ y. take i claims ++ y ∷ []) (sym at) in
    let last : prefixes_of (c ∷ []) ≡ prefixes_in c = flat_map-cons prefixes_in c [] ∙ append-nil (prefixes_in c) in
    let same : prefixes_of (take i claims) ++ prefixes_in c ≡ prefixes_of (take (i + 1) claims) = sym (ap prefixes_of longer ∙ flat_map-append prefixes_in (take i claims) (c ∷ []) ∙ ap (λ ys. prefixes_of (take i claims) ++ ys) last) in
    subst (λ ys. AreOwners ys n) same (step (prefixes_of (take i claims)) are)

-- ---- what a claim shares

inner : (t s : SystemId) (p : Ipv4) (subs : List ViewSub) → list_any (λ (x : Prefix). not (same_system x.system s) && bytes_eq x.prefix.0 p.0) (map (λ (z : ViewSub). named z.prefix t) subs) ≡ (not (same_system t s) && has_prefix p subs)
unfolding named
inner t s p [] = sym (and_false (not (same_system t s)))
inner t s p (z ∷ zs) = ap (λ b. (not (same_system t s) && bytes_eq z.prefix.0 p.0) || b) (inner t s p zs) ∙ apart (not (same_system t s)) (bytes_eq z.prefix.0 p.0) (has_prefix p zs)
  where
    apart : (a b c : Bool) → ((a && b) || (a && c)) ≡ (a && (b || c))
    apart true b c = refl
    apart false b c = refl

shared_is : (claims : List Claim) (s : SystemId) (p : Ipv4) → is_shared_in (prefixes_of claims) s p ≡ is_shared claims s p
unfolding named
shared_is [] s p = refl
shared_is (c ∷ cs) s p =
    ap (λ (xs : List Prefix). is_shared_in xs s p) (flat_map-cons prefixes_in c cs) ∙ list_any-append (λ (x : Prefix). not (same_system x.system s) && bytes_eq x.prefix.0 p.0) (prefixes_in c) (prefixes_of cs)
    ∙ ap (λ b. b || is_shared_in (prefixes_of cs) s p) (inner c.system s p c.subs) ∙ ap (λ b. (not (same_system c.system s) && has_prefix p c.subs) || b) (shared_is cs s p)

-- a claim of another system with that prefix shares it
claim_shares : (claims : List Claim) (i : ℕ) (c : Claim) (s : SystemId) (p : Ipv4) → slice_get claims i ≡ Some c → same_system c.system s ≡ false → has_prefix p c.subs ≡ true → is_shared claims s p ≡ true
claim_shares [] i c s p at other has = absurd cc
claim_shares (d ∷ ds) zero c s p at other has = ap (λ (x : Claim). (not (same_system x.system s) && has_prefix p x.subs) || is_shared ds s p) (some_is d c at) ∙ rw (other, has) refl
claim_shares (d ∷ ds) (suc i) c s p at other has = later (not (same_system d.system s) && has_prefix p d.subs) (is_shared ds s p) (claim_shares ds i c s p at other has)
  where
    later : (a b : Bool) → b ≡ true → (a || b) ≡ true
    later true b h = refl
    later false b h = h

several_is : (claims : List Claim) (i : ℕ) (c : Claim) (p : Ipv4) (o : Option (Option SystemId)) → slice_get claims i ≡ Some c → has_prefix p c.subs ≡ true → IsOwner (prefixes_of claims) p o → is_several o ≡ is_shared claims c.system p
several_is claims i c p None at has is = sym (sym (shared_is claims c.system p) ∙ none_shared (prefixes_of claims) c.system p is)
several_is claims i c p (Some None) at has is = sym (sym (shared_is claims c.system p) ∙ is c.system)
several_is claims i c p (Some (Some t)) at has is = by (same_system c.system t) refl
  where
    alone : is_shared claims t p ≡ false
    alone = sym (shared_is claims t p) ∙ is.1

    by : (b : Bool) → same_system c.system t ≡ b → false ≡ is_shared claims c.system p
    by true e = sym (ap (λ (s : SystemId). is_shared claims s p) (same_is c.system t e) ∙ alone)
    by false e = absurd (true≢false (sym (claim_shares claims i c t p at e has) ∙ alone))

-- the places that are kept by the map are those whose prefix is no other system's
pub owners_told : (claims : List Claim) (owners : BTreeMap Ipv4 (Option SystemId)) → AreOwners (prefixes_of claims) owners → AreTold claims owners
owners_told claims owners are i c at = go c.subs (λ p h. h)
  where
    go : (subs : List ViewSub) → ((p : Ipv4) → has_prefix p subs ≡ true → has_prefix p c.subs ≡ true) → filter (λ s. not (is_several (owner_at owners s.prefix))) subs ≡ filter (λ s. not (is_shared claims c.system s.prefix)) subs
    go [] within = refl
    go (s ∷ ss) within =
        let here : has_prefix s.prefix (s ∷ ss) ≡ true = ap (λ b. b || has_prefix s.prefix ss) ((bytes_eq-Decides s.prefix.0 s.prefix.0).1 refl) in
        let same = several_is claims i c s.prefix (owner_at owners s.prefix) at (within s.prefix here) (are s.prefix) in
        by (is_shared claims c.system s.prefix) refl same (go ss (λ p h. within p (later (bytes_eq s.prefix.0 p.0) (has_prefix p ss) h)))
      where
        later : (a b : Bool) → b ≡ true → (a || b) ≡ true
        later true b h = refl
        later false b h = h

        by : (b : Bool) → is_shared claims c.system s.prefix ≡ b → is_several (owner_at owners s.prefix) ≡ is_shared claims c.system s.prefix → filter (λ s. not (is_several (owner_at owners s.prefix))) ss ≡ filter (λ s. not (is_shared claims c.system s.prefix)) ss
            → filter (λ s. not (is_several (owner_at owners s.prefix))) (s ∷ ss) ≡ filter (λ s. not (is_shared claims c.system s.prefix)) (s ∷ ss)
        by true e f more = rw (f, e) more
        by false e f more = rw (f, e) (ap (λ (ys : List ViewSub). s ∷ ys) more)

-- ---- where no prefix is one of several systems

pub none_several : (p : ViewSub → Bool) (subs : List ViewSub) → list_any p subs ≡ false → subs ≡ filter (λ s. not (p s)) subs
none_several p [] none = refl
none_several p (s ∷ ss) none = by (p s) refl none (none_several p ss)
  where
    by : (b : Bool) → p s ≡ b → (b || list_any p ss) ≡ false → (list_any p ss ≡ false → ss ≡ filter (λ t. not (p t)) ss) → s ∷ ss ≡ filter (λ t. not (p t)) (s ∷ ss)
    by true e h more = absurd (true≢false h)
    by false e h more = rw e (ap (λ (xs : List ViewSub). s ∷ xs) (more h))

pub alone_subs_none : (owners : BTreeMap Ipv4 (Option SystemId)) (subs : List ViewSub) → AreAlone owners → list_any (λ (s : ViewSub). is_several (owner_at owners s.prefix)) subs ≡ false
alone_subs_none owners [] alone = refl
alone_subs_none owners (s ∷ ss) alone = rw (alone s.prefix) (alone_subs_none owners ss alone)

alone_claims_none : (owners : BTreeMap Ipv4 (Option SystemId)) (claims : List Claim) → AreAlone owners → list_any (λ (c : Claim). list_any (λ (s : ViewSub). is_several (owner_at owners s.prefix)) c.subs) claims ≡ false
alone_claims_none owners [] alone = refl
alone_claims_none owners (c ∷ cs) alone = rw (alone_subs_none owners c.subs alone) (alone_claims_none owners cs alone)

none_at : {X : Type 0} (q : X → Bool) (xs : List X) (i : ℕ) (x : X) → list_any q xs ≡ false → slice_get xs i ≡ Some x → q x ≡ false
none_at q [] i x none at = absurd cc
none_at q (y ∷ ys) zero x none at = ap q (sym (some_is y x at)) ∙ by (q y) none
  where
    by : (b : Bool) → (b || list_any q ys) ≡ false → b ≡ false
    by true h = h
    by false h = refl
none_at q (y ∷ ys) (suc i) x none at = none_at q ys i x (by (q y) none) at
  where
    by : (b : Bool) → (b || list_any q ys) ≡ false → list_any q ys ≡ false
    by true h = absurd (true≢false h)
    by false h = h

whole_is : (claims : List Claim) (owners : BTreeMap Ipv4 (Option SystemId)) → AreTold claims owners → list_any (λ (c : Claim). list_any (λ (s : ViewSub). is_several (owner_at owners s.prefix)) c.subs) claims ≡ false → map (λ (n : ViewNode). n.subs) (nodes_of claims) ≡ map (λ (c : Claim). c.subs) claims
whole_is claims owners told none =
    same_by_get (map (λ (n : ViewNode). n.subs) (nodes_of claims)) (map (λ (c : Claim). c.subs) claims) (λ i. slice_get-map (λ (n : ViewNode). n.subs) (nodes_of claims) i ∙ ap (option_map (λ (n : ViewNode). n.subs)) (slice_get-map (node_of claims) claims i) ∙ by i (slice_get claims i) refl ∙ sym (slice_get-map (λ (c : Claim). c.subs) claims i))
  where
    by : (i : ℕ) (o : Option Claim) → slice_get claims i ≡ o → option_map (λ (n : ViewNode). n.subs) (option_map (node_of claims) (slice_get claims i)) ≡ option_map (λ (c : Claim). c.subs) (slice_get claims i)
    by i None e = ap (λ (o : Option Claim). option_map (λ (n : ViewNode). n.subs) (option_map (node_of claims) o)) e ∙ sym (ap (option_map (λ (c : Claim). c.subs)) e)
    by i (Some c) e =
        let p = λ (s : ViewSub). is_several (owner_at owners s.prefix) in
        ap (λ (o : Option Claim). option_map (λ (n : ViewNode). n.subs) (option_map (node_of claims) o)) e ∙ ap (λ (ss : List ViewSub). Some ss) (sym (none_several p c.subs (none_at (λ (d : Claim). list_any p d.subs) claims i c none e) ∙ told i c e)) ∙ sym (ap (option_map (λ (c : Claim). c.subs)) e)

pub whole_alone : (claims : List Claim) (owners : BTreeMap Ipv4 (Option SystemId)) → AreTold claims owners → AreAlone owners → map (λ (n : ViewNode). n.subs) (nodes_of claims) ≡ map (λ (c : Claim). c.subs) claims
whole_alone claims owners told alone = whole_is claims owners told (alone_claims_none owners claims alone)

-- where no prefix is one of several systems, all places stay
pub alone_whole : (owners : BTreeMap Ipv4 (Option SystemId)) (n : ViewNode) → AreAlone owners → n ≡ alone_node owners n
alone_whole owners n alone = ap (λ (ss : List ViewSub). record n { subs = ss }) (none_several (λ (s : ViewSub). is_several (owner_at owners s.prefix)) n.subs (alone_subs_none owners n.subs alone))
