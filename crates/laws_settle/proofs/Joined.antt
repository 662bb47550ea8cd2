-- A link joins two routers: none of a valid domain's joins a router to itself.
use Rattle.std.proofs.Common.{◌≡◌, ℕ, zero, suc, ◌+◌, ◌==◌, Bool, true, false, if◌then◌else◌, List, [], ◌∷◌, length, slice_get, Option, Some, None, refl, sym, ap, subst, ◌∙◌, arith}
use Rattle.std.specs.List.{AllByRecursion, cons_option}
use Rattle.std.proofs.lemmas.Bool.{eqb-false, eqb-true}
use Rattle.std.proofs.lemmas.Option.{same_Some}
use Rattle.wire_base.specs.declared.conf.End.{End}
use Rattle.wire_base.specs.declared.conf.LinkConf.{LinkConf}
use Rattle.wire_base.specs.declared.conf.RouterConf.{RouterConf}
use Rattle.wire_base.specs.model.Configuration.{AreEnds, DomainConf, Faces, HaveEnds, IsConsistent, IsLink, peers_of}
use Rattle.domain_model.specs.World.{link_between, place_of}
use Rattle.domain_model.proofs.EachLaws.{each_got}
use Rattle.domain_model.proofs.LinkLaws.{end_found, join_of, place_is}

-- a router's links lead to others
Differs : ℕ → ℕ → Type 0
Differs n p = p ≡ n → ⊥

peers_differ : (n routers : ℕ) (ls : List LinkConf) → AllByRecursion (IsLink routers) ls → AllByRecursion (Differs n) (peers_of n ls)
unfolding Differs
peers_differ n routers [] all = tt
peers_differ n routers (l ∷ ls) all = by (l.a == n) (l.b == n) refl refl (peers_differ n routers ls all.1)
  where
    by : (x y : Bool) → (l.a == n) ≡ x → (l.b == n) ≡ y → AllByRecursion (Differs n) (peers_of n ls) → AllByRecursion (Differs n) (cons_option (if x then Some l.b else if y then Some l.a else None) (peers_of n ls))
    by true y p q rest = (λ same. eqb-false l.a l.b all.0.differ (eqb-true l.a n p ∙ sym same), rest)
    by false true p q rest = (λ same. eqb-false l.a n p same, rest)
    by false false p q rest = rest

module _ (d : DomainConf) (valid : IsConsistent d) where
  ends_apart : (n : ℕ) (r : RouterConf) → slice_get d.routers n ≡ Some r → (ps : List ℕ) (es : List End) → AreEnds d.routers r ps es → AllByRecursion (Differs n) ps → AllByRecursion (λ e. e.peer ≡ r.system → ⊥) es
  unfolding Differs
  ends_apart n r at [] [] h all = tt
  ends_apart n r at [] (e ∷ es) h all = absurd h
  ends_apart n r at (p ∷ ps) [] h all = tt
  ends_apart n r at (p ∷ ps) (e ∷ es) h all = (one (slice_get d.routers p) refl h.0, ends_apart n r at ps es h.1 all.1)
    where
      one : (o : Option RouterConf) → slice_get d.routers p ≡ o → Faces r e o → e.peer ≡ r.system → ⊥
      one None there f same = f
      one (Some q) there f same =
          all.0 (sym (place_is d.routers valid.systems p q there) ∙ ap (place_of d.routers) (sym f.0 ∙ same) ∙ place_is d.routers valid.systems n r at)

  ends_at : (n : ℕ) (rs : List RouterConf) → HaveEnds d n rs → (i : ℕ) (r : RouterConf) → slice_get rs i ≡ Some r → AreEnds d.routers r (peers_of (n + i) d.links) r.ends
  ends_at n [] h i r at = cc
  ends_at n (x ∷ rs) h zero r at =
      let here : n ≡ n + 0 = omega arith in
      subst (λ (y : RouterConf). AreEnds d.routers y (peers_of (n + 0) d.links) y.ends) (same_Some x r at) (subst (λ (m : ℕ). AreEnds d.routers x (peers_of m d.links) x.ends) here h.0)
  ends_at n (x ∷ rs) h (suc i) r at =
      let later : n + 1 + i ≡ n + suc i = omega arith in
      subst (λ (m : ℕ). AreEnds d.routers r (peers_of m d.links) r.ends) later (ends_at (n + 1) rs h.1 i r at)

  pub joined_differ : (a b link : ℕ) → link_between d.routers a b ≡ Some link → a ≡ b → ⊥
  joined_differ a b link joined same =
      let j = join_of d.routers a b link joined in
      let e = end_found j.near.ends j.far.system link j.toward in
      let far_is : j.far ≡ j.near = same_Some j.far j.near (sym j.far_at ∙ ap (slice_get d.routers) (sym same) ∙ j.near_at) in
      let first : 0 + a ≡ a = omega arith in
      let ends : AreEnds d.routers j.near (peers_of a d.links) j.near.ends = subst (λ (m : ℕ). AreEnds d.routers j.near (peers_of m d.links) j.near.ends) first (ends_at 0 d.routers valid.ends a j.near j.near_at) in
      each_got (λ x. x.peer ≡ j.near.system → ⊥) j.near.ends link e.at
      (ends_apart a j.near j.near_at (peers_of a d.links) j.near.ends ends (peers_differ a (length d.routers) d.links valid.links)) e.there (e.peer ∙ ap (λ (r : RouterConf). r.system) far_is)
