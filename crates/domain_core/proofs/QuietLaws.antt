-- A world is quiet exactly where there is no reason why not.
use Rattle.std.proofs.Common.{◌≡◌, ℕ, ◌+◌, Bool, true, false, if◌then◌else◌, List, [], ◌∷◌, slice_get, unwrap_or, Option, Some, None, refl, sym, ap, subst, ◌∙◌}
use mathlib.Core.Bool.{false≢true, true≢false}
use Rattle.std.specs.Option.{option_or}
use Rattle.std.specs.List.{AllByRecursion}
use Rattle.wire_base.specs.declared.addresses.LspId.{LspId}
use Rattle.wire_base.specs.declared.conf.LinkConf.{LinkConf}
use Rattle.wire_base.specs.model.Control.{AreAscending, Control, ids_of}
use Rattle.quiet_domain.specs.Live.{AreSameLive, IsLeastDifference, first_difference}
use Rattle.quiet_domain.specs.declared.answer.Quiet.{Quiet}
use Rattle.quiet_domain.specs.declared.answer.Quiet.TheVariants.{Yes, Spent}
use Rattle.quiet_domain.proofs.DifferLaws.{is_first_difference, least_difference}
use Rattle.domain_model.specs.Faults.{is_up_toward}
use Rattle.domain_model.specs.Truth.{IsTrueControl, IsTruthful, confs_now}
use Rattle.domain_model.specs.World.{WorldState}
use Rattle.domain_model.proofs.EachLaws.{each_got}
use Rattle.laws_quiet.specs.Quiet.{AreUnspent, IsQuiet, IsQuietLink, lsdb_at, lsdb_of}
use Rattle.domain_core.specs.Quiet.{data_reason, link_reason, links_reason, quiet_of, reason_at, spent_from}

-- ---- a reason is not `Yes`

abbrev IsNo : Option Quiet → Type 0
IsNo None = Unit {0}
IsNo (Some q) = q ≡ Yes → ⊥

no_spent : (a : ℕ) (cs : List Control) → IsNo (spent_from a cs)
no_spent a [] = tt
no_spent a (c ∷ cs) = by c.spent (no_spent (a + 1) cs)
  where
    by : (b : Bool) → IsNo (spent_from (a + 1) cs) → IsNo (if b then Some (Spent a) else spent_from (a + 1) cs)
    by true more = λ e. cc
    by false more = more

-- the answer for a router is not `Yes`
pub spent_not_yes : (cs : List Control) (q : Quiet) → spent_from 0 cs ≡ Some q → q ≡ Yes → ⊥
spent_not_yes cs q is = subst IsNo is (no_spent 0 cs)

no_link : (l : LinkConf) (x y : Bool) (d : Option LspId) → IsNo (link_reason l x y d)
no_link l true true None = tt
no_link l true true (Some id) = λ e. cc
no_link l true false d = λ e. cc
no_link l false true d = λ e. cc
no_link l false false d = tt

no_first : (x y : Option Quiet) → IsNo x → IsNo y → IsNo (option_or x y)
no_first None y p q = q
no_first (Some x) y p q = p

no_links : (w : WorldState) (ls : List LinkConf) → IsNo (links_reason w ls)
no_links w [] = tt
no_links w (l ∷ ls) =
    no_first (reason_at w l) (links_reason w ls) (no_link l (is_up_toward w l.a l.b) (is_up_toward w l.b l.a) (first_difference (lsdb_at w l.a) (lsdb_at w l.b))) (no_links w ls)

none_if_yes : (o : Option Quiet) → IsNo o → unwrap_or o Yes ≡ Yes → o ≡ None
none_if_yes None n h = refl
none_if_yes (Some q) n h = absurd (n h)

or_none : (x y : Option Quiet) → option_or x y ≡ None → (x ≡ None) × (y ≡ None)
or_none None y h = (refl, h)
or_none (Some q) y h = cc

-- ---- routers

unspent_is : (a : ℕ) (cs : List Control) → spent_from a cs ≡ None → AreUnspent cs
unspent_is a [] h = tt
unspent_is a (c ∷ cs) h = by c.spent refl h (λ more. unspent_is (a + 1) cs more)
  where
    by : (b : Bool) → c.spent ≡ b → (if b then Some (Spent a) else spent_from (a + 1) cs) ≡ None → (spent_from (a + 1) cs ≡ None → AreUnspent cs) → AreUnspent (c ∷ cs)
    by true e h more = cc
    by false e h more = (e, more h)

none_spent : (a : ℕ) (cs : List Control) → AreUnspent cs → spent_from a cs ≡ None
none_spent a [] all = refl
none_spent a (c ∷ cs) all = rw all.0 (none_spent (a + 1) cs all.1)

-- ---- links

data_none : (l : LinkConf) (d : Option LspId) → data_reason l d ≡ None → d ≡ None
data_none l None h = refl
data_none l (Some id) h = cc

module _ (w : WorldState) (truth : IsTruthful w) where
  in_order : (a : ℕ) → AreAscending (ids_of (lsdb_at w a))
  in_order a = by (slice_get w.routers a) refl
    where
      by : (o : Option Control) → slice_get w.routers a ≡ o → AreAscending (ids_of (lsdb_of o))
      by None e = tt
      by (Some c) e = (each_got (IsTrueControl (confs_now w)) w.routers a c truth.controls e).kept.control.entries.in_order

  same_live : (l : LinkConf) → first_difference (lsdb_at w l.a) (lsdb_at w l.b) ≡ None → AreSameLive (lsdb_at w l.a) (lsdb_at w l.b)
  same_live l none = subst (λ (o : Option LspId). IsLeastDifference (lsdb_at w l.a) (lsdb_at w l.b) o) none (least_difference (lsdb_at w l.a) (lsdb_at w l.b) (in_order l.a) (in_order l.b))

  no_difference : (l : LinkConf) → AreSameLive (lsdb_at w l.a) (lsdb_at w l.b) → first_difference (lsdb_at w l.a) (lsdb_at w l.b) ≡ None
  no_difference l same = sym (is_first_difference (lsdb_at w l.a) (lsdb_at w l.b) (in_order l.a) (in_order l.b) None same)

  link_is_quiet : (l : LinkConf) → reason_at w l ≡ None → IsQuietLink w l
  link_is_quiet l h = by (is_up_toward w l.a l.b) refl (is_up_toward w l.b l.a) refl h
    where
      by : (x : Bool) → is_up_toward w l.a l.b ≡ x → (y : Bool) → is_up_toward w l.b l.a ≡ y → link_reason l x y (first_difference (lsdb_at w l.a) (lsdb_at w l.b)) ≡ None → IsQuietLink w l
      by true p true q h = record { whole = p ∙ sym q; same = λ up. same_live l (data_none l (first_difference (lsdb_at w l.a) (lsdb_at w l.b)) h) }
      by true p false q h = cc
      by false p true q h = cc
      by false p false q h = record { whole = p ∙ sym q; same = λ up. absurd (true≢false (sym up ∙ p)) }

  quiet_has_none : (l : LinkConf) → IsQuietLink w l → reason_at w l ≡ None
  quiet_has_none l q = by (is_up_toward w l.a l.b) refl (is_up_toward w l.b l.a) refl
    where
      by : (x : Bool) → is_up_toward w l.a l.b ≡ x → (y : Bool) → is_up_toward w l.b l.a ≡ y → reason_at w l ≡ None
      by true p true r = rw (p, r) (ap (data_reason l) (no_difference l (q.same p)))
      by true p false r = absurd (true≢false (sym p ∙ q.whole ∙ r))
      by false p true r = absurd (false≢true (sym p ∙ q.whole ∙ r))
      by false p false r = rw (p, r) refl

  links_quiet : (ls : List LinkConf) → links_reason w ls ≡ None → AllByRecursion (IsQuietLink w) ls
  links_quiet [] h = tt
  links_quiet (l ∷ ls) h = let parts = or_none (reason_at w l) (links_reason w ls) h in (link_is_quiet l parts.0, links_quiet ls parts.1)

  none_of_links : (ls : List LinkConf) → AllByRecursion (IsQuietLink w) ls → links_reason w ls ≡ None
  none_of_links [] all = refl
  none_of_links (l ∷ ls) all = ap (λ (o : Option Quiet). option_or o (links_reason w ls)) (quiet_has_none l all.0) ∙ none_of_links ls all.1

  pub yes_is_quiet : quiet_of w ≡ Yes → IsQuiet w
  unfolding quiet_of
  yes_is_quiet h =
      let spent = spent_from 0 w.routers in
      let links = links_reason w w.domain.links in
      let parts = or_none spent links (none_if_yes (option_or spent links) (no_first spent links (no_spent 0 w.routers) (no_links w w.domain.links)) h) in
      record { unspent = unspent_is 0 w.routers parts.0; links = links_quiet w.domain.links parts.1 }

  pub quiet_is_yes : IsQuiet w → quiet_of w ≡ Yes
  unfolding quiet_of
  quiet_is_yes q = rw (none_spent 0 w.routers q.unspent, none_of_links w.domain.links q.links) refl

-- where a world is quiet, no router is spent
pub yes_unspent : (w : WorldState) → quiet_of w ≡ Yes → spent_from 0 w.routers ≡ None
unfolding quiet_of
yes_unspent w h =
    let spent = spent_from 0 w.routers in
    let links = links_reason w w.domain.links in
    (or_none spent links (none_if_yes (option_or spent links) (no_first spent links (no_spent 0 w.routers) (no_links w w.domain.links)) h)).0
