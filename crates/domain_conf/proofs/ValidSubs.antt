-- The sub-domains of a router of a domain file are sound.
use Rattle.std.proofs.Common.{◌≡◌, ℕ, ◌≤◌, Bool, true, false, ◌&&◌, inl, inr, cond, eqb, List, [], ◌∷◌, length, map, Option, Some, None, refl, sym, ap, subst, ◌∙◌, arith}
use mathlib.Core.Bool.{true≢false, false≢true}
use Rattle.std.proofs.lemmas.Bool.{and_parts, eqb-true, eq-eqb, eqb-false}
use Rattle.std.proofs.lemmas.List.{length-map}
use Rattle.std.specs.List.{AllByRecursion}
use Rattle.std.specs.Prelude.{filter, is_none}
use Rattle.wire_base.specs.declared.bsl.Bsl.{Bsl}
use Rattle.wire_base.specs.declared.bsl.Bsl.TheVariants.{B64, B128, B256, B512, B1024, B2048, B4096}
use Rattle.wire_base.specs.declared.conf.Kind.{Kind}
use Rattle.wire_base.specs.declared.conf.Kind.TheVariants.{Mpls, Configured}
use Rattle.wire_base.specs.declared.conf.LabelRange.{LabelRange}
use Rattle.wire_base.specs.declared.conf.OwnSub.{OwnSub}
use Rattle.wire_base.specs.declared.conf.SubKind.{SubKind}
use Rattle.wire_base.specs.model.Configuration.{IsLabelRange, IsOwnSub, same_length, share_label, same_sub, MayStand}
use Rattle.wire_base.proofs.SoundLemmas.{all_ranges}
use Rattle.wire_base.specs.model.Lists.{AreApart}
use Rattle.wire_base.specs.model.Place.{kind_of, is_mpls, code_of}
use Rattle.domain_conf.specs.declared.bier.BierEntry.{BierEntry}
use Rattle.domain_conf.specs.declared.labels.LabelsEntry.{LabelsEntry}
use Rattle.domain_conf.specs.LabelRanges.{same_labels, takes_label}
use Rattle.domain_conf.specs.Assembled.{is_labels_of, ranges_of, sub_of, subs_of}
use Rattle.domain_conf.proofs.ValidArrays.{AreSubdomains, AreBiers, IsBierEntry, AreLabels, IsLabelsEntry, of_sub, eqb_turned, label_turned}
use Rattle.domain_conf.proofs.ValidAmong.{IsIn, all_in, in_filter, apart_filter, all_map, apart_map, apart_in, in_map, apart_flat_map, as_many}

-- of two that aren't both true, the second isn't where the first is
and_last : (a b : Bool) → a ≡ true → (a && b) ≡ false → b ≡ false
and_last true b h e = e
and_last false b h e = absurd (false≢true h)

-- an entry of a router and a sub-domain
pub record LabelsOf (labels : List LabelsEntry) (router sd : ℕ) (l : LabelsEntry) : Type 0 where
  pub entry : IsIn l labels
  pub router_is : l.router ≡ router
  pub sd_is : l.sd ≡ sd

kept_labels : (labels : List LabelsEntry) (router sd : ℕ) (l : LabelsEntry) → IsIn l (filter (is_labels_of router sd) labels) → LabelsOf labels router sd l
kept_labels labels router sd l i =
    let p = in_filter (is_labels_of router sd) labels l i in
    let q = and_parts (eqb l.router router) (eqb l.sd sd) p.1 in
    record { entry = p.0; router_is = eqb-true l.router router q.0; sd_is = eqb-true l.sd sd q.1 }

-- the entry that a range comes from
range_entry : (labels : List LabelsEntry) (router sd : ℕ) (x : LabelRange) → IsIn x (ranges_of labels router sd) → (l : LabelsEntry) × LabelsOf labels router sd l × (l.range ≡ x)
range_entry labels router sd x i =
    let m = in_map (λ (l : LabelsEntry). l.range) (filter (is_labels_of router sd) labels) x i in
    (m.0, kept_labels labels router sd m.0 m.1, m.2)

codes_are : List ℕ
codes_are = 1 ∷ 2 ∷ 3 ∷ 4 ∷ 5 ∷ 6 ∷ 7 ∷ []

code_in : (b : Bsl) → IsIn (code_of b) codes_are
unfolding codes_are
code_in B64 = inl refl
code_in B128 = inr (inl refl)
code_in B256 = inr (inr (inl refl))
code_in B512 = inr (inr (inr (inl refl)))
code_in B1024 = inr (inr (inr (inr (inl refl))))
code_in B2048 = inr (inr (inr (inr (inr (inl refl)))))
code_in B4096 = inr (inr (inr (inr (inr (inr (inl refl))))))

seven_codes : length codes_are ≡ 7
unfolding codes_are
seven_codes = refl

-- different lengths of bit strings are at most seven
few_lengths : (xs : List LabelRange) → AreApart same_length xs → length xs ≤ 7
few_lengths xs apart = subst (λ (n : ℕ). length xs ≤ n) seven_codes (as_many (λ (x : LabelRange). code_of x.bsl) xs codes_are apart (λ x i. code_in x.bsl))

-- a sub-domain that has a kind is among those of the file
kind_in : (kinds : List SubKind) (sd : ℕ) → is_none (kind_of kinds sd) ≡ false → IsIn sd (map (λ (k : SubKind). k.sd) kinds)
kind_in [] sd e = absurd (true≢false e)
kind_in (k ∷ kinds) sd e = by (eqb k.sd sd) refl e (λ f. kind_in kinds sd f)
  where
    by : (b : Bool) → eqb k.sd sd ≡ b → is_none (cond b (Some k.kind) (kind_of kinds sd)) ≡ false → (is_none (kind_of kinds sd) ≡ false → IsIn sd (map (λ (k : SubKind). k.sd) kinds)) → IsIn sd (map (λ (k : SubKind). k.sd) (k ∷ kinds))
    by true is e more = inl (sym (eqb-true k.sd sd is))
    by false is e more = inr (more e)

module _ (kinds : List SubKind) (biers : List BierEntry) (labels : List LabelsEntry) (kinds_are : AreSubdomains kinds) (biers_are : AreBiers kinds biers) (labels_are : AreLabels kinds labels) where
  -- ---- the ranges of a router in a sub-domain

  ranges_each : (router sd : ℕ) → AllByRecursion IsLabelRange (ranges_of labels router sd)
  ranges_each router sd = all_map IsLabelRange (λ (l : LabelsEntry). l.range) (filter (is_labels_of router sd) labels) (λ l i. let k = kept_labels labels router sd l i in let h = all_in (IsLabelsEntry kinds) labels l labels_are.each k.entry in h.range)

  ranges_apart : (router sd : ℕ) → AreApart same_length (ranges_of labels router sd)
  ranges_apart router sd = apart_map same_labels same_length (λ (l : LabelsEntry). l.range) (filter (is_labels_of router sd) labels) one (apart_filter same_labels (is_labels_of router sd) labels labels_are.lengths)
    where
      one : (l m : LabelsEntry) → IsIn l (filter (is_labels_of router sd) labels) → IsIn m (filter (is_labels_of router sd) labels) → same_labels l m ≡ false → same_length l.range m.range ≡ false
      one l m i j e =
          let p = kept_labels labels router sd l i in
          let q = kept_labels labels router sd m j in
          let r = and_last (eqb m.router l.router) (eqb m.sd l.sd && same_length l.range m.range) (eq-eqb m.router l.router (q.router_is ∙ sym p.router_is)) e in
          and_last (eqb m.sd l.sd) (same_length l.range m.range) (eq-eqb m.sd l.sd (q.sd_is ∙ sym p.sd_is)) r

  ranges_free : (router sd : ℕ) → AreApart share_label (ranges_of labels router sd)
  ranges_free router sd = apart_map takes_label share_label (λ (l : LabelsEntry). l.range) (filter (is_labels_of router sd) labels) one (apart_filter takes_label (is_labels_of router sd) labels labels_are.free)
    where
      one : (l m : LabelsEntry) → IsIn l (filter (is_labels_of router sd) labels) → IsIn m (filter (is_labels_of router sd) labels) → takes_label l m ≡ false → share_label l.range m.range ≡ false
      one l m i j e =
          let p = kept_labels labels router sd l i in
          let q = kept_labels labels router sd m j in
          and_last (eqb m.router l.router) (share_label l.range m.range) (eq-eqb m.router l.router (q.router_is ∙ sym p.router_is)) e

  -- ---- the sub-domains of a router

  member_of : (router : ℕ) (b : BierEntry) → IsIn b (filter (λ b. eqb b.router router) biers) → IsIn b biers × (b.router ≡ router)
  member_of router b i = let p = in_filter (λ (b : BierEntry). eqb b.router router) biers b i in (p.0, eqb-true b.router router p.1)

  sub_sound : (b : BierEntry) → IsIn b biers → IsOwnSub (sub_of labels b)
  sub_sound b i =
      let h = all_in (IsBierEntry kinds) biers b biers_are.each i in
      record { sd = omega (arith, h.sd); id = omega (arith, h.id); few = few_lengths (ranges_of labels b.router b.sd) (ranges_apart b.router b.sd); each = ranges_each b.router b.sd; lengths = ranges_apart b.router b.sd }

  pub subs_sound : (router : ℕ) → AllByRecursion IsOwnSub (subs_of biers labels router)
  unfolding subs_of
  subs_sound router = all_map IsOwnSub (sub_of labels) (filter (λ (b : BierEntry). eqb b.router router) biers) (λ b i. sub_sound b (member_of router b i).0)

  pub subs_apart : (router : ℕ) → AreApart same_sub (subs_of biers labels router)
  unfolding subs_of
  subs_apart router = apart_map of_sub same_sub (sub_of labels) (filter (λ (b : BierEntry). eqb b.router router) biers) one (apart_filter of_sub (λ (b : BierEntry). eqb b.router router) biers biers_are.once)
    where
      one : (b c : BierEntry) → IsIn b (filter (λ (b : BierEntry). eqb b.router router) biers) → IsIn c (filter (λ (b : BierEntry). eqb b.router router) biers) → of_sub b c ≡ false → eqb b.sd c.sd ≡ false
      one b c i j e =
          let p = member_of router b i in
          let q = member_of router c j in
          eqb_turned b.sd c.sd ∙ and_last (eqb c.router b.router) (eqb c.sd b.sd) (eq-eqb c.router b.router (q.1 ∙ sym p.1)) e

  -- a router is in no more sub-domains than there are
  pub subs_few : (router : ℕ) → length (subs_of biers labels router) ≤ length kinds
  unfolding subs_of
  subs_few router = subst (λ (n : ℕ). length (subs_of biers labels router) ≤ n) (length-map kinds (λ (k : SubKind). k.sd)) (as_many (λ (s : OwnSub). s.sd) (subs_of biers labels router) (map (λ (k : SubKind). k.sd) kinds) (subs_apart router) one)
    where
      one : (s : OwnSub) → IsIn s (subs_of biers labels router) → IsIn s.sd (map (λ (k : SubKind). k.sd) kinds)
      one s i =
          let m = in_map (sub_of labels) (filter (λ (b : BierEntry). eqb b.router router) biers) s i in
          let h = all_in (IsBierEntry kinds) biers m.0 biers_are.each (member_of router m.0 m.1).0 in
          subst (λ (k : ℕ). IsIn k (map (λ (k : SubKind). k.sd) kinds)) (ap (λ (s : OwnSub). s.sd) m.2) (kind_in kinds m.0.sd h.kind)

  -- no two ranges of a router share a label, in whatever sub-domains they are
  pub labels_apart : (router : ℕ) → AreApart share_label (all_ranges (subs_of biers labels router))
  unfolding subs_of
  labels_apart router = apart_flat_map share_label (λ (s : OwnSub). s.ranges) same_sub (subs_of biers labels router) own two (subs_apart router)
    where
      bier_of : (s : OwnSub) → IsIn s (subs_of biers labels router) → (b : BierEntry) × (b.router ≡ router) × (sub_of labels b ≡ s)
      bier_of s i =
          let m = in_map (sub_of labels) (filter (λ (b : BierEntry). eqb b.router router) biers) s i in
          (m.0, (member_of router m.0 m.1).1, m.2)

      own : (s : OwnSub) → IsIn s (subs_of biers labels router) → AreApart share_label s.ranges
      own s i = let b = bier_of s i in subst (λ (s : OwnSub). AreApart share_label s.ranges) b.2 (ranges_free b.0.router b.0.sd)

      two : (s t : OwnSub) (x y : LabelRange) → IsIn s (subs_of biers labels router) → IsIn t (subs_of biers labels router) → same_sub s t ≡ false → IsIn x s.ranges → IsIn y t.ranges → share_label x y ≡ false
      two s t x y i j differ u v =
          let b = bier_of s i in
          let c = bier_of t j in
          let l = range_entry labels b.0.router b.0.sd x (subst (λ (s : OwnSub). IsIn x s.ranges) (sym b.2) u) in
          let m = range_entry labels c.0.router c.0.sd y (subst (λ (s : OwnSub). IsIn y s.ranges) (sym c.2) v) in
          let sds : b.0.sd ≡ c.0.sd → ⊥ = λ e. eqb-false s.sd t.sd differ (sym (ap (λ (s : OwnSub). s.sd) b.2) ∙ (e ∙ ap (λ (s : OwnSub). s.sd) c.2)) in
          let other : l.0 ≡ m.0 → ⊥ = λ e. sds (sym l.1.sd_is ∙ (ap (λ (l : LabelsEntry). l.sd) e ∙ m.1.sd_is)) in
          let apart = apart_in takes_label label_turned labels l.0 m.0 labels_are.free l.1.entry m.1.entry other in
          let here : eqb m.0.router l.0.router ≡ true = eq-eqb m.0.router l.0.router (m.1.router_is ∙ (c.1 ∙ sym (l.1.router_is ∙ b.1))) in
          ap (λ (x : LabelRange). share_label x y) (sym l.2) ∙ (ap (share_label l.0.range) (sym m.2) ∙ and_last (eqb m.0.router l.0.router) (share_label l.0.range m.0.range) here apart)

  -- ranges stand only where labels are given
  pub subs_may_stand : (router : ℕ) → AllByRecursion (λ s. MayStand (kind_of kinds s.sd) s.ranges) (subs_of biers labels router)
  unfolding subs_of
  subs_may_stand router = all_map (λ (s : OwnSub). MayStand (kind_of kinds s.sd) s.ranges) (sub_of labels) (filter (λ (b : BierEntry). eqb b.router router) biers) (λ b i. one b (all_in (IsBierEntry kinds) biers b biers_are.each (member_of router b i).0))
    where
      by : (sd : ℕ) (k : Option Kind) → kind_of kinds sd ≡ k → is_none k ≡ false → (router : ℕ) → MayStand k (ranges_of labels router sd)
      by sd None is some r = absurd (true≢false some)
      by sd (Some Mpls) is some r = tt
      by sd (Some Configured) is some r = empty (ranges_of labels r sd) (λ x i. range_entry labels r sd x i)
        where
          empty : (xs : List LabelRange) → ((x : LabelRange) → IsIn x xs → (l : LabelsEntry) × LabelsOf labels r sd l × (l.range ≡ x)) → xs ≡ []
          empty [] from = refl
          empty (x ∷ xs) from =
              let l = from x (inl refl) in
              let h = all_in (IsLabelsEntry kinds) labels l.0 labels_are.each l.1.entry in
              absurd (false≢true (ap is_mpls (sym is) ∙ (ap (λ (n : ℕ). is_mpls (kind_of kinds n)) (sym l.1.sd_is) ∙ h.kind)))

      one : (b : BierEntry) → IsBierEntry kinds b → MayStand (kind_of kinds b.sd) (ranges_of labels b.router b.sd)
      one b h = by b.sd (kind_of kinds b.sd) refl h.kind b.router
