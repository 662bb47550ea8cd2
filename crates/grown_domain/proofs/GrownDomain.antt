-- A grown domain is the one that a domain file with its entries says, so it is valid.
use Rattle.std.proofs.Common.{◌≡◌, ℕ, zero, suc, ◌+◌, ◌<◌, ◌≤◌, Bool, true, false, ◌&&◌, ◌⊎◌, inl, inr, cond, eqb, ltb, List, [], ◌∷◌, length, map, filter_map, Some, None, is_some, Result, Ok, refl, sym, ap, subst, ◌∙◌, arith}
use mathlib.Core.Bool.{false≢true}
use Rattle.std.proofs.lemmas.Bool.{or_from, eqb-true, le-ltb}
use Rattle.std.specs.List.{AllByRecursion, range_with_len, cons_option}
use Rattle.wire_base.specs.declared.conf.End.{End}
use Rattle.wire_base.specs.declared.conf.LinkConf.{LinkConf}
use Rattle.wire_base.specs.declared.conf.RouterConf.{RouterConf}
use Rattle.wire_base.specs.declared.conf.Level.TheVariants.{Two}
use Rattle.wire_base.specs.declared.limits.TheConstants.{MOST_ENDS, MOST_ROUTERS}
use Rattle.wire_base.specs.model.Configuration.{DomainConf, IsValid, sub_octets}
use Rattle.domain_conf.specs.declared.fault.ConfFault.{ConfFault}
use Rattle.domain_conf.specs.declared.bier.BierEntry.{BierEntry}
use Rattle.domain_conf.specs.Links.{link_of}
use Rattle.domain_conf.specs.Assembled as file
use Rattle.domain_conf.proofs.ValidAmong.{all_map}
use Rattle.domain_conf.proofs.ValidDomain.{confs_valid}
use Rattle.grown_domain.specs.declared.links.Link.{Link}
use Rattle.grown_domain.specs.Links.{joined, grown_links}
use Rattle.grown_domain.specs.Routers.{system, area, own_sub, end_toward, end_of, router}
use Rattle.grown_domain.specs.Domain.{grown_routers, grown_domain}
use Rattle.grown_domain.proofs.Ranged.{made_at, kept_one}
use Rattle.grown_domain.proofs.GrownLinks.{IsGrownLink, grown_links_are, few_ends}
use Rattle.grown_domain.specs.Entries.{router_entry, bier_entry, labels_entry, link_entry, grown_entries}
use Rattle.grown_domain.proofs.GrownEntries.{grown_entries_are}

-- ---- one router

labels_fit : (n i j : ℕ) → file.is_labels_of i 0 (labels_entry n j) ≡ eqb j i
labels_fit n i j = by (eqb j i)
  where
    by : (b : Bool) → (b && true) ≡ b
    by true = refl
    by false = refl

subs_same : (n i : ℕ) → i < n → file.subs_of (map bier_entry (range_with_len 0 n)) (map (labels_entry n) (range_with_len 0 n)) i ≡ own_sub n i ∷ []
unfolding file.subs_of
subs_same n i within =
    let bier : _ = kept_one (λ (b : BierEntry). eqb b.router i) bier_entry i (λ j. refl) 0 n (omega arith) (omega (arith, within)) in
    let labels : _ = kept_one (file.is_labels_of i 0) (labels_entry n) i (labels_fit n i) 0 n (omega arith) (omega (arith, within)) in
    rw (bier, labels) refl

system_same : (n i : ℕ) → i < n → file.system_at (map router_entry (range_with_len 0 n)) i ≡ system i
system_same n i within = let at : _ = made_at router_entry 0 n i within in let here : 0 + i ≡ i = omega arith in ap file.system_found at ∙ ap system here

ends_same : (n i : ℕ) (links : List Link) → AllByRecursion (IsGrownLink n) links → filter_map (file.end_of (map router_entry (range_with_len 0 n)) i) (map link_entry links) ≡ filter_map (end_of i) links
ends_same n i [] all = refl
ends_same n i (l ∷ links) all = rw (system_same n l.a all.0.a, system_same n l.b all.0.b) (ap (λ (more : List End). cons_option (end_of i l) more) (ends_same n i links all.1))

conf_same : (n : ℕ) (links : List Link) (i : ℕ) → AllByRecursion (IsGrownLink n) links → i < n → file.conf_of Two area (grown_entries n links) i (router_entry i) ≡ router links n i
unfolding file.ends_of
conf_same n links i all within = rw (subs_same n i within, ends_same n i links all) refl

confs_same : (n : ℕ) (links : List Link) → AllByRecursion (IsGrownLink n) links → (a k : ℕ) → a + k ≤ n → file.confs_from Two area (grown_entries n links) a (map router_entry (range_with_len a k)) ≡ map (router links n) (range_with_len a k)
confs_same n links all a zero fits = refl
confs_same n links all a (suc k) fits =
    ap (λ (r : RouterConf). r ∷ file.confs_from Two area (grown_entries n links) (a + 1) (map router_entry (range_with_len (a + 1) k))) (conf_same n links a all (omega (arith, fits)))
    ∙ ap (λ (rs : List RouterConf). router links n a ∷ rs) (confs_same n links all (a + 1) k (omega (arith, fits)))

pairs_same : (links : List Link) → map link_of (map link_entry links) ≡ map joined links
pairs_same [] = refl
pairs_same (l ∷ links) = ap (λ (ps : List LinkConf). joined l ∷ ps) (pairs_same links)

-- ---- no router is too large

end_joins : (i : ℕ) (l : Link) → is_some (end_of i l) ≡ true → (l.a ≡ i) ⊎ (l.b ≡ i)
end_joins i l some = by (eqb l.a i) (eqb l.b i) refl refl some
  where
    by : (p q : Bool) → eqb l.a i ≡ p → eqb l.b i ≡ q → is_some (cond p (Some (end_toward l.a l.b l.metric)) (cond q (Some (end_toward l.b l.a l.metric)) None)) ≡ true → (l.a ≡ i) ⊎ (l.b ≡ i)
    by true q a b some = inl (eqb-true l.a i a)
    by false true a b some = inr (eqb-true l.b i b)
    by false false a b some = absurd (false≢true some)

router_small : (n i : ℕ) → file.is_too_large (router (grown_links n) n i) ≡ false
unfolding sub_octets
router_small n i =
    let few = few_ends n i (end_of i) (end_joins i) in
    or_from (ltb MOST_ENDS (length (filter_map (end_of i) (grown_links n)))) _ (le-ltb MOST_ENDS (length (filter_map (end_of i) (grown_links n))) (omega (arith, few))) refl

-- ---- the domain

module _ (n : ℕ) (some : 3 ≤ n) (few : n ≤ MOST_ROUTERS) where
  confs : List RouterConf
  confs = file.confs_from Two area (grown_entries n (grown_links n)) 0 (map router_entry (range_with_len 0 n))

  confs_are : confs ≡ grown_routers (grown_links n) n
  unfolding confs grown_routers
  confs_are = confs_same n (grown_links n) (grown_links_are n some).each 0 n (omega arith)

  all_small : AllByRecursion (λ c. file.is_too_large c ≡ false) confs
  unfolding grown_routers
  all_small = subst (AllByRecursion (λ c. file.is_too_large c ≡ false)) (sym confs_are) (all_map (λ c. file.is_too_large c ≡ false) (router (grown_links n) n) (range_with_len 0 n) (λ i there. router_small n i))

  same_domain : (let d : DomainConf = record { routers = confs; links = map link_of (map link_entry (grown_links n)) } in d) ≡ grown_domain n
  unfolding grown_domain
  same_domain = λ i. record { routers = confs_are i; links = pairs_same (grown_links n) i }

  pub grown_valid : IsValid (grown_domain n)
  unfolding confs
  grown_valid =
      subst IsValid same_domain
      (confs_valid Two area (record { some = omega arith; few = omega arith; each = (omega arith, (omega arith, (omega arith, tt))) }) (grown_entries n (grown_links n)) (grown_entries_are n some few) all_small)

  within : (k : ℕ) (cs : List RouterConf) → AllByRecursion (λ c. file.is_too_large c ≡ false) cs → file.within_limits k cs ≡ Ok tt
  unfolding file.within_limits
  within k [] all = refl
  within k (c ∷ cs) all = rw all.0 (within (k + 1) cs all.1)

  -- a domain file with its entries says it
  pub said_by_file : file.domain_from Two area (grown_entries n (grown_links n)) ≡ Ok (grown_domain n)
  unfolding file.domain_from confs
  said_by_file = rw (within 0 confs all_small) (ap {B = Result DomainConf ConfFault} Ok same_domain)

-- routers and links that were made are the domain
pub domain_made : (n : ℕ) (routers : List RouterConf) (pairs : List LinkConf) (first second : List Link) → first ≡ grown_links n → second ≡ grown_links n → routers ≡ grown_routers first n → pairs ≡ map joined second
    → (let d : DomainConf = record { routers = routers; links = pairs } in d) ≡ grown_domain n
unfolding grown_domain
domain_made n routers pairs first second a b of_first of_second =
    let r : routers ≡ grown_routers (grown_links n) n = of_first ∙ ap (λ (links : List Link). grown_routers links n) a in
    let p : pairs ≡ map joined (grown_links n) = of_second ∙ ap (map joined) b in
    λ i. record { routers = r i; links = p i }
