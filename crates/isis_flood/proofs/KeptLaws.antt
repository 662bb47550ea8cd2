-- A PDU that is received lowers no entry, and changes neither the own system nor the links that are up.
use Rattle.std.proofs.Common.{◌≡◌, ℕ, suc, ◌≤◌, ◌==◌, ◌&&◌, ◌||◌, eqb, ltb, Bool, true, false, not, if◌then◌else◌, List, [], ◌∷◌, length, filter, Option, Some, None, Result, Ok, Err, refl, sym, ap, subst, ◌∙◌, inl, inr, arith}
use mathlib.Core.Bool.{false≢true, true≢false}
use Rattle.std.specs.Prelude.{nat_lt}
use Rattle.std.specs.List.{fold}
use Rattle.std.specs.declared.cmp.Ordering.{Ordering}
use Rattle.std.specs.declared.cmp.Ordering.TheVariants.{Less, Equal, Greater}
use Rattle.std.specs.Ordering.{is_eq, is_gt, match_ordering, ordering_reverse}
use Rattle.std.proofs.lemmas.Bool.{and_parts, ltb-true, eqb-true}
use Rattle.wire_base.specs.declared.addresses.LspId.{LspId}
use Rattle.wire_base.specs.declared.entry.Age.{Age}
use Rattle.wire_base.specs.declared.entry.Age.TheVariants as age
use Rattle.wire_base.specs.declared.entry.Entry.{Entry}
use Rattle.wire_base.specs.declared.flood_out.SnpOut.{SnpOut}
use Rattle.wire_base.specs.declared.memory.Memory.{Memory}
use Rattle.wire_base.specs.declared.triple.Summary.{Summary}
use Rattle.wire_base.specs.model.Control.{same_system, same_id, id_order, entry_in, put_entry, purge, is_full, is_unknown, is_newer_or_confused, age_of, age_by_life, seq_of, Flood, fragment_0}
use Rattle.wire_base.specs.model.Pdu.{Head, head_summary}
use Rattle.wire_base.specs.model.Flooding.{LspAnswer, SnpAnswer, mark_all, kept, on_lsp, lsp_in, lsp_aged, is_own_ahead, is_unheld_own, wanted, is_live_summary, listed_aged, on_listed, on_list, lacks, send_lacking, nothing_asked, with_row, set_srm, csnp_listed}
use Rattle.wire_base.proofs.OrderLaws.{id_total, tie_is_same, same_is, same_from_tie, above_differs}
use Rattle.isis_flood.specs.Answers.{LspDone, SnpDone}
use Rattle.isis_flood.specs.declared.action.LspAction.{LspAction}
use Rattle.isis_flood.specs.Kept.{IsAtMost, Stays, NotLowered}
use Rattle.wire_base.proofs.AgeLaws.{unknown_is_none}

-- ---- the order

pub at_most_refl : (e : Entry) → IsAtMost e e
at_most_refl e = inr (refl, λ dead. dead)

pub at_most_trans : (a b c : Entry) → IsAtMost a b → IsAtMost b c → IsAtMost a c
at_most_trans a b c (inl h) (inl k) = inl (omega (arith, h, k))
at_most_trans a b c (inl h) (inr k) = let same = k.0 in inl (omega (arith, h, same))
at_most_trans a b c (inr h) (inl k) = let same = h.0 in inl (omega (arith, same, k))
at_most_trans a b c (inr h) (inr k) = inr (h.0 ∙ k.0, λ dead. k.1 (h.1 dead))

pub stays_refl : (o : Option Entry) → Stays o o
stays_refl None = tt
stays_refl (Some e) = at_most_refl e

pub stays_trans : (a b c : Option Entry) → Stays a b → Stays b c → Stays a c
stays_trans None b c h k = tt
stays_trans (Some x) None c h k = absurd h
stays_trans (Some x) (Some y) None h k = absurd k
stays_trans (Some x) (Some y) (Some z) h k = at_most_trans x y z h k

pub not_lowered_refl : (es : List Entry) → NotLowered es es
not_lowered_refl es = record { each = λ id. stays_refl (entry_in es id) }

pub not_lowered_trans : (a b c : List Entry) → NotLowered a b → NotLowered b c → NotLowered a c
not_lowered_trans a b c h k = record { each = λ id. stays_trans (entry_in a id) (entry_in b id) (entry_in c id) (h.each id) (k.each id) }

-- ---- an entry that is put

-- what stands for an identifier once an entry was put
pub entry_put : (es : List Entry) (e : Entry) (id : LspId) → entry_in (put_entry e es) id ≡ (if same_id e.id id then Some e else entry_in es id)
entry_put [] e id = refl
entry_put (x ∷ xs) e id = cases (entry_put xs e id) (id_order e.id x.id) refl
  where
    tied : (p q : Bool) (c : Option Entry) → p ≡ q → (if p then Some e else c) ≡ (if p then Some e else (if q then Some x else c))
    tied true q c h = refl
    tied false true c h = absurd (false≢true h)
    tied false false c h = refl

    above : (p q : Bool) (c : Option Entry) → (p ≡ true → q ≡ true → ⊥) → (if q then Some x else (if p then Some e else c)) ≡ (if p then Some e else (if q then Some x else c))
    above true true c h = absurd (h refl refl)
    above true false c h = refl
    above false q c h = refl

    cases : entry_in (put_entry e xs) id ≡ (if same_id e.id id then Some e else entry_in xs id) → (o : Ordering) → id_order e.id x.id ≡ o → entry_in (match_ordering o (e ∷ x ∷ xs) (e ∷ xs) (x ∷ put_entry e xs)) id ≡ (if same_id e.id id then Some e else (if same_id x.id id then Some x else entry_in xs id))
    cases again Less o = refl
    cases again Equal o = tied (same_id e.id id) (same_id x.id id) (entry_in xs id) (ap (λ (i : LspId). same_id i id) (same_from_tie e.id x.id o))
    cases again Greater o =
        ap (λ (c : Option Entry). if same_id x.id id then Some x else c) again
        ∙ above (same_id e.id id) (same_id x.id id) (entry_in xs id) (λ p q. true≢false (sym (sym (tie_is_same e.id x.id) ∙ ap is_eq (subst (λ (i : LspId). id_order e.id x.id ≡ id_order e.id i) (same_is x.id id q ∙ sym (same_is e.id id p)) refl ∙ o_self e.id)) ∙ above_differs e.id x.id (ap is_gt o)))
      where
        self : (o : Ordering) → o ≡ ordering_reverse o → o ≡ Equal
        self Less h = cc
        self Equal h = refl
        self Greater h = cc

        o_self : (i : LspId) → id_order i i ≡ Equal
        o_self i = self (id_order i i) (id_total.antisymm i i)

pub put_not_lowered : (es : List Entry) (e : Entry) (id : LspId) → e.id ≡ id → Stays (entry_in es id) (Some e) → NotLowered es (put_entry e es)
put_not_lowered es e id is stays = record { each = λ other. subst (λ (o : Option Entry). Stays (entry_in es other) o) (sym (entry_put es e other)) (pick other (same_id e.id other) refl) }
  where
    pick : (other : LspId) (same : Bool) → same_id e.id other ≡ same → Stays (entry_in es other) (if same then Some e else entry_in es other)
    pick other true h = subst (λ (i : LspId). Stays (entry_in es i) (Some e)) (sym is ∙ same_is e.id other h) stays
    pick other false h = stays_refl (entry_in es other)

-- ---- what may be put, by its age

-- a purge of what is newer, or at odds with the entry
pub purge_stays : (o : Option Entry) (s : Summary) (id : LspId) → (is_unknown (age_of o s) || is_newer_or_confused (age_of o s)) ≡ true → Stays o (Some (purge id s.seq))
purge_stays None s id h = tt
purge_stays (Some e) s id h = cases (eqb e.seq s.seq) (ltb e.seq s.seq) refl refl _ h
  where
    cases : (same lower : Bool) → eqb e.seq s.seq ≡ same → ltb e.seq s.seq ≡ lower → (tied : Age) → (is_unknown (if same then tied else (if lower then age.Newer else age.Older)) || is_newer_or_confused (if same then tied else (if lower then age.Newer else age.Older))) ≡ true → IsAtMost e (purge id s.seq)
    cases true lower a b tied h = inr (eqb-true e.seq s.seq a, λ dead. refl)
    cases false true a b tied h = inl (ltb-true e.seq s.seq b)
    cases false false a b tied h = absurd (false≢true h)

-- what is newer, where what is dead stays dead
pub newer_stays : (o : Option Entry) (s : Summary) (new : Entry) → age_of o s ≡ age.Newer → new.seq ≡ s.seq → (s.life ≡ 0 → new.life ≡ 0) → Stays o (Some new)
newer_stays None s new h seq dead = tt
newer_stays (Some e) s new h seq dead = cases (eqb e.seq s.seq) (eqb s.seq 0) (ltb e.seq s.seq) refl refl h
  where
    dies : (x y z : Bool) → eqb s.life 0 ≡ y → age_by_life x y z ≡ age.Newer → s.life ≡ 0
    dies x true z is k = eqb-true s.life 0 is
    dies true false z is k = cc
    dies false false true is k = cc
    dies false false false is k = cc

    cases : (same first lower : Bool) → eqb e.seq s.seq ≡ same → ltb e.seq s.seq ≡ lower → (if same then (if first then age.Equal else age_by_life (eqb e.life 0) (eqb s.life 0) (eqb e.sum s.sum)) else (if lower then age.Newer else age.Older)) ≡ age.Newer → IsAtMost e new
    cases true true lower a b k = cc
    cases true false lower a b k = inr (eqb-true e.seq s.seq a ∙ sym seq, λ old. dead (dies (eqb e.life 0) (eqb s.life 0) (eqb e.sum s.sum) refl k))
    cases false first true a b k = let low = ltb-true e.seq s.seq b in inl (omega (arith, low, seq))
    cases false first false a b k = cc

-- what is unknown has no entry that it could lower
pub unknown_stays : (o : Option Entry) (s : Summary) (new : Entry) → age_of o s ≡ age.Unknown → Stays o (Some new)
unknown_stays None s new h = tt
unknown_stays (Some e) s new h = absurd (true≢false (sym (ap is_unknown h) ∙ unknown_is_none (Some e) s))

-- ---- an LSP

-- what a PDU leaves as it was, and never takes back
pub record Keeps (f : Flood) (es : List Entry) (g : Flood) (new : List Entry) : Type 0 where
  pub own : g.own ≡ f.own
  pub up : g.up ≡ f.up
  pub entries : NotLowered es new

marked_own : (f : Flood) (id : LspId) → (mark_all f id).own ≡ f.own
unfolding mark_all
marked_own f id = refl

marked_up : (f : Flood) (id : LspId) → (mark_all f id).up ≡ f.up
unfolding mark_all
marked_up f id = refl

same_keeps : (f : Flood) (es : List Entry) (g : Flood) → g.own ≡ f.own → g.up ≡ f.up → Keeps f es g es
same_keeps f es g own up = record { own = own; up = up; entries = not_lowered_refl es }

kept_is : (h : Head) (tlvs : List ℕ) → (kept h tlvs).id ≡ h.id
kept_is h tlvs = cases (h.life == 0)
  where
    cases : (b : Bool) → (if b then purge h.id h.seq else record { id = h.id; seq = h.seq; life = h.life; hold = 0; sum = h.sum; flags = h.flags; content = tlvs }).id ≡ h.id
    cases true = refl
    cases false = refl

kept_seq : (h : Head) (tlvs : List ℕ) → (kept h tlvs).seq ≡ h.seq
kept_seq h tlvs = cases (h.life == 0)
  where
    cases : (b : Bool) → (if b then purge h.id h.seq else record { id = h.id; seq = h.seq; life = h.life; hold = 0; sum = h.sum; flags = h.flags; content = tlvs }).seq ≡ h.seq
    cases true = refl
    cases false = refl

kept_dead : (h : Head) (tlvs : List ℕ) → h.life ≡ 0 → (kept h tlvs).life ≡ 0
kept_dead h tlvs dead = cases (h.life == 0)
  where
    cases : (b : Bool) → (if b then purge h.id h.seq else record { id = h.id; seq = h.seq; life = h.life; hold = 0; sum = h.sum; flags = h.flags; content = tlvs }).life ≡ 0
    cases true = refl
    cases false = dead

lsp_if : (f : Flood) (es : List Entry) (b : Bool) (x y : LspAnswer) → (b ≡ true → Keeps f es x.flood x.entries) → (b ≡ false → Keeps f es y.flood y.entries) → Keeps f es (if b then x else y).flood (if b then x else y).entries
lsp_if f es true x y h k = h refl
lsp_if f es false x y h k = k refl

puts_keeps : (f : Flood) (es : List Entry) (id : LspId) (s : Summary) → (is_unknown (age_of (entry_in es id) s) || is_newer_or_confused (age_of (entry_in es id) s)) ≡ true → Keeps f es (mark_all f id) (put_entry (purge id s.seq) es)
puts_keeps f es id s h = record { own = marked_own f id; up = marked_up f id; entries = put_not_lowered es (purge id s.seq) id refl (purge_stays (entry_in es id) s id h) }

aged_keeps : (f : Flood) (es : List Entry) (link : ℕ) (h : Head) (tlvs : List ℕ) (a : Age) → age_of (entry_in es h.id) (head_summary h) ≡ a → Keeps f es (lsp_aged f es link h tlvs a).flood (lsp_aged f es link h tlvs a).entries
aged_keeps f es link h tlvs age.Unknown is =
    lsp_if f es (h.life == 0) _ _ (λ _. same_keeps f es f refl refl) (λ _. lsp_if f es (is_full es) _ _ (λ _. same_keeps f es f refl refl) (λ _.
    record { own = refl; up = refl; entries = put_not_lowered es (kept h tlvs) h.id (kept_is h tlvs) (unknown_stays (entry_in es h.id) (head_summary h) (kept h tlvs) is) }))
aged_keeps f es link h tlvs age.Newer is =
    record { own = refl; up = refl; entries = put_not_lowered es (kept h tlvs) h.id (kept_is h tlvs) (newer_stays (entry_in es h.id) (head_summary h) (kept h tlvs) is (kept_seq h tlvs) (kept_dead h tlvs)) }
aged_keeps f es link h tlvs age.Confused is = puts_keeps f es h.id (head_summary h) (ap (λ (a : Age). is_unknown a || is_newer_or_confused a) is)
aged_keeps f es link h tlvs age.Equal is = same_keeps f es _ refl refl
aged_keeps f es link h tlvs age.Older is = same_keeps f es _ refl refl

pub lsp_keeps : (f : Flood) (es : List Entry) (link : ℕ) (h : Head) (tlvs : List ℕ) (spent : Bool) → Keeps f es (on_lsp f es link h tlvs spent).flood (on_lsp f es link h tlvs spent).entries
unfolding on_lsp
lsp_keeps f es link h tlvs spent = aged (age_of (entry_in es h.id) (head_summary h)) refl
  where
    aged : (a : Age) → age_of (entry_in es h.id) (head_summary h) ≡ a → Keeps f es (lsp_in f es link h tlvs spent a).flood (lsp_in f es link h tlvs spent a).entries
    aged a is =
        lsp_if f es (h.seq == 0) _ _ (λ _. same_keeps f es f refl refl) (λ _.
        lsp_if f es (is_own_ahead f h.id spent a) _ _ (λ _. same_keeps f es f refl refl) (λ _.
        lsp_if f es (is_unheld_own f h a) _ _ (λ stray.
        lsp_if f es (is_unknown a && is_full es) _ _ (λ _. same_keeps f es f refl refl) (λ _.
        puts_keeps f es h.id (head_summary h) (ap (λ (a : Age). is_unknown a || is_newer_or_confused a) is ∙ (and_parts (nat_lt 0 h.life) (is_unknown a || is_newer_or_confused a) (and_parts (same_system h.id.system f.own) (nat_lt 0 h.life && (is_unknown a || is_newer_or_confused a)) stray).1).1)))
        (λ _. aged_keeps f es link h tlvs a is)))

pub lsp_done_keeps : (h : Head) (r : Result LspAction Memory) (f : Flood) (es : List Entry) (g : Flood) (new : List Entry) (rules : LspAnswer) → Keeps f es rules.flood rules.entries → LspDone h r f es g new rules → Keeps f es g new
lsp_done_keeps h (Ok action) f es g new rules k done = subst (λ (a : LspAnswer). Keeps f es a.flood a.entries) done k
lsp_done_keeps h (Err memory) f es g new rules k done = record {
  own = ap (λ (x : Flood). x.own) done.0;
  up = ap (λ (x : Flood). x.up) done.0;
  entries = subst (λ (x : List Entry). NotLowered es x) (sym done.1) (not_lowered_refl es);
}

-- ---- a sequence numbers PDU

snp_if : (f : Flood) (es : List Entry) (b : Bool) (x y : SnpAnswer) → (b ≡ true → Keeps f es x.flood x.entries) → (b ≡ false → Keeps f es y.flood y.entries) → Keeps f es (if b then x else y).flood (if b then x else y).entries
snp_if f es true x y h k = h refl
snp_if f es false x y h k = k refl

listed_aged_keeps : (a : SnpAnswer) (link : ℕ) (s : Summary) (spent : Bool) (old : Age) → age_of (entry_in a.entries s.id) s ≡ old → Keeps a.flood a.entries (listed_aged a link s spent old).flood (listed_aged a link s spent old).entries
listed_aged_keeps a link s spent age.Unknown is =
    snp_if a.flood a.entries (is_live_summary s) _ _ (λ _. snp_if a.flood a.entries (is_full a.entries) _ _ (λ _. same_keeps a.flood a.entries a.flood refl refl) (λ _.
    record { own = refl; up = refl; entries = put_not_lowered a.entries (wanted s) s.id refl (unknown_stays (entry_in a.entries s.id) s (wanted s) is) }))
    (λ _. same_keeps a.flood a.entries a.flood refl refl)
listed_aged_keeps a link s spent age.Newer is = same_keeps a.flood a.entries _ refl refl
listed_aged_keeps a link s spent age.Equal is = same_keeps a.flood a.entries _ refl refl
listed_aged_keeps a link s spent age.Older is = same_keeps a.flood a.entries _ refl refl
listed_aged_keeps a link s spent age.Confused is =
    snp_if a.flood a.entries (same_id s.id (fragment_0 a.flood.own) && not spent) _ _ (λ _. same_keeps a.flood a.entries a.flood refl refl)
    (λ _. puts_keeps a.flood a.entries s.id s (ap (λ (x : Age). is_unknown x || is_newer_or_confused x) is))

listed_keeps : (link : ℕ) (spent : Bool) (a : SnpAnswer) (s : Summary) → Keeps a.flood a.entries (on_listed link spent a s).flood (on_listed link spent a s).entries
unfolding on_listed
listed_keeps link spent a s =
    snp_if a.flood a.entries (s.seq == 0) _ _ (λ _. snp_if a.flood a.entries (nat_lt 0 (seq_of (entry_in a.entries s.id))) _ _ (λ _. same_keeps a.flood a.entries _ refl refl) (λ _. same_keeps a.flood a.entries a.flood refl refl))
    (λ _. listed_aged_keeps a link s spent (age_of (entry_in a.entries s.id) s) refl)

pub rows_keep : (link : ℕ) (spent : Bool) (a : SnpAnswer) (rows : List Summary) → Keeps a.flood a.entries (fold (on_listed link spent) a rows).flood (fold (on_listed link spent) a rows).entries
rows_keep link spent a [] = same_keeps a.flood a.entries a.flood refl refl
rows_keep link spent a (s ∷ rows) =
    let first = listed_keeps link spent a s in
    let rest = rows_keep link spent (on_listed link spent a s) rows in
    record { own = rest.own ∙ first.own; up = rest.up ∙ first.up; entries = not_lowered_trans a.entries _ _ first.entries rest.entries }

pub list_keeps : (f : Flood) (es : List Entry) (link : ℕ) (rows : List Summary) (spent : Bool) → Keeps f es (on_list f es link rows spent).flood (on_list f es link rows spent).entries
unfolding on_list
list_keeps f es link rows spent = rows_keep link spent _ rows

lacking_same : (link : ℕ) (start last : LspId) (rows : List Summary) (f : Flood) (es : List Entry) → ((fold (send_lacking link start last rows) f es).own ≡ f.own) × ((fold (send_lacking link start last rows) f es).up ≡ f.up)
lacking_same link start last rows f [] = (refl, refl)
lacking_same link start last rows f (e ∷ es) =
    let later = lacking_same link start last rows (send_lacking link start last rows f e) es in
    (later.0 ∙ pick (λ (g : Flood). g.own ≡ f.own) (lacks start last rows e) refl refl, later.1 ∙ pick (λ (g : Flood). g.up ≡ f.up) (lacks start last rows e) refl refl)
  where
    pick : (P : Flood → Type 0) (b : Bool) → P (with_row f e.id (set_srm link true)) → P f → P (if b then with_row f e.id (set_srm link true) else f)
    pick P true h k = h
    pick P false h k = k

pub csnp_keeps : (f : Flood) (es : List Entry) (link : ℕ) (start last : LspId) (rows : List Summary) (spent : Bool) → Keeps f es (csnp_listed f es link start last rows spent).flood (csnp_listed f es link start last rows spent).entries
unfolding on_list
csnp_keeps f es link start last rows spent =
    let listed = rows_keep link spent (record { flood = f; entries = es; answer = nothing_asked }) rows in
    let lacking = lacking_same link start last rows (on_list f es link rows spent).flood (on_list f es link rows spent).entries in
    record { own = lacking.0 ∙ listed.own; up = lacking.1 ∙ listed.up; entries = listed.entries }

pub snp_done_keeps : (r : Result SnpOut Memory) (f : Flood) (es : List Entry) (g : Flood) (new : List Entry) (rules : SnpAnswer) → Keeps f es rules.flood rules.entries → SnpDone r f es g new rules → Keeps f es g new
snp_done_keeps (Ok answer) f es g new rules k done = subst (λ (a : SnpAnswer). Keeps f es a.flood a.entries) done k
snp_done_keeps (Err memory) f es g new rules k done = record {
  own = ap (λ (x : Flood). x.own) done.0;
  up = ap (λ (x : Flood). x.up) done.0;
  entries = subst (λ (x : List Entry). NotLowered es x) (sym done.1) (not_lowered_refl es);
}

-- ---- how many entries a CSNP can lack

abbrev live : Entry → Bool
live e = nat_lt 0 e.life

longer : (p : Entry → Bool) (x : Entry) (xs : List Entry) → length (filter p xs) ≤ length (filter p (x ∷ xs))
longer p x xs = cases (p x)
  where
    cases : (b : Bool) → length (filter p xs) ≤ length (if b then x ∷ filter p xs else filter p xs)
    cases true = omega arith
    cases false = omega arith

both_longer : (p : Entry → Bool) (x : Entry) (xs ys : List Entry) → length (filter p xs) ≤ length (filter p ys) → length (filter p (x ∷ xs)) ≤ length (filter p (x ∷ ys))
both_longer p x xs ys h = cases (p x)
  where
    cases : (b : Bool) → length (if b then x ∷ filter p xs else filter p xs) ≤ length (if b then x ∷ filter p ys else filter p ys)
    cases true = omega (arith, h)
    cases false = h

dead_passed : (e : Entry) (es : List Entry) → e.life ≡ 0 → filter live (e ∷ es) ≡ filter live es
dead_passed e es dead = cases (live e) (ap (λ n. nat_lt 0 n) dead)
  where
    cases : (b : Bool) → b ≡ false → (if b then e ∷ filter live es else filter live es) ≡ filter live es
    cases true h = absurd (true≢false h)
    cases false h = refl

-- a dead entry that is put adds no live one
live_put : (es : List Entry) (e : Entry) → e.life ≡ 0 → length (filter live (put_entry e es)) ≤ length (filter live es)
live_put [] e dead = let none = ap length (dead_passed e [] dead) in omega (arith, none)
live_put (x ∷ xs) e dead = cases (live_put xs e dead) (id_order e.id x.id)
  where
    cases : length (filter live (put_entry e xs)) ≤ length (filter live xs) → (o : Ordering) → length (filter live (match_ordering o (e ∷ x ∷ xs) (e ∷ xs) (x ∷ put_entry e xs))) ≤ length (filter live (x ∷ xs))
    cases again Less = let passed = ap length (dead_passed e (x ∷ xs) dead) in omega (arith, passed)
    cases again Equal = let passed = ap length (dead_passed e xs dead) in let more = longer live x xs in omega (arith, passed, more)
    cases again Greater = both_longer live x (put_entry e xs) xs again

live_if : (n : ℕ) (b : Bool) (x y : SnpAnswer) → length (filter live x.entries) ≤ n → length (filter live y.entries) ≤ n → length (filter live (if b then x else y).entries) ≤ n
live_if n true x y h k = h
live_if n false x y h k = k

-- no entry of a sequence numbers PDU makes an entry live
listed_live : (link : ℕ) (spent : Bool) (a : SnpAnswer) (s : Summary) → length (filter live (on_listed link spent a s).entries) ≤ length (filter live a.entries)
unfolding on_listed
listed_live link spent a s =
    live_if (length (filter live a.entries)) (s.seq == 0) _ _ (live_if (length (filter live a.entries)) (nat_lt 0 (seq_of (entry_in a.entries s.id))) _ _ (omega arith) (omega arith)) (aged (age_of (entry_in a.entries s.id) s))
  where
    aged : (old : Age) → length (filter live (listed_aged a link s spent old).entries) ≤ length (filter live a.entries)
    aged age.Unknown = live_if (length (filter live a.entries)) (is_live_summary s) _ _ (live_if (length (filter live a.entries)) (is_full a.entries) _ _ (omega arith) (live_put a.entries (wanted s) refl)) (omega arith)
    aged age.Newer = omega arith
    aged age.Equal = omega arith
    aged age.Older = omega arith
    aged age.Confused = live_if (length (filter live a.entries)) (same_id s.id (fragment_0 a.flood.own) && not spent) _ _ (omega arith) (live_put a.entries (purge s.id s.seq) refl)

rows_live : (link : ℕ) (spent : Bool) (a : SnpAnswer) (rows : List Summary) → length (filter live (fold (on_listed link spent) a rows).entries) ≤ length (filter live a.entries)
rows_live link spent a [] = omega arith
rows_live link spent a (s ∷ rows) =
    let first = listed_live link spent a s in
    let rest = rows_live link spent (on_listed link spent a s) rows in
    omega (arith, first, rest)

filter_fewer : (p q : Entry → Bool) → ((e : Entry) → p e ≡ true → q e ≡ true) → (es : List Entry) → length (filter p es) ≤ length (filter q es)
filter_fewer p q h [] = omega arith
filter_fewer p q h (e ∷ es) = cases (filter_fewer p q h es) (p e) (q e) (h e)
  where
    cases : length (filter p es) ≤ length (filter q es) → (a b : Bool) → (a ≡ true → b ≡ true) → length (if a then e ∷ filter p es else filter p es) ≤ length (if b then e ∷ filter q es else filter q es)
    cases again true true k = omega (arith, again)
    cases again true false k = absurd (false≢true (k refl))
    cases again false true k = omega (arith, again)
    cases again false false k = again

all_pass : (p : Entry → Bool) (es : List Entry) → length (filter p es) ≤ length es
all_pass p [] = omega arith
all_pass p (e ∷ es) = cases (all_pass p es) (p e)
  where
    cases : length (filter p es) ≤ length es → (b : Bool) → length (if b then e ∷ filter p es else filter p es) ≤ suc (length es)
    cases again true = omega (arith, again)
    cases again false = omega (arith, again)

-- A CSNP lacks at most as many entries as there were before it: those that it makes the LSDB wait for are dead.
pub lacking_few : (link : ℕ) (start last : LspId) (listed rows : List Summary) (spent : Bool) (a b : SnpAnswer) → b ≡ fold (on_listed link spent) a rows → length (filter (lacks start last listed) b.entries) ≤ length a.entries
lacking_few link start last listed rows spent a b is =
    let fewer = filter_fewer (lacks start last listed) live (λ e h. (and_parts _ _ h).0) b.entries in
    let lives = rows_live link spent a rows in
    let all = all_pass live a.entries in
    let same = ap (λ (x : SnpAnswer). length (filter live x.entries)) is in
    omega (arith, fewer, lives, all, same)
