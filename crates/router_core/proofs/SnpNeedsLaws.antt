-- What a list of entries asks for is what was reported from it beforehand.
use Rattle.std.proofs.Common.{◌≡◌, ◌∙◌, ℕ, suc, ◌+◌, ◌≤◌, ◌==◌, ◌&&◌, ◌||◌, not, nat_lt, nat_le, Bool, true, false, if◌then◌else◌, List, [], ◌∷◌, ◌++◌, length, Option, Some, None, is_none, refl, sym, ap, subst, length-append, length-set, arith}
use Rattle.std.proofs.lemmas.Bool.{false≢true, true≢false, and_parts, eqb-true, leb-true}
use Rattle.std.proofs.lemmas.List.{length-map}
use Rattle.std.proofs.lemmas.List.Edits.{length-insert}
use Rattle.std.proofs.lemmas.List.Folds.{list_any-append}
use Rattle.std.specs.List.{fold, list_any}
use Rattle.wire_base.specs.declared.limits.TheConstants.{MOST_ENTRIES}
use Rattle.wire_base.specs.declared.addresses.LspId.{LspId}
use Rattle.wire_base.specs.declared.addresses.SystemId.{SystemId}
use Rattle.wire_base.specs.declared.entry.Age.{Age}
use Rattle.wire_base.specs.declared.entry.Age.TheVariants.{Unknown, Newer, Equal, Older, Confused}
use Rattle.wire_base.specs.declared.entry.Entry.{Entry}
use Rattle.wire_base.specs.declared.triple.Summary.{Summary}
use Rattle.wire_base.specs.model.Control.{AreAscending, Flood, ids_of, same_id, fragment_0, entry_in, put_entry, purge, seq_of, age_of, age_by_life, is_unknown, is_full, most_entries}
use Rattle.wire_base.specs.model.Flooding.{SnpAnswer, with_row, mark_all, ask_on, wanted, asks, is_live_summary, listed_aged, on_listed, on_list, nothing_asked}
use Rattle.lsp_store.specs.Places.{is_new, stands_at, place_in}
use Rattle.lsp_store.proofs.PlaceLaws.{put_there, put_new, put_ascends, entry_missing, old_there, place_within}
use Rattle.wire_base.proofs.AgeLaws.{unknown_is_none}
use Rattle.isis_flood.proofs.KeptLaws.{rows_keep}
use Rattle.router_core.specs.declared.snp_needs.Look.{Look}
use Rattle.router_core.specs.SnpNeeds.{is_confused, is_at_odds, past_asked, is_wanted, looked, count_full}
use Rattle.laws_router.proofs.EntryLaws.{put_reads, put_other}
use Rattle.wire_base.proofs.OrderLaws.{same_is}
use Rattle.laws_router.specs.Kept.{OwnStands}

either : (P : SnpAnswer → Type 0) (b : Bool) (x y : SnpAnswer) → (b ≡ true → P x) → (b ≡ false → P y) → P (if b then x else y)
either P true x y h k = h refl
either P false x y h k = k refl

none_and : (b : Bool) → (b && false) ≡ false
none_and true = refl
none_and false = refl

all_and : (b : Bool) → (b && true) ≡ b
all_and true = refl
all_and false = refl

-- ---- the own LSP

-- what is at odds with an entry has its sequence number, which isn't 0
confused_seq : (o : Option Entry) (s : Summary) → is_confused (age_of o s) ≡ true → (seq_of o ≡ s.seq) × ((s.seq == 0) ≡ false)
confused_seq None s h = absurd (false≢true h)
confused_seq (Some e) s h = cases (e.seq == s.seq) (s.seq == 0) (nat_lt e.seq s.seq) refl h
  where
    cases : (same none lower : Bool) → (e.seq == s.seq) ≡ same → is_confused (if same then (if none then Equal else age_by_life (e.life == 0) (s.life == 0) (e.sum == s.sum)) else (if lower then Newer else Older)) ≡ true → (e.seq ≡ s.seq) × (none ≡ false)
    cases true true lower p h = absurd (false≢true h)
    cases true false lower p h = (eqb-true e.seq s.seq p, refl)
    cases false none true p h = absurd (false≢true h)
    cases false none false p h = absurd (false≢true h)

module _ (link : ℕ) (a : SnpAnswer) (s : Summary) where
  abbrev Asks : Bool → Bool → SnpAnswer → Type 0
  Asks spent odds x = x.answer.reissue ≡ (if not spent && odds then Some s.seq else a.answer.reissue)

  never : (spent same : Bool) → a.answer.reissue ≡ (if not spent && (same && false) then Some s.seq else a.answer.reissue)
  never true same = refl
  never false true = refl
  never false false = refl

  aged_asks : (spent : Bool) (age : Age) → Asks spent (same_id s.id (fragment_0 a.flood.own) && is_confused age) (listed_aged a link s spent age)
  aged_asks spent Unknown =
      let calm = never spent (same_id s.id (fragment_0 a.flood.own)) in
      either (Asks spent (same_id s.id (fragment_0 a.flood.own) && false)) (is_live_summary s) _ _
      (λ _. either (Asks spent (same_id s.id (fragment_0 a.flood.own) && false)) (is_full a.entries) _ _ (λ _. calm) (λ _. calm))
      (λ _. calm)
  aged_asks spent Newer = never spent (same_id s.id (fragment_0 a.flood.own))
  aged_asks spent Equal = never spent (same_id s.id (fragment_0 a.flood.own))
  aged_asks spent Older = never spent (same_id s.id (fragment_0 a.flood.own))
  aged_asks spent Confused = cases (same_id s.id (fragment_0 a.flood.own)) spent
    where
      cases : (own t : Bool) → Asks t (own && true) (if own && not t then record a { answer = record a.answer { reissue = Some s.seq } } else record a { flood = mark_all a.flood s.id; entries = put_entry (purge s.id s.seq) a.entries })
      cases true true = refl
      cases true false = refl
      cases false true = refl
      cases false false = refl

  -- a listed entry asks for the own LSP where it is at odds with it
  listed_asks : (spent : Bool) → Asks spent (is_at_odds a.entries (fragment_0 a.flood.own) s) (on_listed link spent a s)
  unfolding on_listed
  listed_asks spent = either (Asks spent (is_at_odds a.entries (fragment_0 a.flood.own) s)) (s.seq == 0) _ _ (λ none. either (Asks spent (is_at_odds a.entries (fragment_0 a.flood.own) s)) (nat_lt 0 (seq_of (entry_in a.entries s.id))) _ _ (λ _. calm none) (λ _. calm none)) (λ _. aged_asks spent (age_of (entry_in a.entries s.id) s))
    where
      agrees : (b : Bool) → is_confused (age_of (entry_in a.entries s.id) s) ≡ b → (s.seq == 0) ≡ true → b ≡ false
      agrees true h none = absurd (true≢false (sym none ∙ (confused_seq (entry_in a.entries s.id) s h).1))
      agrees false h none = refl

      calm : (s.seq == 0) ≡ true → a.answer.reissue ≡ (if not spent && is_at_odds a.entries (fragment_0 a.flood.own) s then Some s.seq else a.answer.reissue)
      calm none =
          never spent (same_id s.id (fragment_0 a.flood.own))
          ∙ ap (λ (b : Bool). if not spent && (same_id s.id (fragment_0 a.flood.own) && b) then Some s.seq else a.answer.reissue) (sym (agrees (is_confused (age_of (entry_in a.entries s.id) s)) refl none))

module _ (link : ℕ) (own : SystemId) (e : Entry) where
  abbrev Stands : SnpAnswer → Type 0
  Stands x = entry_in x.entries (fragment_0 own) ≡ Some e

  -- no listed entry changes the own LSP of a router that isn't spent
  listed_stands : (a : SnpAnswer) (s : Summary) → a.flood.own ≡ own → Stands a → Stands (on_listed link false a s)
  unfolding on_listed
  listed_stands a s mine there = either Stands (s.seq == 0) _ _ (λ _. either Stands (nat_lt 0 (seq_of (entry_in a.entries s.id))) _ _ (λ _. there) (λ _. there)) (λ _. by_age (age_of (entry_in a.entries s.id) s) refl)
    where
      unknown_other : (b : Bool) → same_id s.id (fragment_0 own) ≡ b → age_of (entry_in a.entries s.id) s ≡ Unknown → b ≡ false
      unknown_other true same is = absurd (true≢false (sym (ap is_unknown is) ∙ unknown_is_none (entry_in a.entries s.id) s ∙ ap is_none (ap (λ (i : LspId). entry_in a.entries i) (same_is s.id (fragment_0 own) same) ∙ there)))
      unknown_other false same is = refl

      by_age : (age : Age) → age_of (entry_in a.entries s.id) s ≡ age → Stands (listed_aged a link s false age)
      by_age Unknown is =
          either Stands (is_live_summary s) _ _
          (λ _. either Stands (is_full a.entries) _ _ (λ _. there) (λ _. put_other (wanted s) a.entries (fragment_0 own) (unknown_other (same_id s.id (fragment_0 own)) refl is) ∙ there))
          (λ _. there)
      by_age Newer is = there
      by_age Equal is = there
      by_age Older is = there
      by_age Confused is =
          either Stands (same_id s.id (fragment_0 a.flood.own) && true) _ _ (λ _. there)
          (λ other. put_other (purge s.id s.seq) a.entries (fragment_0 own) (ap (λ (o : SystemId). same_id s.id (fragment_0 o)) (sym mine) ∙ sym (all_and (same_id s.id (fragment_0 a.flood.own))) ∙ other) ∙ there)

  module _ (es : List Entry) (known : entry_in es (fragment_0 own) ≡ Some e) where
    odds_same : (a : SnpAnswer) (s : Summary) → Stands a → is_at_odds a.entries (fragment_0 own) s ≡ is_at_odds es (fragment_0 own) s
    odds_same a s there = cases (same_id s.id (fragment_0 own)) refl
      where
        cases : (b : Bool) → same_id s.id (fragment_0 own) ≡ b → (b && is_confused (age_of (entry_in a.entries s.id) s)) ≡ (b && is_confused (age_of (entry_in es s.id) s))
        cases true same =
            let id : s.id ≡ fragment_0 own = same_is s.id (fragment_0 own) same in
            ap (λ (o : Option Entry). is_confused (age_of o s)) (ap (λ (i : LspId). entry_in a.entries i) id ∙ there ∙ sym known ∙ ap (λ (i : LspId). entry_in es i) (sym id))
        cases false same = refl

    -- it is asked for past its own sequence number
    one_asks : (a : SnpAnswer) (s : Summary) → a.flood.own ≡ own → Stands a → (on_listed link false a s).answer.reissue ≡ (if is_at_odds es (fragment_0 own) s then Some e.seq else a.answer.reissue)
    one_asks a s mine there =
        listed_asks link a s false
        ∙ ap (λ (o : SystemId). if is_at_odds a.entries (fragment_0 o) s then Some s.seq else a.answer.reissue) mine
        ∙ numbered (is_at_odds a.entries (fragment_0 own) s) refl
        ∙ ap (λ (b : Bool). if b then Some e.seq else a.answer.reissue) (odds_same a s there)
      where
        numbered : (b : Bool) → is_at_odds a.entries (fragment_0 own) s ≡ b → (if b then Some s.seq else a.answer.reissue) ≡ (if b then Some e.seq else a.answer.reissue)
        numbered true odds =
            let parts = and_parts (same_id s.id (fragment_0 own)) (is_confused (age_of (entry_in a.entries s.id) s)) odds in
            let id : s.id ≡ fragment_0 own = same_is s.id (fragment_0 own) parts.0 in
            ap (λ n. Some n) (sym (confused_seq (entry_in a.entries s.id) s parts.1).0 ∙ ap seq_of (ap (λ (i : LspId). entry_in a.entries i) id ∙ there))
        numbered false odds = refl

    rows_ask : (rows : List Summary) (a : SnpAnswer) → a.flood.own ≡ own → Stands a → (fold (on_listed link false) a rows).answer.reissue ≡ (if list_any (is_at_odds es (fragment_0 own)) rows then Some e.seq else a.answer.reissue)
    rows_ask [] a mine there = refl
    rows_ask (s ∷ rows) a mine there =
        rows_ask rows (on_listed link false a s) ((rows_keep link false a (s ∷ [])).own ∙ mine) (listed_stands a s mine there)
        ∙ ap (λ (o : Option ℕ). if list_any (is_at_odds es (fragment_0 own)) rows then Some e.seq else o) (one_asks a s mine there)
        ∙ joined (is_at_odds es (fragment_0 own) s) (list_any (is_at_odds es (fragment_0 own)) rows)
      where
        joined : (p q : Bool) → (if q then Some e.seq else (if p then Some e.seq else a.answer.reissue)) ≡ (if p || q then Some e.seq else a.answer.reissue)
        joined true true = refl
        joined true false = refl
        joined false q = refl

spent_asks : (link : ℕ) (rows : List Summary) (a : SnpAnswer) → (fold (on_listed link true) a rows).answer.reissue ≡ a.answer.reissue
spent_asks link [] a = refl
spent_asks link (s ∷ rows) a = spent_asks link rows (on_listed link true a s) ∙ listed_asks link a s true

-- past which sequence number a list asks for it
pub past_is : (link : ℕ) (own : SystemId) (spent : Bool) (f : Flood) (es : List Entry) (rows : List Summary) → f.own ≡ own → (spent ≡ false → OwnStands own es) → (on_list f es link rows spent).answer.reissue ≡ past_asked spent es (fragment_0 own) rows
unfolding on_list
past_is link own true f es rows mine stands = spent_asks link rows (record { flood = f; entries = es; answer = nothing_asked })
past_is link own false f es rows mine stands = read (stands refl)
  where
    read : OwnStands own es → (fold (on_listed link false) (record { flood = f; entries = es; answer = nothing_asked }) rows).answer.reissue ≡ past_asked false es (fragment_0 own) rows
    read (e, (there, more)) =
        rows_ask link own e es there rows (record { flood = f; entries = es; answer = nothing_asked }) mine there
        ∙ ap (λ (o : Option Entry). if list_any (is_at_odds es (fragment_0 own)) rows then Some (seq_of o) else None) (sym there)

-- ---- entries that find no room

put_news : (e : Entry) (es : List Entry) (id : LspId) → is_new (put_entry e es) id ≡ (not (same_id e.id id) && is_new es id)
put_news e es id = ap is_none (put_reads e es id) ∙ cases (same_id e.id id)
  where
    cases : (b : Bool) → is_none (if b then Some e else entry_in es id) ≡ (not b && is_new es id)
    cases true = refl
    cases false = refl

-- a new identifier makes the LSDB longer by one, and no other does
put_long : (e : Entry) (es : List Entry) → AreAscending (ids_of es) → (new : Bool) → is_new es e.id ≡ new → length (put_entry e es) ≡ (if new then suc (length es) else length es)
put_long e es order new is = cases (stands_at (ids_of es) (place_in (ids_of es) e.id) e.id) refl
  where
    cases : (b : Bool) → stands_at (ids_of es) (place_in (ids_of es) e.id) e.id ≡ b → length (put_entry e es) ≡ (if new then suc (length es) else length es)
    cases true h =
        sym (ap length (put_there es e h)) ∙ length-set es (place_in (ids_of es) e.id) e
        ∙ ap (λ (b : Bool). if b then suc (length es) else length es) (sym (old_there es (place_in (ids_of es) e.id) e.id (record { place = refl; stands = h })) ∙ is)
    cases false h =
        let one = length-insert es (place_in (ids_of es) e.id) e (omega (arith, place_within (ids_of es) e.id, length-map es (λ (x : Entry). x.id))) in
        let so : length (put_entry e es) ≡ suc (length es) = omega (arith, one, ap length (put_new es e h)) in
        so ∙ ap (λ (b : Bool). if b then suc (length es) else length es) (sym (ap is_none (entry_missing es e.id order h)) ∙ is)

-- what a list has done so far, and what was reported of it
record Looks (es : List Entry) (a : SnpAnswer) (look : Look) : Type 0 where
  pub full : a.answer.full ≡ look.full
  pub long : length a.entries ≡ length es + length look.added
  pub known : (id : LspId) → is_new a.entries id ≡ (is_new es id && not (list_any (λ i. same_id i id) look.added))
  pub order : AreAscending (ids_of a.entries)

module _ (link : ℕ) (spent : Bool) (es : List Entry) where
  module _ (a : SnpAnswer) (look : Look) (s : Summary) (h : Looks es a look) where
    -- where it isn't to wait for a listed entry, the look stays
    past_over : (x : SnpAnswer) → is_wanted es look.added s ≡ false → Looks es x look → Looks es x (looked es look s)
    unfolding looked
    past_over x none k =
        subst (λ (l : Look). Looks es x l) (ap (λ (b : Bool). if b then (if nat_le most_entries (length es + length look.added) then record look { full = look.full + 1 } else record look { added = look.added ++ s.id ∷ [] }) else look) (sym none)) k

    -- the entries stay
    calm : (x : SnpAnswer) → x.answer.full ≡ a.answer.full → x.entries ≡ a.entries → is_wanted es look.added s ≡ false → Looks es x (looked es look s)
    calm x full same none =
        past_over x none
        (record {
          full = full ∙ h.full;
          long = ap length same ∙ h.long;
          known = λ id. ap (λ (l : List Entry). is_new l id) same ∙ h.known id;
          order = subst (λ (l : List Entry). AreAscending (ids_of l)) (sym same) h.order;
        })

    wanted_is : is_wanted es look.added s ≡ (is_live_summary s && is_new a.entries s.id)
    wanted_is = ap (λ (b : Bool). is_live_summary s && b) (sym (h.known s.id))

    dead : is_live_summary s ≡ false → is_wanted es look.added s ≡ false
    dead none = ap (λ (b : Bool). b && (is_new es s.id && not (list_any (λ i. same_id i s.id) look.added))) none

    old : is_new a.entries s.id ≡ false → is_wanted es look.added s ≡ false
    old there = wanted_is ∙ ap (λ (b : Bool). is_live_summary s && b) there ∙ none_and (is_live_summary s)

    zero_dead : s.seq ≡ 0 → is_live_summary s ≡ false
    zero_dead none = ap (λ n. nat_lt 0 s.life && (nat_lt 0 n && nat_lt 0 s.sum)) none ∙ none_and (nat_lt 0 s.life)

    -- the LSDB waits for it, or is full
    waits : is_new a.entries s.id ≡ true → is_live_summary s ≡ true → Looks es (asks a link s) (looked es look s)
    unfolding looked
    waits new live = subst (λ (l : Look). Looks es (asks a link s) l) (ap (λ (b : Bool). if b then (if nat_le most_entries (length es + length look.added) then record look { full = look.full + 1 } else record look { added = look.added ++ s.id ∷ [] }) else look) (sym (wanted_is ∙ ap (λ (b : Bool). b && is_new a.entries s.id) live ∙ new)))
        (subst (λ (n : ℕ). Looks es (asks a link s) (if nat_le most_entries n then record look { full = look.full + 1 } else record look { added = look.added ++ s.id ∷ [] })) h.long (cases (is_full a.entries)))
      where
        turned : (p n q : Bool) → (not p && (n && not q)) ≡ (n && not (q || (p || false)))
        turned true true true = refl
        turned true true false = refl
        turned true false q = refl
        turned false true true = refl
        turned false true false = refl
        turned false false q = refl

        cases : (full : Bool) → Looks es (if full then record a { answer = record a.answer { full = a.answer.full + 1 } } else record a { flood = with_row a.flood s.id (ask_on link); entries = put_entry (wanted s) a.entries }) (if full then record look { full = look.full + 1 } else record look { added = look.added ++ s.id ∷ [] })
        cases true = record { full = ap (λ n. n + 1) h.full; long = h.long; known = h.known; order = h.order }
        cases false = record {
          full = h.full;
          long = omega (arith, put_long (wanted s) a.entries h.order true new, h.long, length-append look.added (s.id ∷ []));
          known = λ id.
              put_news (wanted s) a.entries id ∙ ap (λ (b : Bool). not (same_id s.id id) && b) (h.known id)
              ∙ turned (same_id s.id id) (is_new es id) (list_any (λ i. same_id i id) look.added)
              ∙ ap (λ (b : Bool). is_new es id && not b) (sym (list_any-append (λ i. same_id i id) look.added (s.id ∷ [])));
          order = put_ascends a.entries (wanted s) h.order;
        }

    -- what is purged was there
    purged : is_new a.entries s.id ≡ false → Looks es (record a { flood = mark_all a.flood s.id; entries = put_entry (purge s.id s.seq) a.entries }) look
    purged there = record {
      full = h.full;
      long = put_long (purge s.id s.seq) a.entries h.order false there ∙ h.long;
      known = λ id. put_news (purge s.id s.seq) a.entries id ∙ stays id (same_id s.id id) refl ∙ h.known id;
      order = put_ascends a.entries (purge s.id s.seq) h.order;
    }
      where
        stays : (id : LspId) (b : Bool) → same_id s.id id ≡ b → (not b && is_new a.entries id) ≡ is_new a.entries id
        stays id true same = sym there ∙ ap (λ (i : LspId). is_new a.entries i) (same_is s.id id same)
        stays id false same = refl

    by_age : (age : Age) → age_of (entry_in a.entries s.id) s ≡ age → Looks es (listed_aged a link s spent age) (looked es look s)
    by_age Unknown is =
        let new : is_new a.entries s.id ≡ true = sym (unknown_is_none (entry_in a.entries s.id) s) ∙ ap is_unknown is in
        either (λ x. Looks es x (looked es look s)) (is_live_summary s) _ _ (λ live. waits new live) (λ none. calm a refl refl (dead none))
    by_age Newer is = calm _ refl refl (old (sym (unknown_is_none (entry_in a.entries s.id) s) ∙ ap is_unknown is))
    by_age Equal is = calm _ refl refl (old (sym (unknown_is_none (entry_in a.entries s.id) s) ∙ ap is_unknown is))
    by_age Older is = calm _ refl refl (old (sym (unknown_is_none (entry_in a.entries s.id) s) ∙ ap is_unknown is))
    by_age Confused is =
        let there : is_new a.entries s.id ≡ false = sym (unknown_is_none (entry_in a.entries s.id) s) ∙ ap is_unknown is in
        either (λ x. Looks es x (looked es look s)) (same_id s.id (fragment_0 a.flood.own) && not spent) _ _ (λ _. calm _ refl refl (old there)) (λ _. past_over _ (old there) (purged there))

    listed_looks : Looks es (on_listed link spent a s) (looked es look s)
    unfolding on_listed
    listed_looks =
        either (λ x. Looks es x (looked es look s)) (s.seq == 0) _ _
        (λ none. either (λ x. Looks es x (looked es look s)) (nat_lt 0 (seq_of (entry_in a.entries s.id))) _ _ (λ _. calm _ refl refl (dead (zero_dead (eqb-true s.seq 0 none)))) (λ _. calm a refl refl (dead (zero_dead (eqb-true s.seq 0 none)))))
        (λ _. by_age (age_of (entry_in a.entries s.id) s) refl)

  rows_look : (rows : List Summary) (a : SnpAnswer) (look : Look) → Looks es a look → Looks es (fold (on_listed link spent) a rows) (fold (looked es) look rows)
  rows_look [] a look h = h
  rows_look (s ∷ rows) a look h = rows_look rows (on_listed link spent a s) (looked es look s) (listed_looks a look s h)

-- how many entries of a list find no room
pub full_is : (link : ℕ) (spent : Bool) (f : Flood) (es : List Entry) (rows : List Summary) → AreAscending (ids_of es) → (on_list f es link rows spent).answer.full ≡ count_full es rows
unfolding on_list count_full
full_is link spent f es rows order =
    (rows_look link spent es rows (record { flood = f; entries = es; answer = nothing_asked }) (record { added = []; full = 0 })
    (record { full = refl; long = omega arith; known = λ id. sym (all_and (is_new es id)); order = order })).full

-- a list that can't fill the LSDB
few_full : (es : List Entry) (rows : List Summary) (look : Look) → length es + length look.added + length rows ≤ MOST_ENTRIES → (fold (looked es) look rows).full ≡ look.full
unfolding looked
few_full es [] look few = refl
few_full es (s ∷ rows) look few = cases (is_wanted es look.added s) (nat_le most_entries (length es + length look.added)) refl (few_full es rows)
  where
    cases : (wants full : Bool) → nat_le most_entries (length es + length look.added) ≡ full → ((l : Look) → length es + length l.added + length rows ≤ MOST_ENTRIES → (fold (looked es) l rows).full ≡ l.full)
        → (fold (looked es) (if wants then (if full then record look { full = look.full + 1 } else record look { added = look.added ++ s.id ∷ [] }) else look) rows).full ≡ look.full
    cases true true is again = absurd (omega (arith, few, leb-true most_entries (length es + length look.added) is))
    cases true false is again = again (record look { added = look.added ++ s.id ∷ [] }) (omega (arith, few, length-append look.added (s.id ∷ [])))
    cases false full is again = again look (omega (arith, few))

pub none_full : (es : List Entry) (rows : List Summary) → length es + length rows ≤ MOST_ENTRIES → 0 ≡ count_full es rows
unfolding count_full
none_full es rows few = sym (few_full es rows (record { added = []; full = 0 }) (omega (arith, few)))
