-- What every event keeps of flags and LSDB: flags at links that are up alone, and at entries that are there; contents
-- that fit a frame; and the router's own LSP, live.
use Rattle.std.proofs.Common.{◌≡◌, ◌∙◌, ℕ, ◌+◌, ◌<◌, ◌≤◌, ◌&&◌, ◌||◌, not, ◌==◌, nat_lt, Bool, true, false, List, [], ◌∷◌, length, set, get_or, Option, Some, None, if◌then◌else◌, refl, sym, ap, subst, arith}
use Rattle.std.proofs.lemmas.Bool.{false≢true, true≢false}
use Rattle.std.specs.List.{AllByRecursion, fold}
use Rattle.wire_base.specs.declared.limits.TheConstants.{MOST_CONTENT}
use Rattle.wire_base.specs.declared.addresses.SystemId.{SystemId}
use Rattle.wire_base.specs.declared.addresses.LspId.{LspId}
use Rattle.wire_base.specs.declared.entry.Age.{Age}
use Rattle.wire_base.specs.declared.entry.Age.TheVariants.{Unknown, Newer, Equal, Older, Confused}
use Rattle.wire_base.specs.declared.entry.Entry.{Entry}
use Rattle.wire_base.specs.declared.flood_out.FloodOut.{FloodOut}
use Rattle.wire_base.specs.declared.flood_out.FloodOut.TheVariants as out
use Rattle.wire_base.specs.declared.triple.Summary.{Summary}
use Rattle.wire_base.specs.model.Pdu.{Head, head_summary}
use Rattle.wire_base.specs.model.Control.{same_id, same_system, fragment_0, entry_in, put_entry, purge, seq_of, age_of, is_unknown, is_newer_or_confused, is_full, FlagRow, no_flags, Flood, IsFlagRow, HasEntry}
use Rattle.wire_base.specs.model.Flooding.{with_row, no_links, send_on, ask_on, set_srm, mark_all, kept, stores, puts_marked, only_says, flags_alone, lsp_aged, is_unheld_own, is_own_ahead, lsp_in, on_lsp, LspAnswer, SnpAnswer, with_flags, wanted, asks, is_live_summary, listed_aged, on_listed, on_list, lacks, send_lacking, on_csnp, on_psnp, csnp_listed}
use Rattle.wire_base.specs.model.Tlv.{rows_of}
use Rattle.laws_router.specs.State.{IsShort}
use Rattle.laws_router.specs.Kept.{OwnStands, Kept}
use Rattle.laws_router.proofs.EntryLaws.{HasId, put_reads, put_has, put_keeps, put_other, rows_named, all_put, all_have}
use Rattle.wire_base.proofs.OrderLaws.{same_is}
use Rattle.laws_router.proofs.FlagLaws.{KeepsRow, keeps_send, keeps_ask, keeps_srm, keeps_acknowledged, keeps_mark, keeps_pass, none_flagged, all_rows, rows_ascend}
use Rattle.wire_base.proofs.AgeLaws.{known_age}

-- ---- one row, one entry

pub row_kept : (own : SystemId) (up : List Bool) (spent : Bool) (f : Flood) (es : List Entry) (id : LspId) (change : FlagRow → FlagRow)
    → Kept own up spent f es → HasId es id → KeepsRow f.up change → Kept own up spent (with_row f id change) es
row_kept own up spent f es id change k has keeps =
    record {
      own_is = k.own_is;
      up_is = k.up_is;
      flood = record {
        few = k.flood.few;
        due_up = k.flood.due_up;
        rows = all_rows (IsFlagRow f.up) (length f.up) id change f.rows (keeps.within (no_flags (length f.up) id) (none_flagged f.up id)) keeps.within k.flood.rows;
        in_order = rows_ascend (length f.up) id change f.rows keeps.id k.flood.in_order;
      };
      flagged = all_rows (HasEntry es) (length f.up) id change f.rows
          (subst (λ (i : LspId). HasId es i) (sym (keeps.id (no_flags (length f.up) id))) has)
          (λ row named. subst (λ (i : LspId). HasId es i) (sym (keeps.id row)) named)
          k.flagged;
      short = k.short;
      stands = k.stands;
    }

there_up : (f up : List Bool) (link : ℕ) → f ≡ up → get_or up link false ≡ true → get_or f link false ≡ true
there_up f up link is h = ap (λ (l : List Bool). get_or l link false) is ∙ h

pub mark_kept : (own : SystemId) (up : List Bool) (spent : Bool) (f : Flood) (es : List Entry) (id : LspId) → Kept own up spent f es → HasId es id → Kept own up spent (mark_all f id) es
unfolding mark_all
mark_kept own up spent f es id k has = row_kept own up spent f es id (λ row. record row { srm = f.up; ssn = no_links f }) k has (keeps_mark f.up)

-- an entry that is put; the own one is live where the router isn't spent
pub put_kept : (own : SystemId) (up : List Bool) (spent : Bool) (f : Flood) (es : List Entry) (e : Entry)
    → Kept own up spent f es → IsShort e → (spent ≡ false → same_id e.id (fragment_0 own) ≡ true → 300 < e.life) → Kept own up spent f (put_entry e es)
put_kept own up spent f es e k short live =
    record {
      own_is = k.own_is;
      up_is = k.up_is;
      flood = k.flood;
      flagged = rows_named es (put_entry e es) f.rows (λ id. put_keeps e es id) k.flagged;
      short = all_put IsShort e es short k.short;
      stands = λ unspent. cases unspent (k.stands unspent) (same_id e.id (fragment_0 own)) refl;
    }
  where
    cases : spent ≡ false → OwnStands own es → (b : Bool) → same_id e.id (fragment_0 own) ≡ b → OwnStands own (put_entry e es)
    cases unspent (x, (is, more)) true same = (e, (put_reads e es (fragment_0 own) ∙ ap (λ (b : Bool). if b then Some e else entry_in es (fragment_0 own)) same, live unspent same))
    cases unspent (x, (is, more)) false same = (x, (put_other e es (fragment_0 own) same ∙ is, more))

-- ---- how new something is

-- what isn't unknown has an entry
has_aged : (o : Option Entry) (s : Summary) (age : Age) → age ≡ age_of o s → is_unknown age ≡ false → (e : Entry) × (o ≡ Some e)
has_aged None s age is known = absurd (true≢false (sym (ap is_unknown is) ∙ known))
has_aged (Some e) s age is known = (e, refl)

-- the own LSP of a router that isn't spent isn't unknown
own_known : (own : SystemId) (spent : Bool) (es : List Entry) (id : LspId) (s : Summary) (age : Age) → (spent ≡ false → OwnStands own es) → age ≡ age_of (entry_in es id) s → spent ≡ false → same_id id (fragment_0 own) ≡ true → is_unknown age ≡ false
own_known own spent es id s age stands is unspent same = read (stands unspent)
  where
    read : OwnStands own es → is_unknown age ≡ false
    read (e, (there, more)) = ap is_unknown (is ∙ ap (λ (i : LspId). age_of (entry_in es i) s) (same_is id (fragment_0 own) same) ∙ ap (λ (o : Option Entry). age_of o s) there) ∙ known_age e s

-- ---- an LSP

pub record LspKept (own : SystemId) (up : List Bool) (spent : Bool) (a : LspAnswer) : Type 0 where
  pub kept : Kept own up spent a.flood a.entries
  pub asked : (s : ℕ) → a.answer ≡ out.Reissue s → spent ≡ false

module _ (own : SystemId) (up : List Bool) (spent : Bool) (f : Flood) (es : List Entry) (k : Kept own up spent f es) where
  says_kept : (answer : FloodOut) → ((s : ℕ) → answer ≡ out.Reissue s → spent ≡ false) → LspKept own up spent (only_says f es answer)
  says_kept answer asked = record { kept = k; asked = asked }

  marked_kept : (e : Entry) → IsShort e → (spent ≡ false → same_id e.id (fragment_0 own) ≡ true → 300 < e.life) → LspKept own up spent (puts_marked f es e)
  marked_kept e short live = record { kept = mark_kept own up spent f (put_entry e es) e.id (put_kept own up spent f es e k short live) (put_has e es); asked = λ s q. cc }

  module _ (link : ℕ) (open_ : get_or up link false ≡ true) where
    there : get_or f.up link false ≡ true
    there = there_up f.up up link k.up_is open_

    stores_kept : (e : Entry) → IsShort e → (spent ≡ false → same_id e.id (fragment_0 own) ≡ true → 300 < e.life) → LspKept own up spent (stores f es link e)
    stores_kept e short live =
        record {
          kept = row_kept own up spent f (put_entry e es) e.id (λ row. record row { srm = set f.up link false; ssn = set (no_links f) link true }) (put_kept own up spent f es e k short live) (put_has e es) (keeps_pass f.up link there);
          asked = λ s q. cc;
        }

    flags_kept : (id : LspId) (change : FlagRow → FlagRow) → HasId es id → KeepsRow f.up change → LspKept own up spent (flags_alone (with_row f id change) es)
    flags_kept id change has keeps = record { kept = row_kept own up spent f es id change k has keeps; asked = λ s q. cc }

    module _ (h : Head) (tlvs : List ℕ) (short : length tlvs ≤ MOST_CONTENT) where
      kept_short : (b : Bool) → IsShort (if b then purge h.id h.seq else record { id = h.id; seq = h.seq; life = h.life; hold = 0; sum = h.sum; flags = h.flags; content = tlvs })
      kept_short true = omega arith
      kept_short false = short

      kept_id : (b : Bool) → (if b then purge h.id h.seq else record { id = h.id; seq = h.seq; life = h.life; hold = 0; sum = h.sum; flags = h.flags; content = tlvs }).id ≡ h.id
      kept_id true = refl
      kept_id false = refl

      abbrev Free : Age → Type 0
      Free age = spent ≡ false → same_id h.id (fragment_0 own) ≡ true → (is_unknown age || is_newer_or_confused age) ≡ false

      passed : Free Newer → LspKept own up spent (stores f es link (kept h tlvs))
      passed free =
          stores_kept (kept h tlvs) (kept_short (h.life == 0))
          (λ unspent same. absurd (true≢false (free unspent (sym (ap (λ (i : LspId). same_id i (fragment_0 own)) (kept_id (h.life == 0))) ∙ same))))

      aged_kept : (age : Age) → age ≡ age_of (entry_in es h.id) (head_summary h) → Free age → LspKept own up spent (lsp_aged f es link h tlvs age)
      aged_kept Unknown is free = unknown (h.life == 0) (is_full es)
        where
          unknown : (dead full : Bool) → LspKept own up spent (if dead then only_says f es (out.Ack (head_summary h)) else (if full then only_says f es out.Full else stores f es link (kept h tlvs)))
          unknown true full = says_kept (out.Ack (head_summary h)) (λ s q. cc)
          unknown false true = says_kept out.Full (λ s q. cc)
          unknown false false = passed free
      aged_kept Newer is free = passed free
      aged_kept Confused is free = marked_kept (purge h.id h.seq) (omega arith) (λ unspent same. absurd (true≢false (free unspent same)))
      aged_kept Equal is free = flags_kept h.id (ask_on link) (has_aged (entry_in es h.id) (head_summary h) Equal is refl) (keeps_ask f.up link there)
      aged_kept Older is free = flags_kept h.id (send_on link) (has_aged (entry_in es h.id) (head_summary h) Older is refl) (keeps_send f.up link there)

      -- the own one, where the router isn't spent, is known and not newer, or it is to be issued anew
      not_own : (s b : Bool) (age : Age) → spent ≡ false → s ≡ true → (s && (not spent && is_newer_or_confused age)) ≡ b → b ≡ false → is_newer_or_confused age ≡ false
      not_own true b age unspent same is free = ap (λ (x : Bool). not x && is_newer_or_confused age) (sym unspent) ∙ is ∙ free
      not_own false b age unspent same is free = absurd (false≢true same)

      freed : (age : Age) → age ≡ age_of (entry_in es h.id) (head_summary h) → is_own_ahead f h.id spent age ≡ false → Free age
      freed age is ahead unspent same =
          let known : is_unknown age ≡ false = own_known own spent es h.id (head_summary h) age k.stands is unspent same in
          ap (λ (b : Bool). b || is_newer_or_confused age) known ∙ not_own (same_id h.id (fragment_0 f.own)) false age unspent (ap (λ (o : SystemId). same_id h.id (fragment_0 o)) k.own_is ∙ same) ahead refl

      strays : (t : Bool) (live : Bool) (age : Age) → (t && (live && (is_unknown age || is_newer_or_confused age))) ≡ true → (is_unknown age || is_newer_or_confused age) ≡ true
      strays true true age h = h
      strays true false age h = absurd (false≢true h)
      strays false live age h = absurd (false≢true h)

      ahead_unspent : (s u : Bool) (age : Age) → (s && (not u && is_newer_or_confused age)) ≡ true → u ≡ false
      ahead_unspent true true age h = absurd (false≢true h)
      ahead_unspent true false age h = refl
      ahead_unspent false u age h = absurd (false≢true h)

      pub lsp_in_kept : (age : Age) → age ≡ age_of (entry_in es h.id) (head_summary h) → LspKept own up spent (lsp_in f es link h tlvs spent age)
      lsp_in_kept age is = cases (h.seq == 0) (is_own_ahead f h.id spent age) (is_unheld_own f h age) (is_unknown age && is_full es) refl refl
        where
          cases : (none ahead stray full : Bool) → is_own_ahead f h.id spent age ≡ ahead → is_unheld_own f h age ≡ stray
              → LspKept own up spent (if none then only_says f es out.Zero else if ahead then only_says f es (out.Reissue h.seq) else if stray then (if full then only_says f es out.Full else puts_marked f es (purge h.id h.seq)) else lsp_aged f es link h tlvs age)
          cases true ahead stray full p q = says_kept out.Zero (λ s r. cc)
          cases false true stray full p q = says_kept (out.Reissue h.seq) (λ s r. ahead_unspent (same_id h.id (fragment_0 f.own)) spent age p)
          cases false false true true p q = says_kept out.Full (λ s r. cc)
          cases false false true false p q =
              marked_kept (purge h.id h.seq) (omega arith)
              (λ unspent same. absurd (true≢false (sym (strays (same_system h.id.system f.own) (nat_lt 0 h.life) age q) ∙ freed age is p unspent same)))
          cases false false false full p q = aged_kept age is (freed age is p)

pub lsp_kept : (own : SystemId) (up : List Bool) (spent : Bool) (f : Flood) (es : List Entry) → Kept own up spent f es → (link : ℕ) → get_or up link false ≡ true → (h : Head) (tlvs : List ℕ) → length tlvs ≤ MOST_CONTENT
    → LspKept own up spent (on_lsp f es link h tlvs spent)
unfolding on_lsp
lsp_kept own up spent f es k link open_ h tlvs short = lsp_in_kept own up spent f es k link open_ h tlvs short (age_of (entry_in es h.id) (head_summary h)) refl

-- ---- sequence number PDUs

pub record SnpKept (own : SystemId) (up : List Bool) (spent : Bool) (a : SnpAnswer) : Type 0 where
  pub kept : Kept own up spent a.flood a.entries
  pub asked : (s : ℕ) → a.answer.reissue ≡ Some s → spent ≡ false

module _ (own : SystemId) (up : List Bool) (spent : Bool) (link : ℕ) (open_ : get_or up link false ≡ true) where
  module _ (a : SnpAnswer) (k : SnpKept own up spent a) where
    here : get_or a.flood.up link false ≡ true
    here = there_up a.flood.up up link k.kept.up_is open_

    changed_kept : (id : LspId) (change : FlagRow → FlagRow) → HasId a.entries id → KeepsRow a.flood.up change → SnpKept own up spent (with_flags a id change)
    changed_kept id change has keeps = record { kept = row_kept own up spent a.flood a.entries id change k.kept has keeps; asked = k.asked }

    asks_kept : (s : Summary) → (spent ≡ false → same_id s.id (fragment_0 own) ≡ true → ⊥) → SnpKept own up spent (asks a link s)
    asks_kept s other = cases (is_full a.entries)
      where
        cases : (full : Bool) → SnpKept own up spent (if full then record a { answer = record a.answer { full = a.answer.full + 1 } } else record a { flood = with_row a.flood s.id (ask_on link); entries = put_entry (wanted s) a.entries })
        cases true = record { kept = k.kept; asked = k.asked }
        cases false =
            record {
              kept = row_kept own up spent a.flood (put_entry (wanted s) a.entries) s.id (ask_on link) (put_kept own up spent a.flood a.entries (wanted s) k.kept (omega arith) (λ unspent same. absurd (other unspent same))) (put_has (wanted s) a.entries) (keeps_ask a.flood.up link here);
              asked = k.asked;
            }

    unspent_is : (s u : Bool) → (s && not u) ≡ true → u ≡ false
    unspent_is true true h = absurd (false≢true h)
    unspent_is true false h = refl
    unspent_is false u h = absurd (false≢true h)

    other_is : (s u : Bool) → (s && not u) ≡ false → u ≡ false → s ≡ true → ⊥
    other_is true true h p q = true≢false p
    other_is true false h p q = true≢false h
    other_is false u h p q = false≢true q

    confused_kept : (s : Summary) → SnpKept own up spent (listed_aged a link s spent Confused)
    confused_kept s = cases (same_id s.id (fragment_0 a.flood.own) && not spent) refl
      where
        cases : (b : Bool) → (same_id s.id (fragment_0 a.flood.own) && not spent) ≡ b → SnpKept own up spent (if b then record a { answer = record a.answer { reissue = Some s.seq } } else record a { flood = mark_all a.flood s.id; entries = put_entry (purge s.id s.seq) a.entries })
        cases true h = record { kept = k.kept; asked = λ n q. unspent_is (same_id s.id (fragment_0 a.flood.own)) spent h }
        cases false h =
            record {
              kept = mark_kept own up spent a.flood (put_entry (purge s.id s.seq) a.entries) s.id
                  (put_kept own up spent a.flood a.entries (purge s.id s.seq) k.kept (omega arith) (λ unspent same. absurd (other_is (same_id s.id (fragment_0 a.flood.own)) spent h unspent (ap (λ (o : SystemId). same_id s.id (fragment_0 o)) k.kept.own_is ∙ same))))
                  (put_has (purge s.id s.seq) a.entries);
              asked = k.asked;
            }

    by_age : (s : Summary) (age : Age) → age ≡ age_of (entry_in a.entries s.id) s → SnpKept own up spent (listed_aged a link s spent age)
    by_age s Unknown is = cases (is_live_summary s)
      where
        cases : (b : Bool) → SnpKept own up spent (if b then asks a link s else a)
        cases true = asks_kept s (λ unspent same. true≢false (own_known own spent a.entries s.id s Unknown k.kept.stands is unspent same))
        cases false = k
    by_age s Newer is = changed_kept s.id (ask_on link) (has_aged (entry_in a.entries s.id) s Newer is refl) (keeps_ask a.flood.up link here)
    by_age s Equal is = changed_kept s.id (set_srm link false) (has_aged (entry_in a.entries s.id) s Equal is refl) (keeps_acknowledged a.flood.up link)
    by_age s Older is = changed_kept s.id (send_on link) (has_aged (entry_in a.entries s.id) s Older is refl) (keeps_send a.flood.up link here)
    by_age s Confused is = confused_kept s

    has_seq : (id : LspId) (o : Option Entry) → o ≡ entry_in a.entries id → nat_lt 0 (seq_of o) ≡ true → HasId a.entries id
    has_seq id None is h = absurd (false≢true h)
    has_seq id (Some e) is h = (e, sym is)

    pub listed_kept : (s : Summary) → SnpKept own up spent (on_listed link spent a s)
    unfolding on_listed
    listed_kept s = cases (s.seq == 0) (nat_lt 0 (seq_of (entry_in a.entries s.id))) refl
      where
        cases : (none known : Bool) → nat_lt 0 (seq_of (entry_in a.entries s.id)) ≡ known → SnpKept own up spent (if none then (if known then with_flags a s.id (send_on link) else a) else listed_aged a link s spent (age_of (entry_in a.entries s.id) s))
        cases true true h = changed_kept s.id (send_on link) (has_seq s.id (entry_in a.entries s.id) refl h) (keeps_send a.flood.up link here)
        cases true false h = k
        cases false known h = by_age s (age_of (entry_in a.entries s.id) s) refl

  pub rows_kept : (rows : List Summary) (a : SnpAnswer) → SnpKept own up spent a → SnpKept own up spent (fold (on_listed link spent) a rows)
  rows_kept [] a k = k
  rows_kept (s ∷ rows) a k = rows_kept rows (on_listed link spent a s) (listed_kept a k s)

  pub list_kept : (f : Flood) (es : List Entry) (rows : List Summary) → Kept own up spent f es → SnpKept own up spent (on_list f es link rows spent)
  unfolding on_list
  list_kept f es rows k = rows_kept rows (record { flood = f; entries = es; answer = record { reissue = None; full = 0 } }) (record { kept = k; asked = λ s q. cc })

  lacking_kept : (start last : LspId) (rows : List Summary) (es ys : List Entry) (f : Flood) → Kept own up spent f es → AllByRecursion (λ e. HasId es e.id) ys → Kept own up spent (fold (send_lacking link start last rows) f ys) es
  lacking_kept start last rows es [] f k all = k
  lacking_kept start last rows es (y ∷ ys) f k all = lacking_kept start last rows es ys (send_lacking link start last rows f y) (cases (lacks start last rows y)) all.1
    where
      cases : (b : Bool) → Kept own up spent (if b then with_row f y.id (set_srm link true) else f) es
      cases true = row_kept own up spent f es y.id (set_srm link true) k all.0 (keeps_srm f.up link (there_up f.up up link k.up_is open_))
      cases false = k

  pub range_kept : (f : Flood) (es : List Entry) (start last : LspId) (rows : List Summary) → Kept own up spent f es → SnpKept own up spent (csnp_listed f es link start last rows spent)
  range_kept f es start last rows k =
      let a = list_kept f es rows k in
      record {
        kept = lacking_kept start last rows (on_list f es link rows spent).entries (on_list f es link rows spent).entries (on_list f es link rows spent).flood a.kept (all_have (on_list f es link rows spent).entries);
        asked = a.asked;
      }

  pub psnp_kept : (f : Flood) (es : List Entry) (tlvs : List ℕ) → Kept own up spent f es → SnpKept own up spent (on_psnp f es link tlvs spent)
  unfolding on_psnp
  psnp_kept f es tlvs k = list_kept f es (rows_of tlvs) k

  pub csnp_kept : (f : Flood) (es : List Entry) (start last : LspId) (tlvs : List ℕ) → Kept own up spent f es → SnpKept own up spent (on_csnp f es link start last tlvs spent)
  unfolding on_csnp
  csnp_kept f es start last tlvs k = range_kept f es start last (rows_of tlvs) k
