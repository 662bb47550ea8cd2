-- What a list of entries will require, computed from the list and the LSDB before anything changes.
use Rattle.std.specs.Prelude.{◌≡◌, ℕ, ◌+◌, ◌&&◌, not, nat_le, Bool, true, false, List, [], ◌∷◌, ◌++◌, length, map, replicate, fold, option_map, Option, Some, None, if◌then◌else◌}
use Rattle.std.specs.List.{list_any}
use Rattle.wire_base.specs.declared.addresses.LspId.{LspId}
use Rattle.wire_base.specs.declared.cause.Cause.TheVariants as cause
use Rattle.wire_base.specs.declared.entry.Age.{Age}
use Rattle.wire_base.specs.declared.entry.Age.TheVariants.{Unknown, Newer, Equal, Older, Confused}
use Rattle.wire_base.specs.declared.entry.Entry.{Entry}
use Rattle.wire_base.specs.declared.triple.Summary.{Summary}
use Rattle.wire_base.specs.model.Control.{Control, Flood, fragment_0, same_id, entry_in, put_entry, seq_of, age_of, most_entries}
use Rattle.wire_base.specs.model.Flooding.{is_live_summary, mark_all}
use Rattle.lsp_store.specs.Places.{is_new}
use Rattle.router_core.specs.declared.snp_needs.Look.{Look}
use Rattle.router_core.specs.declared.snp_needs.Ready.{Ready}
use Rattle.router_core.specs.Own.{own_past, spent_past}
use Rattle.router_core.specs.Received.{full_drop}

-- ---- the own LSP

abbrev pub is_confused : Age → Bool
is_confused Unknown = false
is_confused Newer = false
is_confused Equal = false
is_confused Older = false
is_confused Confused = true

-- a listed entry in LSP confusion with the LSDB's entry of the same LSP ID
abbrev pub is_confusing : List Entry → Summary → Bool
is_confusing entries s = is_confused (age_of (entry_in entries s.id) s)

-- a listed entry of this LSP ID in LSP confusion with the LSDB's
abbrev pub is_at_odds : List Entry → LspId → Summary → Bool
is_at_odds entries id s = same_id s.id id && is_confused (age_of (entry_in entries s.id) s)

-- the sequence number after which the own LSP is to be originated again: its own, if the list has it in LSP confusion
abbrev pub past_asked : Bool → List Entry → LspId → List Summary → Option ℕ
past_asked spent entries own rows = if not spent && list_any (is_at_odds entries own) rows then Some (seq_of (entry_in entries own)) else None

-- whether the sequence number space is exhausted then
abbrev pub spent_if : Bool → Option ℕ → Bool
spent_if spent None = spent
spent_if spent (Some s) = spent_past spent s

-- flags and LSDB once the own LSP is originated, if there is one
abbrev pub flags_issued : Option Entry → Flood → Flood
flags_issued None f = f
flags_issued (Some e) f = mark_all f e.id

abbrev pub entries_issued : Option Entry → List Entry → List Entry
entries_issued None entries = entries
entries_issued (Some e) entries = put_entry e entries

-- ---- entries that do not fit

-- live, unknown to the LSDB, and not among the entries that the list already made it wait for
abbrev pub is_wanted : List Entry → List LspId → Summary → Bool
is_wanted entries added s = is_live_summary s && (is_new entries s.id && not (list_any (λ id. same_id id s.id) added))

-- one listed entry: the LSDB will wait for it, or it does not fit
unfoldable pub looked : List Entry → Look → Summary → Look
looked entries look s =
    if is_wanted entries look.added s
    then (if nat_le most_entries (length entries + length look.added) then record look { full = look.full + 1 } else record look { added = look.added ++ s.id ∷ [] })
    else look

-- how many of a list do not fit
unfoldable pub count_full : List Entry → List Summary → ℕ
count_full entries rows = (fold (looked entries) (record { added = []; full = 0 }) rows).full

-- ---- what is prepared

-- the sequence number after which a list requires the own LSP
abbrev pub past_of : Control → List Summary → Option ℕ
past_of c rows = past_asked c.spent c.entries (fragment_0 c.conf.system) rows

-- all that a list of entries requires of a router
pub record IsReady (c : Control) (rows : List Summary) (r : Ready) : Type 0 where
  pub own : r.own ≡ option_map (own_past c.conf c.flood.up) (past_of c rows)
  pub spent : r.spent ≡ spent_if c.spent (past_of c rows)
  pub drops : r.drops ≡ map full_drop (replicate (count_full c.entries rows) cause.Full)
