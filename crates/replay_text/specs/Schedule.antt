-- The lines of a schedule: what happens in a domain, one event per line, or some rounds of all that is due.
use Rattle.std.specs.Prelude.{ℕ, ◌≡◌, true, List, [], ◌∷◌, nat_lt, length, Result, Ok, Err, IsOk, codes, if◌then◌else◌}
use Rattle.wire_base.specs.declared.bsl.Bsl.{Bsl}
use Rattle.std.specs.Str.{bytes_eq}
use Rattle.wire_base.specs.declared.limits.TheConstants.{LINE_LIMIT, MOST_ROUNDS}
use Rattle.wire_base.specs.model.Fields.{◌>>=◌}
use Rattle.replay_text.specs.declared.fault.TextFault.{TextFault}
use Rattle.replay_text.specs.declared.fault.TextFault.TheVariants.{Word, LineLong}
use Rattle.replay_text.specs.declared.event.Event.{Event}
use Rattle.replay_text.specs.declared.event.Event.TheVariants as event
use Rattle.replay_text.specs.declared.event.Line.{Line}
use Rattle.replay_text.specs.declared.event.Line.TheVariants as line
use Rattle.replay_text.specs.Pieces.{words_of}
use Rattle.replay_text.specs.Hop.{is_comment}
use Rattle.replay_text.specs.Arguments.{counted, name_at, number_at, length_at, label_at, ids_at, ttl_at, payload_at}

-- `R`
unfoldable pub router_named : List (List ℕ) → List (List ℕ) → Result ℕ TextFault
router_named names args = do
  words ← counted 1 args
  router ← name_at names words
  Ok router.0

-- `A B`, the two routers of a link
unfoldable pub link_named : List (List ℕ) → List (List ℕ) → Result (ℕ × ℕ) TextFault
link_named names args = do
  words ← counted 2 args
  from ← name_at names words
  to ← name_at names from.1
  Ok (from.0, to.0)

-- `A B I`, and a frame on it
unfoldable pub frame_named : List (List ℕ) → List (List ℕ) → Result (ℕ × ℕ × ℕ) TextFault
frame_named names args = do
  words ← counted 3 args
  from ← name_at names words
  to ← name_at names from.1
  i ← number_at 4294967295 to.1
  Ok (from.0, to.0, i.0)

-- `R SD`, a sub-domain of a router
unfoldable pub member_named : List (List ℕ) → List (List ℕ) → Result (ℕ × ℕ) TextFault
member_named names args = do
  words ← counted 2 args
  router ← name_at names words
  sd ← number_at 255 router.1
  Ok (router.0, sd.0)

-- `relabel R SD BSL LABEL`
unfoldable pub relabel_event : List (List ℕ) → List (List ℕ) → Result Event TextFault
relabel_event names args = do
  words ← counted 4 args
  router ← name_at names words
  sd ← number_at 255 router.1
  bsl ← length_at sd.1
  label ← label_at bsl.1
  Ok (event.Relabel router.0 sd.0 bsl.0 label.0)

-- `inject R SD BSL IDS TTL ENTROPY PAYLOAD`
unfoldable pub inject_event : List (List ℕ) → List (List ℕ) → Result Event TextFault
inject_event names args = do
  words ← counted 7 args
  router ← name_at names words
  sd ← number_at 255 router.1
  bsl ← length_at sd.1
  ids ← ids_at bsl.1
  ttl ← ttl_at ids.1
  entropy ← number_at 1048575 ttl.1
  payload ← payload_at entropy.1
  Ok (event.Inject router.0 sd.0 bsl.0 ids.0 ttl.0 entropy.0 payload.0)

-- the same up to IDS
unfoldable pub inject_front : List (List ℕ) → List (List ℕ) → Result (ℕ × ℕ × Bsl) TextFault
inject_front names args = do
  words ← counted 7 args
  router ← name_at names words
  sd ← number_at 255 router.1
  bsl ← length_at sd.1
  Ok (router.0, sd.0, bsl.0)

-- Reading words allocates for the ids and the payload of an injection, once what precedes them is valid, and for
-- nothing else.
abbrev pub TakesMemory : (names words : List (List ℕ)) → Type 0
TakesMemory names [] = ⊥
TakesMemory names (word ∷ args) = (bytes_eq word (codes "inject") ≡ true) × IsOk (inject_front names args)

-- the event that changes a router's configuration which a keyword names, with the words after it
unfoldable pub change_line : List (List ℕ) → List ℕ → List (List ℕ) → Result Event TextFault
change_line names word args =
    if bytes_eq word (codes "relabel") then relabel_event names args else
    if bytes_eq word (codes "leave") then (member_named names args >>= (λ m. Ok (event.Leave m.0 m.1))) else
    if bytes_eq word (codes "join") then (member_named names args >>= (λ m. Ok (event.Join m.0 m.1))) else
    Err Word

-- the event that a keyword names, with the words after it
unfoldable pub event_line : List (List ℕ) → List ℕ → List (List ℕ) → Result Event TextFault
event_line names word args =
    if bytes_eq word (codes "inject") then inject_event names args else
    if bytes_eq word (codes "take") then (frame_named names args >>= (λ f. Ok (event.Take f.0 f.1 f.2))) else
    if bytes_eq word (codes "lose") then (frame_named names args >>= (λ f. Ok (event.Lose f.0 f.1 f.2))) else
    if bytes_eq word (codes "again") then (frame_named names args >>= (λ f. Ok (event.Again f.0 f.1 f.2))) else
    if bytes_eq word (codes "down") then (link_named names args >>= (λ l. Ok (event.Down l.0 l.1))) else
    if bytes_eq word (codes "up") then (link_named names args >>= (λ l. Ok (event.Up l.0 l.1))) else
    if bytes_eq word (codes "send") then (link_named names args >>= (λ l. Ok (event.Send l.0 l.1))) else
    if bytes_eq word (codes "tick") then (router_named names args >>= (λ r. Ok (event.Tick r))) else
    if bytes_eq word (codes "restart") then (router_named names args >>= (λ r. Ok (event.Restart r))) else
    change_line names word args

-- `settle N`
unfoldable pub settle_line : List (List ℕ) → Result Line TextFault
settle_line args = do
  words ← counted 1 args
  rounds ← number_at MOST_ROUNDS words
  Ok (line.Settle rounds.0)

unfoldable pub schedule_words : List (List ℕ) → List ℕ → List (List ℕ) → Result Line TextFault
schedule_words names word args =
    if bytes_eq word (codes "settle") then settle_line args else (event_line names word args >>= (λ e. Ok (line.One e)))

abbrev pub line_of_words : List (List ℕ) → List (List ℕ) → Result Line TextFault
line_of_words names [] = Ok line.Empty
line_of_words names (word ∷ args) = schedule_words names word args

-- What a line contains in a domain whose routers have those names, in that order, or the first rule that it breaks: a
-- line of at most 16,384 octets that is not a comment, by its words. The line comes without its line ending.
unfoldable pub schedule_line : List ℕ → List (List ℕ) → Result Line TextFault
schedule_line text names =
    if nat_lt LINE_LIMIT (length text) then Err LineLong else
    if is_comment text then Ok line.Empty else
    line_of_words names (words_of text)
