-- The lines of a schedule of hellos: interfaces come up and go down by a three-way handshake (RFC 5303), and not by lines of their
-- own. Five lines are events of hellos; any other is a line of a schedule.
use Rattle.std.specs.Prelude.{ℕ, ◌≡◌, true, Bool, false, List, [], ◌∷◌, nat_lt, length, Result, Ok, Err, codes, if◌then◌else◌}
use Rattle.std.specs.Str.{bytes_eq}
use Rattle.wire_base.specs.declared.limits.TheConstants.{LINE_LIMIT}
use Rattle.wire_base.specs.model.Fields.{◌>>=◌}
use Rattle.wire_base.specs.declared.hello_event.HelloEvent.{HelloEvent}
use Rattle.wire_base.specs.declared.hello_event.HelloEvent.TheVariants as hello
use Rattle.replay_text.specs.declared.fault.TextFault.{TextFault}
use Rattle.replay_text.specs.declared.fault.TextFault.TheVariants.{Word, LineLong}
use Rattle.replay_text.specs.declared.event.Event.{Event}
use Rattle.replay_text.specs.declared.event.Event.TheVariants as event
use Rattle.replay_text.specs.declared.event.Line.{Line}
use Rattle.replay_text.specs.declared.event.Line.TheVariants as line
use Rattle.replay_text.specs.declared.hand.HandLine.{HandLine}
use Rattle.replay_text.specs.declared.hand.HandLine.TheVariants as hand
use Rattle.replay_text.specs.Events.{LinkFits, LineFits}
use Rattle.replay_text.specs.Keyword.{line_words}
use Rattle.replay_text.specs.Schedule.{link_named, frame_named, schedule_line}

-- a line of a schedule, with that keyword; the two that move an interface are not allowed
abbrev pub base_line : List ℕ → List (List ℕ) → List ℕ → Result Line TextFault
base_line text names word =
    if bytes_eq word (codes "up") then Err Word else
    if bytes_eq word (codes "down") then Err Word else
    schedule_line text names

-- a line by its words; one with any other keyword is a line of a schedule
abbrev pub hand_words : List ℕ → List (List ℕ) → List (List ℕ) → Result HandLine TextFault
hand_words text names [] = Ok (hand.Base line.Empty)
hand_words text names (word ∷ args) =
    if bytes_eq word (codes "hello") then (link_named names args >>= (λ l. Ok (hand.Hello (hello.Hello l.0 l.1)))) else
    if bytes_eq word (codes "greet") then (frame_named names args >>= (λ f. Ok (hand.Hello (hello.Greet f.0 f.1 f.2)))) else
    if bytes_eq word (codes "forget") then (frame_named names args >>= (λ f. Ok (hand.Hello (hello.Forget f.0 f.1 f.2)))) else
    if bytes_eq word (codes "break") then (link_named names args >>= (λ l. Ok (hand.Hello (hello.Break l.0 l.1)))) else
    if bytes_eq word (codes "mend") then (link_named names args >>= (λ l. Ok (hand.Hello (hello.Mend l.0 l.1)))) else
    (base_line text names word >>= (λ said. Ok (hand.Base said)))

-- What a line contains in a domain whose routers have those names, in that order, or the first rule that it breaks. The line comes
-- without its line ending.
unfoldable pub hand_line : List ℕ → List (List ℕ) → Result HandLine TextFault
hand_line text names =
    if nat_lt LINE_LIMIT (length text) then Err LineLong else hand_words text names (line_words text)

-- ---- what is true of each line, in a domain of that many routers

-- both routers are in the domain; a line is no tick and no restart of circuits alone
abbrev pub HelloFits : ℕ → HelloEvent → Type 0
HelloFits count (hello.Hello from to) = LinkFits count from to
HelloFits count (hello.Greet from to i) = LinkFits count from to
HelloFits count (hello.Forget from to i) = LinkFits count from to
HelloFits count (hello.Break from to) = LinkFits count from to
HelloFits count (hello.Mend from to) = LinkFits count from to
HelloFits count (hello.Tick router) = ⊥
HelloFits count (hello.Restart router) = ⊥

-- whether an event moves an interface
abbrev pub is_move : Event → Bool
is_move (event.Inject router sd bsl ids ttl entropy payload) = false
is_move (event.Take from to i) = false
is_move (event.Lose from to i) = false
is_move (event.Again from to i) = false
is_move (event.Down from to) = true
is_move (event.Up from to) = true
is_move (event.Send from to) = false
is_move (event.Tick router) = false
is_move (event.Restart router) = false
is_move (event.Relabel router sd bsl label) = false
is_move (event.Leave router sd) = false
is_move (event.Join router sd) = false

abbrev pub moves : Line → Bool
moves line.Empty = false
moves (line.One e) = is_move e
moves (line.Settle rounds) = false

-- a line of a schedule that moves no interface
pub record BaseFits (count : ℕ) (said : Line) : Type 0 where
  pub fits : LineFits count said
  pub steady : moves said ≡ false

abbrev pub HandFits : ℕ → HandLine → Type 0
HandFits count (hand.Base said) = BaseFits count said
HandFits count (hand.Hello e) = HelloFits count e
