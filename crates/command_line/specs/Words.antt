-- What command lines mean.
use Rattle.std.specs.Prelude.{ℕ, ◌-◌, ◌≡◌, ◌⊎◌, ◌<◌, List, [], ◌∷◌, map, Option, Some, None, codes, if◌then◌else◌}
use Rattle.std.specs.Borrow.{Bor}
use Rattle.std.specs.Fmt.{decimal}
use Rattle.std.specs.List.{find, range_with_len}
use Rattle.std.specs.Str.{bytes_eq}
use Rattle.wire_base.specs.declared.addresses.SystemId.{SystemId}
use Rattle.wire_base.specs.declared.conf.Level.{Level}
use Rattle.wire_base.specs.declared.conf.Level.TheVariants as levels
use Rattle.wire_base.specs.declared.limits.TheConstants.{MOST_ROUTERS}
use Rattle.domain_conf.specs.Forms.{system_in}
use Rattle.command_line.specs.CommandLine as line
use Rattle.command_line.specs.CommandLine.{CommandLine}
use Rattle.command_line.specs.Form.{Form, Replay, Node, Hop, Headers, Grow, Topo, Unknown}
use Rattle.command_line.specs.declared.arguments.Arguments.{Arguments}
use Rattle.command_line.specs.declared.arguments.Arguments.TheVariants as arguments
use Rattle.command_line.specs.declared.arguments.ScheduleKind.{ScheduleKind}
use Rattle.command_line.specs.declared.arguments.ScheduleKind.TheVariants as kinds

-- ---- arguments

-- the number that an argument encodes in decimal digits without a leading 0, out of as many numbers from `low` on
unfoldable pub number_from : (low count : ℕ) → List ℕ → Option ℕ
number_from low count word = find (λ n. bytes_eq (decimal n) word) (range_with_len low count)

-- N of `grow N`: from 3 to the most routers of a domain
abbrev pub routers_of : List ℕ → Option ℕ
routers_of word = number_from 3 (MOST_ROUTERS - 2) word

-- LEVEL: 1 or 2
unfoldable pub level_of : List ℕ → Option Level
level_of word = if bytes_eq word (codes "1") then Some levels.One else if bytes_eq word (codes "2") then Some levels.Two else None

-- MT, the identifier of a topology: 0 to 4,095 (RFC 5120, 7)
abbrev pub topology_of : List ℕ → Option ℕ
topology_of word = number_from 0 4096 word

-- ---- command lines

abbrev pub grow_of : Option ℕ → CommandLine
grow_of None = line.Unknown
grow_of (Some n) = line.Grow n

-- `hop INPUT`, `headers CAPTURE` and `grow N`
abbrev pub command_of_one : (word argument : List ℕ) → CommandLine
command_of_one word argument =
    if bytes_eq word (codes "hop") then line.Hop argument else if bytes_eq word (codes "headers") then line.Headers argument else if bytes_eq word (codes "grow") then grow_of (routers_of argument) else line.Unknown

-- the command that executes a schedule, by its name
unfoldable pub kind_of : List ℕ → Option ScheduleKind
kind_of word =
    if bytes_eq word (codes "replay") then Some kinds.Replay else if bytes_eq word (codes "replay-ng") then Some kinds.ReplayNg else
    if bytes_eq word (codes "handshake") then Some kinds.Handshake else if bytes_eq word (codes "check") then Some kinds.Check else None

abbrev pub replay_by : Option ScheduleKind → (conf schedule frames : List ℕ) → CommandLine
replay_by None conf schedule frames = line.Unknown
replay_by (Some kind) conf schedule frames = line.Replay kind conf schedule frames

-- `replay CONF SCHEDULE FRAMES`, and the other commands that execute a schedule
abbrev pub command_of_three : (word conf schedule frames : List ℕ) → CommandLine
command_of_three word conf schedule frames = replay_by (kind_of word) conf schedule frames

abbrev pub topo_from : (capture : List ℕ) → Level → ℕ → Option SystemId → CommandLine
topo_from capture level mt None = line.Unknown
topo_from capture level mt (Some from) = line.Topo capture level mt from

abbrev pub topo_in : (capture : List ℕ) → Level → Option ℕ → (from : List ℕ) → CommandLine
topo_in capture level None from = line.Unknown
topo_in capture level (Some mt) from = topo_from capture level mt (system_in from)

abbrev pub topo_at : (capture : List ℕ) → Option Level → (mt from : List ℕ) → CommandLine
topo_at capture None mt from = line.Unknown
topo_at capture (Some level) mt from = topo_in capture level (topology_of mt) from

-- `node CONF ROUTER CAPTURE FRAMES` and `topo CAPTURE LEVEL MT FROM`
abbrev pub command_of_four : (word first second third fourth : List ℕ) → CommandLine
command_of_four word first second third fourth =
    if bytes_eq word (codes "node") then line.Node first second third fourth else if bytes_eq word (codes "topo") then topo_at first (level_of second) third fourth else line.Unknown

-- Each command has its number of arguments. Paths are whatever they are.
unfoldable pub command_line : List (List ℕ) → CommandLine
command_line [] = line.Unknown
command_line (word ∷ []) = line.Unknown
command_line (word ∷ argument ∷ []) = command_of_one word argument
command_line (word ∷ first ∷ second ∷ []) = line.Unknown
command_line (word ∷ conf ∷ schedule ∷ frames ∷ []) = command_of_three word conf schedule frames
command_line (word ∷ first ∷ second ∷ third ∷ fourth ∷ []) = command_of_four word first second third fourth
command_line (word ∷ first ∷ second ∷ third ∷ fourth ∷ more ∷ rest) = line.Unknown

-- the command line of arguments that a call receives
abbrev pub command_line_in : List (Bor (List ℕ)) → CommandLine
command_line_in words = command_line (map (λ word. word.now) words)

-- the command line that parsed arguments represent
abbrev pub meaning : Arguments → CommandLine
meaning (arguments.Replay kind conf schedule frames) = line.Replay kind conf.now schedule.now frames.now
meaning (arguments.Node conf router capture frames) = line.Node conf.now router.now capture.now frames.now
meaning (arguments.Hop input) = line.Hop input.now
meaning (arguments.Headers capture) = line.Headers capture.now
meaning (arguments.Grow routers) = line.Grow routers
meaning (arguments.Topo capture level mt from) = line.Topo capture.now level mt from
meaning arguments.Unknown = line.Unknown

-- the identifier of a topology has twelve bits
abbrev pub IsTopology : Arguments → Type 0
IsTopology read = (capture : Bor (List ℕ)) (level : Level) (mt : ℕ) (from : SystemId) → read ≡ arguments.Topo capture level mt from → mt < 4096

-- ---- what a command line names

abbrev pub form_of : CommandLine → Form
form_of (line.Replay kind conf schedule frames) = Replay kind
form_of (line.Node conf router capture frames) = Node
form_of (line.Hop input) = Hop
form_of (line.Headers capture) = Headers
form_of (line.Grow routers) = Grow routers
form_of (line.Topo capture level mt from) = Topo level mt from
form_of line.Unknown = Unknown

-- the name of a router, which only `node` has
abbrev pub router_of : CommandLine → List ℕ
router_of (line.Replay kind conf schedule frames) = []
router_of (line.Node conf router capture frames) = router
router_of (line.Hop input) = []
router_of (line.Headers capture) = []
router_of (line.Grow routers) = []
router_of (line.Topo capture level mt from) = []
router_of line.Unknown = []

abbrev pub form_in : List (Bor (List ℕ)) → Form
form_in words = form_of (command_line_in words)

abbrev pub router_in : List (Bor (List ℕ)) → List ℕ
router_in words = router_of (command_line_in words)

-- `replay` and the other commands that execute a schedule
abbrev pub IsReplay : Form → Type 0
IsReplay form = (kind : ScheduleKind) × (form ≡ Replay kind)

-- `grow`, with any number
abbrev pub IsGrow : Form → Type 0
IsGrow form = (n : ℕ) × (form ≡ Grow n)

-- `topo`, with any arguments
abbrev pub IsTopo : Form → Type 0
IsTopo form = (level : Level) × (mt : ℕ) × (from : SystemId) × (form ≡ Topo level mt from)

-- the commands that read a capture and no domain file
abbrev pub ReadsCapture : Form → Type 0
ReadsCapture form = (form ≡ Headers) ⊎ IsTopo form

-- the line for an unknown command line
abbrev pub usage_text : List ℕ
usage_text = codes "usage: bier_domain replay CONF SCHEDULE FRAMES | node CONF ROUTER CAPTURE FRAMES | hop INPUT | headers CAPTURE | grow N | handshake CONF SCHEDULE FRAMES | topo CAPTURE LEVEL MT FROM | replay-ng CONF SCHEDULE FRAMES | check CONF SCHEDULE FRAMES\n"
