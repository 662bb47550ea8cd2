-- The files that a command line names.
use Rattle.std.specs.Prelude.{ℕ, ◌≡◌, List, Option, Some, None, IfSome}
use Rattle.command_line.specs.CommandLine.{CommandLine, Replay, Node, Hop, Headers, Grow, Topo, Unknown}
use Rattle.tool_host.specs.declared.objects.Objects.{Objects}

-- the path of the domain file
abbrev pub conf_path : CommandLine → Option (List ℕ)
conf_path (Replay format conf schedule frames) = Some conf
conf_path (Node conf router capture frames) = Some conf
conf_path (Hop input) = None
conf_path (Headers capture) = None
conf_path (Grow routers) = None
conf_path (Topo capture level mt from) = None
conf_path Unknown = None

-- the path of the schedule, the capture or the other input
abbrev pub input_path : CommandLine → Option (List ℕ)
input_path (Replay format conf schedule frames) = Some schedule
input_path (Node conf router capture frames) = Some capture
input_path (Hop input) = Some input
input_path (Headers capture) = Some capture
input_path (Grow routers) = None
input_path (Topo capture level mt from) = Some capture
input_path Unknown = None

-- the path that the frames are written to
abbrev pub frames_path : CommandLine → Option (List ℕ)
frames_path (Replay format conf schedule frames) = Some frames
frames_path (Node conf router capture frames) = Some frames
frames_path (Hop input) = None
frames_path (Headers capture) = None
frames_path (Grow routers) = None
frames_path (Topo capture level mt from) = None
frames_path Unknown = None

-- Each object is the file at the path that the command line has for it.
pub record AreNamed {F D : Type 0} (line : CommandLine) (objects : Objects F D) : Type 0 where
  pub conf : IfSome (conf_path line) (λ path. objects.conf.path.now ≡ path)
  pub input : IfSome (input_path line) (λ path. objects.input.path.now ≡ path)
  pub frames : IfSome (frames_path line) (λ path. objects.frames.path.now ≡ path)
