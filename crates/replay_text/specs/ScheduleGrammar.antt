-- The grammar of a schedule's lines: what a line spells, in a domain whose routers have those names.
use Rattle.std.specs.Prelude.{ℕ, ◌≡◌, ◌≤◌, ◌⊎◌, true, false, List, [], ◌∷◌, length, Some, codes}
use Rattle.wire_base.specs.declared.limits.TheConstants.{LAST_LABEL, LINE_LIMIT, MOST_ROUNDS}
use Rattle.wire_base.specs.declared.bsl.Bsl.{Bsl}
use Rattle.wire_base.specs.model.Place.{bits_of}
use Rattle.replay_text.specs.declared.event.Event.{Event}
use Rattle.replay_text.specs.declared.event.Event.TheVariants as event
use Rattle.replay_text.specs.declared.event.Line.{Line}
use Rattle.replay_text.specs.declared.event.Line.TheVariants as line
use Rattle.replay_text.specs.Pieces.{words_of}
use Rattle.replay_text.specs.Tokens.{number_of}
use Rattle.replay_text.specs.Arguments.{place_of, listed_ids, payload_of}
use Rattle.replay_text.specs.Hop.{is_comment}

-- a number from one bound to another
pub record IsNumber (least most : ℕ) (word : List ℕ) (n : ℕ) : Type 0 where
  pub number : number_of word ≡ Some n
  pub above : least ≤ n
  pub within : n ≤ most

-- `R`: a router is named
pub record IsOne (names args : List (List ℕ)) (router : ℕ) : Type 0 where
  pub word : List ℕ
  pub args_are : args ≡ word ∷ []
  pub named : place_of names word ≡ Some router

-- `A B`: the two routers of a link
pub record IsLink (names args : List (List ℕ)) (from to : ℕ) : Type 0 where
  pub first : List ℕ
  pub second : List ℕ
  pub args_are : args ≡ first ∷ second ∷ []
  pub first_named : place_of names first ≡ Some from
  pub second_named : place_of names second ≡ Some to

-- `A B I`: a frame in flight
pub record IsFrame (names args : List (List ℕ)) (from to i : ℕ) : Type 0 where
  pub first : List ℕ
  pub second : List ℕ
  pub place : List ℕ
  pub args_are : args ≡ first ∷ second ∷ place ∷ []
  pub first_named : place_of names first ≡ Some from
  pub second_named : place_of names second ≡ Some to
  pub is_place : IsNumber 0 4294967295 place i

-- `R SD`: a sub-domain of a router
pub record IsMember (names args : List (List ℕ)) (router sd : ℕ) : Type 0 where
  pub name : List ℕ
  pub subdomain : List ℕ
  pub args_are : args ≡ name ∷ subdomain ∷ []
  pub named : place_of names name ≡ Some router
  pub is_subdomain : IsNumber 0 255 subdomain sd

-- `R SD BSL LABEL`: the first of a router's labels, none of them reserved (RFC 3032, 2.1)
pub record IsRelabelling (names args : List (List ℕ)) (router sd : ℕ) (bsl : Bsl) (label : ℕ) : Type 0 where
  pub name : List ℕ
  pub subdomain : List ℕ
  pub bits : List ℕ
  pub digits : List ℕ
  pub args_are : args ≡ name ∷ subdomain ∷ bits ∷ digits ∷ []
  pub named : place_of names name ≡ Some router
  pub is_subdomain : IsNumber 0 255 subdomain sd
  pub is_length : number_of bits ≡ Some (bits_of bsl)
  pub is_label : IsNumber 16 LAST_LABEL digits label

-- `R SD BSL IDS TTL ENTROPY PAYLOAD`: what is injected, with ranges by RFC 8296, 2.1
pub record IsInjection (names args : List (List ℕ)) (router sd : ℕ) (bsl : Bsl) (ids : List ℕ) (ttl entropy : ℕ) (payload : List ℕ) : Type 0 where
  pub name : List ℕ
  pub subdomain : List ℕ
  pub bits : List ℕ
  pub list : List ℕ
  pub hops : List ℕ
  pub flow : List ℕ
  pub digits : List ℕ
  pub args_are : args ≡ name ∷ subdomain ∷ bits ∷ list ∷ hops ∷ flow ∷ digits ∷ []
  pub named : place_of names name ≡ Some router
  pub is_subdomain : IsNumber 0 255 subdomain sd
  pub is_length : number_of bits ≡ Some (bits_of bsl)
  pub listed : listed_ids list ≡ Some ids
  pub is_ttl : IsNumber 1 255 hops ttl
  pub is_entropy : IsNumber 0 1048575 flow entropy
  pub spelled : payload_of digits ≡ Some payload

-- a keyword, and arguments after it
pub record Says (words : List (List ℕ)) (word : List ℕ) (Args : List (List ℕ) → Type 0) : Type 0 where
  pub args : List (List ℕ)
  pub words_are : words ≡ word ∷ args
  pub are : Args args

abbrev pub IsEvent : (names words : List (List ℕ)) → Event → Type 0
IsEvent names words (event.Inject router sd bsl ids ttl entropy payload) = Says words (codes "inject") (λ args. IsInjection names args router sd bsl ids ttl entropy payload)
IsEvent names words (event.Take from to i) = Says words (codes "take") (λ args. IsFrame names args from to i)
IsEvent names words (event.Lose from to i) = Says words (codes "lose") (λ args. IsFrame names args from to i)
IsEvent names words (event.Again from to i) = Says words (codes "again") (λ args. IsFrame names args from to i)
IsEvent names words (event.Down from to) = Says words (codes "down") (λ args. IsLink names args from to)
IsEvent names words (event.Up from to) = Says words (codes "up") (λ args. IsLink names args from to)
IsEvent names words (event.Send from to) = Says words (codes "send") (λ args. IsLink names args from to)
IsEvent names words (event.Tick router) = Says words (codes "tick") (λ args. IsOne names args router)
IsEvent names words (event.Restart router) = Says words (codes "restart") (λ args. IsOne names args router)
IsEvent names words (event.Relabel router sd bsl label) = Says words (codes "relabel") (λ args. IsRelabelling names args router sd bsl label)
IsEvent names words (event.Leave router sd) = Says words (codes "leave") (λ args. IsMember names args router sd)
IsEvent names words (event.Join router sd) = Says words (codes "join") (λ args. IsMember names args router sd)

-- `settle N`: that many rounds
pub record IsRounds (args : List (List ℕ)) (rounds : ℕ) : Type 0 where
  pub word : List ℕ
  pub args_are : args ≡ word ∷ []
  pub is_number : IsNumber 0 MOST_ROUNDS word rounds

abbrev pub IsSaid : (names words : List (List ℕ)) → Line → Type 0
IsSaid names words line.Empty = words ≡ []
IsSaid names words (line.One e) = IsEvent names words e
IsSaid names words (line.Settle rounds) = Says words (codes "settle") (λ args. IsRounds args rounds)

-- A line of at most 16,384 octets, without its line ending: a comment, or words that are a valid line.
pub record IsScheduleLine (names : List (List ℕ)) (text : List ℕ) (said : Line) : Type 0 where
  pub short : length text ≤ LINE_LIMIT
  pub says : ((is_comment text ≡ true) × (said ≡ line.Empty)) ⊎ ((is_comment text ≡ false) × IsSaid names (words_of text) said)
