-- The lines of a script: the commands that they spell, and the reports of those that are no commands.
use Rattle.std.specs.Prelude.{◌≡◌, ℕ, ◌^◌, ◌<◌, ◌⊎◌, ◌==◌, List, [], ◌∷◌, decimal, codes, ◌≢◌, ◌++◌}
use Rattle.std.specs.List.{slice_split}
use Rattle.ip_prefix.specs.Network.{Address, Network}
use Rattle.ip_prefix.specs.Text.{SpellsAddress, SpellsPrefix}
use Rattle.mrt_events.specs.declared.peer.Peer.{Peer}
use Rattle.bgpdump_tool.specs.declared.command.Command.{Command}
use Rattle.bgpdump_tool.specs.declared.command.Command.TheVariants.{Next, Back, Goto, Position, Peers, Table, Route, Lookup, Lose, Forget}
use Rattle.bgpdump_lines.specs.Lines.{space, line_feed}

-- ---- the words and the lines that spell commands

-- the parts of `text` before, between and after the octets equal to `mark`, empty ones too: one more than there are
-- such octets
abbrev pub split_at_marks : ℕ → List ℕ → List (List ℕ)
split_at_marks mark text = slice_split (λ octet. octet == mark) text

-- the word is the decimal of `n`, a number below 2^32, without leading zeros
abbrev pub SpellsDecimal : ℕ → List ℕ → Type 0
SpellsDecimal n word = (n < 2 ^ 32) × (word ≡ decimal n)

-- the words `address` and `number` spell the peer: its address as text, and its AS number in decimal
-- (`SpellsDecimal`)
abbrev pub SpellsPeer : List ℕ → Peer → List ℕ → Type 0
SpellsPeer address peer number = SpellsAddress peer.addr address × SpellsDecimal peer.asn number

-- the word is `n`, a number of steps from 1 to 2^32 - 1, in decimal without leading zeros
abbrev pub SpellsStepCount : ℕ → List ℕ → Type 0
SpellsStepCount n word = (0 < n) × SpellsDecimal n word

-- the arguments of a command: none; a number of steps, which may be left out if it is 1; a number; a peer; a
-- peer and a prefix; or a peer and an address
pub data Arguments : Type 0 where
  NoArguments : Arguments
  Times : ℕ → Arguments
  Number : ℕ → Arguments
  OfPeer : Peer → Arguments
  SoughtPrefix : Peer → Network → Arguments
  SoughtAddress : Peer → Address → Arguments

-- `words` are three words: the address and the AS number of the peer, and one that spells `value`, as `Spells` says
abbrev pub SpellsSought : {A : Type 0} → (A → List ℕ → Type 0) → Peer → A → List (List ℕ) → Type 0
SpellsSought Spells peer value words =
    (address number sought : List ℕ) × SpellsPeer address peer number × Spells value sought
    × (words ≡ address ∷ number ∷ sought ∷ [])

-- the words that follow a command's name spell these arguments: none; a number of steps, or no word if it is
-- 1; a number; the address and the AS number of a peer; or these and a prefix or an address
abbrev pub SpellsArguments : Arguments → List (List ℕ) → Type 0
SpellsArguments NoArguments words = words ≡ []
SpellsArguments (Times n) words =
    ((n ≡ 1) × (words ≡ [])) ⊎ ((times : List ℕ) × SpellsStepCount n times × (words ≡ times ∷ []))
SpellsArguments (Number n) words = (number : List ℕ) × SpellsDecimal n number × (words ≡ number ∷ [])
SpellsArguments (OfPeer peer) words =
    (address number : List ℕ) × SpellsPeer address peer number × (words ≡ address ∷ number ∷ [])
SpellsArguments (SoughtPrefix peer prefix) words = SpellsSought SpellsPrefix peer prefix words
SpellsArguments (SoughtAddress peer address) words = SpellsSought SpellsAddress peer address words

-- the name that a command has in a script, in ASCII, such as `next`, and its arguments
abbrev pub name_and_arguments : Command → List ℕ × Arguments
name_and_arguments (Next n) = (codes "next", Times n)
name_and_arguments (Back n) = (codes "back", Times n)
name_and_arguments (Goto n) = (codes "goto", Number n)
name_and_arguments Position = (codes "where", NoArguments)
name_and_arguments Peers = (codes "peers", NoArguments)
name_and_arguments (Table peer) = (codes "table", OfPeer peer)
name_and_arguments (Route peer prefix) = (codes "route", SoughtPrefix peer prefix)
name_and_arguments (Lookup peer address) = (codes "lookup", SoughtAddress peer address)
name_and_arguments (Lose peer) = (codes "lose", OfPeer peer)
name_and_arguments (Forget n) = (codes "forget", Number n)

-- the words spell the command: the first is its name, and the others are its arguments
abbrev pub SpellsWords : Command → List (List ℕ) → Type 0
SpellsWords command words =
    (more : List (List ℕ)) × SpellsArguments (name_and_arguments command).1 more × (words ≡ (name_and_arguments command).0 ∷ more)

-- `line`, the octets of a line without its line feed, spells the command: split at each space, it gives words
-- of which the first is the command's name and the others are its arguments
abbrev pub SpellsCommand : Command → List ℕ → Type 0
SpellsCommand command line = SpellsWords command (split_at_marks space line)

-- ---- the lines of a script, what each of them asks for, and the report of one that is no command

-- the lines of a script, without their line feeds. A script that ends with a line feed has an empty line
-- after it, which asks for nothing
abbrev pub script_lines : List ℕ → List (List ℕ)
script_lines script = split_at_marks line_feed script

-- what a line of a script asks for: nothing if it is empty, a command, or a report that it is no command
pub data Line : Type 0 where
  -- the line is empty
  Empty : Line
  -- the line spells this command
  HasCommand : Command → Line
  -- the line is neither empty nor a command
  NoCommand : Line

-- `octets`, a line of a script without its line feed, ask for this: they are empty, or spell the command, or
-- are neither empty nor a spelling of any command
abbrev pub IsLine : Line → List ℕ → Type 0
IsLine Empty octets = octets ≡ []
IsLine (HasCommand command) octets = SpellsCommand command octets
IsLine NoCommand octets = (octets ≢ []) × ((command : Command) → SpellsCommand command octets → ⊥)

-- each element of the first list is what the line of octets at its place in the second asks for (`IsLine`); the lists
-- are equally long
abbrev pub AreLines : List Line → List (List ℕ) → Type 0
AreLines [] [] = Unit {0}
AreLines [] (octets ∷ more) = ⊥
AreLines (line ∷ lines) [] = ⊥
AreLines (line ∷ lines) (octets ∷ more) = IsLine line octets × AreLines lines more

-- `lines` are what the lines of the text `script` ask for (`IsLine`), one for each and in order
abbrev pub IsScript : List Line → List ℕ → Type 0
IsScript lines script = AreLines lines (script_lines script)

-- the report of a line that is no command, `bgpdump: script line NUMBER: bad command`, where `number` counts lines
-- from 1
abbrev pub bad_line_report : ℕ → List ℕ
bad_line_report number = codes "bgpdump: script line " ++ (decimal number ++ codes ": bad command\n")
