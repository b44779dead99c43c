-- Private.
-- Each argument of the command line, the mode that they select, and the fault of a failed parse.
use Rattle.std.specs.Prelude.{◌≡◌, ◌≢◌, ⊤, true, false, List, is_some, Result, Ok, Err, codes}
use Rattle.clap.specs.declared.Arg.{Arg}
use Rattle.clap.specs.declared.ArgMatches.{ArgMatches}
use Rattle.clap.specs.declared.Command.{Command}
use Rattle.clap.specs.declared.builder.value_parser.ValueParser.{ValueParser}
use Rattle.clap.specs.declared.error.ErrorKind.{ErrorKind}
use Rattle.clap.specs.declared.error.ErrorKind.TheVariants.{DisplayHelp, OutOfMemory}
use Rattle.clap.specs.Words.{App, IsParsedFrom, IsPlainArg, Row, Rule, first_value, found_of}
use Rattle.bgpdump_command_line.specs.declared.usage.Mode.{Mode}
use Rattle.bgpdump_command_line.specs.declared.usage.UsageFault.{UsageFault}
use Rattle.bgpdump_command_line.specs.declared.usage.UsageFault.TheVariants as usage
use Rattle.bgpdump_command_line.specs.CommandLine.{times_rule, command_line, TakesTimeChoices, has_one_mode, IsMode}

-- The rule, what `clap` knows of an argument, is that of `-t`, with a parser that takes just the values `dump` and
-- `change`.
abbrev pub IsTimesRule : Rule → Type 0
IsTimesRule rule = (times : ValueParser) × TakesTimeChoices times × (rule ≡ times_rule times)

-- The command is that of the program (`command_line`), where the parser of the value of `-t` takes just `dump` and
-- `change`.
abbrev pub IsCommandLine : App → Type 0
IsCommandLine app = (times : ValueParser) × TakesTimeChoices times × (app ≡ command_line times)

-- The argument doesn't exclude or override another one, is in no group, and isn't one of subcommands too (`global`).
abbrev pub ExcludesNone : Arg → Type 0
ExcludesNone argument = IsPlainArg argument × (argument.global ≡ false)

-- Each successful parse by the command gives INPUT a value.
abbrev pub TakesInput : Command → Type 0
TakesInput command = (matches : ArgMatches) → IsParsedFrom command matches → is_some (first_value (found_of matches) (codes "input")) ≡ true

-- Selecting the mode by `rows`, the options and values that a parse found, may give this result: the mode, if just
-- one of `-m` and `--play` is there, or else the fault `Mode`; `Memory` in any case, and no other fault.
abbrev pub GivesMode : List Row → Result Mode UsageFault → Type 0
GivesMode rows (Ok mode) = (has_one_mode rows ≡ true) × IsMode rows mode
GivesMode rows (Err usage.Mode) = has_one_mode rows ≡ false
GivesMode rows (Err usage.Memory) = ⊤
GivesMode rows (Err fault) = ⊥

-- A parse that failed with an error of this kind may give this fault, with any text: `Help` for a request of help,
-- `Words` for a kind other than that and lack of memory; `Memory` for any kind, and no other fault.
abbrev pub IsFaultOf : ErrorKind → UsageFault → Type 0
IsFaultOf kind (usage.Help text) = kind ≡ DisplayHelp
IsFaultOf kind (usage.Words text) = (kind ≢ DisplayHelp) × (kind ≢ OutOfMemory)
IsFaultOf kind usage.Memory = ⊤
IsFaultOf kind fault = ⊥
