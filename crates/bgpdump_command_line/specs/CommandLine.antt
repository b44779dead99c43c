-- The command line of the program, and the settings that its arguments select.
use Rattle.std.specs.Prelude.{◌≡◌, ◌≢◌, ◌&&◌, ⊤, Bool, true, false, not, List, [], ◌∷◌, map, Option, Some, is_some, option_map, if◌then◌else◌, Result, Ok, Err, codes, string_bytes, bytes_eq}
use Rattle.std.specs.Option.{option_map_or}
use Rattle.clap.specs.Words.{App, IsAmong, Row, Rule, Text, fault_of, first_of, matches_of, new_app, new_rule, one_of, with_rule}
use Rattle.clap.specs.declared.builder.ArgAction.TheVariants.{Set, SetTrue}
use Rattle.clap.specs.declared.builder.value_parser.ValueParser.{ValueParser}
use Rattle.clap.specs.declared.builder.value_parser.ValueParser.TheVariants as parser
use Rattle.clap.specs.declared.error.ErrorKind.{ErrorKind}
use Rattle.clap.specs.declared.error.ErrorKind.TheVariants.{DisplayHelp}
use Rattle.mrt_events.specs.declared.Stamp.{Stamp}
use Rattle.mrt_events.specs.declared.Stamp.TheVariants.{Dump, Change}
use Rattle.bgpdump_command_line.specs.declared.usage.Mode.{Mode}
use Rattle.bgpdump_command_line.specs.declared.usage.Mode.TheVariants as mode
use Rattle.bgpdump_command_line.specs.declared.usage.Settings.{Settings}
use Rattle.bgpdump_command_line.specs.declared.usage.UsageFault.{UsageFault}
use Rattle.bgpdump_command_line.specs.declared.usage.UsageFault.TheVariants as usage

-- ---- the command line: `bgpdump (-m | --play SCRIPT) [-t dump|change] [-O FILE] INPUT`

-- what `clap` is given for `-m` (a rule): a flag, with the id `lines`
abbrev pub lines_rule : Rule
lines_rule = record (new_rule (codes "lines")) { short = Some 109; action = Some SetTrue }

-- what `clap` is given for `--play SCRIPT` (a rule): an option with one value, with the id `script`
abbrev pub script_rule : Rule
script_rule = record (new_rule (codes "script")) { long = Some (codes "play"); value_names = 1 }

-- what `clap` is given for `-t TIME` (a rule): an option with one value, which `times` parses and which is `dump` if
-- the option is absent, with the id `times`
abbrev pub times_rule : ValueParser → Rule
times_rule times = record (new_rule (codes "times")) { short = Some 116; value_names = 1; parser = Some times; defaults = codes "dump" ∷ [] }

-- what `clap` is given for `-O FILE` (a rule): an option with one value, with the id `output`
abbrev pub output_rule : Rule
output_rule = record (new_rule (codes "output")) { short = Some 79; value_names = 1 }

-- what `clap` is given for INPUT (a rule): an argument with one value, which is required, with the id `input`
abbrev pub input_rule : Rule
input_rule = record (new_rule (codes "input")) { value_names = 1; required = true; action = Some Set }

-- the command line that `bgpdump` takes, as `clap` is given it: the program's name, and the rules of `-m`, `--play`,
-- `-t` (whose value `times` parses), `-O` and INPUT
abbrev pub command_line : ValueParser → App
command_line times =
    with_rule (with_rule (with_rule (with_rule (with_rule (new_app (codes "bgpdump")) lines_rule) script_rule) (times_rule times)) output_rule) input_rule

-- the parser, for the value of `-t`, takes just `dump` and `change`
abbrev pub TakesTimeChoices : ValueParser → Type 0
TakesTimeChoices (parser.Names taken) = map (λ name. name.now) taken.now ≡ codes "dump" ∷ codes "change" ∷ []
TakesTimeChoices other = ⊥

-- ---- the settings that the matches of a parse select

-- whether `found` is a value, and equal to `text`; false for `None`
abbrev pub equals_text : Text → Option Text → Bool
equals_text text found = option_map_or (bytes_eq text) found false

-- whether the flag `-m` is set in `rows`, the options and values that a parse found
abbrev pub has_lines_flag : List Row → Bool
has_lines_flag rows = equals_text (codes "true") (one_of (codes "lines") rows)

-- the value of `--play` among the options and values that a parse found, `None` if it isn't there
abbrev pub script_of : List Row → Option Text
script_of = first_of (codes "script")

-- the value of INPUT among the options and values that a parse found, `None` if it isn't there
abbrev pub input_of : List Row → Option Text
input_of = first_of (codes "input")

-- which time the routes of tables get, by the options and values that a parse found: `Change` (their last change) if
-- the value of `-t` is `change`, or else `Dump` (that of the dump)
abbrev pub selected_stamp : List Row → Stamp
selected_stamp rows = if equals_text (codes "change") (first_of (codes "times") rows) then Change else Dump

-- whether just one of `-m` and `--play` is among the options and values that a parse found
abbrev pub has_one_mode : List Row → Bool
has_one_mode rows = if has_lines_flag rows then not (is_some (script_of rows)) else is_some (script_of rows)

-- whether the script and the input are both `-`, standard input, by the options and values that a parse found
abbrev pub reads_stdin_twice : List Row → Bool
reads_stdin_twice rows = equals_text (codes "-") (script_of rows) && equals_text (codes "-") (input_of rows)

-- `rows`, the options and values that a parse found, select this mode: `Lines` by `-m`, or `Play` by
-- `--play`, with its value as the script
abbrev pub IsMode : List Row → Mode → Type 0
IsMode rows mode.Lines = has_lines_flag rows ≡ true
IsMode rows (mode.Play script) = script_of rows ≡ Some (string_bytes script)

-- the fields of `settings` are what `rows`, the options and values that a parse found, have for them: the
-- mode, the choice of `-t` (or `dump`), the FILE of `-O`, if it is there, and INPUT
pub record AreSettings (rows : List Row) (settings : Settings) : Type 0 where
  pub mode : IsMode rows settings.mode
  pub stamp : settings.stamp ≡ selected_stamp rows
  pub output : option_map string_bytes settings.output ≡ first_of (codes "output") rows
  pub input : input_of rows ≡ Some (string_bytes settings.input)

-- reading `rows`, the options and values that a parse found, may give this result: the fault `Mode` unless just one
-- of `-m` and `--play` is there, or else `TwoInputs` if script and input are both standard input, or else the
-- settings that they state (`AreSettings`); `Memory` in any case, and no other fault
abbrev pub MayGiveSettings : List Row → Result Settings UsageFault → Type 0
MayGiveSettings rows (Ok settings) = (has_one_mode rows ≡ true) × (reads_stdin_twice rows ≡ false) × AreSettings rows settings
MayGiveSettings rows (Err usage.Mode) = has_one_mode rows ≡ false
MayGiveSettings rows (Err usage.TwoInputs) = (has_one_mode rows ≡ true) × (reads_stdin_twice rows ≡ true)
MayGiveSettings rows (Err usage.Memory) = ⊤
MayGiveSettings rows (Err fault) = ⊥

-- ---- what the words of a command line give

-- reading the words of a command line, where `times` parses the value of `-t`, may give this result: `Help` if
-- parsing them may fail with help, `Words` if it may fail with another fault, each with any text; and, only if it
-- can't fail, what the options and values that it finds may give (`MayGiveSettings`)
abbrev pub MayGiveSettingsFor : ValueParser → List Text → Result Settings UsageFault → Type 0
MayGiveSettingsFor times words (Err (usage.Help text)) = IsAmong DisplayHelp (fault_of (command_line times) words)
MayGiveSettingsFor times words (Err (usage.Words text)) = (kind : ErrorKind) × IsAmong kind (fault_of (command_line times) words) × (kind ≢ DisplayHelp)
MayGiveSettingsFor times words result = (fault_of (command_line times) words ≡ []) × MayGiveSettings (matches_of (command_line times) words) result

-- reading the words of a command line may give this result: the settings that they state, or a fault, as
-- `MayGiveSettingsFor` says with a parser that takes `dump` and `change` for `-t`; and the fault `Memory`, whatever the
-- words
abbrev pub Answers : List Text → Result Settings UsageFault → Type 0
Answers words (Err usage.Memory) = ⊤
Answers words result = (times : ValueParser) × TakesTimeChoices times × MayGiveSettingsFor times words result
