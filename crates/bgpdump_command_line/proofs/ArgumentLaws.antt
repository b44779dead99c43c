-- The command of the command line, made of its five arguments.
use Rattle.std.proofs.Common.{◌≡◌, ◌∙◌, ◌<◌, zero, suc, ap, sym, refl, arith, inl, inr, ℕ, true, false, List, [], ◌∷◌, Some, codes, All, position, slice_index_or, bytes_eq}
use Rattle.std.proofs.lemmas.List.Elements.{All-cons}
use Rattle.std.proofs.lemmas.Slice.Eq.{bytes_eq-Decides}
use Rattle.clap.specs.Words.{AddsArg, AddsInTurn, App, Text, app_of, new_app, rule_of, with_rule}
use Rattle.clap.specs.Built.{FitsChain, HasDistinctIds, TakesValue}
use Rattle.clap.specs.declared.Arg.{Arg}
use Rattle.clap.specs.declared.Command.{Command}
use Rattle.bgpdump_command_line.specs.CommandLine.{input_rule, lines_rule, output_rule, script_rule, times_rule}
use Rattle.bgpdump_command_line.specs.Arguments.{IsCommandLine, IsTimesRule, ExcludesNone}

-- the five arguments, by what is said of each
pub record AreArguments (lines script times output input : Arg) : Type 0 where
  pub lines_is : rule_of lines ≡ lines_rule
  pub script_is : rule_of script ≡ script_rule
  pub times_is : IsTimesRule (rule_of times)
  pub output_is : rule_of output ≡ output_rule
  pub input_is : rule_of input ≡ input_rule
  pub lines_alone : ExcludesNone lines
  pub script_alone : ExcludesNone script
  pub times_alone : ExcludesNone times
  pub output_alone : ExcludesNone output
  pub input_alone : ExcludesNone input
  pub input_value : TakesValue input

-- each added to the command before it
pub record AreAdded (start first second third fourth last : Command) (lines script times output input : Arg) : Type 0 where
  pub adds_lines : AddsArg start lines first
  pub adds_script : AddsArg first script second
  pub adds_times : AddsArg second times third
  pub adds_output : AddsArg third output fourth
  pub adds_input : AddsArg fourth input last

-- one more argument, in the shape of the command
added_shape : (old : Command) (argument : Arg) (new : Command) (app : App) → AddsArg old argument new → ExcludesNone argument → app_of old ≡ app → app_of new ≡ with_rule app (rule_of argument)
added_shape old argument new app added alone is = added.shape alone.1 ∙ ap (λ a. with_rule a (rule_of argument)) is

pub command_made : (start first second third fourth last : Command) (lines script times output input : Arg)
    → app_of start ≡ new_app (codes "bgpdump") → AreArguments lines script times output input → AreAdded start first second third fourth last lines script times output input
    → IsCommandLine (app_of last)
command_made start first second third fourth last lines script times output input is of added =
    let one = added_shape start lines first (new_app (codes "bgpdump")) added.adds_lines of.lines_alone is ∙ ap (with_rule (new_app (codes "bgpdump"))) of.lines_is in
    let two = added_shape first script second _ added.adds_script of.script_alone one ∙ ap (with_rule (with_rule (new_app (codes "bgpdump")) lines_rule)) of.script_is in
    let three = added_shape second times third _ added.adds_times of.times_alone two
    ∙ ap (with_rule (with_rule (with_rule (new_app (codes "bgpdump")) lines_rule) script_rule)) of.times_is.2 in
    let four = added_shape third output fourth _ added.adds_output of.output_alone three
    ∙ ap (with_rule (with_rule (with_rule (with_rule (new_app (codes "bgpdump")) lines_rule) script_rule) (times_rule of.times_is.0))) of.output_is in
    let five = added_shape fourth input last _ added.adds_input of.input_alone four
    ∙ ap (with_rule (with_rule (with_rule (with_rule (with_rule (new_app (codes "bgpdump")) lines_rule) script_rule) (times_rule of.times_is.0)) output_rule)) of.input_is in
    (of.times_is.0, of.times_is.1, five)

-- ---- the input of a parse

abbrev the_ids : List Text
the_ids = codes "lines" ∷ codes "script" ∷ codes "times" ∷ codes "output" ∷ codes "input" ∷ []

-- an id tells its place
place_by_id : (a b c d e : Arg) → AreArguments a b c d e → (k : ℕ) (x : Arg) → k < 5 → position (bytes_eq (slice_index_or (a ∷ b ∷ c ∷ d ∷ e ∷ []) k x).id.now) the_ids ≡ Some k
place_by_id a b c d e of zero x low = ap (λ r. position (bytes_eq r.id) the_ids) of.lines_is
place_by_id a b c d e of (suc zero) x low = ap (λ r. position (bytes_eq r.id) the_ids) of.script_is
place_by_id a b c d e of (suc (suc zero)) x low = ap (λ r. position (bytes_eq r.id) the_ids) of.times_is.2
place_by_id a b c d e of (suc (suc (suc zero))) x low = ap (λ r. position (bytes_eq r.id) the_ids) of.output_is
place_by_id a b c d e of (suc (suc (suc (suc zero)))) x low = ap (λ r. position (bytes_eq r.id) the_ids) of.input_is
place_by_id a b c d e of (suc (suc (suc (suc (suc k))))) x low = absurd (omega arith)

distinct_ids : (a b c d e : Arg) → AreArguments a b c d e → HasDistinctIds (a ∷ b ∷ c ∷ d ∷ e ∷ [])
distinct_ids a b c d e of j k y x low high same =
    let one = (bytes_eq-Decides (slice_index_or (a ∷ b ∷ c ∷ d ∷ e ∷ []) j x).id.now (slice_index_or (a ∷ b ∷ c ∷ d ∷ e ∷ []) k y).id.now).0 same in
    let places : Some j ≡ Some k = sym (place_by_id a b c d e of j x low) ∙ ap (λ id. position (bytes_eq id) the_ids) one ∙ place_by_id a b c d e of k y high in
    cc

unequal : (a b : Text) → bytes_eq a b ≡ false → a ≡ b → ⊥
unequal a b differs same =
    let bad : true ≡ false = sym ((bytes_eq-Decides a b).1 same) ∙ differs in
    cc

-- an argument with an id that `clap` doesn't use
fits : (argument : Arg) (id : Text) → ExcludesNone argument → argument.id.now ≡ id → bytes_eq id [] ≡ false → bytes_eq id (codes "help") ≡ false → bytes_eq id (codes "version") ≡ false
    → FitsChain argument
fits argument id alone is named helps tells = (
  alone.0,
  alone.1,
  (λ empty. unequal id [] named (sym is ∙ empty)),
  λ auto. elim auto [ inl help ↦ unequal id (codes "help") helps (sym is ∙ help) | inr version ↦ unequal id (codes "version") tells (sym is ∙ version) ],
)

-- what a chain of them asks for
pub record FitTogether (lines script times output input : Arg) : Type 0 where
  pub fit : All FitsChain (lines ∷ script ∷ times ∷ output ∷ input ∷ [])
  pub distinct : HasDistinctIds (lines ∷ script ∷ times ∷ output ∷ input ∷ [])
  pub named : input.id.now ≡ codes "input"

pub fit_together : (lines script times output input : Arg) → AreArguments lines script times output input → FitTogether lines script times output input
fit_together lines script times output input of =
    record {
      fit =
          All-cons FitsChain lines (script ∷ times ∷ output ∷ input ∷ []) (fits lines (codes "lines") of.lines_alone (ap (λ r. r.id) of.lines_is) refl refl refl)
          (All-cons FitsChain script (times ∷ output ∷ input ∷ []) (fits script (codes "script") of.script_alone (ap (λ r. r.id) of.script_is) refl refl refl)
          (All-cons FitsChain times (output ∷ input ∷ []) (fits times (codes "times") of.times_alone (ap (λ r. r.id) of.times_is.2) refl refl refl)
          (All-cons FitsChain output (input ∷ []) (fits output (codes "output") of.output_alone (ap (λ r. r.id) of.output_is) refl refl refl)
          (All-cons FitsChain input [] (fits input (codes "input") of.input_alone (ap (λ r. r.id) of.input_is) refl refl refl) (λ k x low. absurd (omega arith))))));
      distinct = distinct_ids lines script times output input of;
      named = ap (λ r. r.id) of.input_is;
    }

pub chain_of : (start first second third fourth last : Command) (lines script times output input : Arg) → AreAdded start first second third fourth last lines script times output input
    → AddsInTurn AddsArg start (lines ∷ script ∷ times ∷ output ∷ input ∷ []) last
chain_of start first second third fourth last lines script times output input added =
    (first, added.adds_lines, (second, added.adds_script, (third, added.adds_times, (fourth, added.adds_output, (last, added.adds_input, refl)))))
