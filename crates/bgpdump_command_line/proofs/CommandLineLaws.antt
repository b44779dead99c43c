-- What the matches of a command line hold.
use Rattle.std.proofs.Common.{◌≡◌, ◌∙◌, ap, sym, refl, subst, inl, inr, Bool, true, false, List, [], Option, Some, None, Result, Ok, Err, codes, is_some, unwrap_or, bytes_eq}
use Rattle.std.specs.Str.Parse.{ParsesBool}
use Rattle.std.proofs.lemmas.Slice.Eq.{bytes_eq-Decides}
use Rattle.clap.proofs.WalkLemmas.{first_value-rows}
use Rattle.clap.specs.Words.{App, FailsBy, HasMatchesOf, IsAmong, ReadsOne, Row, Text, fault_of, first_value, found_of, is_simple, is_simple_and_free, kind_of, matches_of, rows_of}
use Rattle.clap.specs.declared.ArgMatches.{ArgMatches}
use Rattle.clap.specs.declared.Error.{Error}
use Rattle.clap.specs.declared.error.ErrorKind.TheVariants.{DisplayHelp, OutOfMemory}
use Rattle.clap.specs.declared.builder.value_parser.ValueParser.{ValueParser}
use Rattle.bgpdump_command_line.specs.CommandLine.{Answers, MayGiveSettings, TakesTimeChoices, command_line, input_of, equals_text}
use Rattle.bgpdump_command_line.specs.Arguments.{IsCommandLine, IsFaultOf}
use Rattle.bgpdump_command_line.specs.declared.usage.Settings.{Settings}
use Rattle.bgpdump_command_line.specs.declared.usage.UsageFault.{UsageFault}
use Rattle.bgpdump_command_line.specs.declared.usage.UsageFault.TheVariants as usage

-- a flag is up where its text is `true`
pub flag_read : (E : Type 0) (text : Option Text) (flag : Option Bool) → (text ≡ None → flag ≡ None) → ((t : Text) → text ≡ Some t → ReadsOne {E = E} ParsesBool t flag)
    → unwrap_or flag false ≡ equals_text (codes "true") text
flag_read E None flag none some = ap (λ f. unwrap_or f false) (none refl)
flag_read E (Some t) (Some true) none some = sym ((bytes_eq-Decides (codes "true") t).1 (sym (some t refl)))
flag_read E (Some t) (Some false) none some = sym (ap (bytes_eq (codes "true")) (some t refl))
flag_read E (Some t) None none some = go (bytes_eq (codes "true") t) refl
  where
    go : (same : Bool) → bytes_eq (codes "true") t ≡ same → false ≡ bytes_eq (codes "true") t
    go false is = sym is
    go true is = absurd ((some t refl).1.0 (sym ((bytes_eq-Decides (codes "true") t).0 is)))

-- ---- the answer to the words

-- the command line excludes nothing, and no argument has a rule on another
is_plain : (times : ValueParser) → is_simple_and_free (command_line times) ≡ true
is_plain times = refl

is_one_level : (times : ValueParser) → is_simple (command_line times) ≡ true
is_one_level times = refl

-- what the matches give is the answer, where the parse had no fault
answers_matches : (times : ValueParser) (words : List Text) (rows : List Row) (result : Result Settings UsageFault) → TakesTimeChoices times → fault_of (command_line times) words ≡ [] → rows ≡ matches_of (command_line times) words
    → MayGiveSettings rows result → Answers words result
answers_matches times words rows (Ok settings) takes none is gives = (times, takes, (none, subst (λ r. MayGiveSettings r (Ok settings)) is gives))
answers_matches times words rows (Err usage.Mode) takes none is gives = (times, takes, (none, subst (λ r. MayGiveSettings r (Err usage.Mode)) is gives))
answers_matches times words rows (Err usage.TwoInputs) takes none is gives = (times, takes, (none, subst (λ r. MayGiveSettings r (Err usage.TwoInputs)) is gives))
answers_matches times words rows (Err usage.Memory) takes none is gives = tt
answers_matches times words rows (Err (usage.Help text)) takes none is gives = absurd gives
answers_matches times words rows (Err (usage.Words text)) takes none is gives = absurd gives

pub answers_parsed : (app : App) (words : List Text) (matches : ArgMatches) (result : Result Settings UsageFault) → IsCommandLine app → HasMatchesOf app words matches
    → (is_simple_and_free app ≡ true → FailsBy {T = ArgMatches} (fault_of app words) (Ok matches)) → MayGiveSettings (rows_of (found_of matches)) result → Answers words result
answers_parsed app words matches result command has fails gives =
    let times = command.0 in
    let is : app ≡ command_line times = command.2 in
    answers_matches times words (rows_of (found_of matches)) result command.1
    (ap (λ a. fault_of a words) (sym is) ∙ fails (ap is_simple_and_free is ∙ is_plain times))
    ((has (ap is_simple is ∙ is_one_level times)).0 ∙ ap (λ a. matches_of a words) is) gives

-- a parse that failed
pub answers_failed : (app : App) (words : List Text) (error : Error) (fault : UsageFault) → IsCommandLine app
    → (is_simple_and_free app ≡ true → FailsBy {T = ArgMatches} (fault_of app words) (Err error)) → IsFaultOf (kind_of error) fault → Answers words (Err fault)
answers_failed app words error usage.Memory command fails of = tt
answers_failed app words error usage.Mode command fails of = absurd of
answers_failed app words error usage.TwoInputs command fails of = absurd of
answers_failed app words error (usage.Help text) command fails of =
    let times = command.0 in
    let is : app ≡ command_line times = command.2 in
    elim (fails (ap is_simple_and_free is ∙ is_plain times)) [
      | inl memory ↦
          let bad : OutOfMemory ≡ DisplayHelp = sym memory ∙ of in
          cc
      | inr among ↦ (times, command.1, subst (λ a. IsAmong DisplayHelp (fault_of a words)) is (subst (λ k. IsAmong k (fault_of app words)) of among))
    ]
answers_failed app words error (usage.Words text) command fails of =
    let times = command.0 in
    let is : app ≡ command_line times = command.2 in
    elim (fails (ap is_simple_and_free is ∙ is_plain times)) [
      | inl memory ↦ absurd (of.1 memory)
      | inr among ↦ (times, command.1, (kind_of error, subst (λ a. IsAmong (kind_of error) (fault_of a words)) is among, of.0))
    ]

-- each parse that succeeds has an input
pub input_given : (matches : ArgMatches) → is_some (first_value (found_of matches) (codes "input")) ≡ true → is_some (input_of (rows_of (found_of matches))) ≡ true
input_given matches given = ap is_some (sym (first_value-rows (found_of matches) (codes "input"))) ∙ given
