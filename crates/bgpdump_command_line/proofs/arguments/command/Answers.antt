use Rattle.std.proofs.Common.{◌≡◌, [], ◌∷◌, arith, is_some, rules, subst, true}
use Rattle.std.proofs.lemmas.Result.{IfOk-weaker}
use Rattle.clap.proofs.CallerLemmas.{required_in_chain}
use Rattle.clap.specs.Words.{AddsArg, first_value, found_of}
use Rattle.clap.specs.declared.Command.{Command}
use Rattle.bgpdump_command_line.proofs.ArgumentLaws.{AreAdded, AreArguments, chain_of, command_made, fit_together}
use Rattle.bgpdump_command_line.proofs.arguments.command.Goals as goal

abbrev arguments : (c : goal.After-arg-5) → AreArguments c.line_output_flag.result c.script_argument.result c.times_argument.result c.output_argument.result c.input_argument.result
arguments c = record {
  lines_is = c.line_output_flag.ensures.rule;
  script_is = c.script_argument.ensures.rule;
  times_is = c.times_argument.ensures.rule;
  output_is = c.output_argument.ensures.rule;
  input_is = c.input_argument.ensures.rule;
  lines_alone = c.line_output_flag.ensures.alone;
  script_alone = c.script_argument.ensures.alone;
  times_alone = c.times_argument.ensures.alone;
  output_alone = c.output_argument.ensures.alone;
  input_alone = c.input_argument.ensures.alone;
  input_value = c.input_argument.ensures.value;
}

abbrev added : (c : goal.After-arg-5) (last : Command) → AddsArg c.in_ok-arg-4.field-0 c.input_argument.result last
    → AreAdded c.after_help.result c.in_ok-arg.field-0 c.in_ok-arg-2.field-0 c.in_ok-arg-3.field-0 c.in_ok-arg-4.field-0 last
    c.line_output_flag.result c.script_argument.result c.times_argument.result c.output_argument.result c.input_argument.result
added c last input = record {
  adds_lines = c.in_ok-arg.ensures;
  adds_script = c.in_ok-arg-2.ensures;
  adds_times = c.in_ok-arg-3.ensures;
  adds_output = c.in_ok-arg-4.ensures;
  adds_input = input;
}

pub returns-clause-app : goal.returns-clause-app
returns-clause-app c = IfOk-weaker c.arg-5.result _ _ (λ last input.
    command_made c.after_help.result c.in_ok-arg.field-0 c.in_ok-arg-2.field-0 c.in_ok-arg-3.field-0 c.in_ok-arg-4.field-0 last
    c.line_output_flag.result c.script_argument.result c.times_argument.result c.output_argument.result c.input_argument.result
    (search rules) (arguments c) (added c last input)) c.arg-5.ensures

pub returns-clause-input : goal.returns-clause-input
returns-clause-input c = IfOk-weaker c.arg-5.result _ _ (λ last input matches parsed.
    let together = fit_together c.line_output_flag.result c.script_argument.result c.times_argument.result c.output_argument.result c.input_argument.result (arguments c) in
    let chain = chain_of c.after_help.result c.in_ok-arg.field-0 c.in_ok-arg-2.field-0 c.in_ok-arg-3.field-0 c.in_ok-arg-4.field-0 last
    c.line_output_flag.result c.script_argument.result c.times_argument.result c.output_argument.result c.input_argument.result (added c last input) in
    subst (λ id. is_some (first_value (found_of matches) id) ≡ true) together.named
    (required_in_chain c.after_help.result last (c.line_output_flag.result ∷ c.script_argument.result ∷ c.times_argument.result ∷ c.output_argument.result ∷ c.input_argument.result ∷ []) 4 c.input_argument.result matches chain (search rules) (search rules) (search rules) (search rules)
    together.fit together.distinct (omega arith) c.input_argument.ensures.value parsed)) c.arg-5.ensures
