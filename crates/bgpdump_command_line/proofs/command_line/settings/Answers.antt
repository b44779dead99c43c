use Rattle.std.proofs.Common.{map, string_bytes, subst}
use Rattle.std.specs.Prelude.{Err}
use Rattle.clap.specs.Words.{app_of}
use Rattle.bgpdump_command_line.specs.CommandLine.{Answers}
use Rattle.bgpdump_command_line.proofs.CommandLineLaws.{answers_failed, answers_parsed, input_given}
use Rattle.bgpdump_command_line.proofs.command_line.settings.Goals as goal

pub settings_of-requires : goal.settings_of-requires
settings_of-requires c = record { input = input_given c.in-Ok.matches (c.in_ok-command.ensures.input c.in-Ok.matches c.in-Ok.ensures.parsed) }

pub returns-in-Ok : goal.returns-in-Ok
returns-in-Ok c = record {
  answers = subst (λ words. Answers (map string_bytes words) c.settings_of.result) c.as_slice.ensures.value
      (answers_parsed (app_of c.in_ok-command.field-0) (map string_bytes c.as_slice.result.now) c.in-Ok.matches c.settings_of.result
      c.in_ok-command.ensures.app c.in-Ok.ensures.matches c.in-Ok.ensures.kinds c.settings_of.ensures.gives);
}

pub returns : goal.returns
returns c = record {
  answers = subst (λ words. Answers (map string_bytes words) (Err c.fault_of_parse_error.result)) c.as_slice.ensures.value
      (answers_failed (app_of c.in_ok-command.field-0) (map string_bytes c.as_slice.result.now) c.in-Err.error c.fault_of_parse_error.result
      c.in_ok-command.ensures.app c.in-Err.ensures.kinds c.fault_of_parse_error.ensures);
}
