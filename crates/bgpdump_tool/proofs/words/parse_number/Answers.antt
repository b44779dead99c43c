use Rattle.std.proofs.Common.{arith, sym, subst}
use Rattle.std.specs.Str.Parse.{ParsesUnsigned}
use Rattle.bgp_wire.specs.Readers.{ParsesTo}
use Rattle.bgpdump_tool.specs.Script.{SpellsDecimal}
use Rattle.bgpdump_tool.proofs.WordLaws.{BeginsPlainly, marked_no_decimal, no_text_no_decimal, parsed_decimal}
use Rattle.bgpdump_tool.proofs.words.parse_number.Goals as goal
use Rattle.bgpdump_tool.proofs.words.parse_number.Goals.{else-word-gt1-via-then-word-gt1+else-word-lt-LEAST_LEADING_DIGIT, else-word-gt1-via-else-word-gt1}

pub returns-then-word-lt-LEAST_LEADING_DIGIT : goal.returns-then-word-lt-LEAST_LEADING_DIGIT
returns-then-word-lt-LEAST_LEADING_DIGIT c = marked_no_decimal c.args.word.now (λ plainly. omega (arith, plainly c.if-word-gt1.true, c.if-word-lt-LEAST_LEADING_DIGIT.true))

pub returns-in_default : goal.returns-in_default
returns-in_default c = no_text_no_decimal c.args.word.now c.in_default.ensures.cases.0

pub returns : goal.returns
returns c =
    let word = c.args.word.now in
    let plainly : BeginsPlainly word = λ long. elim c.else-word-gt1.branch [
      | else-word-gt1-via-then-word-gt1+else-word-lt-LEAST_LEADING_DIGIT w ↦ omega (arith, w.if-word-lt-LEAST_LEADING_DIGIT.false)
      | else-word-gt1-via-else-word-gt1 w ↦ absurd (omega (arith, long, w.if-word-gt1.false))
    ] in
    let parsed = subst (λ t. ParsesUnsigned 32 10 t c.parse.result) c.in-Ok.ensures.cases.0 c.parse.ensures.value.0 in
    subst (λ r. ParsesTo SpellsDecimal word r) (sym c.ok.ensures.value) (parsed_decimal word c.parse.result plainly parsed)
