-- The words and numbers so far were appended.
use Rattle.std.proofs.Common.{◌≡◌, ◌++◌, map, drop}
use Rattle.bgpdump_tool.specs.Replies.{labelled_numbers_text}
use Rattle.bgpdump_tool.proofs.replies.write_labelled_numbers.Given as goal

abbrev pub invariant-numbers : goal.invariant-numbers
invariant-numbers g l = l.text ++ labelled_numbers_text (map (λ part. (part.0.now, part.1)) (drop l.word-index l.numbers)) l.ending ≡ labelled_numbers_text (map (λ part. (part.0.now, part.1)) l.numbers) l.ending
