use Rattle.std.proofs.Common.{◌≡◌, ◌++◌, take, flat_map}
use Rattle.octet_text.specs.declared.cursor.TheConstants.{SPACE}
use Rattle.ip_prefix.specs.Written.{ended_words}
use Rattle.bgp_paths.specs.Text.{segment_words}
use Rattle.bgp_paths.proofs.text.put_segments.Given as goal

-- the words of the segments so far stand behind the text
abbrev pub invariant-loop-segment : goal.invariant-loop-segment
invariant-loop-segment l = l.text ≡ l.fn.text ++ ended_words SPACE (flat_map segment_words (take l.segment-index l.segments))
