use Rattle.std.proofs.Common.{◌+◌, ◌*◌, ◌≤◌, map, take}
use Rattle.octet_text.specs.declared.cursor.TheConstants.{WORD_ROOM}
use Rattle.octet_text.specs.Written.{IsWritten, ended_words}
use Rattle.octet_text.proofs.buffer.Text.put_ended_words.Given as goal

-- the words so far are written, within their room
abbrev pub invariant-loop-number : goal.invariant-loop-number
invariant-loop-number g l = record {
  written : IsWritten l.initial.text l.initial.place (ended_words l.end (map g.W.WordFormat.word (take l.number-index l.numbers))) l.text l.place;
  within : l.place ≤ l.initial.place + l.number-index * WORD_ROOM;
}
