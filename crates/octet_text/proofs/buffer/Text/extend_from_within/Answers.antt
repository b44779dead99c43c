-- What is copied stands in the text, and so in front of the room.
use Rattle.std.proofs.Common.{◌≤◌, ap, length, length-take-le, arith}
use Rattle.std.proofs.lemmas.Grind.{common_steps}
use Rattle.octet_text.proofs.Writing.{range_in_front}
use Rattle.octet_text.proofs.buffer.Text.extend_from_within.Goals as goal

pub returns-clause-appended : goal.returns-clause-appended
returns-clause-appended c =
    let len = c.self.inside.len in
    let within : c.args.end ≤ len = omega (arith, c.requires.1, ap length c.self.view_is, length-take-le len c.self.inside.buffer.items c.self.invariant) in
    let part = range_in_front c.make_room.new.buffer.items c.args.start c.args.end len c.requires.0 within in
    grind (arith, common_steps)
